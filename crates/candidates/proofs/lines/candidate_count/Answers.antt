-- `candidates::lines::candidate_count` meets its contract: the count of ones of the list's set.
use Rattle.answer.proofs.Kit.{sym, ap, ◌∙◌, ones}
use Rattle.intervals.proofs.Counted.{class_count_lem}
use Rattle.candidates.specs.private.Classes.{set_of}
use Rattle.candidates.proofs.Heard.{set_less, set_of_firsts}
use Rattle.candidates.proofs.lines.candidate_count.Goals as goal

pub returns : goal.returns
returns c = ap ones (c.set.ensures ∙ ap set_of c.of.ensures ∙ sym (set_of_firsts c.args.keys.now)) ∙ class_count_lem _ (set_less _)

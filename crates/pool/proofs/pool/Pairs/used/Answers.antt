-- `pool::pool::Pairs::used` meets its contract: by which range is the shorter.
use Rattle.answer.proofs.Kit.{sym, ◌∙◌}
use Rattle.pool.proofs.Gathered.{used_tones}
use Rattle.pool.proofs.pool.Pairs.used.Goals as goal

pub returns : goal.returns
returns c = c.min.ensures ∙ sym (used_tones _ _)

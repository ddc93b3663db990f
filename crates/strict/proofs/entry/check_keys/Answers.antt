-- `strict::entry::check_keys` meets its contract: the first place that is found is refused.
use Rattle.answer.proofs.Kit.{sym, ap, ◌∙◌}
use Rattle.strict.proofs.FirstPlace.{told_at, checked_at}
use Rattle.strict.proofs.entry.check_keys.Goals as goal

pub returns-in-None : goal.returns-in-None
returns-in-None c = ap told_at (sym c.in-None.is ∙ c.first_no_key.ensures) ∙ sym (checked_at c.args.codes.now)

pub returns-in-Some : goal.returns-in-Some
returns-in-Some c = ap told_at (sym c.in-Some.is ∙ c.first_no_key.ensures) ∙ sym (checked_at c.args.codes.now)

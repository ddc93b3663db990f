-- `descriptors::showing::shown` meets its contract: by the test on its number.
use Rattle.answer.proofs.Kit.{◌≡◌, sym, ap, ◌∙◌, Ok, Err, rules}
use Rattle.intervals.proofs.Rooted.{rooted_ok, rooted_err}
use Rattle.descriptors.proofs.Replied.{shown_not_rooted, shown_rooted}
use Rattle.descriptors.proofs.showing.shown.Goals as goal

pub returns-in_err-new : goal.returns-in_err-new
returns-in_err-new c =
    let e : c.from_residual.result ≡ Err (c.in_err-new.field-0.0) = search rules in
    let no = rooted_err c.args.set _ (sym c.new.ensures ∙ c.in_err-new.was) in
    e ∙ ap Err no.1 ∙ shown_not_rooted c.args.set no.0

pub returns : goal.returns
returns c =
    let is = rooted_ok c.args.set _ (sym c.new.ensures ∙ c.in_ok-new.was) in
    ap Ok (rw is.1 at c.shown_quality.ensures) ∙ shown_rooted c.args.set is.0

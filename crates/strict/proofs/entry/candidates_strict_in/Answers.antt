-- `strict::entry::candidates_strict_in` meets its contract: by what the check says.
use Rattle.answer.proofs.Kit.{◌≡◌, sym, subst, Ok, Err}
use Rattle.std.proofs.lemmas.Result.{err_from_is_err_and}
use Rattle.answer.specs.Replies.{Reply, Answered}
use Rattle.answer.proofs.Rooms.{refused_by}
use Rattle.strict.specs.Strict.{keys_checked}
use Rattle.strict.proofs.FirstAbove.{replied}
use Rattle.strict.proofs.entry.candidates_strict_in.Goals as goal

pub returns-in_err-check_keys : goal.returns-in_err-check_keys
returns-in_err-check_keys c =
    let checked : keys_checked c.args.codes.now ≡ Err c.in_err-check_keys.field-0.0 = (let was = c.in_err-check_keys.was in cc) in
    let told = err_from_is_err_and c.from_residual.result c.from_residual.ensures.1 in
    rw (told.1, told.2) (refused_by _ _ _ (replied _ _ _ checked))

pub returns : goal.returns
returns c =
    let checked : keys_checked c.args.codes.now ≡ Ok c.in_ok-check_keys.field-0 = (let was = c.in_ok-check_keys.was in cc) in
    subst (λ (x : Reply). Answered x c.args.out.now c.candidates_in.result c.candidates_in.new.out) (sym (replied _ _ _ checked)) c.candidates_in.ensures

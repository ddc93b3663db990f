-- What a call that writes tells its host of what the library answered.
--     output_fits    the count of bytes written is at most the room, so that 64 bits hold it
--     told           the answer's number, and the room as the library left it
use Rattle.answer.specs.declared.refusal.Refusal.{Refusal}
use Rattle.answer.proofs.Kit.{◌≡◌, refl, sym, ap, subst, ◌∙◌, Bool, true, false, cond, List, ℕ, ◌^◌, ◌<◌, arith, leb→le, length, ℤ, Result, Ok, Err}
use Rattle.answer.specs.Replies.{Reply, refuse, text, fits, output_of, Answered}
use Rattle.answer.specs.declared.refusal.Refusal.TheVariants.{NoRoom}
use Rattle.std.specs.Prelude.{IfOk}
use Rattle.answer.proofs.Tests.{said}
use Rattle.hemotusap.specs.Host.{output_number, HostAnswered}

-- an answer's count of bytes is one that a host's 64 bits hold
abbrev pub Fits : Result ℕ Refusal → Type 0
Fits output = IfOk output (λ count. count < 2 ^ 63)

module _ (reply : Reply) (room : List ℕ) {left : List ℕ} {output : Result ℕ Refusal} (made : Answered reply room output left) where
  pub output_fits : length room < 2 ^ 63 → Fits output
  unfolding output_of
  output_fits h = subst Fits (sym made.0) (by_case reply)
    where
      by_room : (t : List ℕ) (b : Bool) → fits t room ≡ b → Fits (cond b (Ok (length t)) (Err NoRoom))
      by_room t true q = let within = leb→le (length t) (length room) (said _ q) in omega arith
      by_room t false q = tt

      by_case : (reply : Reply) → Fits (output_of reply room)
      by_case (refuse why) = tt
      by_case (text t) = by_room t (fits t room) refl

  pub told : {r : ℤ} → r ≡ output_number output → HostAnswered reply room r left
  told is = (is ∙ ap output_number made.0, made.1)

-- The check in the words of the library's `position`.
--     told_at, checked_at     what the check says is that a place is refused, or none: the first of a code that is no key
use Rattle.answer.specs.declared.refusal.Refusal.{Refusal}
use Rattle.answer.proofs.Kit.{◌≡◌, refl, sym, ap, ◌∙◌, Bool, true, false, cond, List, [], ◌∷◌, ℕ, ◌+◌, Option, Some, None, Result, Ok, Err, ⊤}
use Rattle.std.specs.List.{position, position_from}
use Rattle.std.proofs.lemmas.Iterator.Adapters.{position_from-zero}
use Rattle.answer.proofs.FirstRefused.{refused_from, here, onward, from_0, at_end}
use Rattle.answer.specs.declared.refusal.Refusal.TheVariants.{NotAKey}
use Rattle.strict.specs.Strict.{is_no_key, not_akey, keys_checked}

abbrev pub told_at : Option ℕ → Result ⊤ Refusal
told_at None = Ok tt
told_at (Some place) = Err (NotAKey place)

from_place : (i : ℕ) (codes : List ℕ) → refused_from is_no_key not_akey i codes ≡ told_at (position_from is_no_key i codes)
from_place i [] = at_end is_no_key not_akey i
from_place i (code ∷ more) = by_case (is_no_key code) refl (from_place (i + 1) more)
  where
    by_case : (b : Bool) → is_no_key code ≡ b → refused_from is_no_key not_akey (i + 1) more ≡ told_at (position_from is_no_key (i + 1) more)
        → refused_from is_no_key not_akey i (code ∷ more) ≡ told_at (cond b (Some i) (position_from is_no_key (i + 1) more))
    by_case true e later = here is_no_key not_akey i code more e
    by_case false e later = onward is_no_key not_akey i code more e ∙ later

pub checked_at : (codes : List ℕ) → keys_checked codes ≡ told_at (position is_no_key codes)
unfolding keys_checked
checked_at codes = sym (from_0 is_no_key not_akey codes) ∙ from_place 0 codes ∙ ap told_at (sym (position_from-zero is_no_key codes))

-- Two texts that the code compares are the same.
--     compared       what the comparison of two slices answers
use lib.Pointwise.{pointwise}
use Rattle.answer.proofs.Kit.{◌≡◌, refl, ap, Bool, ◌&&◌, List, [], ◌∷◌, ℕ, eqb}
use Rattle.answer.specs.Words.{same}

pub compared : (a b : List ℕ) → pointwise eqb a b ≡ same a b
unfolding same
compared [] [] = refl
compared [] (y ∷ b) = refl
compared (x ∷ a) [] = refl
compared (x ∷ a) (y ∷ b) = ap (λ (t : Bool). eqb x y && t) (compared a b)

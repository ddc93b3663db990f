-- Two forms of one thing agree at each number: one test that is computed, and these laws.
--     agree                 two numbers, at each number below a bound
--     same_bool, same_all   two Bools, and two lists of texts, are the same
use Rattle.answer.proofs.Kit.{◌≡◌, refl, ap₂, Bool, true, false, not, ◌&&◌, List, [], ◌∷◌, ℕ, ◌<◌, T, eqb, eqb→eq}
use Rattle.answer.specs.Words.{same}
use Rattle.answer.proofs.Tests.{left, right, all, at, same→eq}

pub agree : (f g : ℕ → ℕ) (n : ℕ) → T (all (λ s. eqb (f s) (g s)) n) → (s : ℕ) → s < n → f s ≡ g s
agree f g n t s h = eqb→eq (f s) (g s) (at (λ s. eqb (f s) (g s)) n t s h)

abbrev pub same_bool : Bool → Bool → Bool
same_bool true b = b
same_bool false b = not b

pub same_bool→eq : (a b : Bool) → T (same_bool a b) → a ≡ b
same_bool→eq true true t = refl
same_bool→eq true false t = absurd t
same_bool→eq false true t = absurd t
same_bool→eq false false t = refl

unfoldable pub same_all : List (List ℕ) → List (List ℕ) → Bool
same_all [] [] = true
same_all [] (y ∷ ys) = false
same_all (x ∷ xs) [] = false
same_all (x ∷ xs) (y ∷ ys) = same x y && same_all xs ys

pub same_all→eq : (xs ys : List (List ℕ)) → T (same_all xs ys) → xs ≡ ys
unfolding same_all
same_all→eq [] [] t = refl
same_all→eq [] (y ∷ ys) t = absurd t
same_all→eq (x ∷ xs) [] t = absurd t
same_all→eq (x ∷ xs) (y ∷ ys) t = ap₂ ◌∷◌ (same→eq x y (left (same x y) (same_all xs ys) t)) (same_all→eq xs ys (right (same x y) (same_all xs ys) t))

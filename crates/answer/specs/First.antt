-- The first of a list that a test finds, and its refusal: paper 02, Q-1 ("The earliest bad pair counts") and Q-6 ("say the place of the first").
use Rattle.std.specs.Prelude.{Bool, cond, List, [], ◌∷◌, ℕ, suc, Result, Ok, Err, ⊤, Option, None, Some}
use Rattle.answer.specs.declared.refusal.Refusal.{Refusal}

-- one place on, behind an element that the test did not find
abbrev pub further : {A : Type 0} → Option (ℕ × A) → Option (ℕ × A)
further None = None
further (Some found) = Some (suc found.0, found.1)

-- its place, from 0, and the element that stands there; none where the test finds none
unfoldable pub first_where : {A : Type 0} → (A → Bool) → List A → Option (ℕ × A)
first_where test [] = None
first_where test (x ∷ more) = cond (test x) (Some (0, x)) (further (first_where test more))

-- what was found is refused, for what stands there and at which place
abbrev pub unless_found : {A : Type 0} → (ℕ → A → Refusal) → Option (ℕ × A) → Result ⊤ Refusal
unless_found why None = Ok tt
unless_found why (Some found) = Err (why found.0 found.1)

-- the first that the test finds is refused
unfoldable pub first_refused : {A : Type 0} → (A → Bool) → (ℕ → A → Refusal) → List A → Result ⊤ Refusal
first_refused test why l = unless_found why (first_where test l)

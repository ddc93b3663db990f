-- The refusal of the first of a list that a test finds.
--     refused_says    what is so where the test finds none, and of the refusal of the first that it finds, is so of the check
--     first_refused_lem  the first is the one that is refused
--     none_refused    and the list passes where the test finds none
--     refused_from    what a search refuses that begins at a place, in the elements from there on
--     here, onward    it ends at one that the test finds, and goes on behind another
--     from_0, at_end  begun at 0 it is the check, and behind the last it lets pass
use Rattle.answer.proofs.Kit.{◌≡◌, refl, ap, Bool, List, [], ◌∷◌, ℕ, suc, ◌+◌, add-zero, zero-add, arith, Ok, Err, Result, ⊤, Option, None, Some}
use Rattle.answer.specs.First.{further, first_where, unless_found, first_refused}
use Rattle.answer.specs.declared.refusal.Refusal.{Refusal}
use Rattle.answer.proofs.First.{IsFirst, Passes, Fails, Finds, first_is, first_found, none_found}

module _ {A : Type 0} (test : A → Bool) (why : ℕ → A → Refusal) where
  pub refused_says : (Says : Result ⊤ Refusal → Type 0) (l : List A) → (Finds test l None → Says (Ok tt))
      → ((place : ℕ) (x : A) → IsFirst (Passes test) (Fails test) l place x → Says (Err (why place x))) → Says (first_refused test why l)
  unfolding first_refused
  refused_says Says l nothing first = by_case (first_where test l) (first_is test l)
    where
      by_case : (o : Option (ℕ × A)) → Finds test l o → Says (unless_found why o)
      by_case None h = nothing h
      by_case (Some found) h = first found.0 found.1 h

  pub first_refused_lem : (l : List A) (place : ℕ) (x : A) → IsFirst (Passes test) (Fails test) l place x → first_refused test why l ≡ Err (why place x)
  unfolding first_refused
  first_refused_lem l place x h = ap (unless_found why) (first_found test l place x h)

  pub none_refused : (l : List A) → Finds test l None → first_refused test why l ≡ Ok tt
  unfolding first_refused
  none_refused l h = ap (unless_found why) (none_found test l h)

  abbrev pub refused_from : ℕ → List A → Result ⊤ Refusal
  refused_from i l = unless_found (λ place x. why (i + place) x) (first_where test l)

  pub here : (i : ℕ) (x : A) (l : List A) → Passes test x → refused_from i (x ∷ l) ≡ Err (why i x)
  unfolding first_where
  here i x l e = rw (e, add-zero)

  pub onward : (i : ℕ) (x : A) (l : List A) → Fails test x → refused_from i (x ∷ l) ≡ refused_from (i + 1) l
  unfolding first_where
  onward i x l e = rw e (by_case (first_where test l))
    where
      by_case : (o : Option (ℕ × A)) → unless_found (λ place x. why (i + place) x) (further o) ≡ unless_found (λ place x. why (i + 1 + place) x) o
      by_case None = refl
      by_case (Some found) = let next : i + suc found.0 ≡ i + 1 + found.0 = omega arith in ap (λ (n : ℕ). Err (why n found.1)) next

  pub from_0 : (l : List A) → refused_from 0 l ≡ first_refused test why l
  unfolding first_refused
  from_0 l = by_case (first_where test l)
    where
      by_case : (o : Option (ℕ × A)) → unless_found (λ place x. why (0 + place) x) o ≡ unless_found why o
      by_case None = refl
      by_case (Some found) = ap (λ (n : ℕ). Err (why n found.1)) (zero-add found.0)

  pub at_end : (i : ℕ) → refused_from i [] ≡ Ok tt
  unfolding first_where
  at_end i = refl

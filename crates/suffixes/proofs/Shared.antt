-- At most sixteen rooted sets share a suffix. The suffixes of all 2,048 are read once, as numbers, and those are parted round
-- the first of them, as a quicksort parts them: one computed test, and the law that it counts.
--     sixteen        a text has at most so many sets
use Rattle.std.specs.Prelude.{filter}
use Rattle.answer.proofs.Kit.{◌≡◌, refl, sym, ap, ◌∙◌, Bool, true, false, cond, ◌&&◌, List, [], ◌∷◌, ℕ, zero, suc, ◌+◌, ◌≤◌, arith, T, eqb, ltb, ltb→lt, length, eq-eqb, ne_eqb, eqb-true, eqb-false, lt-ltb, ltb-false}
use Rattle.answer.specs.Words.{same, low}
use Rattle.answer.proofs.Tests.{left, right, said, same→eq}
use Rattle.rules.specs.Suffix.{suffix_of}
use Rattle.rules.proofs.Computed.{suffix_computed}
use Rattle.suffixes.specs.Sets.{matching, sets_of, most_shared}

-- how often a number stands in a list; not the library's `count_by`, whose steps are a lemma and no clauses
unfoldable count : ℕ → List ℕ → ℕ
count v [] = 0
count v (x ∷ more) = cond (eqb v x) 1 0 + count v more

abbrev lower : ℕ → List ℕ → List ℕ
lower k l = filter (λ x. ltb x k) l

abbrev higher : ℕ → List ℕ → List ℕ
higher k l = filter (λ x. ltb k x) l

-- no number stands in a list more often than `most_shared` says, told by at most n partings in a row
unfoldable none_more : ℕ → List ℕ → Bool
none_more zero [] = true
none_more zero (x ∷ more) = false
none_more (suc n) [] = true
none_more (suc n) (x ∷ more) = ltb (count x more) most_shared && none_more n (lower x more) && none_more n (higher x more)

-- the suffixes of n rooted sets from s on, as numbers
unfoldable suffixes : ℕ → ℕ → List ℕ
suffixes zero s = []
suffixes (suc n) s = low (suffix_of s) ∷ suffixes n (s + 2)

no_suffix_more : T (none_more 40 (suffixes 2048 1))
unfolding suffix_computed count none_more suffixes low
no_suffix_more = tt

-- a number that passes the test stands among those as often
count_kept : (p : ℕ → Bool) (v : ℕ) → p v ≡ true → (l : List ℕ) → count v l ≤ count v (filter p l)
unfolding count
count_kept p v is [] = omega arith
count_kept p v is (x ∷ more) = by_case (p x) refl (count_kept p v is more)
  where
    by_case : (b : Bool) → p x ≡ b → count v more ≤ count v (filter p more) → cond (eqb v x) 1 0 + count v more ≤ count v (cond b (x ∷ filter p more) (filter p more))
    by_case true e rest = omega arith
    by_case false e rest = rw (ne_eqb v x (λ same. absurd (said false (sym e ∙ ap p (sym same) ∙ is)))) (omega arith)

none_more_lem : (n : ℕ) (l : List ℕ) → T (none_more n l) → (v : ℕ) → count v l ≤ most_shared
unfolding count none_more
none_more_lem zero [] t v = omega arith
none_more_lem zero (x ∷ more) t v = absurd t
none_more_lem (suc n) [] t v = omega arith
none_more_lem (suc n) (x ∷ more) t v = by_case (eqb v x) refl (ltb v x) refl (none_more_lem n (lower x more) below v) (none_more_lem n (higher x more) above v)
  where
    here : T (ltb (count x more) most_shared && none_more n (lower x more))
    here = left (ltb (count x more) most_shared && none_more n (lower x more)) (none_more n (higher x more)) t

    below : T (none_more n (lower x more))
    below = right (ltb (count x more) most_shared) (none_more n (lower x more)) here

    above : T (none_more n (higher x more))
    above = right (ltb (count x more) most_shared && none_more n (lower x more)) (none_more n (higher x more)) t

    by_case : (b : Bool) → eqb v x ≡ b → (c : Bool) → ltb v x ≡ c → count v (lower x more) ≤ most_shared → count v (higher x more) ≤ most_shared
        → cond b 1 0 + count v more ≤ most_shared
    by_case true e c f lo hi = rw (eqb-true v x e) (omega (arith, ltb→lt (count x more) most_shared (left (ltb (count x more) most_shared) (none_more n (lower x more)) here)))
    by_case false e true f lo hi = omega (arith, count_kept (λ y. ltb y x) v f more)
    by_case false e false f lo hi = omega (arith, count_kept (λ y. ltb x y) v (lt-ltb x v (omega (arith, ltb-false v x f, eqb-false v x e))) more)

-- the sets of a text are no more than the suffixes that are its number
found_counted : (t : List ℕ) (n s : ℕ) → length (matching t n s) ≤ count (low t) (suffixes n s)
unfolding matching count suffixes
found_counted t zero s = omega arith
found_counted t (suc n) s = by_case (same t (suffix_of s)) refl (found_counted t n (s + 2))
  where
    by_case : (b : Bool) → same t (suffix_of s) ≡ b → length (matching t n (s + 2)) ≤ count (low t) (suffixes n (s + 2))
        → length (cond b (s ∷ matching t n (s + 2)) (matching t n (s + 2))) ≤ cond (eqb (low t) (low (suffix_of s))) 1 0 + count (low t) (suffixes n (s + 2))
    by_case true e rest = rw (eq-eqb (low t) (low (suffix_of s)) (ap low (same→eq t (suffix_of s) (said _ e)))) (omega arith)
    by_case false e rest = omega arith

pub sixteen : (t : List ℕ) → length (sets_of t) ≤ most_shared
unfolding sets_of
sixteen t = omega (arith, found_counted t 2048 1, none_more_lem 40 (suffixes 2048 1) no_suffix_more (low t))

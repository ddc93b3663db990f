-- The intervals outside a kind, by bits: those of the set of all that are outside it which a set has.
--     outside_bits     they are read off the bitwise and
--     outside_small    which is a set of intervals
use Rattle.answer.proofs.Kit.{◌≡◌, refl, sym, ap, ◌∙◌, Bool, true, false, cond, not, ◌&&◌, ◌||◌, and-false, List, [], ◌∷◌, map, ℕ, ◌^◌, ◌<◌, bit_and, and_lt, T, eqb, eqb-true, Option, Some, None}
use Rattle.answer.proofs.Tests.{is_true, all}
use Rattle.intervals.specs.Sets.{has, is_in, is_rooted}
use Rattle.intervals.specs.Intervals.{intervals, nth, numbered, number_of, set_of, class_of}
use Rattle.intervals.specs.declared.interval.Interval.{Interval}
use Rattle.intervals.proofs.Masked.{and_has}
use Rattle.intervals.proofs.Members.{bits_has}
use Rattle.intervals.proofs.Rows.{at_interval, numbered_back, set_small}
use Rattle.rules.specs.Classes.{keep, intervals_in, intervals_of}
use Rattle.rules.proofs.Counted.{set_reads}
use Rattle.harmonies.specs.Kinds.{Kind, tones, outside}

-- two intervals of one number are the same
or_else : Interval → Option Interval → Interval
or_else other (Some i) = i
or_else other None = other

one_number : (i j : Interval) → number_of i ≡ number_of j → i ≡ j
unfolding or_else
one_number i j e = ap (or_else i) (sym (numbered_back i) ∙ ap numbered e ∙ numbered_back j)

-- an interval is among those kept where it is among all and passes the test
among_kept : (p : Interval → Bool) (l : List Interval) (i : Interval) → is_in (number_of i) (map number_of (keep p l)) ≡ is_in (number_of i) (map number_of l) && p i
unfolding is_in keep
among_kept p [] i = refl
among_kept p (j ∷ more) i = by_test (among_kept p more i) (p j) refl (eqb (number_of i) (number_of j)) refl
  where
    by_test : is_in (number_of i) (map number_of (keep p more)) ≡ is_in (number_of i) (map number_of more) && p i
        → (b : Bool) → p j ≡ b → (e : Bool) → eqb (number_of i) (number_of j) ≡ e
        → is_in (number_of i) (map number_of (cond b (j ∷ keep p more) (keep p more))) ≡ (e || is_in (number_of i) (map number_of more)) && p i
    by_test rest true t true e = rw e (sym (ap p (one_number i j (eqb-true _ _ e)) ∙ t))
    by_test rest true t false e = rw e rest
    by_test rest false t true e =
        let fails : p i ≡ false = ap p (one_number i j (eqb-true _ _ e)) ∙ t in
        rest ∙ rw fails (and-false (is_in (number_of i) (map number_of more)))
    by_test rest false t false e = rest

-- the set of those of all intervals that pass a test has an interval where it passes
is_there_lem : (i : Interval) → T (is_in (number_of i) (map number_of intervals))
unfolding all is_in intervals nth numbered
is_there_lem = at_interval (λ i. is_in (number_of i) (map number_of intervals)) tt

kept_has : (p : Interval → Bool) (i : Interval) → has (set_of (keep p intervals)) (number_of i) ≡ p i
unfolding set_of
kept_has p i = bits_has (map number_of (keep p intervals)) (number_of i) ∙ among_kept p intervals i ∙ ap (λ (b : Bool). b && p i) (is_true (is_in (number_of i) (map number_of intervals)) (is_there_lem i))

-- kept by one test and then by another
keep_both : (p g h : Interval → Bool) → ((i : Interval) → h i ≡ p i && g i) → (l : List Interval) → keep p (keep g l) ≡ keep h l
unfolding keep
keep_both p g h both [] = refl
keep_both p g h both (i ∷ more) = rw (both i) (by_tests (keep_both p g h both more) (g i) (p i) refl)
  where
    by_tests : keep p (keep g more) ≡ keep h more → (b c : Bool) → p i ≡ c → keep p (cond b (i ∷ keep g more) (keep g more)) ≡ cond (c && b) (i ∷ keep h more) (keep h more)
    by_tests rest true true e = rw e (ap (λ (l : List Interval). i ∷ l) rest)
    by_tests rest true false e = rw e rest
    by_tests rest false true e = rest
    by_tests rest false false e = rest

-- the intervals whose class is no tone of a kind
abbrev is_outside : Kind → Interval → Bool
is_outside k i = not (is_in (class_of i) (map class_of (tones k)))

module _ (k : Kind) (s : ℕ) (is : is_rooted s ≡ true) where
  abbrev found : ℕ
  found = bit_and (set_of (outside k intervals)) (set_of (intervals_of s))

  pub outside_bits : intervals_in found ≡ outside k (intervals_of s)
  unfolding outside intervals_in
  outside_bits =
      sym
      (ap (keep (is_outside k)) (sym (set_reads s is))
      ∙ keep_both (is_outside k) (λ i. has (set_of (intervals_of s)) (number_of i)) (λ i. has found (number_of i))
      (λ i. and_has (set_of (outside k intervals)) (set_of (intervals_of s)) (number_of i) ∙ ap (λ (b : Bool). b && has (set_of (intervals_of s)) (number_of i)) (kept_has (is_outside k) i))
      intervals)

  pub outside_small : found < 2 ^ 23
  outside_small = and_lt 23 _ _ (set_small (outside k intervals)) (set_small (intervals_of s))

-- Laws of the table of intervals.
--     past          a number past the last interval names none
--     at_interval   a test that passes at each interval passes at one
--     numbered_back, numbered_none, number_small, set_small     an interval's number names it, is below 23, and so a set of intervals below 2 ^ 23
use Rattle.answer.proofs.Kit.{◌≡◌, refl, sym, ap, subst, ◌∙◌, Bool, true, false, true≢false, List, [], ◌∷◌, map, ℕ, zero, suc, ◌^◌, ◌≤◌, ◌<◌, dec_le, le_of_suc-le-suc, not-suc-le-zero, arith, T, lit<, length, Option, Some, None}
use Rattle.answer.specs.Words.{packed}
use Rattle.answer.proofs.Arms.{Nones, nones}
use Rattle.answer.proofs.Tests.{all, at}
use Rattle.intervals.specs.Intervals.{intervals, nth, numbered, number_of, set_of, semitones_of, degree_of, to_degree_of, notation_of}
use Rattle.intervals.specs.Sets.{bits}
use Rattle.intervals.specs.private.Rows.{Tells}
use Rattle.intervals.specs.declared.interval.Interval.{Interval}
use Rattle.intervals.specs.declared.interval.Interval.TheVariants.{Unison, MinorSecond, MajorSecond, MinorThird, MajorThird, PerfectFourth, AugmentedFourth, DiminishedFifth, PerfectFifth, AugmentedFifth, MinorSixth, MajorSixth, DiminishedSeventh, MinorSeventh, MajorSeventh, Octave, FlatNinth, Ninth, SharpNinth, Eleventh, SharpEleventh, FlatThirteenth, Thirteenth}
use Rattle.intervals.proofs.Members.{with_less}

nth_past : (l : List Interval) (n : ℕ) → length l ≤ n → nth l n ≡ None
unfolding nth
nth_past [] n h = refl
nth_past (i ∷ more) zero h = absurd (not-suc-le-zero h)
nth_past (i ∷ more) (suc n) h = nth_past more n (le_of_suc-le-suc h)

pub past : (n : ℕ) → Nones n 23 → numbered n ≡ None
unfolding numbered intervals
past n none = let no_less : ¬ (n < 23) = nones n 23 none in nth_past intervals n (omega arith)

pub numbered_back : (i : Interval) → numbered (number_of i) ≡ Some i
unfolding intervals nth numbered
numbered_back Unison = refl
numbered_back MinorSecond = refl
numbered_back MajorSecond = refl
numbered_back MinorThird = refl
numbered_back MajorThird = refl
numbered_back PerfectFourth = refl
numbered_back AugmentedFourth = refl
numbered_back DiminishedFifth = refl
numbered_back PerfectFifth = refl
numbered_back AugmentedFifth = refl
numbered_back MinorSixth = refl
numbered_back MajorSixth = refl
numbered_back DiminishedSeventh = refl
numbered_back MinorSeventh = refl
numbered_back MajorSeventh = refl
numbered_back Octave = refl
numbered_back FlatNinth = refl
numbered_back Ninth = refl
numbered_back SharpNinth = refl
numbered_back Eleventh = refl
numbered_back SharpEleventh = refl
numbered_back FlatThirteenth = refl
numbered_back Thirteenth = refl

pub numbered_none : numbered 23 ≡ None
unfolding intervals nth numbered
numbered_none = refl

abbrev is_some : Option Interval → Bool
is_some (Some i) = true
is_some None = false

pub number_small : (i : Interval) → number_of i < 23
unfolding numbered intervals
number_small i = by_order (dec_le 23 (number_of i))
  where
    by_order : Dec (23 ≤ number_of i) → number_of i < 23
    by_order (yes h) = absurd (true≢false (ap is_some (sym (numbered_back i) ∙ nth_past intervals (number_of i) h)))
    by_order (no h) = omega arith

-- a test of one interval, of what a number names
abbrev pub of_numbered : (Interval → Bool) → Option Interval → Bool
of_numbered f (Some i) = f i
of_numbered f None = true

pub at_interval : (f : Interval → Bool) → T (all (λ n. of_numbered f (numbered n)) 23) → (i : Interval) → T (f i)
at_interval f t i = subst (λ (m : Option Interval). T (of_numbered f m)) (numbered_back i) (at (λ n. of_numbered f (numbered n)) 23 t (number_of i) (number_small i))

pub set_small : (found : List Interval) → set_of found < 2 ^ 23
unfolding set_of
set_small [] = lit< tt
set_small (i ∷ more) = with_less (number_of i) (bits (map number_of more)) 23 (set_small more) (number_small i)

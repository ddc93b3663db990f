-- A suffix and 004's two tables of degrees, which differ at b5 alone.
--     b5_counted       "b5 counts as Fourth there" (paper 01): the degrees of 7(b5)
--     either_table     all that a suffix asks of degrees is whether a stack reaches one; by `to_degree`, which spells the tones, it would be answered
--                      alike, since no stack has a fourth or a fifth
use Rattle.answer.proofs.Kit.{◌≡◌, refl, sym, ap, ap₂, ◌∙◌, Bool, true, false, not, ◌&&◌, ◌||◌, List, [], ◌∷◌, ◌++◌, map, ℕ, ◌<◌, ◌≤◌, arith, T, eqb, leb, ltb, leb→le, ltb→lt, eqb-true, ne_eqb, lt-leb}
use Rattle.answer.proofs.Tests.{left, right, all}
use Rattle.intervals.specs.Sets.{is_in}
use Rattle.intervals.specs.Intervals.{intervals, nth, numbered, degree_of, to_degree_of, numeric_of}
use Rattle.intervals.specs.declared.interval.Interval.{Interval}
use Rattle.intervals.specs.declared.interval.IntDegree.{IntDegree}
use Rattle.intervals.specs.declared.interval.IntDegree.TheVariants.{Fourth, Seventh}
use Rattle.intervals.proofs.Rows.{at_interval}
use Rattle.qualities.specs.Masks.{mask_of}
use Rattle.qualities.specs.declared.quality.ChordQuality.{ChordQuality}
use Rattle.qualities.specs.declared.quality.ChordQuality.TheVariants.{Maj, Maj6, Maj7, Dominant7, Mi, Mi6, Mi7, MiMaj7, Augmented, Diminished, Diminished7, Power, Bass}
use Rattle.rules.specs.Classes.{intervals_of}
use Rattle.rules.specs.Stack.{own_seventh, degrees_of, is_degree, reaches}
use Rattle.rules.proofs.Computed.{named_computed}

pub b5_counted : degrees_of Dominant7 (intervals_of 1105) ≡ Fourth ∷ Seventh ∷ []
unfolding named_computed
b5_counted = refl

-- the two degrees of an interval are the same, or both come before the sevenths
alike : ℕ → ℕ → Bool
alike a b = eqb a b || ltb a 7 && ltb b 7

degrees_alike : (i : Interval) → T (alike (numeric_of (to_degree_of i)) (numeric_of (degree_of i)))
unfolding alike all intervals nth numbered
degrees_alike = at_interval (λ i. alike (numeric_of (to_degree_of i)) (numeric_of (degree_of i))) tt

-- so that no test tells them apart that fails at all that comes before the sevenths
untold : (test : ℕ → Bool) → ((k : ℕ) → k < 7 → test k ≡ false) → (a b : ℕ) → T (alike a b) → test a ≡ test b
unfolding alike
untold test low a b t = by_same (eqb a b) refl t
  where
    by_same : (same : Bool) → eqb a b ≡ same → T (same || ltb a 7 && ltb b 7) → test a ≡ test b
    by_same true e h = ap test (eqb-true a b e)
    by_same false e h = low a (ltb→lt a 7 (left (ltb a 7) (ltb b 7) h)) ∙ sym (low b (ltb→lt b 7 (right (ltb a 7) (ltb b 7) h)))

module _ (n : ℕ) (high : 7 ≤ n) (i : Interval) where
  same_degree : eqb n (numeric_of (to_degree_of i)) ≡ eqb n (numeric_of (degree_of i))
  same_degree = untold (eqb n) (λ k h. ne_eqb n k (λ e. let bottom : ⊥ = omega (arith, e, h, high) in bottom)) _ _ (degrees_alike i)

  same_top : leb n (numeric_of (to_degree_of i)) ≡ leb n (numeric_of (degree_of i))
  same_top = untold (leb n) (λ k h. lt-leb n k (omega (arith, h, high))) _ _ (degrees_alike i)

same_among : (d : IntDegree) → 7 ≤ numeric_of d → (own : List IntDegree) (found : List Interval) → is_degree d (map to_degree_of found ++ own) ≡ is_degree d (map degree_of found ++ own)
unfolding is_degree is_in
same_among d high own [] = refl
same_among d high own (i ∷ more) = ap₂ ◌||◌ (same_degree (numeric_of d) high i) (same_among d high own more)

-- a stack begins at the sevenths
is_high : List IntDegree → Bool
is_high [] = true
is_high (d ∷ more) = leb 7 (numeric_of d) && is_high more

stacks_high : (q : ChordQuality) → T (is_high (mask_of q).stack)
unfolding is_high
stacks_high Maj = tt
stacks_high Maj6 = tt
stacks_high Maj7 = tt
stacks_high Dominant7 = tt
stacks_high Mi = tt
stacks_high Mi6 = tt
stacks_high Mi7 = tt
stacks_high MiMaj7 = tt
stacks_high Augmented = tt
stacks_high Diminished = tt
stacks_high Diminished7 = tt
stacks_high Power = tt
stacks_high Bass = tt

same_reach : (stack own : List IntDegree) (found : List Interval) (e : Interval) → T (is_high stack)
    → reaches (map to_degree_of found ++ own) stack (to_degree_of e) ≡ reaches (map degree_of found ++ own) stack (degree_of e)
unfolding is_high reaches
same_reach [] own found e h = refl
same_reach (d ∷ more) own found e h =
    let high = leb→le 7 (numeric_of d) (left (leb 7 (numeric_of d)) (is_high more) h) in
    ap₂ ◌&&◌ (ap₂ (λ (a b : Bool). a || not b) (same_among d high own found) (same_top (numeric_of d) high e))
    (same_reach more own found e (right (leb 7 (numeric_of d)) (is_high more) h))

pub either_table : (q : ChordQuality) (found : List Interval) (e : Interval)
    → reaches (map to_degree_of found ++ own_seventh q) (mask_of q).stack (to_degree_of e) ≡ reaches (map degree_of found ++ own_seventh q) (mask_of q).stack (degree_of e)
either_table q found e = same_reach (mask_of q).stack (own_seventh q) found e (stacks_high q)

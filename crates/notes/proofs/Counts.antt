-- Counts of accidentals as integers, and their heights.
--     lowered          the count of a height
--     to_pos           a height, read as a signed number, is itself
--     lowered_fits     and its count fits a signed number
--     nonzero_count    the accidental of a count that is not 0
--     lowered_count    and of a height that is not 6
--     no_height        what is no count has no height
--     below, above     what is less than -6 or more than 6 is none
--     counted          what is neither is a count
--     plus_six         the height of a count is the count plus six
--     height_less      and is below 13
--     lowered_height   from a count to its height and back
use Rattle.answer.proofs.Kit.{◌≡◌, refl, sym, ap, subst, ◌∙◌, Bool, true, false, not, ◌||◌, ℕ, ◌^◌, ◌<◌, ◌≤◌, suc, arith, T, eqb, leb, ltb, ltb→lt, leb→le, T_not, ℤ, pos, negsuc, neg_ℤ, ◌+ℤ◌, ◌-ℤ◌, +ℤ-neg_ℤ_cancel, mag, lt_z, lt-ltb, le-ltb, ne_eqb, Some}
use mir.Syntax.{w32}
use mir.Val.{SFits, to_z}
use Rattle.answer.proofs.Between.{not_below, not_above, inside}
use Rattle.answer.proofs.Tests.{left, is_true, is_false, said, all, at}
use Rattle.notes.specs.Notes.{is_count, accidental_of}
use Rattle.notes.specs.private.Heights.{height_of}

abbrev pub lowered : ℕ → ℤ
lowered h = pos h -ℤ pos 6

pub to_pos : (h : ℕ) → h < 13 → to_z w32 h ≡ pos h
to_pos h less = let small : h < 2 ^ 31 = omega arith in simp (lt-ltb _ _ small)

fits : ℕ → Bool
fits h = ltb (mag (lowered h)) (2 ^ 31)

pub lowered_fits : (h : ℕ) → h < 13 → SFits w32 (lowered h)
unfolding all fits
lowered_fits h less = record { sfits = ltb→lt _ _ (at fits 13 tt h less) }

unfoldable pub not_zero : ℤ → Bool
not_zero (pos n) = not (eqb n 0)
not_zero (negsuc n) = true

pub nonzero_count : (z : ℤ) → T (not_zero z) → Some z ≡ accidental_of z
unfolding not_zero
nonzero_count (pos n) t = rw (is_false (eqb n 0) (T_not (eqb n 0) t))
nonzero_count (negsuc n) t = refl

-- the heights of counts other than 0
counts : ℕ → Bool
counts h = eqb h 6 || not_zero (lowered h)

pub lowered_count : (h : ℕ) → h < 13 → (h ≡ 6 → ⊥) → Some (lowered h) ≡ accidental_of (lowered h)
unfolding all counts not_zero
lowered_count h less other =
    nonzero_count (lowered h) (subst (λ (t : Bool). T (t || not_zero (lowered h))) (ne_eqb h 6 other) (at counts 13 tt h less))

pub no_height : (z : ℤ) → is_count z ≡ false → height_of z ≡ 13
unfolding height_of
no_height z e = rw e

pub below : (z : ℤ) → lt_z z (neg_ℤ (pos 6)) ≡ true → height_of z ≡ 13
below z e = no_height z (not_below (neg_ℤ (pos 6)) (pos 6) z e)

pub above : (z : ℤ) → lt_z (pos 6) z ≡ true → height_of z ≡ 13
above z e = no_height z (not_above (neg_ℤ (pos 6)) (pos 6) z e)

pub counted : (z : ℤ) → lt_z z (neg_ℤ (pos 6)) ≡ false → lt_z (pos 6) z ≡ false → T (is_count z)
counted z low high = said _ (inside (neg_ℤ (pos 6)) (pos 6) z low high)

pub plus_six : (z : ℤ) → T (is_count z) → z +ℤ pos 6 ≡ pos (height_of z)
unfolding height_of
plus_six (pos n) t = rw (is_true (is_count (pos n)) t)
plus_six (negsuc n) t =
    let most : n ≤ 5 = leb→le n 5 (left (leb n 5) true t) in
    let no_less : suc n ≤ 6 = omega arith in
    rw (is_true (is_count (negsuc n)) t, le-ltb 6 (suc n) no_less)

pub height_less : (z : ℤ) → T (is_count z) → height_of z < 13
unfolding height_of
height_less (pos n) t =
    let most : n ≤ 6 = leb→le n 6 t in
    rw (is_true (is_count (pos n)) t) (omega arith)
height_less (negsuc n) t =
    let most : n ≤ 5 = leb→le n 5 (left (leb n 5) true t) in
    let no_less : suc n ≤ 6 = omega arith in
    rw (is_true (is_count (negsuc n)) t, le-ltb 6 (suc n) no_less) (omega arith)

pub lowered_height : (z : ℤ) → T (is_count z) → lowered (height_of z) ≡ z
lowered_height z t = ap (λ (x : ℤ). x -ℤ pos 6) (sym (plus_six z t)) ∙ +ℤ-neg_ℤ_cancel z (pos 6)

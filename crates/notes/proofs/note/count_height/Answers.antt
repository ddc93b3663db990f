-- `notes::note::count_height` meets its contract. A signed number is held as bits, and what is read back is the number, since it fits.
use Rattle.answer.proofs.Kit.{◌≡◌, ap, sym, ◌∙◌, false, arith, T, ℤ, pos, neg_ℤ, nat_abs, ◌+ℤ◌, lt_z, non_neg}
use mir.Syntax.{w32}
use mir.Val.{Fits, SFits, to_z, of_z}
use mir.Facts.{to_z-of_z}
use Rattle.notes.specs.Notes.{is_count}
use Rattle.notes.specs.private.Heights.{height_of}
use Rattle.notes.proofs.Counts.{below, above, counted, plus_six, height_less}
use Rattle.notes.proofs.note.count_height.Goals as goal

-- the number as it is read back
abbrev held : ℤ → ℤ
held z = to_z w32 (of_z w32 z)

module _ (z : ℤ) (f : SFits w32 z) where
  held_same : held z ≡ z
  held_same = to_z-of_z f

  module _ (low : lt_z (held z) (neg_ℤ (pos 6)) ≡ false) (high : lt_z (pos 6) (held z) ≡ false) where
    is_count_lem : T (is_count z)
    is_count_lem = counted z (rw held_same at low) (rw held_same at high)

    sum : held z +ℤ pos 6 ≡ pos (height_of z)
    sum = ap (λ (x : ℤ). x +ℤ pos 6) held_same ∙ plus_six z is_count_lem

    sum_fits : SFits w32 (held z +ℤ pos 6)
    sum_fits = rw sum (record { sfits = omega (arith, height_less z is_count_lem) })

    result : held (held z +ℤ pos 6) ≡ pos (height_of z)
    result = to_z-of_z sum_fits ∙ sum

    cast : T (non_neg (held (held z +ℤ pos 6))) × Fits w32 (nat_abs (held (held z +ℤ pos 6)))
    cast = rw result (tt, record { fits = omega (arith, height_less z is_count_lem) })

pub returns-then-count-ltminus6 : goal.returns-then-count-ltminus6
returns-then-count-ltminus6 c = sym (below _ (rw (held_same _ c.ranges.count) at c.if-count-ltminus6.true))

pub returns-then-count-gt6 : goal.returns-then-count-gt6
returns-then-count-gt6 c = sym (above _ (rw (held_same _ c.ranges.count) at c.if-count-gt6.true))

pub overflow_add-result : goal.overflow_add-result
overflow_add-result c = sum_fits _ c.ranges.count c.if-count-ltminus6.false c.if-count-gt6.false

pub overflow_cast-result : goal.overflow_cast-result
overflow_cast-result c = cast _ c.ranges.count c.if-count-ltminus6.false c.if-count-gt6.false

pub returns : goal.returns
returns c = ap nat_abs (result _ c.ranges.count c.if-count-ltminus6.false c.if-count-gt6.false)

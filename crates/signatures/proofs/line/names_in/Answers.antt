-- `signatures::line::names_in` meets its contract: by the code's tests, one after the other.
use Rattle.answer.proofs.Kit.{◌≡◌, sym, ap, ◌∙◌, Bool, true, false, cond, ℤ, pos, neg_ℤ, lt_z, Some, None}
use mir.Syntax.{w32}
use mir.Val.{SFits, to_z, of_z}
use mir.Facts.{to_z-of_z}
use Rattle.answer.proofs.Between.{not_below, not_above, inside}
use Rattle.names.specs.declared.table.Names.TheVariants.{Flats, Sharps}
use Rattle.signatures.specs.Signature.{is_signature, names_for, names_in}
use Rattle.signatures.proofs.line.names_in.Goals as goal
use Rattle.signatures.proofs.line.names_in.Goals.{then-fifths-lt-MOST_FLATS-via-then-fifths-lt-MOST_FLATS, then-fifths-lt-MOST_FLATS-via-else-fifths-lt-MOST_FLATS+then-fifths-gt-MOST_SHARPS}

-- a signed number is held as bits, and what is read back is the number, since it fits
abbrev held : ℤ → ℤ
held z = to_z w32 (of_z w32 z)

module _ (z : ℤ) (f : SFits w32 z) where
  by_range : (b : Bool) → is_signature z ≡ b → cond b (Some (names_for z)) None ≡ names_in z
  unfolding names_in
  by_range b e = ap (λ (x : Bool). cond x (Some (names_for z)) None) (sym e)

  too_low : lt_z (held z) (neg_ℤ (pos 7)) ≡ true → None ≡ names_in z
  too_low low = by_range false (not_below (neg_ℤ (pos 7)) (pos 7) z (rw (to_z-of_z f) at low))

  too_high : lt_z (pos 7) (held z) ≡ true → None ≡ names_in z
  too_high high = by_range false (not_above (neg_ℤ (pos 7)) (pos 7) z (rw (to_z-of_z f) at high))

  in_key : lt_z (held z) (neg_ℤ (pos 7)) ≡ false → lt_z (pos 7) (held z) ≡ false → (b : Bool) → lt_z (pos 0) (held z) ≡ b → Some (cond b Sharps Flats) ≡ names_in z
  in_key low high b is =
      ap (λ (x : Bool). Some (cond x Sharps Flats)) (sym (rw (to_z-of_z f) at is))
      ∙ by_range true (inside (neg_ℤ (pos 7)) (pos 7) z (rw (to_z-of_z f) at low) (rw (to_z-of_z f) at high))

pub returns-then-fifths-lt-MOST_FLATS : goal.returns-then-fifths-lt-MOST_FLATS
returns-then-fifths-lt-MOST_FLATS c = elim c.then-fifths-lt-MOST_FLATS.branch [
  | then-fifths-lt-MOST_FLATS-via-then-fifths-lt-MOST_FLATS w ↦ too_low _ c.ranges.fifths w.if-fifths-lt-MOST_FLATS.true
  | then-fifths-lt-MOST_FLATS-via-else-fifths-lt-MOST_FLATS+then-fifths-gt-MOST_SHARPS w ↦ too_high _ c.ranges.fifths w.if-fifths-gt-MOST_SHARPS.true
]

pub returns-then-fifths-gt0 : goal.returns-then-fifths-gt0
returns-then-fifths-gt0 c = in_key _ c.ranges.fifths c.if-fifths-lt-MOST_FLATS.false c.if-fifths-gt-MOST_SHARPS.false true c.if-fifths-gt0.true

pub returns : goal.returns
returns c = in_key _ c.ranges.fifths c.if-fifths-lt-MOST_FLATS.false c.if-fifths-gt-MOST_SHARPS.false false c.if-fifths-gt0.false

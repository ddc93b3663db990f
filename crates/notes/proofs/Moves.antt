-- Laws of notes and their moves.
--     letter_less, is_count_lem, height_is     what a note's letter and count are known to be
--     in_height     a number is a count where its height is below 13
--     sounds        the semitone of a note, by its height
--     reaches       the accidental between a pitch and a letter, by its height
use Rattle.answer.proofs.Kit.{◌≡◌, refl, sym, ap, ◌∙◌, Bool, true, false, cond, ◌&&◌, ℕ, suc, ◌+◌, ◌-◌, ◌%◌, ◌<◌, ◌≤◌, dec_lt, arith, T, leb, ltb, eqb, leb→le, eqb→eq, ℤ, pos, negsuc, ◌+ℤ◌, ◌-ℤ◌, lt-ltb, le-ltb}
use Rattle.answer.proofs.Tests.{left, right, is_true, said, all, at}
use Rattle.notes.specs.Notes.{is_count, count_of, is_note, natural, mod12, semitone, nearest}
use Rattle.notes.specs.private.Heights.{height_of}
use Rattle.notes.specs.declared.note.Note.{Note}
use Rattle.notes.proofs.Counts.{lowered, no_height, height_less, lowered_height}

module _ (n : Note) (note : is_note n ≡ true) where
  pub letter_less : n.letter < 7
  letter_less = let l = leb→le n.letter 6 (left (leb n.letter 6) _ (said _ note)) in omega arith

  pub is_count_lem : T (is_count (count_of n.accidental))
  is_count_lem = right (leb n.letter 6) _ (said _ note)

  pub height_is : height_of (count_of n.accidental) < 13
  height_is = height_less _ is_count_lem

pub in_height : (z : ℤ) → ltb (height_of z) 13 ≡ is_count z
in_height z = by_case (is_count z) refl
  where
    by_case : (b : Bool) → is_count z ≡ b → ltb (height_of z) 13 ≡ b
    by_case true e = lt-ltb _ _ (height_less z (said _ e))
    by_case false e = rw (no_height z e)

-- the natural semitone of a letter, and a count, by the count's sign
sounds_count : (natural : ℕ) (z : ℤ) → T (is_count z) → (natural + height_of z + 6) % 12 ≡ mod12 (pos natural +ℤ z)
unfolding height_of
sounds_count n (pos k) t = rw (is_true (is_count (pos k)) t) (omega arith)
sounds_count n (negsuc k) t =
    let most : k ≤ 5 = leb→le k 5 (left (leb k 5) true t) in
    let no_less : suc k ≤ 6 = omega arith in
    rw (is_true (is_count (negsuc k)) t, le-ltb 6 (suc k) no_less) (by_order most (dec_lt n (suc k)))
  where
    by_order : k ≤ 5 → Dec (n < suc k) → (n + (6 - suc k) + 6) % 12 ≡ mod12 (pos n +ℤ negsuc k)
    by_order most (yes less) = rw (lt-ltb n (suc k) less) (omega arith)
    by_order most (no more) = let over : suc k ≤ n = omega arith in rw (le-ltb n (suc k) over) (omega arith)

pub sounds : (n : Note) → is_note n ≡ true → (natural n.letter + height_of (count_of n.accidental) + 6) % 12 ≡ semitone n
unfolding semitone
sounds n note = sounds_count (natural n.letter) (count_of n.accidental) (is_count_lem n note)

-- the height of the difference of a pitch and a natural semitone, an octave up
abbrev pub height_for : ℕ → ℕ
height_for above = cond (ltb 18 above) (above - 18) (cond (ltb above 6) (above + 6) (above - 6))

difference : ℕ → ℕ → ℤ
difference p n = nearest (pos p -ℤ pos n)

reached : ℕ → ℕ → Bool
reached p n = is_count (difference p n) && eqb (height_of (difference p n)) (height_for (p + 12 - n))

all_reached : T (all (λ p. all (reached p) 12) 12)
unfolding all reached difference height_of
all_reached = tt

pub reaches : (p n : ℕ) → p < 12 → n < 12 → nearest (pos p -ℤ pos n) ≡ lowered (height_for (p + 12 - n))
unfolding reached difference
reaches p n hp hn =
    let t = at (reached p) 12 (at (λ q. all (reached q) 12) 12 all_reached p hp) n hn in
    let e : height_of (difference p n) ≡ height_for (p + 12 - n) = eqb→eq _ _ (right (is_count (difference p n)) _ t) in
    sym (lowered_height (difference p n) (left (is_count (difference p n)) _ t))
    ∙ ap lowered e

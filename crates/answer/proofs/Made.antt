-- A text in the making: what a word that is put behind it adds.
--     with_word_lem  the word's text, of eight bytes at the most, where these have room
use Rattle.answer.proofs.Kit.{◌≡◌, refl, sym, ap, ◌∙◌, List, ◌++◌, inl, inr, ℕ, ◌+◌, ◌≤◌, min, min-eq_left, min-eq_right, arith, le-leb, length, take, drop, length-append, length-take-le, take_at, take_all}
use Rattle.std.proofs.lemmas.Bool.{cases_lt}
use Rattle.answer.specs.Words.{long, digits, text_of, place_after, put_at}
use Rattle.answer.specs.Made.{with_word}
use Rattle.answer.proofs.Texts.{put_word}

module _ (n : ℕ) (l : List ℕ) (at word : ℕ) (whole : length l ≡ n) (room : at + 8 ≤ n) where
  before : length (take at l) ≡ at
  before = length-take-le at l (omega (arith, whole))

  roomy : at + 8 ≤ length l
  roomy = omega arith

  -- where the word says more than its eight bytes, all of them
  all_eight : 8 ≤ long word → take (at + 8) (put_at l at word) ≡ take at l ++ text_of word
  unfolding put_at text_of digits
  all_eight h =
      rw (le-leb _ _ roomy)
      (take_at (take at l ++ digits 8 word) (drop (at + 8) l) (at + 8) (simp length-append (omega (arith, before)))
      ∙ ap (λ (x : List ℕ). take at l ++ x) (sym (take_all (long word) (digits 8 word) h)))

  behind : take (at + min (long word) 8) (put_at l at word) ≡ take at l ++ text_of word
  unfolding place_after
  behind = elim (cases_lt 8 (long word)) [
    | inl more ↦ rw (min-eq_right (let up : 8 ≤ long word = omega (arith, more) in up)) (all_eight (omega (arith, more)))
    | inr few ↦ rw (min-eq_left few) (put_word word few l at (at + long word) (put_at l at word) roomy (rw (le-leb _ _ roomy) refl, refl)).added
  ]

  pub with_word_lem : take (at + min (long word) 8) (put_at l at word) ≡ with_word n (take at l) word
  with_word_lem = rw (before, le-leb _ _ room) behind

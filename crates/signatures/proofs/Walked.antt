-- The lines of a text, passed one by one.
--     found_behind    the line of a number, in a text that begins at a byte of another
--     here, next      the first LF ends the first line, and the lines behind it are those of the rest
--     within          it stands in the text
--     nowhere         a text without one has no line
use Rattle.answer.proofs.Kit.{◌≡◌, refl, ap, ap₂, cond, List, [], ◌∷◌, flat_map, ℕ, suc, ◌+◌, ◌<◌, add-zero, arith, length, take, drop, length-append, length-take, Option, Some, None}
use Rattle.answer.specs.Lines.{line_feed, begun_with, lines_of, numbered_in, line_at, ended, line_start}
use Rattle.signatures.specs.Part.{found_at}
use Rattle.std.specs.Prelude.{position, ◌==◌, nat_lt}
use Rattle.std.specs.List.{position_or_len}

abbrev pub found_behind : ℕ → List ℕ → ℕ → Option (ℕ × ℕ)
found_behind start text n = found_at (start + line_start text n) (line_at text n)

-- where the first LF stands, or behind the last byte
abbrev first : List ℕ → ℕ
first text = position_or_len (λ b. b == line_feed) text

first_line : (text : List ℕ) → lines_of text ≡ cond (nat_lt (first text) (length text)) (take (first text) text ∷ lines_of (drop (first text + 1) text)) []
unfolding lines_of begun_with
first_line [] = refl
first_line (b ∷ more) =
    let k = first more in
    let one : suc k ≡ 1 + k = omega arith in
    let two : suc (k + 1) ≡ 1 + k + 1 = omega arith in
    let rest = first_line more in
    let longer = ap (begun_with b) rest in
    let taken = ap₂ (λ (x y : ℕ). take x (b ∷ more) ∷ lines_of (drop y (b ∷ more))) one two in
    grind arith

-- a text's lines, by where its first LF stands
abbrev LinesBy : List ℕ → Option ℕ → Type 0
LinesBy text None = lines_of text ≡ []
LinesBy text (Some k) = (k < length text) × (lines_of text ≡ take k text ∷ lines_of (drop (k + 1) text))

lines_by : (text : List ℕ) (at : Option ℕ) → position (λ b. b == line_feed) text ≡ at → LinesBy text at
lines_by text None e = let lines = first_line text in grind arith
lines_by text (Some k) e = let lines = first_line text in grind arith

module _ (start : ℕ) (text : List ℕ) where
  pub nowhere : (n : ℕ) → position (λ b. b == line_feed) text ≡ None → found_behind start text n ≡ None
  unfolding line_at numbered_in
  nowhere n e = ap (λ (lines : List (List ℕ)). found_at (start + line_start text n) (numbered_in lines n)) (lines_by text None e)

  module _ (k : ℕ) (e : position (λ b. b == line_feed) text ≡ Some k) where
    abbrev by : LinesBy text (Some k)
    by = lines_by text (Some k) e

    pub within : k < length text
    within = by.0

    its_length : length (take k text) ≡ k
    its_length = omega (arith, length-take k text, within)

    pub here : found_behind start text 0 ≡ Some (start, k)
    unfolding line_at line_start numbered_in flat_map
    here = rw by.1 (ap₂ (λ (x y : ℕ). Some (x, y)) (add-zero start) its_length)

    pub next : (n : ℕ) → found_behind (start + (k + 1)) (drop (k + 1) text) n ≡ found_behind start text (suc n)
    unfolding line_at line_start numbered_in flat_map
    next n =
        let passed : start + (k + 1) + line_start (drop (k + 1) text) n ≡ start + length (flat_map ended (take k text ∷ take n (lines_of (drop (k + 1) text)))) =
        simp length-append (omega (arith, its_length)) in
        rw by.1 (ap (λ (x : ℕ). found_at x (numbered_in (lines_of (drop (k + 1) text)) n)) passed)

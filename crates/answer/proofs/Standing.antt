-- Where the lines of a text stand.
--     line_bytes     from where a line of a number begins, so many bytes are the line
--     line_within    and it ends before the text does: at its LF
use Rattle.answer.proofs.Kit.{◌≡◌, refl, sym, ap, ◌∙◌, Bool, true, true≢false, false, cond, List, [], ◌∷◌, ◌++◌, append_assoc, flat_map, ℕ, zero, suc, ◌+◌, ◌<◌, arith, eqb, eqb-true, length, length-append, take, drop, drop_at, take_at, Some}
use Rattle.answer.specs.Lines.{line_feed, begun_with, lines_of, numbered_in, line_at, ended, line_start}

-- the first line of a text begins it, and the others are those of the rest
record Begins (text line : List ℕ) (lines : List (List ℕ)) : Type 0 where
  rest : List ℕ
  is : text ≡ ended line ++ rest
  others : lines_of rest ≡ lines

no_line_lem : {A : Type 0} {x : List ℕ} {l : List (List ℕ)} → [] ≡ x ∷ l → A
no_line_lem e = absurd (true≢false cc)

begins : (text line : List ℕ) (lines : List (List ℕ)) → lines_of text ≡ line ∷ lines → Begins text line lines
unfolding lines_of begun_with
begins [] line lines e = no_line_lem e
begins (b ∷ more) line lines e = by_feed (eqb b line_feed) refl e (begins more)
  where
    longer : (ls : List (List ℕ)) → begun_with b ls ≡ line ∷ lines → ((l : List ℕ) (others : List (List ℕ)) → ls ≡ l ∷ others → Begins more l others) → Begins (b ∷ more) line lines
    longer [] e next = no_line_lem e
    longer (l ∷ ls) e next =
        let first : b ∷ l ≡ line = cc in
        let same : ls ≡ lines = cc in
        let m = next l ls refl in
        record { rest = m.rest; is = ap (λ (t : List ℕ). b ∷ t) m.is ∙ ap (λ (t : List ℕ). ended t ++ m.rest) first; others = m.others ∙ same }

    by_feed : (is : Bool) → eqb b line_feed ≡ is → cond is ([] ∷ lines_of more) (begun_with b (lines_of more)) ≡ line ∷ lines
        → ((l : List ℕ) (others : List (List ℕ)) → lines_of more ≡ l ∷ others → Begins more l others) → Begins (b ∷ more) line lines
    by_feed true is e next =
        let first : [] ≡ line = cc in
        let same : lines_of more ≡ lines = cc in
        record { rest = more; is = ap (λ (x : ℕ). x ∷ more) (eqb-true b line_feed is) ∙ ap (λ (t : List ℕ). ended t ++ more) first; others = same }
    by_feed false is e next = longer (lines_of more) e next

-- a text's bytes before a line, the line with its LF, and what is behind
record Stands (text before line : List ℕ) : Type 0 where
  behind : List ℕ
  is : text ≡ before ++ (ended line ++ behind)

stands : (n : ℕ) (text line : List ℕ) (lines : List (List ℕ)) → lines_of text ≡ lines → numbered_in lines n ≡ Some line → Stands text (flat_map ended (take n lines)) line
unfolding numbered_in flat_map
stands n text line [] e found = absurd (true≢false cc)
stands zero text line (l ∷ more) e found =
    let first : l ≡ line = cc in
    let b = begins text l more e in
    record { behind = b.rest; is = b.is ∙ ap (λ (t : List ℕ). ended t ++ b.rest) first }
stands (suc n) text line (l ∷ more) e found =
    let b = begins text l more e in
    let next = stands n b.rest line more b.others found in
    record {
      behind = next.behind;
      is = b.is ∙ ap (λ (t : List ℕ). ended l ++ t) next.is ∙ sym (append_assoc (ended l) (flat_map ended (take n more)) (ended line ++ next.behind));
    }

module _ (text : List ℕ) (n : ℕ) (line : List ℕ) (e : line_at text n ≡ Some line) where
  abbrev before : List ℕ
  before = flat_map ended (take n (lines_of text))

  line_stands : Stands text before line
  unfolding line_at
  line_stands = stands n text line (lines_of text) refl e

  pub line_bytes : take (length line) (drop (line_start text n) text) ≡ line
  unfolding line_start
  line_bytes =
      let s = line_stands in
      ap (λ (t : List ℕ). take (length line) (drop (length before) t)) s.is
      ∙ ap (take (length line)) (drop_at before (ended line ++ s.behind) (length before) refl ∙ append_assoc line (line_feed ∷ []) s.behind)
      ∙ take_at line (line_feed ∷ s.behind) (length line) refl

  pub line_within : line_start text n + length line < length text
  unfolding line_start
  line_within =
      let s = line_stands in
      let whole : length text ≡ length before + (length line + 1 + length s.behind) = ap length s.is ∙ simp length-append in
      omega (arith, whole)

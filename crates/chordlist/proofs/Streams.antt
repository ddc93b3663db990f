-- An input prints in pieces what it prints whole.
--     kept_answers    what is kept of a line is answered as the line is
--     line_ends, line_goes_on     a byte that is LF, and one that is not
--     held_append     what is kept after two pieces
--     said_append     what two pieces have printed
--     held_more, said_more, said_all     what is kept and printed of what was read, with a piece more, and with the end
--     in_pieces       pieces of an input, one after the other, and then its end print `input_text` of the whole
use Rattle.answer.proofs.Kit.{◌≡◌, refl, sym, ap, ap₂, ◌∙◌, Bool, true, false, ◌⊎◌, inl, inr, ⊎_elim, List, [], ◌∷◌, ◌++◌, append-nil, append_assoc, flat_map, flatten, ℕ, ◌≤◌, ◌<◌, arith, eqb, leb, length, take, take_all, take-append-le, length-take-le, lt-leb, leb-true, leb-false}
use Rattle.notes.specs.declared.note.Note.{Note}
use Rattle.chordlist.specs.Parts.{parts}
use Rattle.chordlist.specs.Replies.{line_text}
use Rattle.answer.specs.Lines.{line_feed}
use Rattle.chordlist.specs.Input.{lines_of, input_text}
use Rattle.chordlist.specs.private.Pieces.{most_kept, held_with, said_with, held_after, said_by, said_at_end, said_by_all}
use Rattle.chordlist.proofs.Parting.{onto, onto_part, onto_none, onto_byte}

-- of a line, what is kept
abbrev cut : List ℕ → List ℕ
cut line = take most_kept line

is_cut : (line : List ℕ) → (length line ≤ most_kept) ⊎ (most_kept < length line)
is_cut line = go (leb (length line) most_kept) refl
  where
    go : (t : Bool) → leb (length line) most_kept ≡ t → (length line ≤ most_kept) ⊎ (most_kept < length line)
    go true e = inl (leb-true _ _ e)
    go false e = inr (leb-false _ _ e)

cut_long : (line : List ℕ) → most_kept < length line → length (cut line) ≡ most_kept
cut_long line h = length-take-le most_kept line (omega arith)

pub kept_answers : (names : List Note) (line : List ℕ) → line_text names (cut line) ≡ line_text names line
unfolding line_text
kept_answers names line =
    ⊎_elim (λ short. ap (line_text names) (take_all most_kept line short))
    (λ long. rw (lt-leb (length (cut line)) 1024 (omega (arith, cut_long line long)), lt-leb (length line) 1024 (omega arith)))
    (is_cut line)

module _ (names : List Note) (held : List ℕ) (byte : ℕ) where
  pub line_ends : eqb byte line_feed ≡ true → (held_with held byte ≡ []) × (said_with names held byte ≡ line_text names held)
  unfolding held_with said_with
  line_ends e = (rw e, rw e)

  pub line_goes_on : eqb byte line_feed ≡ false → (held_with held byte ≡ cut (held ++ (byte ∷ []))) × (said_with names held byte ≡ [])
  unfolding held_with said_with
  line_goes_on e = (rw e, rw e)

cut_twice : (line : List ℕ) (byte : ℕ) → cut (cut line ++ (byte ∷ [])) ≡ cut (line ++ (byte ∷ []))
cut_twice line byte =
    ⊎_elim (λ short. ap (λ (l : List ℕ). cut (l ++ (byte ∷ []))) (take_all most_kept line short))
    (λ long. take-append-le most_kept (cut line) (byte ∷ []) (omega (arith, cut_long line long)) ∙ take_all most_kept (cut line) (omega (arith, cut_long line long))
    ∙ sym (take-append-le most_kept line (byte ∷ []) (omega arith)))
    (is_cut line)

pub held_append : (held p q : List ℕ) → held_after held (p ++ q) ≡ held_after (held_after held p) q
unfolding held_after
held_append held [] q = refl
held_append held (byte ∷ more) q = held_append (held_with held byte) more q

module _ (names : List Note) where
  pub said_append : (held p q : List ℕ) → said_by names held (p ++ q) ≡ said_by names held p ++ said_by names (held_after held p) q
  unfolding held_after said_by
  said_append held [] q = refl
  said_append held (byte ∷ more) q =
      ap (λ (t : List ℕ). said_with names held byte ++ t) (said_append (held_with held byte) more q) ∙ sym (append_assoc (said_with names held byte) _ _)

  -- an input of one piece, and then its end
  abbrev said_whole : List ℕ → List ℕ → List ℕ
  said_whole held input = said_by names held input ++ said_at_end names (held_after held input)

  -- what is printed for the lines of an input, of whose first some bytes stand before it
  abbrev lines_text : List ℕ → List ℕ → List ℕ
  lines_text line input = flat_map (line_text names) (onto line (parts [] line_feed input))

  last_line : (line : List ℕ) → said_at_end names (cut line) ≡ flat_map (line_text names) (onto line [])
  unfolding said_at_end onto flat_map
  last_line [] = refl
  last_line (byte ∷ more) = kept_answers names (byte ∷ more) ∙ sym (append-nil _) ∙ ap (flat_map (line_text names)) (sym (onto_none byte more))

  -- a byte more of a line, from what is so behind it
  module _ (line : List ℕ) (byte : ℕ) (more : List ℕ) where
    abbrev rest : List (List ℕ)
    rest = parts [] line_feed more

    byte_first : said_whole (cut line) (byte ∷ more) ≡ said_with names (cut line) byte ++ said_whole (held_with (cut line) byte) more
    unfolding said_by held_after
    byte_first = append_assoc (said_with names (cut line) byte) _ _

    ends : said_whole [] more ≡ flat_map (line_text names) rest → eqb byte line_feed ≡ true → said_whole (cut line) (byte ∷ more) ≡ lines_text line (byte ∷ more)
    unfolding parts flat_map
    ends next e =
        let told = line_ends names (cut line) byte e in
        byte_first ∙ ap₂ (λ (s h : List ℕ). s ++ said_whole h more) (told.1 ∙ kept_answers names line ∙ ap (line_text names) (sym (append-nil line))) told.0
        ∙ ap (λ (t : List ℕ). line_text names (line ++ []) ++ t) next ∙ ap (flat_map (line_text names)) (sym (onto_part line [] rest)) ∙ rw e

    goes_on : said_whole (cut (line ++ (byte ∷ []))) more ≡ lines_text (line ++ (byte ∷ [])) more → eqb byte line_feed ≡ false
        → said_whole (cut line) (byte ∷ more) ≡ lines_text line (byte ∷ more)
    unfolding parts
    goes_on longer e =
        let told = line_goes_on names (cut line) byte e in
        byte_first ∙ ap₂ (λ (s h : List ℕ). s ++ said_whole h more) told.1 (told.0 ∙ cut_twice line byte) ∙ longer
        ∙ ap (flat_map (line_text names)) (onto_byte line byte rest) ∙ rw e

  -- in the middle of a line, of which some bytes are taken in
  mid_line : (line input : List ℕ) → said_whole (cut line) input ≡ lines_text line input
  unfolding said_by held_after parts onto
  mid_line line [] = last_line line
  mid_line line (byte ∷ more) = go (mid_line [] more) (mid_line (line ++ (byte ∷ [])) more) (eqb byte line_feed) refl
    where
      go : said_whole [] more ≡ flat_map (line_text names) (parts [] line_feed more) → said_whole (cut (line ++ (byte ∷ []))) more ≡ lines_text (line ++ (byte ∷ [])) more
          → (t : Bool) → eqb byte line_feed ≡ t → said_whole (cut line) (byte ∷ more) ≡ lines_text line (byte ∷ more)
      go next longer true e = ends line byte more next e
      go next longer false e = goes_on line byte more longer e

  from_held : (held : List ℕ) (pieces : List (List ℕ)) → said_by_all names held pieces ≡ said_whole held (flatten pieces)
  unfolding said_by_all said_by held_after flatten
  from_held held [] = refl
  from_held held (piece ∷ more) =
      ap (λ (t : List ℕ). said_by names held piece ++ t) (from_held (held_after held piece) more)
      ∙ sym (append_assoc (said_by names held piece) (said_by names (held_after held piece) (flatten more)) _)
      ∙ ap₂ ◌++◌ (sym (said_append held piece (flatten more))) (ap (said_at_end names) (sym (held_append held piece (flatten more))))

  pub in_pieces : (pieces : List (List ℕ)) → said_by_all names [] pieces ≡ input_text names (flatten pieces)
  unfolding input_text lines_of onto
  in_pieces pieces = from_held [] pieces ∙ mid_line [] (flatten pieces)

-- what was read, of whose last line something is held
module _ (names : List Note) (read held : List ℕ) where
  pub held_more : (piece now : List ℕ) → held ≡ held_after [] read → now ≡ held_after held piece → now ≡ held_after [] (read ++ piece)
  held_more piece now e after = after ∙ ap (λ (t : List ℕ). held_after t piece) e ∙ sym (held_append [] read piece)

  pub said_more : (piece : List ℕ) → held ≡ held_after [] read → said_by names [] read ++ said_by names held piece ≡ said_by names [] (read ++ piece)
  said_more piece e = ap (λ (t : List ℕ). said_by names [] read ++ said_by names t piece) e ∙ sym (said_append names [] read piece)

  pub said_all : held ≡ held_after [] read → said_by names [] read ++ said_at_end names held ≡ input_text names read
  unfolding input_text lines_of onto
  said_all e = ap (λ (t : List ℕ). said_by names [] read ++ said_at_end names t) e ∙ mid_line names [] read

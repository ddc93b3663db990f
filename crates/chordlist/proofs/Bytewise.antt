-- A byte more of a piece: what is kept of the line, and what is printed.
--     piece_more     the bytes so far, with one more
--     one_taken, one_said     what is kept and printed behind it
use Rattle.answer.proofs.Kit.{◌≡◌, sym, ap, ◌∙◌, List, [], ◌∷◌, ◌++◌, append-nil, ℕ, ◌+◌, ◌<◌, add-one, length, take, get_or, take-suc}
use Rattle.notes.specs.declared.note.Note.{Note}
use Rattle.chordlist.specs.private.Pieces.{held_with, said_with, held_after, said_by}
use Rattle.chordlist.proofs.Streams.{held_append, said_append}

module _ (entry piece line : List ℕ) (i : ℕ) (inside : i < length piece) (held : line ≡ held_after entry (take i piece)) where
  piece_more : take (i + 1) piece ≡ take i piece ++ (get_or piece i 0 ∷ [])
  piece_more = rw add-one (take-suc piece i 0 inside)

  pub one_taken : held_with line (get_or piece i 0) ≡ held_after entry (take (i + 1) piece)
  unfolding held_after
  one_taken =
      ap (λ (t : List ℕ). held_with t (get_or piece i 0)) held ∙ sym (held_append entry (take i piece) (get_or piece i 0 ∷ []))
      ∙ ap (held_after entry) (sym piece_more)

  pub one_said : (names : List Note) → said_by names entry (take i piece) ++ said_with names line (get_or piece i 0) ≡ said_by names entry (take (i + 1) piece)
  unfolding said_by
  one_said names =
      ap (λ (t : List ℕ). said_by names entry (take i piece) ++ said_with names t (get_or piece i 0)) held
      ∙ ap (λ (t : List ℕ). said_by names entry (take i piece) ++ t) (sym (append-nil _))
      ∙ sym (said_append names entry (take i piece) (get_or piece i 0 ∷ [])) ∙ ap (said_by names entry) (sym piece_more)

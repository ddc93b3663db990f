-- With the names of another table, each as long as the one in its place, the strict entry answers and refuses alike in every room.
--     strict_answer_same     for any two such tables
--     same_strict_answer     for the names that the code is asked for, and the flat ones
use Rattle.answer.specs.declared.refusal.Refusal.{Refusal}
use Rattle.answer.proofs.Kit.{◌≡◌, refl, sym, ap, ◌∙◌, List, ℕ, length, Result, Ok, Err, ⊤}
use Rattle.answer.specs.Replies.{Reply, text, unless_refused, output_of}
use Rattle.notes.specs.declared.note.Note.{Note}
use Rattle.names.specs.Names.{flats, table_of, name_of}
use Rattle.names.specs.declared.table.Names.{Names}
use Rattle.names.proofs.Named.{as_long}
use Rattle.candidates.specs.Candidates.{candidates_of}
use Rattle.candidates.proofs.AsLong.{answer_same}
use Rattle.strict.specs.Strict.{keys_checked, strict_reply}
use Rattle.strict.proofs.FirstAbove.{replied}

module _ (table other : List Note) (same : (c : ℕ) → length (name_of table c) ≡ length (name_of other c)) where
  pub strict_answer_same : (codes room : List ℕ) → output_of (strict_reply table codes) room ≡ output_of (strict_reply other codes) room
  strict_answer_same codes room =
      ap (λ (r : Reply). output_of r room) (replied codes table _ refl) ∙ by_check (keys_checked codes) ∙ ap (λ (r : Reply). output_of r room) (sym (replied codes other _ refl))
    where
      by_check : (r : Result ⊤ Refusal) → output_of (unless_refused r (text (candidates_of table codes))) room ≡ output_of (unless_refused r (text (candidates_of other codes))) room
      by_check (Err why) = refl
      by_check (Ok tt) = answer_same table other same codes room

pub same_strict_answer : (names : Names) (codes room : List ℕ) → output_of (strict_reply (table_of names) codes) room ≡ output_of (strict_reply flats codes) room
same_strict_answer names codes room = strict_answer_same (table_of names) flats (as_long names) codes room

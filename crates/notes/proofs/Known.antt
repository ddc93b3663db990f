-- What `Known::of` told of what it was given.
--     known_ok       where it gave a note, that is the one given, and it is one
--     known_err      where it refused, it is none, and the refusal is 5
--     known_not      and it is none where no note was given
use Rattle.answer.proofs.Kit.{◌≡◌, refl, Bool, true, false, true≢false, cond, Result, Ok, Err}
use Rattle.answer.specs.declared.refusal.Refusal.{Refusal}
use Rattle.answer.specs.declared.refusal.Refusal.TheVariants.{BadNote}
use Rattle.notes.specs.Notes.{is_note}
use Rattle.notes.specs.private.Known.{known_answer}
use Rattle.notes.specs.declared.note.Note.{Note}

module _ (n : Note) where
  pub known_ok : (k : Note) → known_answer n ≡ Ok k → (is_note n ≡ true) × (k ≡ n)
  unfolding known_answer
  known_ok k e = by_case (is_note n) refl e
    where
      by_case : (b : Bool) → is_note n ≡ b → cond b (Ok n) (Err BadNote) ≡ Ok k → (is_note n ≡ true) × (k ≡ n)
      by_case true h e = (h, cc)
      by_case false h e = absurd (true≢false cc)

  pub known_err : (why : Refusal) → known_answer n ≡ Err why → (is_note n ≡ false) × (why ≡ BadNote)
  unfolding known_answer
  known_err why e = by_case (is_note n) refl e
    where
      by_case : (b : Bool) → is_note n ≡ b → cond b (Ok n) (Err BadNote) ≡ Err why → (is_note n ≡ false) × (why ≡ BadNote)
      by_case true h e = absurd (true≢false cc)
      by_case false h e = (h, cc)

  pub known_not : ((k : Note) → known_answer n ≡ Ok k → ⊥) → is_note n ≡ false
  unfolding known_answer
  known_not never = by_case (is_note n) refl never
    where
      by_case : (b : Bool) → is_note n ≡ b → ((k : Note) → ◌≡◌ {A = Result Note Refusal} (cond b (Ok n) (Err BadNote)) (Ok k) → ⊥) → is_note n ≡ false
      by_case true h never = absurd (never n refl)
      by_case false h never = h

-- The strict entry, in words that ask for no search.
--     either           each list holds keys alone, or a first code above 127
--     replied          what the check says is what the strict entry replies, or else it replies as the old one does
--     strict_same      of keys alone the reply is the old one's
--     strict_same_in   and so are the answer and the bytes that are left, in every room
--     strict_refused   otherwise it is refusal 11, with the place of the first code above 127
--     strict_room      it asks for at most 840 bytes of room
use Rattle.answer.specs.declared.refusal.Refusal.{Refusal}
use Rattle.answer.proofs.Kit.{◌≡◌, ap, true, false, List, Memᴰ, ◌⊎◌, inl, inr, ℕ, ◌≤◌, ◌<◌, T, leb, leb→le, le-leb, lt-leb, leb-false, not-false, not-true, Result, Ok, Err, ⊤}
use Rattle.answer.proofs.Tests.{said}
use Rattle.answer.proofs.First.{IsFirst, first_as}
use Rattle.answer.proofs.FirstRefused.{refused_says, first_refused_lem, none_refused}
use Rattle.answer.specs.Replies.{Reply, refuse, text, unless_refused, AtMost, output_of, room_after}
use Rattle.answer.specs.declared.refusal.Refusal.TheVariants.{NotAKey}
use Rattle.notes.specs.declared.note.Note.{Note}
use Rattle.names.proofs.Named.{are_brief}
use Rattle.candidates.specs.Candidates.{candidates_of}
use Rattle.strict.specs.Strict.{is_no_key, not_akey, keys_checked, strict_reply}
use Rattle.candidates.proofs.Listed.{candidates_length}

abbrev pub IsKey : ℕ → Type 0
IsKey code = code ≤ 127

abbrev pub IsAbove : ℕ → Type 0
IsAbove code = 127 < code

abbrev pub AreKeys : List ℕ → Type 0
AreKeys codes = (code : ℕ) → Memᴰ code codes → IsKey code

-- a code above 127 stands at a place, and before it keys alone
pub record FirstAbove (codes : List ℕ) : Type 0 where
  pub place : ℕ
  pub code : ℕ
  pub first : IsFirst IsAbove IsKey codes place code

is_key : (code : ℕ) → is_no_key code ≡ false → IsKey code
is_key code e = leb→le _ _ (said (leb code 127) (not-false _ e))

not_above : (code : ℕ) → IsKey code → is_no_key code ≡ false
not_above code h = rw (le-leb code 127 h)

module _ (codes : List ℕ) where
  pub either : AreKeys codes ⊎ FirstAbove codes
  either =
      refused_says is_no_key not_akey (λ (r : Result ⊤ Refusal). AreKeys codes ⊎ FirstAbove codes) codes
      (λ h. inl (λ code m. is_key code (h code m)))
      (λ place code h. inr (record { place = place; code = code; first = first_as h (leb-false code 127 (not-true _ h.found)) is_key }))

  module _ (table : List Note) where
    pub replied : (r : Result ⊤ Refusal) → keys_checked codes ≡ r → strict_reply table codes ≡ unless_refused r (text (candidates_of table codes))
    unfolding strict_reply
    replied r e = ap (λ (x : Result ⊤ Refusal). unless_refused x (text (candidates_of table codes))) e

    module _ (h : AreKeys codes) where
      pub strict_same : strict_reply table codes ≡ text (candidates_of table codes)
      unfolding keys_checked
      strict_same = replied (Ok tt) (none_refused is_no_key not_akey codes (λ code m. not_above code (h code m)))

      pub strict_same_in : (room : List ℕ) → (output_of (strict_reply table codes) room ≡ output_of (text (candidates_of table codes)) room)
          × (room_after (strict_reply table codes) room ≡ room_after (text (candidates_of table codes)) room)
      strict_same_in room = (ap (λ (r : Reply). output_of r room) strict_same, ap (λ (r : Reply). room_after r room) strict_same)

    pub strict_refused : (h : FirstAbove codes) → strict_reply table codes ≡ refuse (NotAKey h.place)
    unfolding keys_checked
    strict_refused h =
        let above : is_no_key h.code ≡ true = rw (lt-leb _ _ h.first.found) in
        replied (Err (NotAKey h.place)) (first_refused_lem is_no_key not_akey codes h.place h.code (first_as h.first above not_above))

    pub strict_room : T (are_brief table) → AtMost 840 (strict_reply table codes)
    unfolding strict_reply keys_checked
    strict_room brief =
        refused_says is_no_key not_akey (λ (r : Result ⊤ Refusal). AtMost 840 (unless_refused r (text (candidates_of table codes)))) codes
        (λ h. candidates_length table brief codes) (λ place code h. tt)

-- The strict entry: paper 02, Q-6.
use Rattle.std.specs.Prelude.{Bool, not, List, ℕ, leb, Result, ⊤}
use Rattle.answer.specs.First.{first_refused}
use Rattle.answer.specs.Replies.{Reply, text, unless_refused}
use Rattle.answer.specs.declared.refusal.Refusal.{Refusal}
use Rattle.answer.specs.declared.refusal.Refusal.TheVariants.{NotAKey}
use Rattle.notes.specs.declared.note.Note.{Note}
use Rattle.candidates.specs.Candidates.{candidates_of}

-- MIDI 1.0 numbers the keys 0..127: "a code above 127, which MIDI 1.0 does not allow"
abbrev pub is_key : ℕ → Bool
is_key code = leb code 127

-- a code that is no key
abbrev pub is_no_key : ℕ → Bool
is_no_key code = not (is_key code)

-- its refusal, 11: "say the place"
abbrev pub not_akey : ℕ → ℕ → Refusal
not_akey place code = NotAKey place

-- "turn away any list with a code above 127 .. and say the place of the first"
unfoldable pub keys_checked : List ℕ → Result ⊤ Refusal
keys_checked codes = first_refused is_no_key not_akey codes

-- what the strict entry replies: that refusal, "before 7", or what the old entry replies
unfoldable pub strict_reply : List Note → List ℕ → Reply
strict_reply table codes = unless_refused (keys_checked codes) (text (candidates_of table codes))

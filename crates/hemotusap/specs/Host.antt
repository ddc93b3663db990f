-- What a host gets of a call that writes, and the chord record that it gives: paper 01, "Ported, added, left behind" ("the count of bytes
-- written"; "a lead above 255 means none"), with the numbers of crate `host`.
use Rattle.answer.specs.declared.refusal.Refusal.{Refusal}
use Rattle.std.specs.Prelude.{◌≡◌, cond, List, ℕ, leb, ℤ, pos, Option, Some, None, Result}
use Rattle.answer.specs.Replies.{Reply, output_of, room_after}
use Rattle.host.specs.Numbers.{answer_number, names_number, bass_from}
use Rattle.signatures.specs.declared.line.Part.{Part}
use Rattle.voicings.specs.declared.voicing.Chord.{Chord}

-- "the count of bytes written", or the refusal
abbrev pub output_number : Result ℕ Refusal → ℤ
output_number = answer_number pos

-- a number and a room at exit are what a reply and the room at entry say
abbrev pub HostAnswered : Reply → List ℕ → ℤ → List ℕ → Type 0
HostAnswered reply room r left = (r ≡ output_number (output_of reply room)) × (left ≡ room_after reply room)

-- a part of a listing: which it is, "and .. where it begins and how many bytes it has"
abbrev pub PartTold : Part → ℤ → ℕ → ℕ → Type 0
PartTold part r start length = (r ≡ pos (names_number part.names)) × (start ≡ part.start) × (length ≡ part.length)

-- "a lead above 255 means none"
abbrev pub lead_from : ℕ → Option ℕ
lead_from lead = cond (leb lead 255) (Some lead) None

-- a chord record of the host's numbers
abbrev pub chord_from : ℕ → ℕ → ℕ → ℕ → ℕ → Chord
chord_from root bass lowest highest lead = record { root = root; bass = bass_from bass; lowest = lowest; highest = highest; lead = lead_from lead }

-- A room as large as the header names is enough for every answer of its call: "no such room is refused as NO_ROOM".
--     Enough         what a host gets there is what no room's size is in, and is not that refusal
--     only_no_room   no refusal but 7 has its number, with whatever place
--     enough         so it is where a reply asks for no more bytes
--     CALL-enough    and with each call that has a room
use Rattle.answer.proofs.Kit.{◌≡◌, sym, ap, ◌∙◌, List, ℕ, ◌<◌, ◌≤◌, arith, eq-eqb, length, ℤ, Option, Some, None}
use lib.IntN.{pos-ne-negsuc}
use Rattle.answer.specs.Refusals.{told_of}
use Rattle.answer.specs.Replies.{Reply, refuse, text, AtMost, unhindered}
use Rattle.answer.specs.declared.refusal.Refusal.{Refusal}
use Rattle.answer.specs.declared.refusal.Refusal.TheVariants.{NoRoom}
use Rattle.answer.proofs.Rooms.{roomy}
use Rattle.host.specs.Numbers.{size_of, refusal_number}
use Rattle.host.proofs.Wide.{size_told}
use Rattle.rules.specs.Suffix.{suffix_reply}
use Rattle.rules.proofs.Short.{suffix_room_lem}
use Rattle.listing.specs.Listing.{listing_of}
use Rattle.listing.proofs.Laws.{listing_room_lem}
use Rattle.spelling.specs.Tones.{spelled_by, tones_reply}
use Rattle.spelling.proofs.Room.{tones_room_lem}
use Rattle.candidates.specs.Candidates.{flats, candidates_of}
use Rattle.names.specs.Names.{table_of}
use Rattle.names.specs.declared.table.Names.{Names}
use Rattle.names.proofs.Named.{table_brief}
use Rattle.candidates.proofs.Listed.{candidates_length}
use Rattle.strict.specs.Strict.{strict_reply}
use Rattle.strict.proofs.FirstAbove.{strict_room}
use Rattle.notes.specs.declared.note.Note.{Note}
use Rattle.notes.specs.NoteText.{signs, note_reply}
use Rattle.notes.proofs.Names.{note_text_room_lem}
use Rattle.voicings.specs.declared.voicing.Chord.{Chord}
use Rattle.voicings.specs.Voicing.{voicing_reply}
use Rattle.voicings.proofs.Laws.{voicing_room_lem}
use Rattle.musicxml.specs.Replies.{harmony_reply}
use Rattle.musicxml.proofs.Replied.{harmony_room_lem}
use Rattle.hemotusap.specs.Host.{output_number, HostAnswered}
use Rattle.hemotusap.proofs.Refusals.{in_a_byte}
use Rattle.hemotusap.specs.Rooms.{suffix_room, listing_room, tones_room, candidates_room, note_text_room, voicing_room, harmony_room}

abbrev pub Enough : ℕ → Reply → Type 0
Enough n reply =
    (room left : List ℕ) (given : ℤ) → n ≤ length room → HostAnswered reply room given left
    → (given ≡ output_number (unhindered reply)) × ¬ (given ≡ refusal_number NoRoom)

pub only_no_room : (why : Refusal) → refusal_number why ≡ refusal_number NoRoom → (told_of why).number ≡ 7
only_no_room why e = by_place (told_of why).number (told_of why).place (in_a_byte why).0 (size_told _ 7 (omega arith) e)
  where
    by_place : (number : ℕ) (place : Option ℕ) → 0 < number → size_of number place ≡ 7 → number ≡ 7
    by_place number None some told = told
    by_place number (Some place) some told = omega arith

not_told : (n : ℕ) (reply : Reply) → AtMost n reply → ¬ (output_number (unhindered reply) ≡ refusal_number NoRoom)
not_told n (refuse why) other e = let no_way : ⊥ = rw (eq-eqb (told_of why).number 7 (only_no_room why e)) at other in no_way
not_told n (text t) fits e = pos-ne-negsuc (length t) 6 e

enough : (n : ℕ) (reply : Reply) → AtMost n reply → Enough n reply
enough n reply asks room left given h answered =
    let told : given ≡ output_number (unhindered reply) = answered.0 ∙ ap output_number (roomy n reply asks room h) in
    (told, λ e. not_told n reply asks (sym told ∙ e))

pub suffix_enough : (set : ℕ) → Enough suffix_room (suffix_reply set)
suffix_enough set = enough _ (suffix_reply set) (suffix_room_lem set)

pub listing_enough : (name : List ℕ) → Enough listing_room (text (listing_of name))
listing_enough name = enough _ (text (listing_of name)) (listing_room_lem name)

pub tones_enough : (root set : ℕ) → Enough tones_room (tones_reply spelled_by root set)
tones_enough root set = enough _ (tones_reply spelled_by root set) (tones_room_lem root set)

pub candidates_enough : (names : Names) (codes : List ℕ) → Enough candidates_room (text (candidates_of (table_of names) codes))
candidates_enough names codes = enough _ (text (candidates_of (table_of names) codes)) (candidates_length (table_of names) (table_brief names) codes)

pub candidates_strict_enough : (names : Names) (codes : List ℕ) → Enough candidates_room (strict_reply (table_of names) codes)
candidates_strict_enough names codes = enough _ (strict_reply (table_of names) codes) (strict_room codes (table_of names) (table_brief names))

pub note_text_enough : (note : Note) → Enough note_text_room (note_reply signs note)
note_text_enough note = enough _ (note_reply signs note) (note_text_room_lem note)

pub voicing_enough : (chord : Chord) (classes intervals : List ℕ) → Enough voicing_room (voicing_reply chord classes intervals)
voicing_enough chord classes intervals = enough _ (voicing_reply chord classes intervals) (voicing_room_lem chord classes intervals)

pub harmony_enough : (root : ℕ) (bass : Option ℕ) (set : ℕ) → Enough harmony_room (harmony_reply flats root bass set)
harmony_enough root bass set = enough _ (harmony_reply flats root bass set) (harmony_room_lem root bass set)

-- The rooms that the header names: "The bytes in which every answer of a call fits". The theorems are in proofs/Rooms.antt, and the gate holds the numbers to
-- the header's.
use Rattle.std.specs.Prelude.{ℕ}

-- HEMOTUSAP_SUFFIX_ROOM
abbrev pub suffix_room : ℕ
suffix_room = 64

-- HEMOTUSAP_LISTING_ROOM
abbrev pub listing_room : ℕ
listing_room = 32

-- HEMOTUSAP_TONES_ROOM
abbrev pub tones_room : ℕ
tones_room = 34

-- HEMOTUSAP_CANDIDATES_ROOM
abbrev pub candidates_room : ℕ
candidates_room = 840

-- HEMOTUSAP_NOTE_TEXT_ROOM
abbrev pub note_text_room : ℕ
note_text_room = 7

-- HEMOTUSAP_VOICING_ROOM
abbrev pub voicing_room : ℕ
voicing_room = 35

-- HEMOTUSAP_HARMONY_ROOM
abbrev pub harmony_room : ℕ
harmony_room = 1147

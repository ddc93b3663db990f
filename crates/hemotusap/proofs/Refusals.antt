-- What a host reads from a refusal, as the header's functions read it.
--     Reading              how number and place are read from a size
--     by_quotient          a size below 256 is the number itself and tells no place; of another the two are quotient and remainder
--     strictly             a size below 256 × 11 is the number itself and tells no place; another is 11's, and what it is above tells the place
--     IsRead               minus a size from which a refusal's number is read, and the place if it tells one
--     in_a_byte            a refusal's number is from 1 to 255
--     refusal_read         so it is with each refusal whose place is below 256
--     voicing_places       a voicing's refusal tells no place, or one below 16
--     voicing_read         so number and place are read from what a call for a voicing gives back, in every room
--     strict_read          and, strictly, from what the strict entry gives back, in every room, as long as 64 bits hold the formula at each place of the list
use Rattle.answer.proofs.Kit.{◌≡◌, refl, Bool, true, false, cond, List, ⊎_elim, ℕ, ◌+◌, ◌-◌, ◌*◌, ◌/◌, ◌%◌, ◌^◌, ◌≤◌, ◌<◌, arith, ltb, length, lt-ltb, le-ltb, ℤ, pos, neg_ℤ, Option, Some, None, Result, Ok, Err}
use Rattle.std.specs.Prelude.{IfSome, IfErr}
use Rattle.answer.specs.Refusals.{told_of}
use Rattle.answer.proofs.First.{first_less}
use Rattle.answer.specs.Replies.{Reply, refuse, text, fits, output_of}
use Rattle.answer.specs.declared.refusal.Refusal.{Refusal}
use Rattle.answer.specs.declared.refusal.Refusal.TheVariants.{NotASet, BadClass, TooManyPairs, BadPairClass, BadPairInterval, BadNote, BadMove, NotAKey, BadRange, NoRoom}
use Rattle.notes.specs.declared.note.Note.{Note}
use Rattle.candidates.specs.Candidates.{candidates_of}
use Rattle.strict.specs.Strict.{strict_reply}
use Rattle.strict.proofs.FirstAbove.{either, strict_same, strict_refused}
use Rattle.pool.specs.declared.pool.Tone.{Tone}
use Rattle.pool.specs.Pool.{tones_of}
use Rattle.pairs.proofs.FirstBad.{FirstBad, by_why}
use Rattle.voicings.specs.declared.voicing.Chord.{Chord}
use Rattle.voicings.specs.Voicing.{voicing_reply}
use Rattle.voicings.proofs.Replied.{by_reply}
use Rattle.host.specs.Numbers.{minus, size_of, refusal_number}
use Rattle.host.proofs.Wide.{as_written}

pub record Reading : Type 1 where
  pub number : ℕ → ℕ
  pub Tells : Option ℕ → ℕ → Type 0

abbrev pub quotient_place : Option ℕ → ℕ → Type 0
quotient_place None size = size < 256
quotient_place (Some place) size = (256 ≤ size) × (size % 256 ≡ place)

abbrev pub by_quotient : Reading
by_quotient = record { number = λ size. cond (ltb size 256) size (size / 256); Tells = quotient_place }

abbrev pub strict_place : Option ℕ → ℕ → Type 0
strict_place None size = size < 256 * 11
strict_place (Some place) size = (256 * 11 ≤ size) × (size - 256 * 11 ≡ place)

abbrev pub strictly : Reading
strictly = record { number = λ size. cond (ltb size (256 * 11)) size 11; Tells = strict_place }

abbrev pub IsBelow : ℕ → Option ℕ → Type 0
IsBelow n place = IfSome place (λ p. p < n)

pub record IsRead (by : Reading) (number : ℕ) (place : Option ℕ) (given : ℤ) : Type 0 where
  pub size : ℕ
  pub minus_size : given ≡ neg_ℤ (pos size)
  pub its_number : by.number size ≡ number
  pub its_place : by.Tells place size

size_read : (number : ℕ) (place : Option ℕ) → 0 < number → number < 256 → IsBelow 256 place → IsRead by_quotient number place (minus (size_of number place))
size_read number None some small h = record { size = number; minus_size = as_written number (omega arith); its_number = rw (lt-ltb number 256 small) refl; its_place = small }
size_read number (Some place) some small h =
    let large : 256 ≤ 256 * number + place = omega arith in
    let quotient : (256 * number + place) / 256 ≡ number = omega arith in
    record {
      size = 256 * number + place;
      minus_size = as_written (256 * number + place) (omega arith);
      its_number = rw (le-ltb (256 * number + place) 256 large) quotient;
      its_place = (large, omega arith);
    }

pub in_a_byte : (why : Refusal) → (0 < (told_of why).number) × ((told_of why).number < 256)
in_a_byte NotASet = (omega arith, omega arith)
in_a_byte BadClass = (omega arith, omega arith)
in_a_byte TooManyPairs = (omega arith, omega arith)
in_a_byte (BadPairClass place) = (omega arith, omega arith)
in_a_byte (BadPairInterval place) = (omega arith, omega arith)
in_a_byte BadNote = (omega arith, omega arith)
in_a_byte BadMove = (omega arith, omega arith)
in_a_byte (NotAKey place) = (omega arith, omega arith)
in_a_byte BadRange = (omega arith, omega arith)
in_a_byte NoRoom = (omega arith, omega arith)

pub refusal_read : (why : Refusal) → IsBelow 256 (told_of why).place → IsRead by_quotient (told_of why).number (told_of why).place (refusal_number why)
refusal_read why h = size_read (told_of why).number (told_of why).place (in_a_byte why).0 (in_a_byte why).1 h

-- a reply's refusal tells no place, or one below a bound
abbrev pub TellsBelow : ℕ → Reply → Type 0
TellsBelow n (refuse why) = IsBelow n (told_of why).place
TellsBelow n (text t) = Unit {0}

first_below : (Bad : Tone → Type 0) (tones : List Tone) (place : ℕ) → FirstBad Bad tones place → place < 16
first_below Bad tones place h = omega (arith, first_less h.first, h.few)

pub voicing_places : (chord : Chord) (classes intervals : List ℕ) → TellsBelow 16 (voicing_reply chord classes intervals)
voicing_places chord classes intervals =
    let tones = tones_of classes intervals in
    by_reply chord classes intervals (TellsBelow 16) tt tt
    (by_why tones (λ (why : Refusal). IsBelow 16 (told_of why).place) (λ many. tt) (first_below _ _) (first_below _ _))
    (λ few. tt)

-- an output's refusal is read from the number that a host gets
abbrev pub RefusalRead : Reading → Result ℕ Refusal → Type 0
RefusalRead by output = IfErr output (λ why. IsRead by (told_of why).number (told_of why).place (refusal_number why))

-- of a text only the want of room is refused
text_read : (by : Reading) (t room : List ℕ) → IsRead by 7 None (refusal_number NoRoom) → RefusalRead by (output_of (text t) room)
unfolding output_of
text_read by t room no_room = by_room (fits t room)
  where
    by_room : (b : Bool) → RefusalRead by (cond b (Ok (length t)) (Err NoRoom))
    by_room true = tt
    by_room false = no_room

-- where a reply's places are below 16
output_read : (reply : Reply) (room : List ℕ) → TellsBelow 16 reply → RefusalRead by_quotient (output_of reply room)
unfolding output_of
output_read (refuse why) room h = refusal_read why (by_place (told_of why).place h)
  where
    by_place : (place : Option ℕ) → IsBelow 16 place → IsBelow 256 place
    by_place None h = tt
    by_place (Some place) h = omega arith
output_read (text t) room h = text_read by_quotient t room (refusal_read NoRoom tt)

pub voicing_read : (chord : Chord) (classes intervals room : List ℕ) → RefusalRead by_quotient (output_of (voicing_reply chord classes intervals) room)
voicing_read chord classes intervals room = output_read _ room (voicing_places chord classes intervals)

key_read : (place : ℕ) → 256 * 11 + place ≤ 2 ^ 63 → IsRead strictly 11 (Some place) (refusal_number (NotAKey place))
key_read place h =
    let large : 256 * 11 ≤ 256 * 11 + place = omega arith in
    record {
      size = 256 * 11 + place;
      minus_size = as_written (256 * 11 + place) h;
      its_number = rw (le-ltb (256 * 11 + place) (256 * 11) large) refl;
      its_place = (large, omega arith);
    }

pub strict_read : (table : List Note) (codes room : List ℕ) → 256 * 11 + length codes ≤ 2 ^ 63 → RefusalRead strictly (output_of (strict_reply table codes) room)
unfolding output_of
strict_read table codes room h =
    ⊎_elim
    (λ keys. rw (strict_same codes table keys) (text_read strictly (candidates_of table codes) room (record { size = 7; minus_size = refl; its_number = refl; its_place = omega arith })))
    (λ above. rw (strict_refused codes table above) (key_read above.place (omega (arith, first_less above.first))))
    (either codes)

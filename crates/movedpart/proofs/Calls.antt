-- What a call that had room has written.
--     had_room                 its reply was a text, and these bytes are it
--     Telling                  how a call tells what the library puts out, so that what is told as a count is one
--     library, host            as it is, and as a number
--     Entry                    what a call replies to some codes, so that a text that it replies is their listing
--     any_codes, keys_alone    the entry that takes any codes, and the strict one
--     listing_written          so what a call writes by the contract of an entry is the listing of its codes
use Rattle.answer.specs.declared.refusal.Refusal.{Refusal}
use Rattle.answer.proofs.Kit.{◌≡◌, sym, ap, ap₂, ◌∙◌, Bool, true, false, true≢false, cond, List, ◌++◌, ⊎_elim, ℕ, ◌<◌, arith, length, take, drop, take-append_seam, ℤ, pos, Option, Some, None, Result, Ok, Err}
use Rattle.answer.specs.Refusals.{told_of}
use Rattle.answer.specs.Replies.{Reply, refuse, text, fits, output_of, room_after}
use Rattle.answer.specs.declared.refusal.Refusal.TheVariants.{NoRoom}
use Rattle.notes.specs.declared.note.Note.{Note}
use Rattle.names.specs.Names.{table_of}
use Rattle.names.specs.declared.table.Names.{Names}
use Rattle.candidates.specs.Candidates.{candidates_of}
use Rattle.strict.specs.Strict.{strict_reply}
use Rattle.strict.proofs.FirstAbove.{either, strict_same, strict_refused}
use Rattle.host.specs.Numbers.{minus, size_of}
use Rattle.hemotusap.specs.Host.{output_number}
use Rattle.hemotusap.proofs.Refusals.{in_a_byte}
use Rattle.movedpart.specs.Calls.{Wrote}

pub had_room : (reply : Reply) (room bytes : List ℕ) → output_of reply room ≡ Ok (length bytes) → take (length bytes) (room_after reply room) ≡ bytes → reply ≡ text bytes
unfolding output_of room_after
had_room (refuse why) room bytes e written = absurd (true≢false cc)
had_room (text t) room bytes e written = by_room (fits t room) e written
  where
    by_room : (b : Bool) → cond b (Ok (length t)) (Err NoRoom) ≡ Ok (length bytes) → take (length bytes) (cond b (t ++ drop (length t) room) room) ≡ bytes
        → text t ≡ text bytes
    by_room true e written =
        let same : length t ≡ length bytes = cc in
        ap text (sym (take-append_seam t (drop (length t) room)) ∙ ap (λ (n : ℕ). take n (t ++ drop (length t) room)) same ∙ written)
    by_room false e written = absurd (true≢false cc)

pub record Telling (R : Type 0) : Type 0 where
  pub told : Result ℕ Refusal → R
  pub count : ℕ → R
  pub counted : (output : Result ℕ Refusal) (n : ℕ) → told output ≡ count n → output ≡ Ok n

abbrev pub library : Telling (Result ℕ Refusal)
library = record { told = λ output. output; count = Ok; counted = λ output n e. e }

below_zero : (size n : ℕ) → 0 < size → minus size ≡ pos n → ⊥
below_zero size n some e = grind arith

pub host_counted : (output : Result ℕ Refusal) (n : ℕ) → output_number output ≡ pos n → output ≡ Ok n
host_counted (Ok m) n e = cc
host_counted (Err why) n e = absurd (by_place (told_of why).number (told_of why).place (in_a_byte why).0 e)
  where
    by_place : (number : ℕ) (place : Option ℕ) → 0 < number → minus (size_of number place) ≡ pos n → ⊥
    by_place number None some e = below_zero number n some e
    by_place number (Some place) some e = below_zero (size_of number (Some place)) n (omega arith) e

abbrev pub host : Telling ℤ
host = record { told = output_number; count = pos; counted = host_counted }

pub record Entry : Type 0 where
  pub reply : List Note → List ℕ → Reply
  pub listed : (table : List Note) (codes bytes : List ℕ) → reply table codes ≡ text bytes → bytes ≡ candidates_of table codes

-- what it replies to names and codes
abbrev pub reply_to : Entry → Names × List ℕ → Reply
reply_to entry asked = entry.reply (table_of asked.0) asked.1

pub any_listed : (table : List Note) (codes bytes : List ℕ) → text (candidates_of table codes) ≡ text bytes → bytes ≡ candidates_of table codes
any_listed table codes bytes e = cc

abbrev pub any_codes : Entry
any_codes = record { reply = λ table codes. text (candidates_of table codes); listed = any_listed }

pub strict_listed : (table : List Note) (codes bytes : List ℕ) → strict_reply table codes ≡ text bytes → bytes ≡ candidates_of table codes
strict_listed table codes bytes e =
    ⊎_elim (λ keys. any_listed table codes bytes (sym (strict_same codes table keys) ∙ e))
    (λ above. let refused = strict_refused codes table above in absurd (true≢false cc))
    (either codes)

abbrev pub keys_alone : Entry
keys_alone = record { reply = strict_reply; listed = strict_listed }

-- what such calls write is the listing of their codes
abbrev pub Listed {ℓ} : (Names → List ℕ → List ℕ → Type ℓ) → Type ℓ
Listed Wrote = (names : Names) (codes bytes : List ℕ) → Wrote names codes bytes → bytes ≡ candidates_of (table_of names) codes

-- by a contract that says what a call tells and leaves of a room, and so that it is an entry's, what is written is the listing
pub listing_written {ℓ} : {K : Type ℓ} {R : Type 0} {A S : K → Type 0} (telling : Telling R) (entry : Entry) {Post : (κs : K) → A κs → R → S κs → Type 0}
    {asked : (κs : K) → A κs → Names × List ℕ} {left : (κs : K) → S κs → List ℕ} (room : (κs : K) → A κs → List ℕ)
    → ((κs : K) (a : A κs) (r : R) (s : S κs) → Post κs a r s
    → (r ≡ telling.told (output_of (reply_to entry (asked κs a)) (room κs a))) × (left κs s ≡ room_after (reply_to entry (asked κs a)) (room κs a)))
    → Listed (Wrote telling.count Post asked left)
listing_written telling entry {asked = asked} room says names codes bytes call =
    let a = call.arguments in
    let said = says call.κs a call.answer call.exit call.made in
    let output = telling.counted _ (length bytes) (sym said.0 ∙ call.its_count) in
    let reply = had_room (reply_to entry (asked call.κs a)) (room call.κs a) bytes output (ap (take (length bytes)) (sym said.1) ∙ call.its_bytes) in
    entry.listed _ _ bytes reply ∙ ap₂ (λ (n : Names) (l : List ℕ). candidates_of (table_of n) l) call.for_names call.of_codes

-- What a reply comes to where its text has room, and where it has none.
--     refused       a refusal leaves the room as it was
--     refused_by    the same, where a refusal is what a call has to give
--     no_room       a text longer than the room: refusal 7
--     written       a text that has room stands at the front
--     roomy         a room of so many bytes is enough for a text of at most so many
--     copied        a text written as far as a place, and its byte there
use Rattle.answer.proofs.Kit.{◌≡◌, refl, sym, subst, List, ◌++◌, ℕ, ◌+◌, ◌≤◌, ◌<◌, zero-add, le_trans, add-one, length, take, drop, get_or, set, paste-suc, le-leb, lt-leb, Ok, Err}
use Rattle.answer.specs.Replies.{Reply, refuse, text, output_of, room_after, Answered, AtMost, unhindered}
use Rattle.answer.specs.declared.refusal.Refusal.{Refusal}
use Rattle.answer.specs.declared.refusal.Refusal.TheVariants.{NoRoom}

pub refused : (why : Refusal) (room : List ℕ) → Answered (refuse why) room (Err why) room
unfolding output_of room_after
refused why room = (refl, refl)

pub refused_by : (why : Refusal) (reply : Reply) (room : List ℕ) → reply ≡ refuse why → Answered reply room (Err why) room
refused_by why reply room e = subst (λ (x : Reply). Answered x room (Err why) room) (sym e) (refused why room)

pub no_room : (t room : List ℕ) → length room < length t → Answered (text t) room (Err NoRoom) room
unfolding output_of room_after
no_room t room h = (simp (lt-leb _ _ h), simp (lt-leb _ _ h))

pub written : (t room : List ℕ) → length t ≤ length room → Answered (text t) room (Ok (length t)) (t ++ drop (length t) room)
unfolding output_of room_after
written t room h = (simp (le-leb _ _ h), simp (le-leb _ _ h))

pub roomy : (n : ℕ) (reply : Reply) → AtMost n reply → (room : List ℕ) → n ≤ length room → output_of reply room ≡ unhindered reply
roomy n (refuse why) fits room h = sym (refused why room).0
roomy n (text t) fits room h = sym (written t room (le_trans fits h)).0

-- a turn of a copy: its store takes the copy of i bytes to the copy of one more
pub copied : (from room : List ℕ) (i : ℕ) → i < length from → i < length room
    → set (take i from ++ drop i room) i (get_or from i 0) ≡ take (i + 1) from ++ drop (i + 1) room
copied from room i hf hr = rw add-one (simp zero-add at (paste-suc room 0 from i 0 (rw zero-add hr) hf))

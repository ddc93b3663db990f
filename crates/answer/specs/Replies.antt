-- Paper 01, "Numbers given back": what a call that writes answers, and what it leaves in the range that it was lent.
use Rattle.std.specs.Prelude.{◌≡◌, Bool, not, cond, List, ◌++◌, ℕ, ◌≤◌, T, eqb, leb, length, drop, Result, Ok, Err, ⊤}
use Rattle.answer.specs.Refusals.{told_of}
use Rattle.answer.specs.declared.refusal.Refusal.{Refusal}
use Rattle.answer.specs.declared.refusal.Refusal.TheVariants.{NoRoom}

-- what a call has to give, before the room is looked at: a refusal, or a whole text
pub data Reply : Type 0 where
  refuse : Refusal → Reply
  text : List ℕ → Reply

-- what a test refuses, or else this: "Checks run in this order; the first that applies answers"
abbrev pub unless_refused : Result ⊤ Refusal → Reply → Reply
unless_refused (Err why) reply = refuse why
unless_refused (Ok _) reply = reply

-- the text is no longer than the room
abbrev pub fits : List ℕ → List ℕ → Bool
fits t room = leb (length t) (length room)

-- the answer: the refusal; the count of bytes written; or refusal 7, "output shorter than the whole answer"
unfoldable pub output_of : Reply → List ℕ → Result ℕ Refusal
output_of (refuse why) room = Err why
output_of (text t) room = cond (fits t room) (Ok (length t)) (Err NoRoom)

-- a refusal that is not 7, and so not for want of room
abbrev pub NotForRoom : Refusal → Type 0
NotForRoom why = T (not (eqb (told_of why).number 7))

-- a reply asks for a room of at most so many bytes: its text has no more, and no refusal of its own is for want of room
abbrev pub AtMost : ℕ → Reply → Type 0
AtMost n (refuse why) = NotForRoom why
AtMost n (text t) = length t ≤ n

-- the answer where there is room enough: the room's size is in none of it
abbrev pub unhindered : Reply → Result ℕ Refusal
unhindered (refuse why) = Err why
unhindered (text t) = Ok (length t)

-- the room at exit: "a refusal alters no lent byte", and "bytes behind the written ones are unaltered"
unfoldable pub room_after : Reply → List ℕ → List ℕ
room_after (refuse why) room = room
room_after (text t) room = cond (fits t room) (t ++ drop (length t) room) room

-- an answer and a room at exit are what a reply and the room at entry say
abbrev pub Answered : Reply → List ℕ → Result ℕ Refusal → List ℕ → Type 0
Answered reply room r left = (r ≡ output_of reply room) × (left ≡ room_after reply room)

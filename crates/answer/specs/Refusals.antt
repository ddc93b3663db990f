-- The number of each refusal and the place that some tell: paper 01, "Numbers given back", and paper 02, Q-1, Q-6 and Q-8.
use Rattle.std.specs.Prelude.{ℕ, Option, None, Some}
use Rattle.answer.specs.declared.refusal.Refusal.{Refusal}
use Rattle.answer.specs.declared.refusal.Refusal.TheVariants.{NotASet, BadClass, TooManyPairs, BadPairClass, BadPairInterval, BadNote, BadMove, NotAKey, BadRange, NoRoom}

-- what a refusal tells
pub record Told : Type 0 where
  pub number : ℕ
  pub place : Option ℕ

-- a refusal that tells no place
abbrev pub without_place : ℕ → Told
without_place number = record { number = number; place = None }

-- and one that does
abbrev pub with_place : ℕ → ℕ → Told
with_place number place = record { number = number; place = Some place }

-- a refusal's number and place: "4 becomes 41 (note class) or 42 (interval), each with the pair's position from 0"; "11 with its place"; 16 tells none
abbrev pub told_of : Refusal → Told
told_of NotASet = without_place 1
told_of BadClass = without_place 2
told_of TooManyPairs = without_place 3
told_of (BadPairClass place) = with_place 41 place
told_of (BadPairInterval place) = with_place 42 place
told_of BadNote = without_place 5
told_of BadMove = without_place 6
told_of (NotAKey place) = with_place 11 place
told_of BadRange = without_place 16
told_of NoRoom = without_place 7

-- Sets of pitch classes: paper 01, "Sets and intervals" ("A set is a number 0..4095; class k is the bit worth 2^k. It is rooted
-- when class 0 is in it"). Sets of intervals and of degrees are numbers of the same kind.
use Rattle.std.specs.Prelude.{Bool, true, false, not, cond, ◌&&◌, ◌||◌, List, [], ◌∷◌, ℕ, zero, suc, ◌+◌, ◌-◌, ◌/◌, ◌%◌, ◌^◌, eqb, leb, Result, Ok, Err}
use Rattle.answer.specs.declared.refusal.Refusal.{Refusal}
use Rattle.answer.specs.declared.refusal.Refusal.TheVariants.{NotASet}

-- a number that is a set of classes
unfoldable pub is_set : ℕ → Bool
is_set s = leb s 4095

-- class k is in the set
unfoldable pub has : ℕ → ℕ → Bool
has s k = eqb (s / 2 ^ k % 2) 1

-- a set with class 0 in it
unfoldable pub is_rooted : ℕ → Bool
is_rooted s = is_set s && has s 0

-- a rooted set, or refusal 1
unfoldable pub rooted_answer : ℕ → Result ℕ Refusal
rooted_answer s = cond (is_rooted s) (Ok s) (Err NotASet)

-- each of some classes is in the set
unfoldable pub has_all : ℕ → List ℕ → Bool
has_all s [] = true
has_all s (k ∷ more) = has s k && has_all s more

-- none of some classes is in the set
unfoldable pub has_none : ℕ → List ℕ → Bool
has_none s [] = true
has_none s (k ∷ more) = not (has s k) && has_none s more

-- how many of the numbers below n pass a test
unfoldable pub count_below : (ℕ → Bool) → ℕ → ℕ
count_below test zero = 0
count_below test (suc n) = cond (test n) 1 0 + count_below test n

-- how many classes are in the set
unfoldable pub class_count : ℕ → ℕ
class_count s = count_below (has s) 12

-- the set of those classes below n for which a test holds
unfoldable pub set_below : ℕ → (ℕ → Bool) → ℕ
set_below zero holds = 0
set_below (suc n) holds = set_below n holds + cond (holds n) (2 ^ n) 0

-- the set of those of the twelve classes for which a test holds
unfoldable pub set_where : (ℕ → Bool) → ℕ
set_where holds = set_below 12 holds

-- a set with a number put in, once
abbrev pub with_member : ℕ → ℕ → ℕ
with_member k s = cond (eqb (s / 2 ^ k % 2) 1) s (s + 2 ^ k)

-- a set with a number taken out, if it is there
unfoldable pub without : ℕ → ℕ → ℕ
without k s = cond (has s k) (s - 2 ^ k) s

-- the set of the numbers of a list
abbrev pub bits : List ℕ → ℕ
bits [] = 0
bits (k ∷ more) = with_member k (bits more)

-- a number is in a list
unfoldable pub is_in : ℕ → List ℕ → Bool
is_in n [] = false
is_in n (x ∷ more) = eqb n x || is_in n more

-- What stands before the first of some parts, and a part of the parentheses.
use Rattle.std.specs.Prelude.{Bool, false, cond, List, [], ◌∷◌, ◌++◌, ℕ}
use Rattle.answer.specs.Words.{bytes}
use Rattle.intervals.specs.Intervals.{notation_of}
use Rattle.intervals.specs.declared.interval.Interval.{Interval}
use Rattle.inference.specs.declared.wording.Prefix.{Prefix}
use Rattle.inference.specs.declared.wording.Prefix.TheVariants.{None, Add, Omit}

-- nothing, `add` or `omit`
abbrev pub prefix_text : Prefix → List ℕ
prefix_text None = []
prefix_text Add = bytes "add"
prefix_text Omit = bytes "omit"

-- `add`, before the add that is numbered first
abbrev pub add_where : Bool → Prefix
add_where first = cond first Add None

-- what stands before a part, the first or a later one
abbrev pub before_part : Bool → Prefix → List ℕ
before_part first prefix = cond first (bytes "(") (bytes ",") ++ prefix_text prefix

-- a part of the parentheses with what stands before it
abbrev pub part : Bool → Prefix → Interval → List ℕ
part first prefix interval = before_part first prefix ++ notation_of interval

-- behind some parts the next is the first, where they are none
abbrev pub is_first_behind : {A : Type 0} → Bool → List A → Bool
is_first_behind first [] = first
is_first_behind first (x ∷ more) = false

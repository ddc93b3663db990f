-- A suffix as it is written off a descriptor.
use Rattle.intervals.specs.declared.interval.Interval.{Interval}
use Rattle.std.specs.Prelude.{Bool, cond, not, ◌||◌, List, [], ◌++◌, ℕ, eqb, Option, Some, None}
use Rattle.std.specs.Int.Bits.{bit_and, bit_xor}
use Rattle.answer.specs.Words.{bytes, packed}
use Rattle.intervals.specs.Intervals.{notation_of}
use Rattle.rules.specs.Classes.{intervals_in}
use Rattle.rules.specs.Heading.{wording, modified}
use Rattle.rules.specs.Suffix.{worded}
use Rattle.descriptors.specs.declared.descriptor.Descriptor.{Descriptor}
use Rattle.inference.specs.private.Prefixes.{prefix_text, add_where}

-- a modifier where a quality shows one, or its word without one
abbrev pub modifier_word : Option ℕ → Option Interval → ℕ
modifier_word None m = 0
modifier_word (Some word) None = word
modifier_word (Some word) (Some i) = packed (notation_of i)

-- what stands before the parentheses
abbrev pub head_of : Descriptor → List ℕ
head_of d =
    wording d.quality ++ cond (not (eqb d.nine 0)) (bytes "9") [] ++ modified d.quality d.modifier ++ cond d.sus (bytes "sus") []

-- the adds in the parentheses, without the 9 behind the `6`: that keeps its place in the numbering, so that where it is the first no other
-- carries `add`
abbrev pub add_parts_of : Descriptor → List (List ℕ)
add_parts_of d =
    worded (prefix_text (add_where (eqb d.nine 0 || not (eqb (bit_and d.adds 16384) 0)))) (intervals_in (bit_xor d.adds d.nine))
    ++ worded (prefix_text (add_where (eqb d.adds 0))) (intervals_in d.third)

-- all that stands in them
abbrev pub parts_of : Descriptor → List (List ℕ)
parts_of d = worded [] (intervals_in d.alterations) ++ add_parts_of d ++ worded (bytes "omit") (intervals_in d.omits)

-- How a suffix is written: paper 01, "The suffix (002, 003)" ("Parts in order: quality with modifier, .., `sus`, then in one pair of
-- parentheses, comma between: alterations, adds, omits").
use Rattle.std.specs.Prelude.{Bool, true, false, cond, ◌&&◌, List, [], ◌∷◌, ◌++◌, ℕ}
use Rattle.answer.specs.Words.{bytes}
use Rattle.answer.specs.Replies.{Reply, refuse, text}
use Rattle.answer.specs.declared.refusal.Refusal.TheVariants.{NotASet}
use Rattle.intervals.specs.Sets.{is_rooted}
use Rattle.intervals.specs.Intervals.{notation_of}
use Rattle.intervals.specs.declared.interval.Interval.{Interval}
use Rattle.intervals.specs.declared.interval.Interval.TheVariants.{Ninth}
use Rattle.qualities.specs.declared.quality.ChordQuality.{ChordQuality}
use Rattle.rules.specs.Classes.{is, intervals_of}
use Rattle.rules.specs.Parts.{suffix_quality, alterations_of, last_add, omit_third, omit_fifth}
use Rattle.rules.specs.Stack.{adds_of}
use Rattle.rules.specs.Heading.{is_sixth, heading, sus}

-- intervals as they are written, the first of them behind a word
unfoldable pub worded : List ℕ → List Interval → List (List ℕ)
worded word [] = []
worded word (i ∷ more) = (word ++ notation_of i) ∷ worded [] more

-- the adds in their numbering: "only the add numbered first carries `add`"; the 9 that went in behind the `6` is left out, and "keeps its place in
-- the numbering"
unfoldable pub add_parts : ChordQuality → List ℕ → List Interval → List (List ℕ)
add_parts q word [] = []
add_parts q word (i ∷ more) = cond (is_sixth q && is i Ninth) (add_parts q [] more) ((word ++ notation_of i) ∷ add_parts q [] more)

-- what stands in the parentheses
unfoldable pub parts : ℕ → List (List ℕ)
parts s =
    let ints = intervals_of s in
    let q = suffix_quality s in
    worded [] (alterations_of q ints)
    ++ add_parts q (bytes "add") (adds_of q ints ++ last_add s)
    ++ worded (bytes "omit") (omit_third s ++ omit_fifth s)

-- parts in a row: the first behind what opens the parentheses, the others behind a comma
unfoldable pub listed : Bool → List (List ℕ) → List ℕ
listed first [] = []
listed first (part ∷ more) = cond first (bytes "(") (bytes ",") ++ part ++ listed false more

-- what closes the parentheses, where there are parts
unfoldable pub close : List (List ℕ) → List ℕ
close [] = []
close (part ∷ more) = bytes ")"

-- the parts in one pair of parentheses; no parts, no parentheses
unfoldable pub parenthesized : List (List ℕ) → List ℕ
parenthesized ps = listed true ps ++ close ps

-- the suffix of a rooted set
unfoldable pub suffix_of : ℕ → List ℕ
suffix_of s = heading s ++ sus s ++ parenthesized (parts s)

-- "A suffix has at most 64 bytes; that is to be proved": proofs/Short.antt has the theorem
abbrev pub longest : ℕ
longest = 64

-- the most bytes that any has: also proved there
abbrev pub reached : ℕ
reached = 27

-- what a call has to give: the suffix, or refusal 1
unfoldable pub suffix_reply : ℕ → Reply
suffix_reply s = cond (is_rooted s) (text (suffix_of s)) (refuse NotASet)

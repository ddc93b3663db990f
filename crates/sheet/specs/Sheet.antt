-- Paper 01, "Engraver's proof sheet": its first twelve rows, marked P, as one table.
use Rattle.answer.specs.declared.refusal.Refusal.{Refusal}
use Rattle.std.specs.Prelude.{◌≡◌, List, [], ◌∷◌, map, ℕ, Option, Some, None, Result, Ok}
use Prim.Native.String.{String}
use Rattle.answer.specs.Words.{bytes}
use Rattle.answer.specs.Replies.{Reply, text}
use Rattle.intervals.specs.Intervals.{number_of}
use Rattle.qualities.specs.Qualities.{quality_answer}
use Rattle.intervals.specs.declared.interval.Interval.{Interval}
use Rattle.intervals.specs.declared.interval.Interval.TheVariants.{Unison, MinorThird, MajorThird, DiminishedFifth, PerfectFifth, MajorSeventh, FlatNinth}
use Rattle.qualities.specs.declared.quality.ChordQuality.{ChordQuality}
use Rattle.qualities.specs.declared.quality.ChordQuality.TheVariants as Quality
use Rattle.rules.specs.Suffix.{suffix_reply}
use Rattle.listing.specs.Listing.{in_bytes, listing_of}
use Rattle.voicings.specs.Range.{lowest_key, highest_key}
use Rattle.voicings.specs.Voicing.{voicing_reply}

-- what a row asks of the library ("Given")
pub data Call : Type 0 where
  suffix : ℕ → Call
  quality : ℕ → Call
  listing : String → Call
  -- on C with no bass, in the sheet's range: note classes, their intervals, the lead
  voicing : List ℕ → List Interval → Option ℕ → Call

-- what a row finds ("Found"): what a call has to give, or a quality's answer
pub data Found : Type 0 where
  gives : Reply → Found
  says : Result ChordQuality Refusal → Found

-- a call, evaluated by the definition that its contract cites
unfoldable pub answer_of : Call → Found
answer_of (suffix set) = gives (suffix_reply set)
answer_of (quality set) = says (quality_answer set)
answer_of (listing name) = gives (text (listing_of (bytes name)))
answer_of (voicing classes intervals lead) =
    gives (voicing_reply record { root = 0; bass = None; lowest = lowest_key; highest = highest_key; lead = lead } classes (map number_of intervals))

-- a row: calls, and what each of them finds
pub record Row : Type 0 where
  pub given : List Call
  pub found : List Found

-- a row of calls and what they find
abbrev row : List Call → List Found → Row
row given found = record { given = given; found = found }

-- a text, sets, keys and a quality, as the column "Found" has them
abbrev written : String → Found
written t = gives (text (bytes t))

-- the sets of a listing, as its bytes
abbrev sets : List ℕ → Found
sets l = gives (text (in_bytes l))

-- the keys of a voicing
abbrev keys : List ℕ → Found
keys l = gives (text l)

-- a quality
abbrev is : ChordQuality → Found
is q = says (Ok q)

-- the twelve rows
abbrev pub sheet : List Row
sheet =
    row (suffix 1 ∷ []) (written "(omit3,5)" ∷ [])
    ∷ row (suffix 145 ∷ []) (written "" ∷ [])
    ∷ row (suffix 257 ∷ []) (written "+(omit3,5)" ∷ [])
    ∷ row (suffix 693 ∷ []) (written "69sus(3)" ∷ [])
    ∷ row (suffix 1683 ∷ suffix 1687 ∷ []) (written "13(b9)" ∷ written "13(b9)" ∷ [])
    ∷ row (suffix 1177 ∷ suffix 1209 ∷ []) (written "7(#9)" ∷ written "7(#9)" ∷ [])
    ∷ row (quality 0 ∷ quality 128 ∷ quality 129 ∷ quality 1057 ∷ quality 2577 ∷ [])
    (is Quality.Maj ∷ is Quality.Bass ∷ is Quality.Power ∷ is Quality.Dominant7 ∷ is Quality.Maj6 ∷ [])
    ∷ row (listing "+" ∷ []) (sets (273 ∷ 401 ∷ []) ∷ [])
    ∷ row (listing "7(b13)" ∷ []) (sets (1297 ∷ 1425 ∷ 3345 ∷ 3473 ∷ []) ∷ [])
    ∷ row (voicing (0 ∷ 4 ∷ 7 ∷ 11 ∷ []) (Unison ∷ MajorThird ∷ PerfectFifth ∷ MajorSeventh ∷ []) None ∷ []) (keys (36 ∷ 52 ∷ 59 ∷ 79 ∷ []) ∷ [])
    ∷ row (voicing (0 ∷ 3 ∷ 6 ∷ []) (Unison ∷ MinorThird ∷ DiminishedFifth ∷ []) (Some 72) ∷ []) (keys (36 ∷ 51 ∷ 54 ∷ 66 ∷ 72 ∷ []) ∷ [])
    ∷ row (voicing (0 ∷ 1 ∷ []) (Unison ∷ FlatNinth ∷ []) (Some 60) ∷ []) (keys (36 ∷ 0 ∷ []) ∷ [])
    ∷ []

-- what a row says is so
abbrev pub Holds : Row → Type 0
Holds r = map answer_of r.given ≡ r.found

-- and what each row of a table says
abbrev pub AllHold : List Row → Type 0
AllHold [] = Unit {0}
AllHold (r ∷ more) = Holds r × AllHold more

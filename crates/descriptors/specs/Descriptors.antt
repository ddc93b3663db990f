-- A rooted set described: paper 01, "Sets and intervals" and "The suffix (002, 003)".
use Rattle.answer.specs.declared.refusal.Refusal.{Refusal}
use Rattle.qualities.specs.declared.quality.ChordQuality.{ChordQuality}
use Rattle.std.specs.Prelude.{cond, ◌++◌, ℕ, Result, Ok, Err}
use Rattle.answer.specs.declared.refusal.Refusal.TheVariants.{NotASet}
use Rattle.intervals.specs.Sets.{is_rooted}
use Rattle.intervals.specs.Intervals.{set_of}
use Rattle.intervals.specs.declared.interval.Interval.TheVariants.{Ninth}
use Rattle.rules.specs.Classes.{only, intervals_of}
use Rattle.rules.specs.Parts.{suffix_quality, is_sus, alterations_of, last_add, omit_third, omit_fifth}
use Rattle.rules.specs.Stack.{modifier_of, adds_of}
use Rattle.rules.specs.Heading.{nine}
use Rattle.descriptors.specs.declared.descriptor.Descriptor.{Descriptor}

-- its intervals, the quality that it shows, and what a suffix names of it, sets of intervals with a bit for each one's number
unfoldable pub descriptor_of : ℕ → Descriptor
descriptor_of s =
    let ints = intervals_of s in
    let q = suffix_quality s in
    record {
      set = s;
      intervals = set_of ints;
      quality = q;
      sus = is_sus s;
      modifier = modifier_of q ints;
      alterations = set_of (alterations_of q ints);
      adds = set_of (adds_of q ints);
      nine = set_of (only (nine q (adds_of q ints)) Ninth);
      third = set_of (last_add s);
      omits = set_of (omit_third s ++ omit_fifth s);
    }

-- what a call answers: the descriptor, or refusal 1
unfoldable pub descriptor_answer : ℕ → Result Descriptor Refusal
descriptor_answer s = cond (is_rooted s) (Ok (descriptor_of s)) (Err NotASet)

-- the quality that a rooted set shows in its suffix, or refusal 1
unfoldable pub shown_answer : ℕ → Result ChordQuality Refusal
shown_answer s = cond (is_rooted s) (Ok (suffix_quality s)) (Err NotASet)

-- Layers of definitions, for tests that are computed: to unfold a layer is to unfold all that its line names.
--     classes_computed     the intervals of a set
--     named_computed       what of it a suffix names
--     suffix_computed      the suffix
use Rattle.answer.specs.Words.{bytes, same}
use Rattle.answer.proofs.Tests.{all}
use Rattle.intervals.specs.Sets.{has, is_in, has_all, has_none, class_count, count_below}
use Rattle.intervals.specs.Intervals.{intervals, set_of}
use Rattle.qualities.specs.Qualities.{quality_of}
use Rattle.rules.specs.Classes.{among, keep, only, at_once, of_class3, of_class6, of_class9, of_class8, intervals_in, intervals_of}
use Rattle.rules.specs.Parts.{has_third, with_third, suffix_quality, is_sus, within, alterations_of, sixth_as13, extensions_of, last_add, omit_third, omit_fifth}
use Rattle.rules.specs.Stack.{degrees_of, is_degree, reaches, is_stacked, unstacked_of, last_of, modifier_of, is_add, adds_of}
use Rattle.rules.specs.Heading.{nine, heading, sus}
use Rattle.rules.specs.Suffix.{worded, add_parts, parts, listed, close, parenthesized, suffix_of}

unfoldable pub classes_computed : Unit {0}
unfolding all has is_in intervals set_of among keep only at_once of_class3 of_class6 of_class9 of_class8 intervals_in intervals_of
classes_computed = tt

unfoldable pub named_computed : Unit {0}
unfolding classes_computed bytes same has_all has_none class_count count_below quality_of has_third with_third suffix_quality is_sus within alterations_of sixth_as13 extensions_of degrees_of is_degree reaches is_stacked unstacked_of last_of modifier_of is_add adds_of last_add omit_third omit_fifth nine worded add_parts
named_computed = tt

unfoldable pub suffix_computed : Unit {0}
unfolding named_computed heading sus parts listed close parenthesized suffix_of
suffix_computed = tt

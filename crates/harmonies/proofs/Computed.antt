-- Layers of definitions, for tests that are computed: to unfold a layer is to unfold all that its line names.
--     numbers_computed     a number and an integer, written and read
--     pitches_computed     a note's element, written and read
--     told_computed        the degrees of a set, and what they tell
--     harmony_computed     the bytes of an element
use Rattle.answer.specs.Words.{bytes, same}
use Rattle.intervals.specs.Sets.{without}
use Rattle.notes.specs.NoteText.{letter_name}
use Rattle.names.specs.Names.{flats}
use Rattle.rules.proofs.Computed.{named_computed}
use Rattle.harmonies.specs.Xml.{◌then◌, written}
use Rattle.harmonies.specs.Kinds.{outside, silent, degrees_of}
use Rattle.harmonies.specs.Harmony.{decimal, integer, degrees, harmony, harmony_of}
use Rattle.harmonies.specs.Chords.{kinds, tones_in, tones_of, above_root, tone_on, classes_of, less_subtracted, with_added, sounding}
use Rattle.harmonies.specs.Reading.{text_in, digits_from, number_of, integer_of, place_of, class_in}
use Rattle.harmonies.proofs.Parsed.{plain, is_name, clean}

unfoldable pub numbers_computed : Unit {0}
unfolding bytes same decimal integer digits_from number_of integer_of plain is_name clean
numbers_computed = tt

unfoldable pub pitches_computed : Unit {0}
unfolding numbers_computed letter_name flats ◌then◌ text_in place_of class_in
pitches_computed = tt

unfoldable pub told_computed : Unit {0}
unfolding named_computed without outside silent kinds tones_in tones_of above_root tone_on classes_of less_subtracted with_added sounding
told_computed = tt

unfoldable pub harmony_computed : Unit {0}
unfolding named_computed numbers_computed letter_name flats ◌then◌ written outside silent degrees_of degrees harmony harmony_of
harmony_computed = tt

-- What a voicing is made of, opened by one name: a declaration with the line `unfolding voicing_computed` computes voicings.
use mathlib.Core.Option.{Option-elim}
use Rattle.answer.specs.First.{first_where, first_refused}
use Rattle.intervals.specs.Sets.{has, is_in, without}
use Rattle.intervals.specs.Intervals.{intervals, nth, numbered, set_of}
use Rattle.pool.specs.Pool.{tones_of, any_tone}
use Rattle.pool.specs.Order.{insert, sorted}
use Rattle.pairs.specs.Checks.{pairs_checked}
use Rattle.keys.specs.Choice.{keys_from, keys_of, keys_of_tone, keys_of_tones, nearest, chosen, other_tones, placed_in, placed}
use Rattle.leads.specs.Lead.{barring, last_of, unbarred, owns, without_last, lead_of}
use Rattle.voicings.specs.Guides.{holds_any, sixths, sevenths, guides, tensions, guide_keys, tension_keys}
use Rattle.voicings.specs.Voicing.{above_bass, above, voicing_of, voicing_reply}

-- the numbers and sets of intervals; the pairs; the pool and its keys; the lead; guides and tensions; the whole
unfoldable pub voicing_computed : Unit {0}
unfolding has is_in intervals nth numbered set_of first_where first_refused pairs_checked tones_of any_tone insert sorted keys_from keys_of keys_of_tone keys_of_tones nearest Option-elim without chosen other_tones placed_in placed barring last_of unbarred owns without_last lead_of holds_any sixths sevenths guides tensions guide_keys tension_keys above_bass above voicing_of voicing_reply
voicing_computed = tt

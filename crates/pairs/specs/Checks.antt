-- Which pairs are refused: paper 01, "Numbers given back", and paper 02, Q-1.
use Rattle.std.specs.Prelude.{Bool, not, cond, ◌&&◌, List, ℕ, leb, length, Result, Err, ⊤}
use Rattle.answer.specs.First.{first_refused}
use Rattle.answer.specs.declared.refusal.Refusal.{Refusal}
use Rattle.answer.specs.declared.refusal.Refusal.TheVariants.{TooManyPairs, BadPairClass, BadPairInterval}
use Rattle.pool.specs.declared.pool.Tone.{Tone}

-- a pair is bad unless its note class is at most 11 and its interval at most 22
abbrev pub is_bad : Tone → Bool
is_bad t = not (leb t.class 11 && leb t.interval 22)

-- a bad pair's refusal, with "the pair's position from 0": "within one pair the note is looked at before the interval"
abbrev pub bad_pair : ℕ → Tone → Refusal
bad_pair place t = cond (leb t.class 11) (BadPairInterval place) (BadPairClass place)

-- refusals 41 and 42: "The earliest bad pair counts"
abbrev pub first_checked : List Tone → Result ⊤ Refusal
first_checked tones = first_refused is_bad bad_pair tones

-- refusal 3, "more than 16 pairs used", comes before them
unfoldable pub pairs_checked : List Tone → Result ⊤ Refusal
pairs_checked tones = cond (leb (length tones) 16) (first_checked tones) (Err TooManyPairs)

-- How a key is chosen among tones: paper 01, "Voicing (001)". The lead, the guides and the tensions are each chosen by nearness to a
-- key: the lead by the one wanted, guides ("lowest first") by 0, tensions ("highest first", below the lead) by the lead.
use Rattle.std.specs.Prelude.{cond, ◌&&◌, ◌||◌, List, [], ◌∷◌, ◌++◌, map, ℕ, zero, suc, ◌+◌, eqb, leb, ltb, length}
use Rattle.std.specs.Int.{abs_diff}
use Rattle.std.proofs.Math.Option.{Option, none, some, Option-elim}
use Rattle.intervals.specs.Sets.{has, without}
use Rattle.pool.specs.declared.pool.Tone.{Tone}

-- of so many keys from one on, up by twelves, those that are not below a lowest key and below a limit
unfoldable pub keys_from : ℕ → ℕ → ℕ → ℕ → List ℕ
keys_from lowest limit zero key = []
keys_from lowest limit (suc n) key =
    let higher = keys_from lowest limit n (key + 12) in cond (leb lowest key && ltb key limit) (key ∷ higher) higher

-- a class's keys: "48 + class, up by twelves, kept within" a range from a lowest key on and below a limit. Eighteen steps reach past every byte
unfoldable pub keys_of : ℕ → ℕ → ℕ → List ℕ
keys_of lowest limit class = keys_from lowest limit 18 (48 + class)

-- a key of a tone, and the tone's interval
pub record ToneKey : Type 0 where
  pub key : ℕ
  pub interval : ℕ

-- a key of an interval
abbrev pub tone_key : ℕ → ℕ → ToneKey
tone_key interval key = record { key = key; interval = interval }

-- from a lowest key on, below a limit
module _ (lowest limit : ℕ) where
  -- a tone's keys
  unfoldable pub keys_of_tone : Tone → List ToneKey
  keys_of_tone t = map (tone_key t.interval) (keys_of lowest limit t.class)

  -- those of some tones, in the tones' order
  unfoldable pub keys_of_tones : List Tone → List ToneKey
  keys_of_tones [] = []
  keys_of_tones (t ∷ more) = keys_of_tone t ++ keys_of_tones more

-- how far two keys are apart
abbrev pub distance : ℕ → ℕ → ℕ
distance a b = abs_diff a b

-- a key, unless a later one is nearer to the wanted: "earliest on a tie"
abbrev pub unless_nearer : ℕ → ToneKey → Option ToneKey → ToneKey
unless_nearer wanted k none = k
unless_nearer wanted k (some later) = cond (ltb (distance wanted later.key) (distance wanted k.key)) later k

-- "The nearest key .. wins"; of no keys, none
unfoldable pub nearest : ℕ → List ToneKey → Option ToneKey
nearest wanted [] = none
nearest wanted (k ∷ more) = some (unless_nearer wanted k (nearest wanted more))

-- the tones of a whole set of intervals, and the first tone of each interval of another
unfoldable pub chosen : ℕ → ℕ → List Tone → List Tone
chosen whole once [] = []
chosen whole once (t ∷ more) =
    cond (has whole t.interval || has once t.interval) (t ∷ chosen whole (without t.interval once) more) (chosen whole once more)

-- the tones of other intervals: "a placed interval leaves with all its duplicates"
unfoldable pub other_tones : ℕ → List Tone → List Tone
other_tones i [] = []
other_tones i (t ∷ more) = cond (eqb t.interval i) (other_tones i more) (t ∷ other_tones i more)

-- by nearness to a wanted key
module _ (lowest limit wanted : ℕ) where
  -- the keys that some tones are placed at in so many turns, the nearest first; where no tone has a key any more, no turn is left
  unfoldable pub placed_in : ℕ → List Tone → List ℕ
  placed_in zero tones = []
  placed_in (suc n) tones =
      Option-elim (nearest wanted (keys_of_tones lowest limit tones)) [] (λ (k : ToneKey). k.key ∷ placed_in n (other_tones k.interval tones))

  -- in as many turns as there are tones: each takes at least one away
  unfoldable pub placed : List Tone → List ℕ
  placed tones = placed_in (length tones) tones

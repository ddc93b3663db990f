-- Guides and tensions: paper 01, "Voicing (001)" ("Guides, lowest first, ignore the lead. Tensions, highest first, stay strictly below
-- it; both as in 001"; "All counts of the pool are taken after the lead has left").
use Rattle.std.specs.Prelude.{Bool, cond, List, [], ◌∷◌, ◌++◌, ℕ, ltb, length}
use Rattle.intervals.specs.Sets.{has}
use Rattle.intervals.specs.Intervals.{set_of}
use Rattle.intervals.specs.declared.interval.Interval.{Interval}
use Rattle.intervals.specs.declared.interval.Interval.TheVariants.{Unison, MinorThird, MajorThird, PerfectFourth, AugmentedFourth, DiminishedFifth, PerfectFifth, AugmentedFifth, MajorSixth, DiminishedSeventh, MinorSeventh, MajorSeventh, FlatNinth, Ninth, SharpNinth, Eleventh, SharpEleventh, FlatThirteenth, Thirteenth}
use Rattle.pool.specs.declared.pool.Tone.{Tone}
use Rattle.pool.specs.Pool.{any_tone}
use Rattle.keys.specs.Choice.{chosen, placed}

-- the pool has a tone of one of some intervals
unfoldable pub holds_any : ℕ → List Tone → Bool
holds_any set pool = any_tone (λ (t : Tone). has set t.interval) pool

-- those of 001's "has sixth or dim seventh"
unfoldable pub sixths : ℕ
sixths = set_of (MajorSixth ∷ DiminishedSeventh ∷ [])

-- that of 001's "has minor seventh"
unfoldable pub sevenths : ℕ
sevenths = set_of (MinorSeventh ∷ [])

-- the intervals whose tones are guides
unfoldable pub guides : ℕ
guides = set_of (MinorThird ∷ MajorThird ∷ PerfectFourth ∷ AugmentedFourth ∷ DiminishedFifth ∷ AugmentedFifth ∷ DiminishedSeventh ∷ MinorSeventh ∷ [])

-- the intervals whose tones are tensions
unfoldable pub tensions : ℕ
tensions = set_of (FlatNinth ∷ Ninth ∷ SharpNinth ∷ Eleventh ∷ SharpEleventh ∷ FlatThirteenth ∷ Thirteenth ∷ [])

-- the interval of which the first tone is a guide too: "If Minor seventh is present, major sixth is handled as tension; if sixth or dim7 is present
-- maj7 is handled as tension"
abbrev pub guide_once : Bool → Bool → List Interval
guide_once sixth seventh = cond sixth (cond seventh [] (MajorSixth ∷ [])) (MajorSeventh ∷ [])

-- the intervals of which the first tone is a tension too: fifths in a small pool, the root in a very small one, and the sixth or seventh that is no
-- guide
abbrev pub tension_once : Bool → Bool → ℕ → List Interval
tension_once sixth seventh count =
    cond (ltb count 6) (PerfectFifth ∷ DiminishedFifth ∷ []) []
    ++ cond (ltb count 3) (Unison ∷ []) []
    ++ cond sixth (cond seventh (MajorSixth ∷ []) (MajorSeventh ∷ [])) []

-- the tones of a pool that are guides
abbrev pub guide_tones : List Tone → List Tone
guide_tones pool = chosen guides (set_of (guide_once (holds_any sixths pool) (holds_any sevenths pool))) pool

-- the tones of a pool that are tensions
abbrev pub tension_tones : List Tone → List Tone
tension_tones pool = chosen tensions (set_of (tension_once (holds_any sixths pool) (holds_any sevenths pool) (length pool))) pool

-- the keys of the guides, lowest first: those nearest to 0
unfoldable pub guide_keys : ℕ → ℕ → List Tone → List ℕ
guide_keys lowest limit pool = placed lowest limit 0 (guide_tones pool)

-- the keys of the tensions below a lead, highest first: those nearest to it
unfoldable pub tension_keys : ℕ → ℕ → List Tone → List ℕ
tension_keys lowest lead pool = placed lowest lead lead (tension_tones pool)

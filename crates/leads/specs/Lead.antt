-- The lead: paper 01, "Voicing (001)".
use Rattle.std.specs.Prelude.{Bool, cond, ◌||◌, List, [], ◌∷◌, ℕ, eqb}
use Rattle.std.proofs.Math.Option.{Option-elim}
use Rattle.intervals.specs.Sets.{is_in, without}
use Rattle.intervals.specs.Intervals.{intervals, set_of}
use Rattle.pool.specs.declared.pool.Tone.{Tone}
use Rattle.pool.specs.Pool.{any_tone}
use Rattle.keys.specs.Choice.{keys_of, ToneKey, keys_of_tones, distance, nearest, chosen}

-- "bases 1 or 11 apart"
abbrev pub rubs : Tone → Tone → Bool
rubs t u = eqb (distance t.base u.base) 1 || eqb (distance t.base u.base) 11

-- a set of intervals without those that some tones bar, the first of them coming behind a tone: "for each tone and its successor .., bases 1 or 11
-- apart bar the successor's interval"
unfoldable pub barring : Tone → List Tone → ℕ → ℕ
barring t [] free = free
barring t (next ∷ more) free = barring next more (cond (rubs t next) (without next.interval free) free)

-- the last tone of a list that begins with one
unfoldable pub last_of : Tone → List Tone → Tone
last_of t [] = t
last_of t (next ∷ more) = last_of next more

-- the intervals that none bars, the first tone coming behind the last: "round the ring"
unfoldable pub unbarred : List Tone → ℕ
unbarred [] = set_of intervals
unbarred (t ∷ more) = barring (last_of t more) (t ∷ more) (set_of intervals)

-- a key is one of the tone's
unfoldable pub owns : ℕ → ℕ → ℕ → Tone → Bool
owns lowest limit key t = is_in key (keys_of lowest limit t.class)

-- "The last tone owning that key, barred or not, leaves the pool"
unfoldable pub without_last : ℕ → ℕ → ℕ → List Tone → List Tone
without_last lowest limit key [] = []
without_last lowest limit key (t ∷ more) =
    cond (any_tone (owns lowest limit key) more) (t ∷ without_last lowest limit key more)
    (cond (owns lowest limit key t) more (t ∷ more))

-- "The nearest key of an unbarred tone wins, earliest on a tie; none gives 0"
unfoldable pub lead_of : ℕ → ℕ → ℕ → List Tone → ℕ
lead_of lowest limit wanted pool =
    Option-elim (nearest wanted (keys_of_tones lowest limit (chosen (unbarred pool) 0 pool))) 0 (λ (k : ToneKey). k.key)

-- The pool as contracts see it: sixteen places, of which the first are its tones.
use Rattle.std.specs.Prelude.{List, ◌++◌, length, take, drop, replicate}
use Rattle.pool.specs.declared.pool.Tone.{Tone}

-- the tones of a pool, and what stands in the places behind them
pub record Held : Type 0 where
  pub tones : List Tone
  pub spare : List Tone

-- its places, those of the tones first
abbrev pub places : Held → List Tone
places pool = pool.tones ++ pool.spare

-- a place that no tone fills
abbrev pub blank : Tone
blank = record { base = 0; class = 0; interval = 0 }

-- sixteen of them
abbrev pub blanks : List Tone
blanks = replicate 16 blank

-- tones laid over a run: they stand at its front, and what stands behind them is as it was
abbrev pub laid_over : List Tone → List Tone → Held
laid_over l run = record { tones = l; spare = drop (length l) run }

-- tones as a pool: the first sixteen, and blanks behind them
unfoldable pub pool_of : List Tone → Held
pool_of l = laid_over (take 16 l) blanks

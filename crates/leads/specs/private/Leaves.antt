-- The lead and the pool that it leaves, as the code holds them.
use Rattle.std.specs.Prelude.{List, ℕ, Option, Some, None}
use Rattle.pool.specs.declared.pool.Tone.{Tone}
use Rattle.pool.specs.Held.{places, laid_over, pool_of}
use Rattle.pool.specs.Pool.{without_at}
use Rattle.leads.specs.declared.lead.Led.{Led}
use Rattle.leads.specs.Lead.{lead_of, without_last}

-- tones without the one at a place, or all of them
abbrev pub left_by : Option ℕ → List Tone → List Tone
left_by (Some place) tones = without_at place tones
left_by None tones = tones

-- the lead of an ordered pool, and the pool that it leaves: its tones, laid over those of before
unfoldable pub led_of : ℕ → ℕ → ℕ → List Tone → Led
led_of lowest limit wanted pool =
    let lead = lead_of lowest limit wanted pool in record { left = laid_over (without_last lowest limit lead pool) (places (pool_of pool)); key = lead }

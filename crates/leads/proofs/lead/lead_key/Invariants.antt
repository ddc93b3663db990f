-- The loop of `leads::lead::lead_key`: the best of what was found and of what the tones left offer is the best of all.
use Rattle.answer.proofs.Kit.{◌≡◌, List, ℕ, drop, map}
use Rattle.pool.specs.declared.pool.Tone.{Tone}
use Rattle.keys.specs.declared.nearest.Offer.{Offer}
use Rattle.keys.specs.Choice.{chosen}
use Rattle.keys.specs.private.Ranked.{nothing, nearest_of, best}
use Rattle.leads.proofs.lead.lead_key.Given as goal

-- the best offer of the tones of some intervals, or what was found before
abbrev pub best_free : ℕ → ℕ → ℕ → ℕ → Offer → List Tone → Offer
best_free lowest limit wanted free found tones = best found (map (nearest_of lowest limit wanted) (chosen free 0 tones))

abbrev pub invariant-loop-tone : goal.invariant-loop-tone
invariant-loop-tone l =
    best_free l.span.lowest l.span.limit l.wanted l.free l.found (drop l.tone-index l.tones) ≡ best_free l.span.lowest l.span.limit l.wanted l.free (nothing 0) l.tones

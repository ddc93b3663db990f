-- The loop of `voicings::guides::Present::of`: what was found, or the tones that are left, decide.
use Rattle.answer.proofs.Kit.{◌≡◌, Bool, ◌||◌, List, ℕ, drop}
use Rattle.pool.specs.declared.pool.Tone.{Tone}
use Rattle.voicings.specs.Guides.{holds_any}
use Rattle.voicings.proofs.guides.Present.of.Given as goal

-- found so far, or among the tones from a place on
abbrev pub Finds : ℕ → List Tone → ℕ → Bool → Type 0
Finds set tones i found = found || holds_any set (drop i tones) ≡ holds_any set tones

abbrev pub invariant-loop-tone : goal.invariant-loop-tone
invariant-loop-tone l = record { sixth : Finds 6144 l.tones l.tone-index l.sixth; seventh : Finds 8192 l.tones l.tone-index l.seventh }

-- The voicing of a chord: paper 01, "Voicing (001)" and "Numbers given back", and paper 02, Q-8.
use Rattle.answer.specs.declared.refusal.Refusal.{Refusal}
use Rattle.std.specs.Prelude.{cond, ◌&&◌, List, [], ◌∷◌, ◌++◌, ℕ, suc, ◌+◌, leb, Option, Some, None, Result, Ok, Err, ⊤}
use Rattle.answer.specs.Replies.{Reply, text, unless_refused}
use Rattle.answer.specs.declared.refusal.Refusal.TheVariants.{BadClass, BadRange}
use Rattle.intervals.specs.Bass.{is_bass}
use Rattle.pool.specs.declared.pool.Tone.{Tone}
use Rattle.voicings.specs.declared.voicing.Chord.{Chord}
use Rattle.pool.specs.Pool.{tones_of}
use Rattle.pool.specs.Order.{sorted}
use Rattle.pairs.specs.Checks.{pairs_checked}
use Rattle.leads.specs.Lead.{lead_of, without_last}
use Rattle.voicings.specs.Guides.{guide_keys, tension_keys}
use Rattle.voicings.specs.Range.{is_range}

-- the lead asked for: "a missing lead now means the highest key"
abbrev pub wanted_of : ℕ → Option ℕ → ℕ
wanted_of highest None = highest
wanted_of highest (Some key) = key

-- "bass + 36 and root + 48, or with no bass root + 36"
abbrev pub bass_keys : ℕ → Option ℕ → List ℕ
bass_keys root None = (root + 36) ∷ []
bass_keys root (Some bass) = (bass + 36) ∷ (root + 48) ∷ []

-- guides and tensions of the pool that a lead has left, and the lead
unfoldable pub above_bass : ℕ → ℕ → ℕ → List Tone → List ℕ
above_bass lowest limit lead left = guide_keys lowest limit left ++ tension_keys lowest lead left ++ (lead ∷ [])

-- of the pool in order of base
unfoldable pub above : ℕ → ℕ → ℕ → List Tone → List ℕ
above lowest limit wanted pool =
    let lead = lead_of lowest limit wanted pool in above_bass lowest limit lead (without_last lowest limit lead pool)

-- "Output: .. guides; tensions; lead", the pool ordered by base and the keys "kept within" the chord's lowest and highest
unfoldable pub voicing_of : Chord → List ℕ → List ℕ → List ℕ
voicing_of chord classes intervals =
    bass_keys chord.root chord.bass
    ++ above chord.lowest (suc chord.highest) (wanted_of chord.highest chord.lead) (sorted (tones_of classes intervals))

-- refusals 2 and 16, "after 2 and before 3"
abbrev pub chord_checked : Chord → Result ⊤ Refusal
chord_checked chord =
    cond (leb chord.root 11 && is_bass chord.bass) (cond (is_range chord.lowest chord.highest) (Ok tt) (Err BadRange)) (Err BadClass)

-- what a call has to give: the refusals of the record, those of the pairs, or the voicing
unfoldable pub voicing_reply : Chord → List ℕ → List ℕ → Reply
voicing_reply chord classes intervals =
    unless_refused (chord_checked chord) (unless_refused (pairs_checked (tones_of classes intervals)) (text (voicing_of chord classes intervals)))

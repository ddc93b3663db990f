-- `voicings::guides::Present::of` meets its contract: what was found, or the tones that are left, decide.
use Rattle.answer.proofs.Kit.{◌≡◌, refl, sym, ap, ◌∙◌, Bool, ◌||◌, or_assoc, or-false, List, ℕ, ◌+◌, ◌≤◌, ◌<◌, arith, length, get_or, drop}
use Rattle.std.proofs.lemmas.List.{drop_more}
use lib.ListN.{drop_of_length-le}
use Rattle.intervals.specs.Sets.{has}
use Rattle.intervals.specs.Intervals.{set_of}
use Rattle.pool.specs.declared.pool.Tone.{Tone}
use Rattle.pool.specs.Pool.{any_tone}
use Rattle.voicings.specs.Guides.{holds_any, sixths, sevenths}
use Rattle.voicings.proofs.guides.Present.of.Invariants.{Finds}
use Rattle.voicings.proofs.guides.Present.of.Goals as goal

module _ (set : ℕ) (tones : List Tone) (i : ℕ) (found : Bool) (inv : Finds set tones i found) where
  -- one tone more
  turn : (d : Tone) (r : Bool) → r ≡ has set (get_or tones i d).interval → i < length tones → Finds set tones (i + 1) (found || r)
  unfolding holds_any any_tone
  turn d r e less =
      or_assoc found r (holds_any set (drop (i + 1) tones))
      ∙ ap (λ (b : Bool). found || b) (ap (λ (b : Bool). b || holds_any set (drop (i + 1) tones)) e ∙ sym (ap (holds_any set) (drop_more tones i d less)))
      ∙ inv

  all : length tones ≤ i → found ≡ holds_any set tones
  unfolding holds_any any_tone
  all end = sym (ap (λ (l : List Tone). found || holds_any set l) (drop_of_length-le tones end) ∙ or-false found) ∙ inv

pub loop-tone-init : goal.loop-tone-init
loop-tone-init c = record { sixth = refl; seventh = refl }

pub loop-tone-preserved : goal.loop-tone-preserved
loop-tone-preserved c = let l = c.loop-tone in
    let tones = c.args.tones.now in
    record {
      sixth = turn 6144 tones l.tone-index l.sixth l.invariant.sixth _ c.in_set-sixth.result c.in_set-sixth.ensures (omega arith);
      seventh = turn 8192 tones l.tone-index l.seventh l.invariant.seventh _ c.in_set-seventh.result c.in_set-seventh.ensures (omega arith);
    }

pub returns-clause-sixth : goal.returns-clause-sixth
unfolding sixths set_of
returns-clause-sixth c = let l = c.loop-tone in all 6144 c.args.tones.now l.tone-index l.sixth l.invariant.sixth (omega arith)

pub returns-clause-seventh : goal.returns-clause-seventh
unfolding sevenths set_of
returns-clause-seventh c = let l = c.loop-tone in all 8192 c.args.tones.now l.tone-index l.seventh l.invariant.seventh (omega arith)

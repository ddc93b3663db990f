-- `voicings::voicing::voicing` meets its contract: the tests say what the call has to give, and `give` gives it.
use Rattle.answer.proofs.Kit.{◌≡◌, sym, ap, ap₂, subst, ◌∙◌, List, ◌++◌, ℕ, suc, ◌+◌, ◌≤◌, add-one, length, take, take_all, Ok, Err, Option, Some, None, refl, rules}
use Rattle.std.specs.Option.{unwrap_or}
use Rattle.answer.specs.Replies.{Reply, text, Answered}
use Rattle.answer.proofs.Rooms.{refused_by}
use Rattle.pool.specs.declared.pool.Tone.{Tone}
use Rattle.pool.specs.Pool.{tones_of}
use Rattle.pool.specs.Order.{sorted}
use Rattle.leads.specs.declared.lead.Led.{Led}
use Rattle.leads.specs.private.Leaves.{led_of}
use Rattle.voicings.specs.declared.voicing.Chord.{Chord}
use Rattle.voicings.specs.Voicing.{wanted_of, bass_keys, above_bass, above, voicing_of, chord_checked}
use Rattle.pairs.specs.Checks.{pairs_checked}
use Rattle.pairs.proofs.FirstBad.{Says, checked_says}
use Rattle.voicings.proofs.Replied.{chord_refused, pairs_refused, gives_voicing}
use Rattle.voicings.proofs.voicing.voicing.Goals as goal

lead_or : (highest : ℕ) (lead : Option ℕ) → unwrap_or lead highest ≡ wanted_of highest lead
lead_or highest None = refl
lead_or highest (Some key) = refl

pub returns-in_err-check_chord : goal.returns-in_err-check_chord
returns-in_err-check_chord c =
    let refused : c.from_residual.result ≡ Err (c.in_err-check_chord.field-0.0) = search rules in
    rw refused (refused_by _ _ _ (chord_refused c.args.chord _ _ _ (sym c.check_chord.ensures ∙ c.in_err-check_chord.was)))

pub returns-in_err-check_pairs : goal.returns-in_err-check_pairs
returns-in_err-check_pairs c =
    let refused : c.from_residual-in_err-check_pairs.result ≡ Err (c.in_err-check_pairs.field-0.0) = search rules in
    let good : chord_checked c.args.chord ≡ Ok tt = sym c.check_chord.ensures ∙ c.in_ok-check_chord.was in
    rw refused (refused_by _ _ _ (pairs_refused c.args.chord _ _ good _ (sym c.check_pairs.ensures ∙ c.in_err-check_pairs.was)))

-- what is added to the bass keys, the lead and the pool that it leaves, is what stands above them
module _ (chord : Chord) (tones : List Tone) (few : length tones ≤ 16) (wanted : ℕ) (told : wanted ≡ wanted_of chord.highest chord.lead) (led : Led)
    (led-is : led ≡ led_of chord.lowest (chord.highest + 1) wanted (sorted (take 16 tones))) where
  above_is : above_bass chord.lowest (chord.highest + 1) led.key led.left.tones ≡ above chord.lowest (suc chord.highest) (wanted_of chord.highest chord.lead) (sorted tones)
  unfolding led_of above
  above_is =
      ap (λ (x : Led). above_bass chord.lowest (chord.highest + 1) x.key x.left.tones) led-is
      ∙ ap₂ (λ (w : ℕ) (l : List Tone). above chord.lowest (chord.highest + 1) w (sorted l)) told (take_all 16 tones few)
      ∙ rw add-one

pub returns : goal.returns
unfolding voicing_of
returns c =
    let chord = c.args.chord in
    let tones = tones_of c.args.pairs.classes.now c.args.pairs.intervals.now in
    let good : chord_checked chord ≡ Ok tt = sym c.check_chord.ensures ∙ c.in_ok-check_chord.was in
    let good_pairs : pairs_checked tones ≡ Ok tt = sym c.check_pairs.ensures ∙ c.in_ok-check_pairs.was in
    let few : length tones ≤ 16 = (subst (Says tones) good_pairs (checked_says tones)).0 in
    let wanted : c.unwrap_or.result ≡ wanted_of chord.highest chord.lead = c.unwrap_or.ensures ∙ lead_or chord.highest chord.lead in
    let keys : c.push_above.new.keys ≡ voicing_of chord c.args.pairs.classes.now c.args.pairs.intervals.now =
    c.push_above.ensures
    ∙ ap₂ ◌++◌ (c.push_bass.ensures ∙ ap (λ (x : List ℕ). x ++ bass_keys chord.root chord.bass) c.new-keys.ensures) (above_is chord tones few _ wanted _ c.nearest_lead-led.ensures) in
    let reply = ap text keys ∙ sym (gives_voicing chord c.args.pairs.classes.now c.args.pairs.intervals.now good good_pairs) in
    subst (λ (x : Reply). Answered x c.args.out.now c.give.result c.give.new.out) reply c.give.ensures

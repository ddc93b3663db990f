-- Theorem on the room of a voicing.
--     voicing_room_lem  two bass keys, sixteen guides, sixteen tensions and the lead: what the header says is enough
use Rattle.answer.proofs.Kit.{List, ◌++◌, ℕ, ◌≤◌, arith, length, length-append}
use Rattle.answer.specs.Replies.{NotForRoom, AtMost}
use Rattle.pool.specs.declared.pool.Tone.{Tone}
use Rattle.pool.specs.Pool.{tones_of}
use Rattle.pool.specs.Order.{sorted}
use Rattle.pairs.proofs.FirstBad.{by_why}
use Rattle.pool.proofs.Sorted.{sorted_length}
use Rattle.leads.specs.Lead.{lead_of, without_last}
use Rattle.leads.proofs.Led.{fewer}
use Rattle.voicings.specs.declared.voicing.Chord.{Chord}
use Rattle.voicings.specs.Voicing.{bass_keys, above_bass, above, voicing_of, voicing_reply}
use Rattle.voicings.proofs.Few.{few_guides, few_tensions}
use Rattle.voicings.proofs.Replied.{by_reply, few_bass}

few_above : (lowest limit lead : ℕ) (left : List Tone) → length left ≤ 16 → length (above_bass lowest limit lead left) ≤ 33
unfolding above_bass
few_above lowest limit lead left sixteen = simp length-append (omega (arith, few_guides lowest limit left, few_tensions lowest lead left))

-- of any keys below and any pool above
few_keys : (bass : List ℕ) (lowest limit wanted : ℕ) (pool : List Tone) → length bass ≤ 2 → length pool ≤ 16 → length (bass ++ above lowest limit wanted pool) ≤ 35
unfolding above
few_keys bass lowest limit wanted pool two sixteen =
    let lead = lead_of lowest limit wanted pool in
    let left : length (without_last lowest limit lead pool) ≤ 16 = omega (arith, fewer lowest limit lead pool) in
    let rest : length (above lowest limit wanted pool) ≤ 33 = few_above lowest limit lead (without_last lowest limit lead pool) left in
    simp length-append (omega arith)

module _ (chord : Chord) (classes intervals : List ℕ) where
  few_in_all : length (tones_of classes intervals) ≤ 16 → length (voicing_of chord classes intervals) ≤ 35
  unfolding voicing_of
  few_in_all h =
      let tones : length (sorted (tones_of classes intervals)) ≤ 16 = omega (arith, sorted_length (tones_of classes intervals)) in
      few_keys (bass_keys chord.root chord.bass) _ _ _ _ (few_bass chord.root chord.bass) tones

  pub voicing_room_lem : AtMost 35 (voicing_reply chord classes intervals)
  voicing_room_lem = by_reply chord classes intervals (AtMost 35) tt tt (by_why (tones_of classes intervals) NotForRoom (λ many. tt) (λ place bad. tt) (λ place bad. tt)) few_in_all

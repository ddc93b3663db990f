-- `leads::lead::lead_key` meets its contract: by the turns of a search for the best offer.
use Rattle.answer.proofs.Kit.{◌≡◌, refl, sym, ap, ◌∙◌, Bool, true, false, cond, ◌&&◌, List, ◌∷◌, map, ℕ, ◌+◌, arith, ltb, get_or, drop}
use mathlib.Core.Option.{Option, none, some, Option-elim}
use Rattle.intervals.specs.Sets.{has}
use Rattle.pool.specs.declared.pool.Tone.{Tone}
use Rattle.keys.specs.declared.nearest.Offer.{Offer}
use Rattle.keys.specs.Choice.{ToneKey, keys_of_tones, nearest, chosen}
use Rattle.keys.specs.private.Ranked.{offered, nearest_of, best}
use Rattle.leads.specs.Lead.{lead_of}
use Rattle.keys.proofs.Among.{chosen_next}
use Rattle.keys.proofs.Best.{search_turn, found_near}
use Rattle.std.proofs.lemmas.List.{drop_more}
use lib.ListN.{drop_of_length-le}
use Rattle.leads.proofs.lead.lead_key.Goals as goal
use Rattle.leads.proofs.lead.lead_key.Goals.{then-offer-found, else-offer-found}
use Rattle.leads.proofs.lead.lead_key.Invariants.{best_free}

-- what a tone offers stands before the others' where its interval is free
module _ (near : Tone → Offer) (free : ℕ) where
  abbrev offered_by : List Tone → List Offer
  offered_by tones = map near (chosen free 0 tones)

  chosen_free : (t : Tone) (l : List Tone) → offered_by (t ∷ l) ≡ cond (has free t.interval) (near t ∷ offered_by l) (offered_by l)
  chosen_free t l = ap (map near) (chosen_next free t l) ∙ by_member (has free t.interval)
    where
      by_member : (m : Bool) → map near (cond m (t ∷ chosen free 0 l) (chosen free 0 l)) ≡ cond m (near t ∷ offered_by l) (offered_by l)
      by_member true = refl
      by_member false = refl

  -- it is found where it ranks less, too
  turn : (t : Tone) (l : List Tone) (found : Offer) (less member : Bool) → ltb (near t).rank found.rank ≡ less → has free t.interval ≡ member
      → best (cond (less && member) (near t) found) (offered_by l) ≡ best found (offered_by (t ∷ l))
  turn t l found less member e f =
      search_turn (near t) found (offered_by l) less member e
      ∙ sym (ap (best found) (chosen_free t l) ∙ ap (λ (b : Bool). best found (cond b (near t ∷ offered_by l) (offered_by l))) f)

-- the key of what is found, or 0
key_of : (wanted : ℕ) (o : Option ToneKey) → (offered wanted 0 o).key ≡ Option-elim o 0 (λ (k : ToneKey). k.key)
unfolding Option-elim
key_of wanted none = refl
key_of wanted (some k) = refl

pub loop-tone-init : goal.loop-tone-init
loop-tone-init c = rw c.nothing-found.ensures

pub loop-tone-preserved : goal.loop-tone-preserved
loop-tone-preserved c =
    let near = c.nearest-offer in
    let l = c.loop-tone in
    let a = c.args in
    let free = c.unbarred-free.result in
    let tones = a.tones.now in
    let tone = get_or tones l.tone-index record { base = 0; class = 0; interval = 0 } in
    let best_of = best_free a.span.lowest a.span.limit a.wanted free in
    let less = ap (λ (o : Offer). ltb o.rank l.found.rank) near.ensures in
    let found = turn (nearest_of a.span.lowest a.span.limit a.wanted) free tone (drop (l.tone-index + 1) tones) l.found (ltb near.result.rank l.found.rank) c.in_set.result (sym less) (sym c.in_set.ensures)
    ∙ ap (best_of l.found) (sym (drop_more tones l.tone-index _ (omega arith))) ∙ l.invariant in
    elim c.if-offer-found.branch [
      | then-offer-found w ↦ rw (w.found-is ∙ near.ensures) (rw w.if-offer-found.true at found)
      | else-offer-found w ↦ rw w.found-is (rw w.if-offer-found.false at found)
    ]

pub returns : goal.returns
unfolding lead_of best chosen
returns c = let l = c.loop-tone in
    let a = c.args in
    let tones = a.tones.now in
    let free = c.unbarred-free.result in
    let over = ap (best_free a.span.lowest a.span.limit a.wanted free l.found) (sym (drop_of_length-le tones (omega arith))) ∙ l.invariant in
    ap (λ (o : Offer). o.key) (over ∙ found_near a.span.lowest a.span.limit a.wanted (omega arith) (omega arith) (chosen free 0 tones))
    ∙ key_of a.wanted (nearest a.wanted (keys_of_tones a.span.lowest a.span.limit (chosen free 0 tones)))
    ∙ ap (λ (set : ℕ). Option-elim (nearest a.wanted (keys_of_tones a.span.lowest a.span.limit (chosen set 0 tones))) 0 (λ (k : ToneKey). k.key)) c.unbarred-free.ensures

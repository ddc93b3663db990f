-- `keys::nearest::nearest` meets its contract: a climb over the tone's keys.
use Rattle.answer.proofs.Kit.{sym, ap, subst, ◌∙◌, ◌⊎◌, ℕ, ◌+◌, ◌-◌, ◌*◌, ◌≤◌, ◌<◌, arith}
use Rattle.keys.specs.Choice.{keys_of, tone_key, keys_of_tone}
use Rattle.keys.specs.private.Ranked.{first_key, ranked, offered, nearest_of}
use Rattle.keys.proofs.Climb.{reached, no_key}
use Rattle.keys.proofs.nearest.nearest.Goals as goal

pub returns-then-first-from : goal.returns-then-first-from
unfolding nearest_of keys_of_tone keys_of
returns-then-first-from c = let a = c.args in
    let high : a.span.limit ≤ first_key a.span.lowest a.tone.class = rw (← c.first_key-first.ensures, ← c.from.ensures) c.if-first-from.true in
    c.nothing.ensures ∙ sym (ap (offered a.wanted a.tone.interval) (no_key a.span.lowest a.span.limit a.wanted a.tone.interval a.tone.class high))

pub octaves-requires : goal.octaves-requires
octaves-requires c = omega (arith, c.from.ensures)

pub overflow_mul-key : goal.overflow_mul-key
overflow_mul-key c = omega (arith, c.octaves.ensures.0)

pub overflow_add-key : goal.overflow_add-key
overflow_add-key c = omega (arith, c.octaves.ensures.0)

pub overflow_cast-key : goal.overflow_cast-key
overflow_cast-key c = omega (arith, c.octaves.ensures.0)

pub returns : goal.returns
unfolding nearest_of keys_of_tone keys_of
returns c = let o = c.octaves in
    let f = c.first_key-first in
    let a = c.args in
    let n = o.result in
    let w = a.wanted in
    let l = a.span.limit in
    let top = subst (λ (k : ℕ). k + 12 * n < l) f.ensures o.ensures.0 in
    let up = subst (λ (k : ℕ). 12 * n ≤ w - k + 5) f.ensures o.ensures.1 in
    let end = subst (λ (k : ℕ). (l ≤ k + 12 * n + 12) ⊎ (w ≤ k + 12 * n + 6)) f.ensures o.ensures.2 in
    rw c.distance.ensures
    (ap (λ (k : ℕ). ranked w (tone_key a.tone.interval (k + 12 * n))) f.ensures
    ∙ sym (ap (offered w a.tone.interval) (reached a.span.lowest l w a.tone.interval a.tone.class (omega arith) n top up end)))

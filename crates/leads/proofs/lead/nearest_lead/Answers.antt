-- `leads::lead::nearest_lead` meets its contract: the lead of the ordered pool, and what it leaves.
use Rattle.answer.proofs.Kit.{◌≡◌, sym, ap, ap₂, ◌∙◌, List, ℕ, take}
use Rattle.pool.specs.declared.pool.Tone.{Tone}
use Rattle.pool.specs.Held.{Held, places, laid_over, pool_of}
use Rattle.pool.specs.Pool.{tones_of}
use Rattle.pool.specs.Order.{sorted}
use Rattle.pool.proofs.Laid.{whole, ordered_tones}
use Rattle.leads.specs.declared.lead.Led.{Led}
use Rattle.leads.specs.Lead.{without_last, lead_of}
use Rattle.leads.specs.private.Leaves.{left_by, led_of}
use Rattle.leads.proofs.lead.nearest_lead.Goals as goal
use Rattle.leads.proofs.lead.nearest_lead.Goals.{in-Some, in_default}

led : (lowest limit wanted key : ℕ) (l : List Tone) (pool left : Held) → pool ≡ pool_of (sorted (take 16 l)) → key ≡ lead_of lowest limit wanted pool.tones
    → left ≡ laid_over (without_last lowest limit key pool.tones) (places pool) → ◌≡◌ {A = Led} record { left = left; key = key } (led_of lowest limit wanted (sorted (take 16 l)))
unfolding led_of
led lowest limit wanted key l pool left e k f =
    let tones : pool.tones ≡ sorted (take 16 l) = ap (λ (p : Held). p.tones) e ∙ ordered_tones l in
    ap (λ (p : Held). record { left = p; key = key }) (f ∙ ap (λ (p : Held). laid_over (without_last lowest limit key pool.tones) (places p)) e)
    ∙ ap₂ (λ (x : ℕ) (t : List Tone). record { left = laid_over (without_last lowest limit x t) (places (pool_of (sorted (take 16 l)))); key = x }) (k ∙ ap (lead_of lowest limit wanted) tones) tones

pub returns : goal.returns
returns c =
    let a = c.args in
    let pool = c.ordered_pool-left.result in
    let key = c.lead_key-key.ensures ∙ ap (lead_of a.span.lowest a.span.limit a.wanted) c.tones.ensures.tones in
    let owner = rw c.tones-2.ensures.tones at c.last_owner.ensures in
    let left : c.match-last_owner.left ≡ laid_over (left_by c.last_owner.result pool.tones) (places pool) =
    elim c.match-last_owner.branch [
      | in-Some w ↦ w.left-is ∙ w.remove.ensures ∙ sym (ap (λ r. laid_over (left_by r pool.tones) (places pool)) w.in-Some.is)
      | in_default w ↦ w.left-is ∙ whole pool ∙ sym (ap (λ r. laid_over (left_by r pool.tones) (places pool)) w.in_default.is)
    ] in
    led a.span.lowest a.span.limit a.wanted _ (tones_of a.pairs.classes.now a.pairs.intervals.now) pool _ c.ordered_pool-left.ensures key (left ∙ sym (ap (λ (l : List Tone). laid_over l (places pool)) owner))

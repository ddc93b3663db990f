-- `candidates::keys::seen_from` meets its contract. The loop's invariant: what has been seen is the set's classes below `k`.
use Rattle.answer.proofs.Kit.{◌≡◌, refl, ap, ap₂, ◌∙◌, ℕ, ◌+◌, ◌*◌, ◌/◌, ◌%◌, ◌^◌, ◌<◌, ◌≤◌, lt_of_lt_of_le, arith, pow_mono}
use Rattle.intervals.specs.Sets.{set_below, set_where}
use Rattle.intervals.proofs.Wheres.{below_less}
use Rattle.candidates.specs.Keys.{seen_from}
use Rattle.candidates.proofs.Turned.{seen_below, seen_next}
use Rattle.candidates.proofs.keys.seen_from.Goals as goal

-- a turn's sum
module _ (root s seen k class : ℕ) (h : k < 12) (e : seen ≡ seen_below k root s) (is : class ≡ (root + k) % 12) where
  next : seen + s / 2 ^ class % 2 * 2 ^ k % 2 ^ 32 ≡ seen_below (k + 1) root s
  next = ap₂ (λ (x c : ℕ). x + s / 2 ^ c % 2 * 2 ^ k % 2 ^ 32) e is ∙ seen_next root s k h

  small : seen + s / 2 ^ class % 2 * 2 ^ k % 2 ^ 32 < 2 ^ 12
  small =
      let most : k + 1 ≤ 12 = omega arith in
      rw next (lt_of_lt_of_le (below_less (k + 1) _) (pow_mono most))

pub loop-k-init : goal.loop-k-init
unfolding set_below
loop-k-init c = refl

pub overflow_shr-seen : goal.overflow_shr-seen
overflow_shr-seen c = omega (arith, c.in_octave.ensures)

pub overflow_add-seen : goal.overflow_add-seen
overflow_add-seen c = record { fits = omega (arith, small _ _ _ _ _ (omega arith) c.loop-k.invariant c.in_octave.ensures) }

pub loop-k-preserved : goal.loop-k-preserved
loop-k-preserved c = next _ _ _ _ _ (omega arith) c.loop-k.invariant c.in_octave.ensures

pub returns : goal.returns
unfolding seen_from set_where
returns c = let h = c.loop-k in
    let end : h.k ≡ 12 = omega arith in
    h.invariant ∙ ap (λ (k : ℕ). seen_below k c.args.root c.args.set) end

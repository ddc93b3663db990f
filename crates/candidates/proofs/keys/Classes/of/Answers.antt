-- `candidates::keys::Classes::of` meets its contract. The loop's invariant: what the contract says, of the keys before this one.
use Rattle.answer.proofs.Kit.{◌≡◌, ap, subst, ◌∙◌, false, List, ℕ, ◌<◌, arith, length, take, get_or, take-length}
use Rattle.intervals.specs.Sets.{has}
use Rattle.intervals.proofs.Members.{present, missing}
use Rattle.intervals.proofs.Width.{bit_held}
use Rattle.candidates.specs.Keys.{key_class}
use Rattle.candidates.proofs.Firsts.{Finds, none_found, found_old, less, room, found_new, found_listed}
use Rattle.candidates.proofs.keys.Classes.of.Goals as goal
use Rattle.candidates.proofs.keys.Classes.of.Goals.{After-loop-key, Then-set-class-eq0, then-set-class-eq0, else-set-class-eq0}

-- a class that has not occurred
module _ (c : Then-set-class-eq0) where
  absent : has c.loop-key.set (key_class (get_or c.args.keys.now c.loop-key.key-index 0)) ≡ false
  absent = missing _ _ c.if-set-class-eq0.true

  free : c.loop-key.count < 12
  free = room _ _ _ _ _ (omega arith) c.loop-key.invariant absent

-- behind the last key
all_found : (c : After-loop-key) → Finds c.args.keys.now c.loop-key.order c.loop-key.set c.loop-key.count
all_found c =
    let end : c.loop-key.key-index ≡ length c.args.keys.now = omega arith in
    let all = ap (λ (n : ℕ). take n c.args.keys.now) end ∙ take-length c.args.keys.now in
    subst (λ (l : List ℕ). Finds l c.loop-key.order c.loop-key.set c.loop-key.count) all c.loop-key.invariant

pub loop-key-init : goal.loop-key-init
loop-key-init c = none_found

pub bounds-order-count : goal.bounds-order-count
bounds-order-count c = free (goal.at.bounds-order-count c).Then-set-class-eq0

pub overflow_add-count : goal.overflow_add-count
overflow_add-count c = omega (arith, free (goal.at.overflow_add-count c).Then-set-class-eq0)

pub overflow_add-set : goal.overflow_add-set
overflow_add-set c =
    let small = less _ _ _ _ _ (omega arith) c.loop-key.invariant (absent (goal.at.overflow_add-set c).Then-set-class-eq0) in
    rw (bit_held (key_class (get_or c.args.keys.now c.loop-key.key-index 0)) (omega arith)) (record { fits = omega (arith, small) })

pub loop-key-preserved : goal.loop-key-preserved
loop-key-preserved c = let h = c.loop-key in
    let key = get_or c.args.keys.now h.key-index 0 in
    elim c.if-set-class-eq0.branch [
      | then-set-class-eq0 w ↦
          rw (w.order-is, w.set-is, w.count-is, bit_held (key_class key) (omega arith))
          (found_new _ _ _ _ _ (omega arith) h.invariant (missing _ _ w.if-set-class-eq0.true))
      | else-set-class-eq0 w ↦
          rw (w.order-is, w.set-is, w.count-is) (found_old _ _ _ _ _ (omega arith) h.invariant (present _ _ w.if-set-class-eq0.false))
    ]

pub invariant_of-result : goal.invariant_of-result
invariant_of-result c = found_listed (all_found c)

pub returns : goal.returns
returns c = (all_found (goal.at.returns c).After-loop-key).classes

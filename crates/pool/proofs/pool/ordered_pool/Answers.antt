-- `pool::pool::ordered_pool` meets its contract: as many pairs as fit become tones.
use Rattle.answer.proofs.Kit.{◌≡◌, refl, sym, ap, ◌∙◌, List, ◌++◌, ℕ, arith, length, length-append, min, take, drop, take_all, take_at, drop_at, length-take-le, length-set, dec_le, ◌≤◌}
use Rattle.pool.specs.declared.pool.Tone.{Tone}
use Rattle.pool.specs.Held.{blanks}
use Rattle.pool.specs.Pool.{tones_of}
use Rattle.pool.specs.Order.{sorted}
use Rattle.pool.proofs.Sorted.{sorted_length}
use Rattle.pool.proofs.Gathered.{used_tones, one_more}
use Rattle.pool.proofs.Laid.{laid, pooled, fewer}
use Rattle.pool.proofs.pool.ordered_pool.Goals as goal

pub bounds-pairs-i : goal.bounds-pairs-i
bounds-pairs-i c = omega (arith, used_tones c.args.pairs.classes.now c.args.pairs.intervals.now)

pub bounds-pairs-i-in-loop-i : goal.bounds-pairs-i-in-loop-i
bounds-pairs-i-in-loop-i c = omega (arith, used_tones c.args.pairs.classes.now c.args.pairs.intervals.now)

pub loop-i-init : goal.loop-i-init
loop-i-init c = (refl, refl, refl)

pub loop-i-preserved : goal.loop-i-preserved
loop-i-preserved c = let l = c.loop-i in (
  simp length-set l.invariant.0,
  fewer l.tones blanks l.i _ l.invariant.1,
  rw c.new.ensures (one_more c.args.pairs.classes.now c.args.pairs.intervals.now l.tones l.i (omega arith) (omega arith) l.invariant.2),
)

-- the first sixteen, or all
few : (n : ℕ) (l : List Tone) → n ≡ min (length l) 16 → take n l ≡ take 16 l
few n l e = by_order (dec_le (length l) 16)
  where
    by_order : Dec (length l ≤ 16) → take n l ≡ take 16 l
    by_order (yes h) = take_all n l (omega arith) ∙ sym (take_all 16 l h)
    by_order (no h) = ap (λ (k : ℕ). take k l) (let most : n ≡ 16 = omega arith in most)

pub returns : goal.returns
returns c = let l = c.loop-i in
    let n = c.min-count.result in
    let tones = c.order.new.tones in
    let size : length tones ≡ n = ap length c.order.ensures ∙ sorted_length _ ∙ length-take-le n l.tones (omega (arith, l.invariant.0)) in
    let end : n ≡ l.i = omega arith in
    let all : tones ≡ sorted (take 16 (tones_of c.args.pairs.classes.now c.args.pairs.intervals.now)) =
    c.order.ensures
    ∙ ap sorted (ap (λ (k : ℕ). take k l.tones) end ∙ l.invariant.2 ∙ few l.i (tones_of c.args.pairs.classes.now c.args.pairs.intervals.now) (omega arith)) in
    let spare : drop n l.tones ≡ drop n blanks = ap (λ (k : ℕ). drop k l.tones) end ∙ l.invariant.1 ∙ ap (λ (k : ℕ). drop k blanks) (sym end) in
    laid (tones ++ drop n l.tones) blanks _ n (simp length-append (omega arith)) (take_at tones (drop n l.tones) n size ∙ all) (drop_at tones (drop n l.tones) n size ∙ spare)
    ∙ pooled _ (omega (arith, size, ap length all))

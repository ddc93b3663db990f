-- `leads::lead::barring` meets its contract: by whether the two rub, and whether the interval was free.
use Rattle.answer.proofs.Kit.{◌≡◌, sym, ap, ◌∙◌, Bool, true, false, cond, ◌&&◌, ℕ, ◌-◌, ◌*◌, ◌%◌, ◌^◌, ◌≤◌, ◌<◌, mod-eq_of_lt, arith, rules}
use mir.Val.{bool_byte}
use Rattle.intervals.specs.Sets.{has, without}
use Rattle.intervals.proofs.Members.{bit_least}
use Rattle.intervals.proofs.Width.{within, bit_held}
use Rattle.leads.proofs.lead.barring.Goals as goal

-- the bit that goes, as the code shifts it
abbrev bit_out : Bool → ℕ → ℕ
bit_out b k = bool_byte b * 2 ^ (k % 32) % 2 ^ 32

module _ (free k : ℕ) (small : free < 2 ^ 32) where
  shifted : has free k ≡ true → bit_out true k ≡ 2 ^ k
  shifted member = ap (λ (j : ℕ). 1 * 2 ^ j % 2 ^ 32) (mod-eq_of_lt (within free k small member)) ∙ bit_held k (within free k small member)

  nothing_out : bit_out false k ≡ 0
  nothing_out = omega arith

  out_least : (b : Bool) → (m : Bool) → has free k ≡ m → bit_out (b && m) k ≤ free
  out_least true true e = rw (shifted e) (bit_least free k e)
  out_least true false e = omega arith
  out_least false m e = omega arith

  barred : (b m : Bool) → has free k ≡ m → free - bit_out (b && m) k ≡ cond b (without k free) free
  unfolding without
  barred true true e = ap (λ (x : ℕ). free - x) (shifted e) ∙ sym (rw e)
  barred true false e = rw e (omega arith)
  barred false m e = omega arith

pub overflow_sub-result : goal.overflow_sub-result
overflow_sub-result c = rw c.from.ensures (out_least c.args.free c.args.next.interval (search rules) c.rubs.result c.in_set.result (sym c.in_set.ensures))

pub returns : goal.returns
returns c =
    rw c.from.ensures (barred c.args.free c.args.next.interval (search rules) c.rubs.result c.in_set.result (sym c.in_set.ensures))
    ∙ ap (λ (b : Bool). cond b (without c.args.next.interval c.args.free) c.args.free) c.rubs.ensures

-- `descriptors::members::Members::next` meets its contract: the lowest bit is the first interval's.
use Rattle.answer.proofs.Kit.{◌≡◌, sym, ap, ◌∙◌, List, ◌∷◌, ℕ, ◌*◌, ◌-◌, ◌%◌, ◌^◌, ◌<◌, arith, rules, length, count_trailing_zeros, Option, Some, None, ⊤}
use Rattle.std.specs.Iterator.{MakesProgress, item_count, YieldsFirst}
use Rattle.intervals.specs.Intervals.{numbered}
use Rattle.intervals.specs.declared.interval.Interval.{Interval}
use Rattle.rules.specs.Classes.{intervals_in}
use Rattle.rules.proofs.First.{lowest_of, bit, bit_within, none_in}
use Rattle.descriptors.proofs.members.MembersIterator.next.Goals as goal

module _ (left : ℕ) (some : left ≡ 0 → ⊥) (small : left < 2 ^ 23) where
  abbrev behind : ℕ
  behind = left - (1 * 2 ^ count_trailing_zeros 32 left) % 2 ^ 32

  splits : intervals_in left ≡ (lowest_of left some small).first ∷ intervals_in behind
  splits = (lowest_of left some small).rest ∙ ap (λ (n : ℕ). (lowest_of left some small).first ∷ intervals_in (left - n)) (sym (bit left some small))

-- an interval less is left
progress : (r : Option Interval) {s t : List Interval} → YieldsFirst (λ m. m) s r t → MakesProgress (λ m. ⊤) (item_count (λ (m : List Interval). m)) s r t
progress (Some first) e = record { on = λ _. (tt, tt, rw e (omega arith)); keeps = tt; rests = λ _. tt }
progress None e = record { on = λ _. tt; keeps = tt; rests = λ _. tt }

pub returns-then-self-eq0-clause-steps : goal.returns-then-self-eq0-clause-steps
returns-then-self-eq0-clause-steps c = let e = sym c.self.view_is ∙ ap intervals_in c.if-self-eq0.true ∙ none_in in (e, e)

pub overflow_sub-self : goal.overflow_sub-self
overflow_sub-self c = bit_within c.self.inside.left c.if-self-eq0.false c.self.invariant

pub returns-clause-steps : goal.returns-clause-steps
returns-clause-steps c =
    rw (c.from_number.ensures, (lowest_of c.self.inside.left c.if-self-eq0.false c.self.invariant).there, ← c.self.view_is)
    (splits c.self.inside.left c.if-self-eq0.false c.self.invariant)

pub returns-clause-goes : goal.returns-clause-goes
returns-clause-goes c = progress c.from_number.result (returns-clause-steps c)

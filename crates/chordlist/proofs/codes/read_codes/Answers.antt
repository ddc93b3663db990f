-- `chordlist::codes::read_codes` meets its contract: std's parts of the line are those that `codes_in` speaks of.
use Rattle.answer.proofs.Kit.{◌≡◌, refl, sym, ap, ◌∙◌, List, [], ◌∷◌, ℕ, ◌<◌, eqb, eqb-true, eqb-false, arith, length, length-append, get_or, Some}
use Rattle.std.proofs.Common.{rules, tests}
use Rattle.std.proofs.lemmas.Iterator.Splits.{YieldsList-from_slice_split}
use Rattle.std.proofs.lemmas.Iterator.Consumers.{YieldsList-turn, YieldsList-end}
use Rattle.std.specs.Slice.Iter.{split_rest, split_done, split_callee}
use Rattle.chordlist.specs.private.Calls.{code_in}
use Rattle.chordlist.specs.Codes.{space, codes_in}
use Rattle.chordlist.proofs.Reading.{split, codes_split, start, next, room, lost, read}
use Rattle.chordlist.proofs.codes.read_codes.Goals as goal
use Rattle.chordlist.proofs.codes.read_codes.Goals.{In-Some}

none : (line : List ℕ) → length line ≡ 0 → codes_in line ≡ Some []
unfolding codes_in
none [] e = refl
none (b ∷ more) e = absurd (let no_way : ⊥ = omega arith in no_way)

pub returns-then-is_empty : goal.returns-then-is_empty
returns-then-is_empty c = rw c.new.ensures (sym (none c.args.line.now (eqb-true (length c.args.line.now) 0 (sym c.if-is_empty.ensures))))

pub loop-part-init : goal.loop-part-init
loop-part-init c = rw c.new-codes.ensures (start c.args.line.now)

-- the part that this turn has
module _ (c : In-Some) where
  turn : (length c.loop-part.yielded < length (split c.args.line.now)) × (c.in-Some.part.now ≡ get_or (split c.args.line.now) (length c.loop-part.yielded) c.in-Some.part.now)
  turn =
      let is = c.into_iter-part-iterator.ensures.into_iter_gives in
      let told = c.split-part-items.ensures in
      YieldsList-turn
      (YieldsList-from_slice_split _ (λ (b : ℕ). eqb b space) c.args.line.now (ap split_rest is ∙ told.rest) (ap split_done is ∙ told.done)
      (ap split_callee is ∙ told.closure) (λ x r q k. search (rules, tests)))
      c.loop-part.yielded _ c.loop-part.yielded_by _ _ c.in-Some.part c.in-Some.is c.next.ensures.steps

pub returns-in_err-code : goal.returns-in_err-code
returns-in_err-code c =
    let t = turn (goal.at.returns-in_err-code c).In-Some in
    let line = c.args.line.now in
    let some : length line ≡ 0 → ⊥ = eqb-false _ _ (sym c.if-is_empty.ensures) in
    rw c.from_residual.ensures
    (sym (sym (codes_split line some) ∙ lost line c.loop-part.codes c.in-Some.part.now _ t.0 t.1 c.loop-part.invariant (sym c.in_err-code.ensures)))

pub loop-part-preserved : goal.loop-part-preserved
loop-part-preserved c =
    let t = turn (goal.at.loop-part-preserved c).In-Some in
    let line = c.args.line.now in
    let e : code_in c.in-Some.part.now ≡ Some c.in_ok-code.field-0 = sym c.in_ok-code.ensures in
    let k = length c.loop-part.yielded in
    rw (c.push.ensures, room line c.loop-part.codes c.in-Some.part.now k t.0 t.1 c.loop-part.invariant c.in_ok-code.field-0 e c.requires, length-append)
    (next line c.loop-part.codes c.in-Some.part.now k t.0 t.1 c.loop-part.invariant c.in_ok-code.field-0 e)

pub returns : goal.returns
returns c =
    let line = c.args.line.now in
    let is = c.into_iter-part-iterator.ensures.into_iter_gives in
    let told = c.split-part-items.ensures in
    let end = YieldsList-end
    (YieldsList-from_slice_split _ (λ (b : ℕ). eqb b space) c.args.line.now (ap split_rest is ∙ told.rest) (ap split_done is ∙ told.done)
    (ap split_callee is ∙ told.closure) (λ x r q k. search (rules, tests)))
    c.loop-part.yielded _ c.loop-part.yielded_by _ _ c.in-None.is c.next.ensures.steps in
    let some : length line ≡ 0 → ⊥ = eqb-false _ _ (sym c.if-is_empty.ensures) in
    sym (sym (codes_split line some) ∙ read line c.loop-part.codes _ end.1 c.loop-part.invariant)

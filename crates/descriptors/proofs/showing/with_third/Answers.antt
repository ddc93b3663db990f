-- `descriptors::showing::with_third` meets its contract: the test says whether class 4 is put in.
use Rattle.answer.proofs.Kit.{◌≡◌, ◌∙◌, true, ℕ, ◌<◌, arith, or_lt}
use Rattle.answer.proofs.Chosen.{yes, no_then}
use Rattle.intervals.specs.Sets.{is_rooted}
use Rattle.intervals.proofs.Rooted.{rooted_small}
use Rattle.rules.specs.Parts.{with_third}
use Rattle.rules.specs.private.Steps.{with_third_from}
use Rattle.rules.proofs.Told.{with_third_lem}
use Rattle.descriptors.proofs.showing.with_third.Goals as goal

module _ (s set : ℕ) (told : (set ≡ s) × (is_rooted s ≡ true)) where
  small : set < 4096
  small = let h = rooted_small s told.1 in omega (arith, told.0)

  with_third_told : (r : ℕ) → r ≡ with_third_from set → r ≡ with_third s
  with_third_told r e = rw told.0 at e ∙ with_third_lem s told.1

pub returns-then-set-eq0 : goal.returns-then-set-eq0
returns-then-set-eq0 c = (with_third_told _ _ c.set-set.ensures _ (search yes), or_lt 12 _ _ (small _ _ c.set-set.ensures) (omega arith))

pub returns : goal.returns
returns c = (with_third_told _ _ c.set-set.ensures _ (search no_then), small _ _ c.set-set.ensures)

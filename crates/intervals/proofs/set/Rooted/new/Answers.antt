-- `intervals::set::Rooted::new` meets its contract.
use Rattle.answer.proofs.Kit.{◌≡◌, refl, true, false, rules}
use Rattle.intervals.specs.Sets.{is_rooted, rooted_answer}
use Rattle.intervals.proofs.set.Rooted.new.Goals as goal

pub returns-then-not-is_rooted : goal.returns-then-not-is_rooted
unfolding rooted_answer
returns-then-not-is_rooted c = let no : is_rooted c.args.set ≡ false = search rules in rw no refl

pub returns : goal.returns
unfolding rooted_answer
returns c = let yes : is_rooted c.args.set ≡ true = search rules in rw yes refl

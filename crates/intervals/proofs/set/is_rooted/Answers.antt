-- `intervals::set::is_rooted` meets its contract.
use Rattle.intervals.proofs.Rooted.{rooted_test}
use Rattle.intervals.proofs.set.is_rooted.Goals as goal

pub returns : goal.returns
returns c = rooted_test c.args.set

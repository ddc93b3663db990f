-- `descriptors::descriptor::omitted_fifth` meets its contract: by the test.
use Rattle.answer.proofs.Chosen.{yes, no_then}
use Rattle.descriptors.proofs.descriptor.omitted_fifth.Goals as goal

pub returns-then-intervals-eq0 : goal.returns-then-intervals-eq0
returns-then-intervals-eq0 c = search yes

pub returns : goal.returns
returns c = search no_then

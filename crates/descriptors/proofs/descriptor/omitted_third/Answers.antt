-- `descriptors::descriptor::omitted_third` meets its contract: by the test.
use Rattle.answer.proofs.Chosen.{yes, no_then}
use Rattle.descriptors.proofs.descriptor.omitted_third.Goals as goal

pub returns-then-set-eq0 : goal.returns-then-set-eq0
returns-then-set-eq0 c = search yes

pub returns : goal.returns
returns c = search no_then

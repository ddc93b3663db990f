-- `hemotusap::symbols::hemotusap_candidates_strict_sharp` meets its contract.
use Rattle.answer.proofs.Kit.{arith}
use Rattle.hemotusap.proofs.Told.{output_fits}
use Rattle.hemotusap.proofs.symbols.hemotusap_candidates_strict_sharp.Goals as goal

pub written-requires : goal.written-requires
written-requires c = output_fits _ _ c.candidates_strict_in.ensures (omega arith)

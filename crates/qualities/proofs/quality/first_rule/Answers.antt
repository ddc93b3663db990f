-- `qualities::quality::first_rule` meets its contract: the tests that led to a return, at most fourteen, say what the chain comes to.
use Rattle.qualities.proofs.FirstRule.{chained}
use Rattle.qualities.proofs.quality.first_rule.Goals as goal

pub returns-then-set-eq1 : goal.returns-then-set-eq1
returns-then-set-eq1 c = search chained depth 15

pub returns-then-set-eq-AUG_SET : goal.returns-then-set-eq-AUG_SET
returns-then-set-eq-AUG_SET c = search chained depth 15

pub returns-then-set-eq-DIM7_SET : goal.returns-then-set-eq-DIM7_SET
returns-then-set-eq-DIM7_SET c = search chained depth 15

pub returns-then-set-eq-DIM_SET : goal.returns-then-set-eq-DIM_SET
returns-then-set-eq-DIM_SET c = search chained depth 15

pub returns-then-set-eq-DOM7_SET : goal.returns-then-set-eq-DOM7_SET
returns-then-set-eq-DOM7_SET c = search chained depth 15

pub returns-then-set-eq-MAJ6_SET : goal.returns-then-set-eq-MAJ6_SET
returns-then-set-eq-MAJ6_SET c = search chained depth 15

pub returns-then-set-eq-MAJ7_SET : goal.returns-then-set-eq-MAJ7_SET
returns-then-set-eq-MAJ7_SET c = search chained depth 15

pub returns-then-set-eq-MAJ_SET : goal.returns-then-set-eq-MAJ_SET
returns-then-set-eq-MAJ_SET c = search chained depth 15

pub returns-then-set-eq-MIMA7_SET : goal.returns-then-set-eq-MIMA7_SET
returns-then-set-eq-MIMA7_SET c = search chained depth 15

pub returns-then-set-eq-MIN7_SET : goal.returns-then-set-eq-MIN7_SET
returns-then-set-eq-MIN7_SET c = search chained depth 15

pub returns-then-set-eq-MIN6_SET : goal.returns-then-set-eq-MIN6_SET
returns-then-set-eq-MIN6_SET c = search chained depth 15

pub returns-then-set-eq-MIN_SET : goal.returns-then-set-eq-MIN_SET
returns-then-set-eq-MIN_SET c = search chained depth 15

pub returns-then-set-eq-SUS7_SET : goal.returns-then-set-eq-SUS7_SET
returns-then-set-eq-SUS7_SET c = search chained depth 15

pub returns-then-set-eq-POW_SET : goal.returns-then-set-eq-POW_SET
returns-then-set-eq-POW_SET c = search chained depth 15

pub returns : goal.returns
returns c = search chained depth 15

-- `names::table::class_note` meets its contract: the row's note, and past the last class none.
use Rattle.answer.proofs.Kit.{sym, map, arith, get_or-eq_default, Ok, Err}
use Rattle.answer.specs.declared.refusal.Refusal.TheVariants.{BadClass}
use Rattle.names.specs.Names.{flats}
use Rattle.names.proofs.table.class_note.Goals as goal

pub returns-then-class-ge-CLASSES : goal.returns-then-class-ge-CLASSES
unfolding flats
returns-then-class-ge-CLASSES c = let past = c.if-class-ge-CLASSES.true in sym (get_or-eq_default (map Ok flats) (Err BadClass) {n = c.args.class} (omega arith))

pub returns : goal.returns
returns c = sym (c.row_of-row.ensures.note (omega arith))

-- `candidates::lines::push_lines` meets its contract. The loop's invariant: the lines of the classes before this one are written.
use Rattle.answer.proofs.Kit.{◌≡◌, ◌*◌, ◌≤◌, length, take}
use Rattle.names.specs.Names.{table_of}
use Rattle.candidates.specs.Candidates.{chords, lines}
use Rattle.candidates.specs.private.Classes.{set_of}
use Rattle.candidates.proofs.Chords.{bass_under}
use Rattle.candidates.proofs.lines.push_lines.Given as goal

abbrev pub invariant-loop-class : goal.invariant-loop-class
invariant-loop-class l = record {
  lines : l.written ≡ lines (table_of l.names) (take l.class-index (chords (set_of l.classes) l.classes));
  bass : l.bass ≡ bass_under l.classes l.class-index;
  few : length l.written ≤ 33 * l.class-index;
}

-- The loop's invariant: of what has been read the line holds what is kept, and the output has what it has printed. A turn reads a byte or more.
use Rattle.answer.proofs.Kit.{◌≡◌, ◌≤◌, List, [], ℕ, length}
use Rattle.std.specs.Io.KnownBytes.{Appends, Consumes}
use Rattle.names.specs.Names.{flats}
use Rattle.chordlist.specs.private.Pieces.{held_after, said_by}
use Rattle.chordlist.proofs.answer_all.Given as goal

abbrev pub invariant-loop : goal.invariant-loop
invariant-loop g l =
    record {
      piece : length l.piece ≡ 4096;
      read : List ℕ;
      turns : l.counter ≤ length read;
      left : Consumes (g.R.Read.remaining l.initial.input) (g.R.Read.remaining l.input) read;
      held : l.line ≡ held_after [] read;
      said : Appends (g.W.Write.contents l.initial.output) (g.W.Write.contents l.output) (said_by flats [] read);
    }

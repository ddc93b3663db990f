-- The loop's invariant: the line holds what is kept after the bytes so far, and the output has what they have printed.
use Rattle.answer.proofs.Kit.{◌≡◌, take}
use Rattle.std.specs.Io.KnownBytes.{Appends}
use Rattle.names.specs.Names.{flats}
use Rattle.chordlist.specs.private.Pieces.{held_after, said_by}
use Rattle.chordlist.proofs.feed.Given as goal

abbrev pub invariant-loop-byte : goal.invariant-loop-byte
invariant-loop-byte g l =
    record {
      held : l.line ≡ held_after l.initial.line (take l.byte-index l.piece);
      said : Appends (g.W.Write.contents l.initial.output) (g.W.Write.contents l.output) (said_by flats l.initial.line (take l.byte-index l.piece));
    }

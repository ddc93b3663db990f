-- The loop's invariant: the bytes so far are digits, and `value` is what they are worth.
use Rattle.answer.proofs.Kit.{◌≡◌, ◌<◌, ◌^◌, true, take}
use Rattle.chordlist.specs.Codes.{are_digits, decimal}
use Rattle.chordlist.proofs.codes.code.Given as goal

abbrev pub invariant-loop-byte : goal.invariant-loop-byte
invariant-loop-byte l =
    record {
      digits : are_digits (take l.byte-index l.part) ≡ true;
      worth : decimal 0 (take l.byte-index l.part) ≡ l.value;
      small : l.value < 10 ^ l.byte-index;
    }

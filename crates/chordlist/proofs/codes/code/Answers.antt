-- `chordlist::codes::code` meets its contract.
use Rattle.answer.proofs.Kit.{◌≡◌, refl, sym, ap, ◌∙◌, [], ◌∷◌, lit<, add-one, pow-suc, arith, take, take_all, get_or, Some, true}
use Rattle.chordlist.specs.Codes.{are_digits, decimal}
use Rattle.chordlist.proofs.Reading.{no_bytes, too_long, no_digits, too_high, is_one, one_more, digits_append, decimal_more, broken}
use Rattle.chordlist.proofs.codes.code.Goals as goal
use Rattle.chordlist.proofs.codes.code.Goals.{After-loop-byte, then-part-lt-FEWEST-via-then-part-lt-FEWEST, then-part-lt-FEWEST-via-else-part-lt-FEWEST+then-part-gt-MOST}

pub loop-byte-init : goal.loop-byte-init
unfolding are_digits decimal
loop-byte-init c = record { digits = refl; worth = refl; small = lit< tt }

pub returns-then-not-is_ascii_digit : goal.returns-then-not-is_ascii_digit
returns-then-not-is_ascii_digit c =
    let part = c.args.part.now in
    sym (no_digits part (broken part c.loop-byte.byte-index (omega arith) (sym c.if-not-is_ascii_digit.ensures.value)))

pub loop-byte-preserved : goal.loop-byte-preserved
unfolding are_digits
loop-byte-preserved c =
    let part = c.args.part.now in
    let h = c.loop-byte in
    let i = h.byte-index in
    let more = one_more part i (omega arith) in
    let is = c.if-not-is_ascii_digit.ensures in
    record {
      digits = ap are_digits more ∙ digits_append (take i part) (get_or part i 0 ∷ []) ∙ rw (h.invariant.digits, ← is.value);
      worth = ap (decimal 0) more ∙ decimal_more 0 (take i part) (get_or part i 0) ∙ rw (h.invariant.worth, c.from.ensures);
      small = rw (add-one i, pow-suc) (omega (arith, h.invariant.small, is.cases, c.from.ensures));
    }

-- behind the last byte
module _ (c : After-loop-byte) where
  whole : take c.loop-byte.byte-index c.args.part.now ≡ c.args.part.now
  whole = take_all c.loop-byte.byte-index c.args.part.now (omega arith)

  are : are_digits c.args.part.now ≡ true
  are = ap are_digits (sym whole) ∙ c.loop-byte.invariant.digits

  worth : decimal 0 c.args.part.now ≡ c.loop-byte.value
  worth = ap (decimal 0) (sym whole) ∙ c.loop-byte.invariant.worth

pub returns-then-part-lt-FEWEST : goal.returns-then-part-lt-FEWEST
returns-then-part-lt-FEWEST c =
    let part = c.args.part.now in
    elim c.then-part-lt-FEWEST.branch [
      | then-part-lt-FEWEST-via-then-part-lt-FEWEST w ↦ sym (no_bytes part (omega (arith, w.if-part-lt-FEWEST.true)))
      | then-part-lt-FEWEST-via-else-part-lt-FEWEST+then-part-gt-MOST w ↦ sym (too_long part w.if-part-gt-MOST.true)
    ]

pub returns-then-value-gt-LAST_CODE : goal.returns-then-value-gt-LAST_CODE
returns-then-value-gt-LAST_CODE c =
    sym (too_high c.args.part.now (omega (arith, c.if-value-gt-LAST_CODE.true, worth (goal.at.returns-then-value-gt-LAST_CODE c).After-loop-byte)))

pub returns : goal.returns
returns c =
    let at = (goal.at.returns c).After-loop-byte in
    let part = c.args.part.now in
    sym (is_one part (omega arith) (omega arith) (are at) (omega (arith, worth at)) ∙ ap Some (worth at))

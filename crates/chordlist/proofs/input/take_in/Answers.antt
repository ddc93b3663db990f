-- `chordlist::input::take_in` meets its contract, by the byte.
use Rattle.answer.proofs.Kit.{sym, ◌∙◌, eq-eqb, ne_eqb}
use Rattle.names.specs.Names.{flats}
use Rattle.chordlist.proofs.Streams.{line_ends, line_goes_on}
use Rattle.chordlist.proofs.input.take_in.Goals as goal

pub returns-then-byte-eq-LINE_FEED : goal.returns-then-byte-eq-LINE_FEED
returns-then-byte-eq-LINE_FEED c =
    let told = line_ends flats c.args.line.now c.args.byte (eq-eqb _ _ c.if-byte-eq-LINE_FEED.true) in
    (c.clear.ensures ∙ sym told.0, rw c.as_slice.ensures at c.reply.ensures ∙ sym told.1)

pub returns-else-byte-eq-LINE_FEED : goal.returns-else-byte-eq-LINE_FEED
returns-else-byte-eq-LINE_FEED c =
    let told = line_goes_on flats c.args.line.now c.args.byte (ne_eqb _ _ c.if-byte-eq-LINE_FEED.false) in
    (c.push.ensures ∙ sym told.0, c.clear-else-byte-eq-LINE_FEED.ensures ∙ sym told.1)

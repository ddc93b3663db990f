-- `musicxml::harmony::push_pitch` meets its contract: five texts in a row, of which the alter is nothing where the name has no flat.
use Rattle.answer.proofs.Kit.{sym, ap, ◌∙◌, [], cond, eqb, eq-eqb, ne_eqb, length}
use Rattle.answer.specs.Words.{long}
use Rattle.names.specs.Names.{flats, name_of}
use Rattle.musicxml.specs.private.Texts.{Adds}
use Rattle.musicxml.specs.private.Pitches.{named_text}
use Rattle.musicxml.proofs.Pushed.{made, nothing, then, named}
use Rattle.musicxml.proofs.Pitched.{letter_byte, name_long}
use Rattle.musicxml.proofs.harmony.push_pitch.Goals as goal
use Rattle.musicxml.proofs.harmony.push_pitch.Goals.{Joined-name-eq2, then-name-eq2, else-name-eq2}

-- the alter, or nothing
alter : (c : Joined-name-eq2)
    → Adds c.push_bytes-3.new.self (cond (eqb (length (name_of flats c.args.class)) 2) c.args.around.alter.now []) c.if-name-eq2.element
alter c =
    let size = sym (name_long c.args.class c.requires) ∙ ap long (sym c.class_name-name.ensures) in
    elim c.if-name-eq2.branch [
      | then-name-eq2 w ↦ rw (size, eq-eqb _ _ w.if-name-eq2.true, w.element-is) (made w.push_bytes-then-name-eq2.ensures)
      | else-name-eq2 w ↦ rw (size, ne_eqb _ _ w.if-name-eq2.false, w.element-is) (nothing _)
    ]

pub returns : goal.returns
unfolding named_text
returns c =
    let letter = letter_byte c.args.class c.requires in
    then (then (then (then (made c.push_bytes.ensures) (named (rw c.class_name-name.ensures letter) (made c.push_bytes-2.ensures))) (made c.push_bytes-3.ensures)) (alter (goal.at.returns c).Joined-name-eq2)) (made c.push_bytes-4.ensures)

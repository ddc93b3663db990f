-- `chordlist::reply::reply` meets its contract: by the line's length, and by what it holds.
use Rattle.answer.proofs.Kit.{◌≡◌, ◌∙◌, sym, ap, List, ℕ, ◌<◌, ◌≤◌, length, le-leb, lt-leb, Option, None}
use Rattle.names.specs.Names.{flats}
use Rattle.chordlist.specs.Codes.{codes_in}
use Rattle.chordlist.specs.Replies.{codes_text, bad_text, held_text, line_text}
use Rattle.chordlist.proofs.reply.reply.Goals as goal
use Rattle.chordlist.proofs.reply.reply.Goals.{then-line-le-LONGEST+in_default, else-line-le-LONGEST}

-- what is printed, by what is known of a line
module _ (line : List ℕ) where
  long : 1024 < length line → line_text flats line ≡ bad_text
  unfolding line_text
  long h = rw (lt-leb _ _ h)

  short : length line ≤ 1024 → (held : Option (List ℕ)) → held ≡ codes_in line → line_text flats line ≡ held_text flats held
  unfolding line_text
  short h held e = rw (le-leb _ _ h, e)

pub returns-in-Some : goal.returns-in-Some
unfolding held_text
returns-in-Some c =
    c.reply_codes.ensures ∙ ap (codes_text flats) c.as_slice.ensures ∙ sym (short c.args.line.now c.if-line-le-LONGEST.true _ c.in-Some.ensures)

-- a line that can't be read, or is too long
pub returns : goal.returns
unfolding held_text
returns c =
    let line = c.args.line.now in
    let none : line_text flats line ≡ bad_text =
    elim c.if-line-le-LONGEST.branch [ then-line-le-LONGEST+in_default w ↦ short line w.if-line-le-LONGEST.true None w.in_default.ensures | else-line-le-LONGEST w ↦ long line w.if-line-le-LONGEST.false ] in
    rw none c.reply_bad.ensures

-- `notes::note::height` meets its contract: by the accidental's case.
use Rattle.answer.proofs.Kit.{ap, sym, ◌∙◌, rules, Option, ℤ}
use mir.Syntax.{w32}
use mir.Facts.{to_z-of_z}
use Rattle.notes.specs.Notes.{count_of}
use Rattle.notes.specs.private.Heights.{height_of}
use Rattle.notes.proofs.note.height.Goals as goal

pub returns-in-None : goal.returns-in-None
unfolding height_of
returns-in-None c = rw c.in-None.is

pub returns-in-Some : goal.returns-in-Some
returns-in-Some c = c.count_height.ensures ∙ ap height_of (to_z-of_z {w = w32} (search rules)) ∙ ap (λ (a : Option ℤ). height_of (count_of a)) (sym c.in-Some.is)

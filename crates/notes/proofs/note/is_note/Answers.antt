-- `notes::note::is_note` meets its contract: a count is a number that has a height.
use Rattle.answer.proofs.Kit.{ap, ap₂, ◌∙◌, ◌&&◌, ℕ, leb-suc-suc, ltb}
use Rattle.notes.proofs.Moves.{in_height}
use Rattle.notes.proofs.note.is_note.Goals as goal

pub returns : goal.returns
returns c = ap₂ ◌&&◌ (leb-suc-suc c.args.note.letter 6) (ap (λ (h : ℕ). ltb h 13) c.height.ensures ∙ in_height _)

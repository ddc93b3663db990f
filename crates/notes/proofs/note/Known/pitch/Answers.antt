-- `notes::note::Known::pitch` meets its contract.
use Rattle.answer.proofs.Kit.{ap, ap₂, ◌∙◌, ℕ, ◌+◌, ◌%◌, arith}
use Rattle.notes.specs.Notes.{semitone}
use Rattle.notes.proofs.Moves.{height_is, sounds}
use Rattle.notes.proofs.note.Known.pitch.Goals as goal

pub overflow_add-result : goal.overflow_add-result
overflow_add-result c = omega (arith, height_is c.self.inside.note c.self.invariant)

pub overflow_add-result-2 : goal.overflow_add-result-2
overflow_add-result-2 c = omega (arith, height_is c.self.inside.note c.self.invariant)

pub returns : goal.returns
returns c = (
  ap₂ (λ (n h : ℕ). (n + h + 6) % 12) c.natural_semitone.ensures.0 c.height.ensures ∙ sounds c.self.inside.note c.self.invariant ∙ ap semitone c.self.view_is,
  omega arith,
)

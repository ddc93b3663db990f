-- `chordlist::input::finish` meets its contract: a last line of no bytes is none.
use Rattle.answer.proofs.Kit.{◌≡◌, refl, sym, ap, ◌∙◌, List, [], ◌∷◌, ℕ, arith, eqb-true, eqb-false, length}
use Rattle.names.specs.Names.{flats}
use Rattle.chordlist.specs.Replies.{line_text}
use Rattle.chordlist.specs.private.Pieces.{said_at_end}
use Rattle.chordlist.proofs.input.finish.Goals as goal

no_line_lem : (line : List ℕ) → length line ≡ 0 → said_at_end flats line ≡ []
unfolding said_at_end
no_line_lem [] e = refl
no_line_lem (b ∷ more) e = absurd (let no_way : ⊥ = omega arith in no_way)

last_line : (line : List ℕ) → (length line ≡ 0 → ⊥) → said_at_end flats line ≡ line_text flats line
unfolding said_at_end
last_line [] other = absurd (other refl)
last_line (b ∷ more) other = refl

pub returns-then-not-is_empty : goal.returns-then-not-is_empty
returns-then-not-is_empty c =
    c.reply.ensures ∙ sym (last_line c.as_slice-line.result.now (eqb-false _ _ (sym c.if-not-is_empty.ensures))) ∙ ap (said_at_end flats) c.as_slice-line.ensures

pub returns-else-not-is_empty : goal.returns-else-not-is_empty
returns-else-not-is_empty c =
    c.clear.ensures ∙ sym (no_line_lem c.as_slice-line.result.now (eqb-true _ _ (sym c.if-not-is_empty.ensures))) ∙ ap (said_at_end flats) c.as_slice-line.ensures

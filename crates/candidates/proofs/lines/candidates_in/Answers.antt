-- `candidates::lines::candidates_in` meets its contract: the lines of the classes are those of the list, and no keys have none.
use Rattle.answer.proofs.Kit.{◌≡◌, refl, sym, ap, subst, ◌∙◌, List, [], ◌∷◌, ℕ, arith, eqb-true, length, flat_map}
use Rattle.answer.specs.Replies.{text, Answered}
use Rattle.answer.proofs.Rooms.{written}
use Rattle.names.specs.Names.{table_of}
use Rattle.notes.specs.declared.note.Note.{Note}
use Rattle.candidates.specs.Keys.{firsts, new_behind}
use Rattle.candidates.specs.Candidates.{chords, chords_of, lines, candidates_of}
use Rattle.candidates.specs.private.Classes.{set_of}
use Rattle.candidates.proofs.Heard.{set_of_firsts}
use Rattle.candidates.proofs.lines.candidates_in.Goals as goal
use Rattle.candidates.proofs.lines.candidates_in.Goals.{After-push_lines}

made : (c : After-push_lines) → c.push_lines.new.written ≡ candidates_of (table_of c.args.names) c.args.keys.now
unfolding candidates_of chords_of
made c =
    c.push_lines.ensures ∙ ap (λ (l : List ℕ). lines (table_of c.args.names) (chords (set_of l) l)) c.of.ensures
    ∙ ap (λ (s : ℕ). lines (table_of c.args.names) (chords s (firsts c.args.keys.now))) (sym (set_of_firsts c.args.keys.now))

no_keys : (table : List Note) (keys : List ℕ) → length keys ≡ 0 → candidates_of table keys ≡ []
unfolding candidates_of chords_of chords lines firsts new_behind flat_map
no_keys table [] e = refl
no_keys table (key ∷ keys) e = absurd (omega arith)

pub returns-then-is_empty : goal.returns-then-is_empty
returns-then-is_empty c =
    rw (no_keys (table_of c.args.names) c.args.keys.now (eqb-true (length c.args.keys.now) 0 (sym c.if-is_empty.ensures))) (written [] c.args.out.now (omega arith))

pub returns : goal.returns
returns c = subst (λ (t : List ℕ). Answered (text t) c.args.out.now c.give.result c.give.new.out) (made (goal.at.returns c).After-push_lines) c.give.ensures

-- `chordlist::feed` meets its contract.
use Rattle.answer.proofs.Kit.{List, [], ◌∷◌, ℕ, eqb-true, length, ◌≡◌, refl, sym, subst, ◌∙◌, ◌+◌, arith, take, take_all}
use Rattle.std.specs.Io.KnownBytes.{Appends}
use Rattle.std.proofs.KnownBytes.{Appends-nil, Appends-trans}
use Rattle.names.specs.Names.{flats}
use Rattle.chordlist.specs.private.Pieces.{held_after, said_by}
use Rattle.chordlist.proofs.Bytewise.{one_taken, one_said}
use Rattle.chordlist.proofs.feed.Goals as goal
use Rattle.chordlist.proofs.feed.Given.{Over}
use Rattle.chordlist.proofs.feed.Goals.{After-take_in, then-not-is_empty+in_ok-write_all, else-not-is_empty}
use Rattle.chordlist.proofs.Printing.{with_error}

pub loop-byte-init : goal.loop-byte-init
unfolding held_after said_by
loop-byte-init g c = record { held = refl; said = Appends-nil _ }

-- a byte that was taken in
module _ (g : Over) (c : After-take_in g) where
  taken : c.take_in.new.line ≡ held_after c.args.line.now (take (c.loop-byte.byte-index + 1) c.args.piece.now)
  taken = let h = c.loop-byte in c.take_in.ensures.0 ∙ one_taken c.args.line.now c.args.piece.now h.line h.byte-index (omega arith) h.invariant.held

-- a byte more, by what the output has of it
more_said : (g : Over) (c : After-take_in g) (now : g.row.W.Denot) → Appends (g.W.Write.contents c.loop-byte.output) (g.W.Write.contents now) c.take_in.new.answer
    → Appends (g.W.Write.contents c.args.output.now) (g.W.Write.contents now) (said_by flats c.args.line.now (take (c.loop-byte.byte-index + 1) c.args.piece.now))
more_said g c now written =
    let h = c.loop-byte in
    subst (Appends (g.W.Write.contents c.args.output.now) (g.W.Write.contents now)) (one_said c.args.line.now c.args.piece.now h.line h.byte-index (omega arith) h.invariant.held flats)
    (Appends-trans _ _ _ _ _ h.invariant.said (rw c.take_in.ensures.1 at written))

none : (t : List ℕ) → length t ≡ 0 → [] ≡ t
none [] e = refl
none (b ∷ t) e = absurd (let no_way : ⊥ = omega arith in no_way)

pub loop-byte-preserved : goal.loop-byte-preserved
loop-byte-preserved g c =
    let in-turn = (goal.at.loop-byte-preserved g c).After-take_in in
    record {
      held = taken g in-turn;
      said = elim c.if-not-is_empty.branch [
        | then-not-is_empty+in_ok-write_all w ↦ rw w.output-is (more_said g in-turn _ (rw c.as_slice-said.ensures at w.in_ok-write_all.ensures.bytes))
        | else-not-is_empty w ↦
            let silent = none c.as_slice-said.result.now (eqb-true _ _ (sym c.is_empty.ensures ∙ w.if-not-is_empty.false)) ∙ c.as_slice-said.ensures in
            rw w.output-is (more_said g in-turn _ (subst (Appends (g.W.Write.contents c.loop-byte.output) (g.W.Write.contents c.loop-byte.output)) silent (Appends-nil _)))
      ];
    }

pub returns-in_err-write_all-clause-failed : goal.returns-in_err-write_all-clause-failed
returns-in_err-write_all-clause-failed g c =
    with_error c.from_residual.result (c.loop-byte.byte-index + 1, taken g (goal.at.returns-in_err-write_all-clause-failed g c).After-take_in)

pub returns : goal.returns
returns g c =
    let whole = take_all c.loop-byte.byte-index c.args.piece.now (omega arith) in
    record { held = rw whole at c.loop-byte.invariant.held; said = rw whole at c.loop-byte.invariant.said; failed = tt }

-- `chordlist::answer_all` meets its contract.
use Rattle.answer.proofs.Kit.{◌≡◌, refl, subst, ◌∙◌, ◌++◌, [], List, ℕ, arith, take, length, length-append, length-take-le}
use Rattle.std.proofs.Common.{Option, append-nil}
use Rattle.std.proofs.lemmas.Result.{on_ok_weaker}
use Rattle.std.specs.Io.KnownBytes.{Appends, Consumes}
use Rattle.std.proofs.KnownBytes.{Appends-nil, Appends-trans, Consumes-nil, Consumes-trans}
use Rattle.names.specs.Names.{flats}
use Rattle.chordlist.specs.private.Pieces.{held_after, said_by}
use Rattle.chordlist.proofs.Printing.{with_error}
use Rattle.chordlist.proofs.Streams.{held_more, said_more, said_all}
use Rattle.chordlist.proofs.answer_all.Goals as goal
use Rattle.chordlist.proofs.answer_all.Goals.{else-loop-test, then-loop-test+in_ok-count+then-count-eq0}

pub loop-init : goal.loop-init
unfolding held_after said_by
loop-init g c = record { piece = refl; read = []; turns = omega arith; left = Consumes-nil _; held = c.new-line.ensures; said = Appends-nil _ }

pub loop-preserved : goal.loop-preserved
loop-preserved g c =
    let h = c.loop in
    let i = h.invariant in
    let n = c.in_ok-count.count in
    let piece = take n c.read.new.buf in
    let long : length piece ≡ n = length-take-le n c.read.new.buf (omega (arith, c.in_ok-count.ensures.bound)) in
    record {
      piece = c.read.auto.buf ∙ i.piece;
      read = i.read ++ piece;
      turns = omega (arith, length-append i.read piece);
      left = Consumes-trans _ _ _ _ _ i.left c.in_ok-count.ensures.bytes.0;
      held = held_more [] i.read h.line piece c.feed.new.line i.held c.in_ok-feed.ensures.held;
      said = subst (Appends (g.W.Write.contents c.args.output.now) (g.W.Write.contents c.feed.new.output))
          (said_more flats i.read h.line piece i.held)
          (Appends-trans _ _ _ (said_by flats [] i.read) (said_by flats h.line piece) i.said c.in_ok-feed.ensures.said);
    }

-- a read of none leaves what was read
none_more : (a b c : Option (List ℕ)) (bs cs : List ℕ) (n : ℕ) → n ≡ 0 → Consumes a b bs → Consumes b c (take n cs) → Consumes a c bs
none_more a b c bs cs n e p q = rw append-nil at (Consumes-trans a b c bs [] p (rw e at q))

pub returns-in_err-feed-clause-failed : goal.returns-in_err-feed-clause-failed
returns-in_err-feed-clause-failed g c =
    let i = c.loop.invariant in
    with_error c.from_residual-in_err-feed.result
    (i.read ++ take c.in_ok-count.count c.read.new.buf, Consumes-trans _ _ _ _ _ i.left c.in_ok-count.ensures.bytes.0)

pub returns-clause-answered : goal.returns-clause-answered
returns-clause-answered g c =
    let i = c.loop.invariant in
    let left : Consumes (g.R.Read.remaining c.args.input.now) (g.R.Read.remaining c.loop-test.input) i.read =
    elim c.loop-test.branch [
      | else-loop-test w ↦ rw w.input-is i.left
      | then-loop-test+in_ok-count+then-count-eq0 w ↦ rw w.input-is (none_more _ _ _ _ _ _ w.if-count-eq0.true i.left w.in_ok-count.ensures.bytes.0)
    ] in
    let all = said_all flats i.read c.loop.line i.held in
    on_ok_weaker c.write_all.result
    (λ more. (
      i.read,
      left,
      subst (Appends (g.W.Write.contents c.args.output.now) (g.W.Write.contents c.write_all.new.self)) all
          (Appends-trans _ _ _ _ _ i.said (rw (c.as_slice.ensures, c.finish.ensures) at more)),
    ))
    c.write_all.ensures.bytes

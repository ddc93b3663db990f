-- `inference::normalize::put_suffix` meets its contract: the suffix is made in a text of its own, and copied.
use Rattle.answer.proofs.Kit.{◌≡◌, ap, ◌∙◌, List, [], ℕ, ◌+◌, ◌≤◌, arith, length}
use Rattle.inference.specs.Puts.{with_suffix}
use Rattle.inference.proofs.Puts.{no_room, placed}
use Rattle.inference.proofs.normalize.put_suffix.Goals as goal
use Rattle.inference.proofs.normalize.put_suffix.Goals.{After-as_slice-suffix, then-buffer-lt-ROOM-via-then-buffer-lt-ROOM, then-buffer-lt-ROOM-via-else-buffer-lt-ROOM+then-buffer-at}

pub returns-then-buffer-lt-ROOM : goal.returns-then-buffer-lt-ROOM
returns-then-buffer-lt-ROOM c = elim c.then-buffer-lt-ROOM.branch [
  | then-buffer-lt-ROOM-via-then-buffer-lt-ROOM w ↦ no_room _ _ _ (let h = w.if-buffer-lt-ROOM.true in omega arith)
  | then-buffer-lt-ROOM-via-else-buffer-lt-ROOM+then-buffer-at w ↦ no_room _ _ _ (let h = w.if-buffer-at.true in let k = w.if-buffer-lt-ROOM.false in omega arith)
]

-- the text that is copied
made : (c : After-as_slice-suffix) → c.as_slice-suffix.result.now ≡ with_suffix 72 [] c.args.set
made c = c.as_slice-suffix.ensures.bytes ∙ c.push_suffix.ensures ∙ ap (λ (t : List ℕ). with_suffix 72 t c.args.set) c.new-text.ensures

here : (c : After-as_slice-suffix) → c.args.at + 72 ≤ length c.args.buffer.now
here c = let h = c.if-buffer-at.false in let k = c.if-buffer-lt-ROOM.false in omega arith

pub slice_bounds-copy_from_slice-end : goal.slice_bounds-copy_from_slice-end
slice_bounds-copy_from_slice-end c =
    let p = (goal.at.slice_bounds-copy_from_slice-end c).After-as_slice-suffix in
    (placed c.args.set _ _ (here p) _ (made p)).0

pub returns : goal.returns
returns c =
    let p = (goal.at.returns c).After-as_slice-suffix in
    rw c.copy_from_slice.ensures.after (placed c.args.set _ _ (here p) _ (made p)).1

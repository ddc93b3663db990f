-- `pool::pool::Pool::remove` meets its contract: those behind the tone come one forward.
use Rattle.answer.proofs.Kit.{◌≡◌, refl, sym, ap, ◌∙◌, List, ◌∷◌, ◌++◌, append-nil, ℕ, ◌+◌, ◌≤◌, ◌<◌, ◌-◌, arith, length, length-set, take, drop, take-append-drop, get_or, set, slice, length-take-le}
use Rattle.pool.specs.declared.pool.Tone.{Tone}
use Rattle.pool.specs.Pool.{without_at}
use Rattle.pool.proofs.Left.{next, none, pushed, behind}
use Rattle.pool.specs.Held.{places, laid_over}
use Rattle.pool.proofs.Gathered.{removed, past_last}
use Rattle.pool.proofs.Laid.{whole, laid, fewer}
use Rattle.pool.proofs.pool.Pool.remove.Goals as goal

-- the next tone goes to the place before it
moved : (d : Tone) (l : List Tone) (i n : ℕ) → i + 1 < n → n ≤ length l
    → take (i + 1) (set l i (get_or l (i + 1) d)) ++ slice (i + 1 + 1) n (set l i (get_or l (i + 1) d)) ≡ take i l ++ slice (i + 1) n l
moved d l i n h k =
    pushed l i (get_or l (i + 1) d) _ (omega arith)
    ∙ ap (λ (x : List Tone). take i l ++ (get_or l (i + 1) d ∷ x)) (behind l (i + 1 + 1) n i (get_or l (i + 1) d) (omega arith) (omega arith))
    ∙ ap (λ (x : List Tone). take i l ++ x) (sym (next l (i + 1) n d h k))

pub returns-then-place-self : goal.returns-then-place-self
returns-then-place-self c =
    let pool = c.self.inside in
    let size : length (take pool.count pool.tones) ≡ pool.count = length-take-le pool.count pool.tones (omega (arith, c.self.invariant)) in
    let past : c.args.self.now.tones ≡ without_at c.args.place c.args.self.now.tones = rw (← c.self.view_is) (sym (past_last _ c.args.place (omega arith))) in
    whole c.args.self.now ∙ ap (λ (l : List Tone). laid_over l (places c.args.self.now)) past

pub loop-at-init : goal.loop-at-init
loop-at-init c =
    let pool = c.self.inside in
    let count : pool.count ≡ pool.count - 1 + 1 = omega arith in
    (omega arith, omega arith, c.self.invariant.1, omega arith, count, refl, rw (← count) (removed pool.tones c.args.place pool.count (omega arith)))

pub loop-at-preserved : goal.loop-at-preserved
loop-at-preserved c =
    let l = c.loop-at in
    let tones = l.self-inside.tones in
    let count : c.self.inside.count - 1 + 1 ≡ c.self.inside.count = omega arith in (
      omega arith,
      omega arith,
      simp length-set l.invariant.2,
      l.invariant.3,
      l.invariant.4,
      fewer tones c.self.inside.tones l.at _ l.invariant.5,
      moved _ tones l.at (c.self.inside.count - 1 + 1) (omega arith) (omega (arith, l.invariant.2, l.invariant.3)) ∙ l.invariant.6,
    )

pub returns : goal.returns
returns c =
    let l = c.loop-at in
    let tones = l.self-inside.tones in
    let pool = c.self.inside in
    let last = pool.count - 1 in
    let end : last ≡ l.at = omega arith in
    let count : last + 1 ≡ pool.count = omega arith in
    let no_more = none tones (l.at + 1) (last + 1) (omega arith) (omega arith) in
    let front : take last tones ≡ without_at c.args.place (take pool.count pool.tones) =
    ap (λ (n : ℕ). take n tones) end
    ∙ sym (ap (λ (x : List Tone). take l.at tones ++ x) no_more ∙ append-nil (take l.at tones))
    ∙ l.invariant.6 ∙ ap (λ (n : ℕ). without_at c.args.place (take n pool.tones)) count in
    let behind_it : drop last tones ≡ drop last (take pool.count pool.tones ++ drop pool.count pool.tones) =
    ap (λ (n : ℕ). drop n tones) end ∙ l.invariant.5 ∙ ap (λ (n : ℕ). drop n pool.tones) (sym end)
    ∙ ap (drop last) (sym (take-append-drop pool.count pool.tones)) in
    rw (← c.self.view_is) (laid tones _ _ last (omega (arith, l.invariant.2)) front behind_it)

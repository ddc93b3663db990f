-- `signatures::found::line_in` meets its contract. The loop's invariant: what the rest of the text has behind the lines passed is what the whole has.
use Rattle.answer.proofs.Kit.{◌≡◌, sym, ap, ◌∙◌, List, ℕ, suc, ◌+◌, ◌-◌, ◌≤◌, zero-add, arith, length, length-drop, take, drop, drop-drop, Option, Some, None}
use Rattle.std.proofs.lemmas.List.{take_all}
use Rattle.std.specs.Prelude.{position, ◌==◌}
use Rattle.answer.specs.Lines.{line_feed, line_at, line_start}
use Rattle.signatures.specs.Part.{found_at, found_in}
use Rattle.signatures.proofs.Walked.{found_behind, here, next, nowhere, within}
use Rattle.signatures.proofs.found.line_in.Goals as goal

-- the rest of a text from a byte on, as the code takes it, and where its first LF is
module _ (text : List ℕ) (start : ℕ) (h : start ≤ length text) {at : Option ℕ} (is : at ≡ position (λ b. b == line_feed) (take (length text - start) (drop start text))) where
  told : (o : Option ℕ) → at ≡ o → position (λ b. b == line_feed) (drop start text) ≡ o
  told o e = ap (position (λ b. b == line_feed)) (sym (take_all (length text - start) (drop start text) (omega (arith, length-drop start text)))) ∙ sym is ∙ e

  ends : (n : ℕ) → at ≡ None → found_behind start (drop start text) n ≡ None
  ends n e = nowhere start (drop start text) n (told None e)

  module _ (k : ℕ) (e : at ≡ Some k) where
    stops : (n : ℕ) → n ≡ 0 → found_behind start (drop start text) n ≡ Some (start, k)
    stops n last = ap (found_behind start (drop start text)) last ∙ here start (drop start text) k (told (Some k) e)

    stays : start + (k + 1) ≤ length text
    stays = omega (arith, length-drop start text, within start (drop start text) k (told (Some k) e))

    passes : (n m : ℕ) → m ≡ suc n → found_behind (start + (k + 1)) (drop (start + (k + 1)) text) n ≡ found_behind start (drop start text) m
    passes n m more =
        ap (λ (t : List ℕ). found_behind (start + (k + 1)) t n) (sym (drop-drop (k + 1) start text))
        ∙ next start (drop start text) k (told (Some k) e) n ∙ ap (found_behind start (drop start text)) (sym more)

begins : (text : List ℕ) (n m : ℕ) → m ≡ n → found_behind 0 text m ≡ found_in text n
unfolding found_in
begins text n m e = ap (found_behind 0 text) e ∙ ap (λ (x : ℕ). found_at x (line_at text n)) (zero-add (line_start text n))

pub loop-init : goal.loop-init
loop-init c = (omega arith, begins _ _ _ (omega arith))

pub returns-in_err-start : goal.returns-in_err-start
returns-in_err-start c = c.from_residual.ensures ∙ sym (ends _ _ c.loop.invariant.0 c.first_length.ensures _ (c.in_err-start.was)) ∙ c.loop.invariant.1

pub loop-preserved : goal.loop-preserved
loop-preserved c = let k = c.in_ok-start.field-0 in let some = c.in_ok-start.was in (
  stays _ _ c.loop.invariant.0 c.first_length.ensures k some,
  passes _ _ c.loop.invariant.0 c.first_length.ensures k some _ _ (omega arith) ∙ c.loop.invariant.1,
)

pub returns-in_err-first_length : goal.returns-in_err-first_length
returns-in_err-first_length c =
    c.from_residual-in_err-first_length.ensures ∙ sym (ends _ _ c.loop.invariant.0 c.first_length-2.ensures _ (c.in_err-first_length.was)) ∙ c.loop.invariant.1

pub returns : goal.returns
returns c =
    sym (stops _ _ c.loop.invariant.0 c.first_length-2.ensures c.in_ok-first_length.field-0 (c.in_ok-first_length.was) _ (omega arith)) ∙ c.loop.invariant.1

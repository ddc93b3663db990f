-- Laws of a text added behind another (`Adds`).
--     no_more      a text of no bytes is added by leaving all as it is
--     word_added   a short text's word adds the text
--     then_adds    a text added behind another makes their sum
use Rattle.answer.proofs.Kit.{◌≡◌, sym, ap, ◌∙◌, List, [], ◌++◌, append-nil, append_assoc, ℕ, ◌+◌, ◌≤◌, arith, le-leb, length, length-append}
use Rattle.answer.specs.Made.{with_word}
use Rattle.answer.proofs.Texts.{word_text}
use Rattle.inference.specs.private.Adds.{Adds}
use Rattle.inference.proofs.Texts.{IsWord}

pub no_more : (n : ℕ) (t : List ℕ) → Adds n t [] t
no_more n t room = sym (append-nil t)

pub word_added : (n : ℕ) (t u t' : List ℕ) (word : ℕ) → IsWord u word → t' ≡ with_word n t word → Adds n t u t'
word_added n t u t' word is told room =
    told ∙ rw (le-leb _ _ (let room_for_word : length t + 8 ≤ n = omega arith in room_for_word)) (ap (λ (x : List ℕ). t ++ x) (rw is.is (word_text u is.short)))

pub then_adds : (n : ℕ) (t u t' v t'' : List ℕ) → Adds n t u t' → Adds n t' v t'' → Adds n t (u ++ v) t''
then_adds n t u t' v t'' first then room =
    let sum = length-append u v in
    let here : t' ≡ t ++ u = first (omega arith) in
    let whole : length t' ≡ length t + length u = ap length here ∙ length-append t u in
    then (omega arith) ∙ ap (λ (x : List ℕ). x ++ v) here ∙ append_assoc t u v

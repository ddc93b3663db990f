-- Laws of writing into a buffer.
--     nothing     a text of no bytes is written by leaving all as it is
--     also        a text written behind another makes their sum
--     same_text   what was written, by another name
--     counted, within     what was put first: its count of bytes, and that the buffer has them
--     stored      bytes stored one behind the other from a place on
--     put_short   a short text's word, put at a place that has room
--     Puts        the same of a buffer that keeps its length: no_puts, then_puts, and then_put of a word
--     SoFar       a text on its way, part by part: so_far_none, so_far_next, so_far_all, and the room that is left
use Rattle.answer.proofs.Kit.{◌≡◌, refl, sym, ap, subst, ◌∙◌, List, [], ◌++◌, append-nil, append_assoc, ℕ, ◌+◌, ◌≤◌, arith, add-zero, add_assoc, zero-add, T, length, take, drop, length-append, length-take, sets, sets-eq, length-take-le, take_at}
use Rattle.answer.specs.Words.{packed, place_after, put_at}
use Rattle.answer.specs.Written.{Writes}
use Rattle.answer.proofs.Digits.{is_short, place_text, put_text}

pub nothing : (l : List ℕ) (at : ℕ) → Writes l at [] at l
nothing l at = record { place = sym (add-zero at); added = sym (append-nil (take at l)) }

pub also : {l l' l'' : List ℕ} {at r r' : ℕ} {t u : List ℕ} → Writes l at t r l' → Writes l' r u r' l'' → Writes l at (t ++ u) r' l''
also {l} {l'} {l''} {at} {r} {r'} {t} {u} w v =
    record {
      place = v.place ∙ ap (λ (n : ℕ). n + length u) w.place ∙ simp (length-append, add_assoc);
      added = v.added ∙ ap (λ (x : List ℕ). x ++ u) w.added ∙ append_assoc (take at l) t u;
    }

pub same_text : {l l' : List ℕ} {at r : ℕ} {t u : List ℕ} → t ≡ u → Writes l at t r l' → Writes l at u r l'
same_text {l} {l'} {at} {r} e w = subst (λ (x : List ℕ). Writes l at x r l') e w

pub counted : {l₀ l t : List ℕ} {r : ℕ} → Writes l₀ 0 t r l → r ≡ length (take r l)
counted w = w.place ∙ zero-add _ ∙ ap length (sym w.added)

pub within : {l₀ l t : List ℕ} {r : ℕ} → Writes l₀ 0 t r l → r ≤ length l
within {l₀} {l} {t} {r} w = omega (arith, counted w, length-take r l)

pub stored : (t l : List ℕ) (at : ℕ) → at + length t ≤ length l → Writes l at t (at + length t) (sets l at t)
stored t l at room =
    let whole : length (take at l) ≡ at = length-take-le at l (omega arith) in
    let front : length (take at l ++ t) ≡ at + length t = length-append (take at l) t ∙ ap (λ (n : ℕ). n + length t) whole in
    record { place = refl; added = ap (take (at + length t)) (sets-eq t l at room) ∙ take_at (take at l ++ t) (drop (at + length t) l) (at + length t) front }

pub put_short : (t : List ℕ) → T (is_short t) → (l : List ℕ) (at word r : ℕ) (l' : List ℕ) → word ≡ packed t → at + 8 ≤ length l
    → (r ≡ place_after l at word) × (l' ≡ put_at l at word) → Writes l at t r l'
put_short t short l at word r l' e room told =
    let here : r ≡ at + length t = told.0 ∙ ap (place_after l at) e ∙ place_text t short l at room in
    record { place = here; added = rw here (ap (take (at + length t)) (told.1 ∙ ap (put_at l at) e) ∙ put_text t short l at room) }

pub record Puts (l₀ : List ℕ) (at : ℕ) (t : List ℕ) (r : ℕ) (l : List ℕ) : Type 0 where
  pub wrote : Writes l₀ at t r l
  pub same : length l ≡ length l₀

pub no_puts : (l : List ℕ) (at : ℕ) → Puts l at [] at l
no_puts l at = record { wrote = nothing l at; same = refl }

pub then_puts : {l₀ l l' : List ℕ} {at r r' : ℕ} {t u : List ℕ} → Puts l₀ at t r l → Puts l r u r' l' → Puts l₀ at (t ++ u) r' l'
then_puts p q = record { wrote = also p.wrote q.wrote; same = q.same ∙ p.same }

-- one more: its word, the room that it has, and what the call told
pub then_put : {l₀ l : List ℕ} {at r : ℕ} {t : List ℕ} → Puts l₀ at t r l → (u : List ℕ) → T (is_short u) → (word r' : ℕ) (l' : List ℕ) → word ≡ packed u
    → at + length t + 8 ≤ length l₀ → (r' ≡ place_after l r word) × (l' ≡ put_at l r word) → length l' ≡ length l → Puts l₀ at (t ++ u) r' l'
then_put {l₀} {l} {at} {r} {t} p u short word r' l' e room told kept =
    record {
      wrote = also p.wrote (put_short u short l r word r' l' e (omega (arith, p.wrote.place, p.same)) told);
      same = kept ∙ p.same;
    }

-- what is written so far, with what is left to write, is the whole
pub record SoFar (l₀ : List ℕ) (from : ℕ) (whole : List ℕ) (l : List ℕ) (at : ℕ) (left : List ℕ) : Type 0 where
  pub done : List ℕ
  pub puts : Puts l₀ from done at l
  pub adds_up : done ++ left ≡ whole

pub so_far_none : (l : List ℕ) (from : ℕ) (whole : List ℕ) → SoFar l from whole l from whole
so_far_none l from whole = record { done = []; puts = no_puts l from; adds_up = refl }

module _ {l₀ : List ℕ} {from : ℕ} {whole l : List ℕ} {at : ℕ} {left : List ℕ} (s : SoFar l₀ from whole l at left) where
  -- a turn writes the front of what is left
  pub so_far_next : {l' : List ℕ} {r : ℕ} (here rest : List ℕ) → left ≡ here ++ rest → Puts l at here r l' → SoFar l₀ from whole l' r rest
  so_far_next here rest e p =
      record {
        done = s.done ++ here;
        puts = then_puts s.puts p;
        adds_up = append_assoc s.done here rest ∙ ap (λ (x : List ℕ). s.done ++ x) (sym e) ∙ s.adds_up;
      }

  pub so_far_all : left ≡ [] → Puts l₀ from whole at l
  so_far_all e =
      let all : s.done ≡ whole = sym (ap (λ (x : List ℕ). s.done ++ x) e ∙ append-nil s.done) ∙ s.adds_up in
      subst (λ (x : List ℕ). Puts l₀ from x at l) all s.puts

  -- the end of the whole is as far as what is left goes
  pub so_far_end : at + length left ≡ from + length whole
  so_far_end =
      let sum = sym (length-append s.done left) ∙ ap length s.adds_up in
      omega (arith, s.puts.wrote.place)

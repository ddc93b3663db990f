-- Words as the texts that they hold.
--     text_length            as long as the word says
--     word_long, word_text   a short text's word holds it
--     put_word               a word that is put at a place that has room adds its text
--     then_text, then_word   a text and a word behind what stands there
--     has_room_lem           the room that is left
use Rattle.answer.proofs.Kit.{◌≡◌, sym, ap, subst, ◌∙◌, List, ◌++◌, ℕ, ◌+◌, ◌≤◌, arith, zero-add, T, length, take, drop, replicate, length-append, length-take-le, take-append-le, take-append-add, le-leb}
use Rattle.answer.specs.Words.{packed, digits, long, place_after, put_at, text_of}
use Rattle.answer.specs.Written.{Writes}
use Rattle.answer.proofs.Digits.{is_short, place_text, put_text}
use Rattle.answer.proofs.Writing.{Puts, then_puts}

pub text_length : (w : ℕ) → long w ≤ 8 → length (text_of w) ≡ long w
unfolding text_of digits
text_length w h = length-take-le (long w) (digits 8 w) (omega arith)

module _ (t : List ℕ) (short : T (is_short t)) where
  pub word_long : long (packed t) ≡ length t
  unfolding place_after
  word_long = sym (zero-add _) ∙ place_text t short (replicate 8 0) 0 (omega arith) ∙ zero-add _

  pub word_text : text_of (packed t) ≡ t
  unfolding text_of put_at digits
  word_text = ap (λ (n : ℕ). take n (digits 8 (packed t))) word_long ∙ rw zero-add at (put_text t short (replicate 8 0) 0 (omega arith))

pub put_word : (w : ℕ) → long w ≤ 8 → (l : List ℕ) (at r : ℕ) (l' : List ℕ) → at + 8 ≤ length l
    → (r ≡ place_after l at w) × (l' ≡ put_at l at w) → Writes l at (text_of w) r l'
unfolding place_after put_at text_of digits
put_word w h l at r l' room told =
    let here : r ≡ at + long w = told.0 ∙ rw (le-leb _ _ room) in
    let whole : length (take at l) ≡ at = length-take-le at l (omega arith) in
    let within : at + long w ≤ length (take at l ++ digits 8 w) = simp length-append (omega arith) in
    record {
      place = here ∙ ap (λ (n : ℕ). at + n) (sym (text_length w h));
      added =
          rw here
          (ap (take (at + long w)) told.1
          ∙ rw (le-leb _ _ room)
          (take-append-le (at + long w) (take at l ++ digits 8 w) (drop (at + 8) l) within
          ∙ subst (λ (n : ℕ). take (n + long w) (take at l ++ digits 8 w) ≡ take at l ++ take (long w) (digits 8 w)) whole (take-append-add (take at l) (digits 8 w) (long w))));
    }

module _ {l₀ l : List ℕ} {at r : ℕ} {t : List ℕ} (p : Puts l₀ at t r l) where
  pub then_text : {u : List ℕ} {r' : ℕ} {l' : List ℕ} → Writes l r u r' l' → length l' ≡ length l → Puts l₀ at (t ++ u) r' l'
  then_text w kept = then_puts p (record { wrote = w; same = kept })

  pub then_word : (w : ℕ) → long w ≤ 7 → (r' : ℕ) (l' : List ℕ) → at + length t + 8 ≤ length l₀ → (r' ≡ place_after l r w) × (l' ≡ put_at l r w) → length l' ≡ length l
      → Puts l₀ at (t ++ text_of w) r' l'
  then_word w short r' l' room told kept = then_text (put_word w (omega arith) l r r' l' (omega (arith, p.wrote.place, p.same)) told) kept

  pub has_room_lem : (n k : ℕ) → at + n + 8 ≤ length l₀ → length t + k ≤ n → r + k + 8 ≤ length l
  has_room_lem n k room fits = omega (arith, p.wrote.place, p.same)

-- What a loop over a run has left, the elements from a place on, below an end, and what it has put in front.
--     next      the one at the place, and what is left behind it
--     none      at the end nothing is left
--     pushed    a store behind what was put in front puts one more there
--     behind    and leaves what stands farther on as it was
use Rattle.answer.proofs.Kit.{◌≡◌, ap, ◌∙◌, List, [], ◌∷◌, ◌++◌, ℕ, ◌+◌, ◌≤◌, ◌<◌, add-one, arith, length, take, drop, set, get_or, slice, slice-cons, slice_empty, take-suc-set, append_snoc, take-set-lt, drop-set-lt}

module _ {A : Type 0} (l : List A) (i n : ℕ) where
  pub next : (d : A) → i < n → n ≤ length l → slice i n l ≡ get_or l i d ∷ slice (i + 1) n l
  next d h k = rw add-one (slice-cons i n l d h k)

  pub none : i ≤ n → n ≤ i → slice i n l ≡ []
  none h k = let e : i ≡ n = omega arith in ap (λ (j : ℕ). slice j n l) e ∙ slice_empty n l

  pub behind : (j : ℕ) (x : A) → j < i → j < n → slice i n (set l j x) ≡ slice i n l
  behind j x h k = ap (drop i) (take-set-lt n l j x k) ∙ drop-set-lt i (take n l) j x h

pub pushed : {A : Type 0} (l : List A) (i : ℕ) (x : A) (ys : List A) → i < length l → take (i + 1) (set l i x) ++ ys ≡ take i l ++ (x ∷ ys)
pushed {A} l i x ys h = rw add-one (ap (λ (front : List A). front ++ ys) (take-suc-set l i x h) ∙ append_snoc (take i l) x ys)

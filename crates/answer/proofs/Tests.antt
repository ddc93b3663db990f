-- A test that passes at each number below a bound, and what it gives at one of them: a fact over a finite domain is one
-- test that is computed, and these laws.
--     left, right, both                the parts of a joint test
--     is_true, is_false, said, denied  from a test that passes or fails to its value, and back
--     refused, admitted                what a negated test in the code told
--     all, at        a test of one number
--     same→eq, eq→same  two texts that are the same are equal, and the other way
use Rattle.answer.proofs.Kit.{◌≡◌, refl, sym, subst, ap₂, ◌∙◌, Bool, true, false, not, ◌&&◌, ⊎_elim, List, [], ◌∷◌, ℕ, zero, suc, ◌<◌, eq-or-lt_of_le, le_of_suc-le-suc, not-suc-le-zero, T, eqb, eqb→eq, eq-eqb, not-true, not-false}
use Rattle.answer.specs.Words.{same}

pub left : (a b : Bool) → T (a && b) → T a
left true b t = tt
left false b t = t

pub right : (a b : Bool) → T (a && b) → T b
right true b t = t
right false b t = absurd t

pub both : (a b : Bool) → T a → T b → T (a && b)
both true b s t = t
both false b s t = s

pub is_true : (b : Bool) → T b → b ≡ true
is_true true t = refl
is_true false t = absurd t

pub is_false : (b : Bool) → (T b → ⊥) → b ≡ false
is_false true no_way = absurd (no_way tt)
is_false false no_way = refl

pub said : (b : Bool) → b ≡ true → T b
said b e = subst T (sym e) tt

pub denied : (b : Bool) → b ≡ false → T (not b)
denied b e = subst (λ (t : Bool). T (not t)) (sym e) tt

pub refused : (r b : Bool) → r ≡ b → not r ≡ true → b ≡ false
refused r b e t = sym e ∙ not-true r t

pub admitted : (r b : Bool) → r ≡ b → not r ≡ false → b ≡ true
admitted r b e t = sym e ∙ not-false r t

unfoldable pub all : (ℕ → Bool) → ℕ → Bool
all f zero = true
all f (suc n) = f n && all f n

pub at : (f : ℕ → Bool) (n : ℕ) → T (all f n) → (k : ℕ) → k < n → T (f k)
unfolding all
at f zero t k h = absurd (not-suc-le-zero h)
at f (suc n) t k h =
    ⊎_elim (λ e. subst (λ (m : ℕ). T (f m)) (sym e) (left (f n) (all f n) t))
    (λ l. at f n (right (f n) (all f n) t) k l)
    (eq-or-lt_of_le (le_of_suc-le-suc h))

pub same→eq : (xs ys : List ℕ) → T (same xs ys) → xs ≡ ys
unfolding same
same→eq [] [] t = refl
same→eq [] (y ∷ ys) t = absurd t
same→eq (x ∷ xs) [] t = absurd t
same→eq (x ∷ xs) (y ∷ ys) t = ap₂ ◌∷◌ (eqb→eq x y (left (eqb x y) (same xs ys) t)) (same→eq xs ys (right (eqb x y) (same xs ys) t))

pub eq→same : (xs : List ℕ) → same xs xs ≡ true
unfolding same
eq→same [] = refl
eq→same (x ∷ xs) = ap₂ ◌&&◌ (eq-eqb x x refl) (eq→same xs)

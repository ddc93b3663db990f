-- A chain of tests of numbers: what it comes to, as `search` takes it apart from the front.
--     test       one test: x where a is b, else y
--     yes        the test passes, and decides
--     no_then    it does not, and the rest decides
use Rattle.answer.proofs.Kit.{◌≡◌, sym, ap, ◌∙◌, Bool, cond, ℕ, eqb, eq-eqb, ne_eqb}

unfoldable pub test : {A : Type 0} → ℕ → ℕ → A → A → A
test a b x y = cond (eqb a b) x y

pub yes : {A : Type 0} (a b : ℕ) (x y : A) → a ≡ b → x ≡ test a b x y
unfolding test
yes {A} a b x y e = sym (ap (λ (t : Bool). cond t x y) (eq-eqb a b e))

pub no_then : {A : Type 0} (a b : ℕ) (x y r : A) → (a ≡ b → ⊥) → r ≡ y → r ≡ test a b x y
unfolding test
no_then {A} a b x y r other e = e ∙ sym (ap (λ (t : Bool). cond t x y) (ne_eqb a b other))

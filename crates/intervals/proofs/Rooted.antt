-- Rooted sets by their numbers: up to 4095, and odd.
--     rooted_test      the two tests as the code has them
--     is_rooted_lem    a number that passes them is a rooted set
--     rooted_small, rooted_odd      and a rooted set passes them
--     rooted_count     2,048 numbers are rooted sets
--     at_rooted        a test that passes at each of them passes at one
--     by_halves        the same, of two computed tests, for what is too much for one
--     rooted_ok, rooted_err     what `Rooted::new` told where it gave a set, and where it refused
use Rattle.answer.proofs.Kit.{◌≡◌, refl, ap, sym, subst, ◌∙◌, Bool, true, false, true≢false, cond, ◌&&◌, ℕ, ◌+◌, ◌-◌, ◌*◌, ◌/◌, ◌%◌, ◌≤◌, div-one, dec_le, arith, T, eqb, leb, eqb→eq, leb→le, eq-eqb, le-leb, Ok, Err}
use Rattle.answer.proofs.Tests.{left, right, said, all, at}
use Rattle.answer.specs.declared.refusal.Refusal.{Refusal}
use Rattle.answer.specs.declared.refusal.Refusal.TheVariants.{NotASet}
use Rattle.intervals.specs.Sets.{is_set, has, is_rooted, rooted_answer, count_below}

pub rooted_test : (s : ℕ) → leb s 4095 && eqb (s % 2) 1 ≡ is_rooted s
unfolding is_set has is_rooted
rooted_test s = ap (λ (n : ℕ). leb s 4095 && eqb (n % 2) 1) (sym (div-one s))

pub is_rooted_lem : (s : ℕ) → s ≤ 4095 → s % 2 ≡ 1 → is_rooted s ≡ true
is_rooted_lem s small odd = sym (rooted_test s) ∙ simp (le-leb _ _ small, eq-eqb _ _ odd)

module _ (s : ℕ) (is : is_rooted s ≡ true) where
  pub rooted_small : s ≤ 4095
  rooted_small = leb→le s 4095 (left (leb s 4095) (eqb (s % 2) 1) (said _ (rooted_test s ∙ is)))

  pub rooted_odd : s % 2 ≡ 1
  rooted_odd = eqb→eq (s % 2) 1 (right (leb s 4095) (eqb (s % 2) 1) (said _ (rooted_test s ∙ is)))

-- the paper's 2,048
pub rooted_count : count_below is_rooted 4096 ≡ 2048
unfolding is_set has is_rooted count_below
rooted_count = refl

-- the rooted set at a place among them
abbrev pub rooted : ℕ → ℕ
rooted h = h * 2 + 1

pub at_rooted : (f : ℕ → Bool) → T (all (λ h. f (rooted h)) 2048) → (s : ℕ) → is_rooted s ≡ true → T (f s)
at_rooted f t s is =
    let small = rooted_small s is in
    let odd = rooted_odd s is in
    let there : s / 2 * 2 + 1 ≡ s = omega arith in
    subst (λ (x : ℕ). T (f x)) there (at (λ h. f (rooted h)) 2048 t (s / 2) (omega arith))

pub by_halves : (f : ℕ → Bool) → T (all (λ h. f (rooted h)) 1024) → T (all (λ h. f (rooted (1024 + h))) 1024) → (s : ℕ) → is_rooted s ≡ true → T (f s)
by_halves f low high s is = by_order (dec_le 1024 (s / 2))
  where
    small : s ≤ 4095
    small = rooted_small s is

    odd : s % 2 ≡ 1
    odd = rooted_odd s is

    by_order : Dec (1024 ≤ s / 2) → T (f s)
    by_order (yes h) =
        let there : (1024 + (s / 2 - 1024)) * 2 + 1 ≡ s = omega (arith, odd) in
        subst (λ (x : ℕ). T (f x)) there (at (λ h. f (rooted (1024 + h))) 1024 high (s / 2 - 1024) (omega (arith, small)))
    by_order (no h) =
        let there : s / 2 * 2 + 1 ≡ s = omega (arith, odd) in
        subst (λ (x : ℕ). T (f x)) there (at (λ h. f (rooted h)) 1024 low (s / 2) (omega arith))

module _ (s : ℕ) where
  pub rooted_ok : (r : ℕ) → rooted_answer s ≡ Ok r → (is_rooted s ≡ true) × (r ≡ s)
  unfolding rooted_answer
  rooted_ok r e = by_case (is_rooted s) refl e
    where
      by_case : (b : Bool) → is_rooted s ≡ b → cond b (Ok s) (Err NotASet) ≡ Ok r → (is_rooted s ≡ true) × (r ≡ s)
      by_case true h e = (h, cc)
      by_case false h e = absurd (true≢false cc)

  pub rooted_err : (why : Refusal) → rooted_answer s ≡ Err why → (is_rooted s ≡ false) × (why ≡ NotASet)
  unfolding rooted_answer
  rooted_err why e = by_case (is_rooted s) refl e
    where
      by_case : (b : Bool) → is_rooted s ≡ b → cond b (Ok s) (Err NotASet) ≡ Err why → (is_rooted s ≡ false) × (why ≡ NotASet)
      by_case true h e = absurd (true≢false cc)
      by_case false h e = (h, cc)

-- Laws of the set of those classes for which a test holds.
--     below_less, below_has      it is below 2^n, and has of the classes below n those
--     below_same                 tests that agree give one set
--     where_less, where_says     the same of all twelve
--     where_joined               a test that takes one class more
use Rattle.answer.proofs.Kit.{◌≡◌, refl, sym, ap, ap₂, subst, ◌∙◌, Bool, true, false, cond, ◌||◌, ⊎_elim, ℕ, zero, suc, ◌+◌, ◌^◌, ◌<◌, eq-or-lt_of_le, le_of_suc-le-suc, not-suc-le-zero, div-eq_of_lt, add-zero, add_right_comm, pow-suc, arith, eqb, lit<, pow_pos, eq-eqb, ne_eqb}
use Rattle.intervals.specs.Sets.{has, set_below, set_where}
use Rattle.intervals.proofs.Members.{joined_has, missing}

pub below_less : (n : ℕ) (holds : ℕ → Bool) → set_below n holds < 2 ^ n
unfolding set_below
below_less zero holds = lit< tt
below_less (suc n) holds = by_case (below_less n holds) (holds n)
  where
    by_case : set_below n holds < 2 ^ n → (b : Bool) → set_below n holds + cond b (2 ^ n) 0 < 2 ^ suc n
    by_case h true = rw pow-suc (omega arith)
    by_case h false = rw pow-suc (omega (arith, pow_pos n))

-- a set below 2^n with class n put in or not
with_next : (n s : ℕ) → s < 2 ^ n → (b : Bool) → (has (s + cond b (2 ^ n) 0) n ≡ b) × ((k : ℕ) → k < n → has (s + cond b (2 ^ n) 0) k ≡ has s k)
with_next n s h b = by_case b
  where
    none : has s n ≡ false
    none = missing s n (let zero-digit = div-eq_of_lt h in omega (arith, zero-digit))

    by_case : (b : Bool) → (has (s + cond b (2 ^ n) 0) n ≡ b) × ((k : ℕ) → k < n → has (s + cond b (2 ^ n) 0) k ≡ has s k)
    by_case true = (
      joined_has s n none n ∙ ap (λ (t : Bool). t || has s n) (eq-eqb n n refl),
      λ k l. joined_has s n none k ∙ ap (λ (t : Bool). t || has s k) (ne_eqb k n (let other : k ≡ n → ⊥ = omega arith in other)),
    )
    by_case false = (ap (λ (x : ℕ). has x n) (add-zero s) ∙ none, λ k l. ap (λ (x : ℕ). has x k) (add-zero s))

pub below_has : (n : ℕ) (holds : ℕ → Bool) (k : ℕ) → k < n → has (set_below n holds) k ≡ holds k
unfolding set_below
below_has zero holds k h = absurd (not-suc-le-zero h)
below_has (suc n) holds k h =
    let next = with_next n (set_below n holds) (below_less n holds) (holds n) in
    ⊎_elim (λ here. ap (has (set_below n holds + cond (holds n) (2 ^ n) 0)) here ∙ next.0 ∙ ap holds (sym here))
    (λ lower. next.1 k lower ∙ below_has n holds k lower)
    (eq-or-lt_of_le (le_of_suc-le-suc h))

pub below_same : (n : ℕ) (holds holds' : ℕ → Bool) → ((k : ℕ) → k < n → holds k ≡ holds' k) → set_below n holds ≡ set_below n holds'
unfolding set_below
below_same zero holds holds' e = refl
below_same (suc n) holds holds' e =
    ap₂ (λ (s : ℕ) (b : Bool). s + cond b (2 ^ n) 0) (below_same n holds holds' (λ k h. e k (omega arith))) (e n (omega arith))

pub where_less : (holds : ℕ → Bool) → set_where holds < 4096
unfolding set_where
where_less holds = below_less 12 holds

pub where_says : (holds : ℕ → Bool) (k : ℕ) → k < 12 → has (set_where holds) k ≡ holds k
unfolding set_where
where_says holds k h = below_has 12 holds k h

-- the test takes class c too, which it did not take
module _ (holds : ℕ → Bool) (c : ℕ) (without : holds c ≡ false) where
  abbrev with_it : ℕ → Bool
  with_it k = eqb k c || holds k

  other_class : (k : ℕ) → (k ≡ c → ⊥) → with_it k ≡ holds k
  other_class k other = ap (λ (b : Bool). b || holds k) (ne_eqb k c other)

  joined_at : set_below (suc c) with_it ≡ set_below (suc c) holds + 2 ^ c
  unfolding set_below
  joined_at =
      ap₂ (λ (s : ℕ) (b : Bool). s + cond (b || holds c) (2 ^ c) 0)
      (below_same c with_it holds (λ k h. other_class k (let other : k ≡ c → ⊥ = omega arith in other))) (eq-eqb c c refl)
      ∙ sym (ap (λ (b : Bool). set_below c holds + cond b (2 ^ c) 0 + 2 ^ c) without ∙ ap (λ (s : ℕ). s + 2 ^ c) (add-zero (set_below c holds)))

  joined_above : (n : ℕ) → c < n → set_below n with_it ≡ set_below n holds + 2 ^ c
  unfolding set_below
  joined_above zero h = absurd (not-suc-le-zero h)
  joined_above (suc n) h =
      ⊎_elim (λ here. subst (λ (n : ℕ). set_below (suc n) with_it ≡ set_below (suc n) holds + 2 ^ c) here joined_at)
      (λ lower.
      ap₂ (λ (s : ℕ) (b : Bool). s + cond b (2 ^ n) 0) (joined_above n lower) (other_class n (let other : n ≡ c → ⊥ = omega arith in other))
      ∙ add_right_comm (set_below n holds) (2 ^ c) (cond (holds n) (2 ^ n) 0))
      (eq-or-lt_of_le (le_of_suc-le-suc h))

  pub where_joined : c < 12 → set_where with_it ≡ set_where holds + 2 ^ c
  unfolding set_where
  where_joined h = joined_above 12 h

-- How many classes a set has, by the language's own count of ones.
--     ones_in_lem     the count of ones of a number of k digits looks at k digits
--     class_count_lem  the count of ones of a set is the number of its classes
use Rattle.answer.proofs.Kit.{◌≡◌, refl, sym, ap, ap₂, subst, ◌∙◌, Bool, true, false, cond, ℕ, zero, suc, ◌+◌, ◌/◌, ◌%◌, ◌^◌, ◌<◌, add_assoc, add_comm, div-one, div-div-eq-div-mul, pow-succ', add-one, arith, ones, ones_in, ones_step, shr_lt}
use Rattle.intervals.specs.Sets.{has, count_below, class_count}
use Rattle.intervals.proofs.Members.{held, absent}

pub ones_in_lem : (k n : ℕ) → n < 2 ^ k → ones_in k n ≡ ones n
unfolding ones_in ones
ones_in_lem zero n h = ap ones (let e : 0 ≡ n = omega arith in e)
ones_in_lem (suc k) n h = ap (λ (x : ℕ). n % 2 + x) (ones_in_lem k (n / 2) (shr_lt k 1 (subst (λ (x : ℕ). n < 2 ^ x) (sym (add-one k)) h))) ∙ sym (ones_step n)

-- the highest of so many digits, apart
ones_top : (k s : ℕ) → ones_in (suc k) s ≡ ones_in k s + s / 2 ^ k % 2
unfolding ones_in
ones_top zero s = omega (arith, div-one s)
ones_top (suc k) s =
    let deeper : s / 2 / 2 ^ k ≡ s / 2 ^ suc k = div-div-eq-div-mul s 2 (2 ^ k) ∙ ap (λ (x : ℕ). s / x) (sym (pow-succ' 2 k)) in
    ap (λ (x : ℕ). s % 2 + x) (ones_top k (s / 2) ∙ ap (λ (x : ℕ). ones_in k (s / 2) + x % 2) deeper)
    ∙ sym (add_assoc (s % 2) (ones_in k (s / 2)) (s / 2 ^ suc k % 2))

digit_of : (s k : ℕ) → cond (has s k) 1 0 ≡ s / 2 ^ k % 2
digit_of s k = by_case (has s k) refl
  where
    by_case : (b : Bool) → has s k ≡ b → cond b 1 0 ≡ s / 2 ^ k % 2
    by_case true e = sym (held s k e)
    by_case false e = sym (absent s k e)

count_ones : (n s : ℕ) → count_below (has s) n ≡ ones_in n s
unfolding count_below ones_in
count_ones zero s = refl
count_ones (suc n) s = ap₂ ◌+◌ (digit_of s n) (count_ones n s) ∙ add_comm (s / 2 ^ n % 2) (ones_in n s) ∙ sym (ones_top n s)

pub class_count_lem : (s : ℕ) → s < 4096 → ones s ≡ class_count s
unfolding class_count
class_count_lem s h = sym (count_ones 12 s ∙ ones_in_lem 12 s h)

-- Laws of a set seen from another root.
--     seen_from_says   class k is in it exactly when class root + k, mod 12, is in the set
--     seen_less        it is a set
--     seen_rooted      seen from one of its classes, it is rooted
--     seen_next        one class more of the walk, as the code adds it
use Rattle.answer.proofs.Kit.{◌≡◌, refl, ap, ◌∙◌, Bool, true, false, cond, ℕ, ◌+◌, ◌*◌, ◌/◌, ◌%◌, ◌^◌, ◌<◌, ◌≤◌, zero-mul, one-mul, add-one, arith, shl_exact, le-leb}
use Rattle.intervals.specs.Sets.{is_set, has, is_rooted, set_below}
use Rattle.intervals.proofs.Members.{held, absent}
use Rattle.intervals.proofs.Wheres.{where_less, where_says}
use Rattle.candidates.specs.Keys.{seen_from}

pub seen_from_says : (root s k : ℕ) → k < 12 → has (seen_from root s) k ≡ has s ((root + k) % 12)
unfolding seen_from
seen_from_says root s k h = where_says (λ k. has s ((root + k) % 12)) k h

pub seen_less : (root s : ℕ) → seen_from root s < 4096
unfolding seen_from
seen_less root s = where_less (λ k. has s ((root + k) % 12))

pub seen_rooted : (root s : ℕ) → has s root ≡ true → root < 12 → is_rooted (seen_from root s) ≡ true
unfolding is_rooted is_set
seen_rooted root s e h =
    let same : (root + 0) % 12 ≡ root = omega arith in
    let small : seen_from root s ≤ 4095 = omega (arith, seen_less root s) in
    rw (le-leb _ _ small, seen_from_says root s 0 (omega arith), same, e)

-- a class's digit, moved to its new place
digit : (s j k : ℕ) → s / 2 ^ j % 2 * 2 ^ k ≡ cond (has s j) (2 ^ k) 0
digit s j k = by_case (has s j) refl
  where
    by_case : (b : Bool) → has s j ≡ b → s / 2 ^ j % 2 * 2 ^ k ≡ cond b (2 ^ k) 0
    by_case true e = ap (λ (x : ℕ). x * 2 ^ k) (held s j e) ∙ one-mul (2 ^ k)
    by_case false e = ap (λ (x : ℕ). x * 2 ^ k) (absent s j e) ∙ zero-mul (2 ^ k)

-- those below k of the classes that are seen
abbrev pub seen_below : ℕ → ℕ → ℕ → ℕ
seen_below k root s = set_below k (λ k. has s ((root + k) % 12))

pub seen_next : (root s k : ℕ) → k < 12 → seen_below k root s + s / 2 ^ ((root + k) % 12) % 2 * 2 ^ k % 2 ^ 32 ≡ seen_below (k + 1) root s
unfolding set_below
seen_next root s k h =
    rw add-one
    (ap (λ (x : ℕ). seen_below k root s + x)
    (shl_exact 1 k 32 (let small : s / 2 ^ ((root + k) % 12) % 2 < 2 = omega arith in small) (omega arith) ∙ digit s ((root + k) % 12) k))

-- Demand 3, as theorems on the sets of a text.
--     sound         each that is listed is a rooted set with that suffix
--     complete      each rooted set with that suffix is listed
--     rising        they rise, so that none is listed twice
--     none_listed, nothing_listed     the list is empty exactly when no rooted set has the suffix
--     own_list, one_list              each rooted set is in the list of its own suffix, and in no other: the lists of all
--                                     texts part the rooted sets
--     long_text     a text that is longer than any suffix has none
use Rattle.answer.proofs.Kit.{◌≡◌, refl, sym, ap, ap₂, ◌∙◌, Bool, true, true≢false, false, cond, ◌&&◌, ◌||◌, or-true, ⊎_elim, List, [], ◌∷◌, ℕ, zero, suc, ◌+◌, ◌*◌, ◌%◌, ◌<◌, ◌≤◌, eq-or-lt_of_le, arith, eqb, length, eq-eqb, eqb-true, lt-ltb}
use Rattle.answer.specs.Words.{same}
use Rattle.answer.proofs.Tests.{said, same→eq, eq→same}
use Rattle.intervals.specs.Sets.{is_in, is_rooted}
use Rattle.intervals.proofs.Rooted.{is_rooted_lem, rooted_small, rooted_odd}
use Rattle.rules.specs.Suffix.{suffix_of, reached}
use Rattle.rules.proofs.Short.{suffix_reached}
use Rattle.suffixes.specs.Sets.{matching, sets_of}
use Rattle.suffixes.specs.Members.{is_above, is_rising}

-- a member of the sets from k on
abbrev Member : List ℕ → ℕ → ℕ → ℕ → Type 0
Member t n k s = (k ≤ s) × (s < k + 2 * n) × (s % 2 ≡ 1) × (same t (suffix_of s) ≡ true)

matching_sound : (t : List ℕ) (n k s : ℕ) → k % 2 ≡ 1 → is_in s (matching t n k) ≡ true → Member t n k s
unfolding matching is_in
matching_sound t zero k s odd e = absurd (true≢false (sym e))
matching_sound t (suc n) k s odd e = by_case (same t (suffix_of k)) refl e (λ h. matching_sound t n (k + 2) s (omega arith) h)
  where
    later : Member t n (k + 2) s → Member t (suc n) k s
    later m = (omega (arith, m.0), omega (arith, m.1), m.2, m.3)

    by_first : (b : Bool) → eqb s k ≡ b → same t (suffix_of k) ≡ true → b || is_in s (matching t n (k + 2)) ≡ true
        → (is_in s (matching t n (k + 2)) ≡ true → Member t n (k + 2) s) → Member t (suc n) k s
    by_first true is found h more =
        let here = eqb-true s k is in
        (omega (arith, here), omega (arith, here), omega (arith, here), ap (λ (x : ℕ). same t (suffix_of x)) here ∙ found)
    by_first false is found h more = later (more h)

    by_case : (b : Bool) → same t (suffix_of k) ≡ b → is_in s (cond b (k ∷ matching t n (k + 2)) (matching t n (k + 2))) ≡ true
        → (is_in s (matching t n (k + 2)) ≡ true → Member t n (k + 2) s) → Member t (suc n) k s
    by_case true found h more = by_first (eqb s k) refl found h more
    by_case false found h more = later (more h)

matching_complete : (t : List ℕ) (n k s : ℕ) → k % 2 ≡ 1 → Member t n k s → is_in s (matching t n k) ≡ true
unfolding matching is_in
matching_complete t zero k s odd m = absurd (let no_way : ⊥ = omega (arith, m.0, m.1) in no_way)
matching_complete t (suc n) k s odd m =
    ⊎_elim
    (λ here. first here)
    (λ above. by_case (same t (suffix_of k)) (matching_complete t n (k + 2) s (omega arith) (omega (arith, above, m.2), omega (arith, m.1), m.2, m.3)))
    (eq-or-lt_of_le m.0)
  where
    first : k ≡ s → is_in s (matching t (suc n) k) ≡ true
    first here =
        ap (λ (b : Bool). is_in s (cond b (k ∷ matching t n (k + 2)) (matching t n (k + 2)))) (ap (λ (x : ℕ). same t (suffix_of x)) here ∙ m.3)
        ∙ ap (λ (b : Bool). b || is_in s (matching t n (k + 2))) (eq-eqb s k (sym here))

    by_case : (b : Bool) → is_in s (matching t n (k + 2)) ≡ true → is_in s (cond b (k ∷ matching t n (k + 2)) (matching t n (k + 2))) ≡ true
    by_case true more = ap (λ (b : Bool). eqb s k || b) more ∙ or-true (eqb s k)
    by_case false more = more

matching_above : (t : List ℕ) (n k j : ℕ) → j < k → is_above j (matching t n k) ≡ true
unfolding matching is_above
matching_above t zero k j h = refl
matching_above t (suc n) k j h = by_case (same t (suffix_of k)) (matching_above t n (k + 2) j (omega arith))
  where
    by_case : (b : Bool) → is_above j (matching t n (k + 2)) ≡ true → is_above j (cond b (k ∷ matching t n (k + 2)) (matching t n (k + 2))) ≡ true
    by_case true more = ap₂ ◌&&◌ (lt-ltb j k h) more
    by_case false more = more

matching_rising : (t : List ℕ) (n k : ℕ) → is_rising (matching t n k) ≡ true
unfolding matching is_rising
matching_rising t zero k = refl
matching_rising t (suc n) k = by_case (same t (suffix_of k)) (matching_rising t n (k + 2))
  where
    by_case : (b : Bool) → is_rising (matching t n (k + 2)) ≡ true → is_rising (cond b (k ∷ matching t n (k + 2)) (matching t n (k + 2))) ≡ true
    by_case true more = ap₂ ◌&&◌ (matching_above t n (k + 2) k (omega arith)) more
    by_case false more = more

module _ (t : List ℕ) (s : ℕ) where
  pub sound : is_in s (sets_of t) ≡ true → (is_rooted s ≡ true) × (suffix_of s ≡ t)
  unfolding sets_of
  sound e =
      let m = matching_sound t 2048 1 s refl e in
      (is_rooted_lem s (omega (arith, m.1, m.2)) m.2, sym (same→eq t (suffix_of s) (said _ m.3)))

  pub complete : is_rooted s ≡ true → suffix_of s ≡ t → is_in s (sets_of t) ≡ true
  unfolding sets_of
  complete is e =
      let small = rooted_small s is in
      let odd = rooted_odd s is in
      matching_complete t 2048 1 s refl (omega arith, omega arith, odd, ap (same t) e ∙ eq→same t)

pub rising : (t : List ℕ) → is_rising (sets_of t) ≡ true
unfolding sets_of
rising t = matching_rising t 2048 1

pub none_listed : (t : List ℕ) → sets_of t ≡ [] → (s : ℕ) → is_rooted s ≡ true → suffix_of s ≡ t → ⊥
unfolding is_in
none_listed t e s is has = true≢false (sym (ap (is_in s) (sym e) ∙ complete t s is has))

pub nothing_listed : (t : List ℕ) → ((s : ℕ) → is_rooted s ≡ true → suffix_of s ≡ t → ⊥) → sets_of t ≡ []
unfolding is_in
nothing_listed t none = by_list (sets_of t) (λ s e. let m = sound t s e in none s m.0 m.1)
  where
    by_list : (l : List ℕ) → ((s : ℕ) → is_in s l ≡ true → ⊥) → l ≡ []
    by_list [] no_way = refl
    by_list (x ∷ more) no_way = absurd (no_way x (ap (λ (b : Bool). b || is_in x more) (eq-eqb x x refl)))

pub own_list : (s : ℕ) → is_rooted s ≡ true → is_in s (sets_of (suffix_of s)) ≡ true
own_list s is = complete (suffix_of s) s is refl

pub one_list : (t : List ℕ) (s : ℕ) → is_in s (sets_of t) ≡ true → t ≡ suffix_of s
one_list t s e = sym (sound t s e).1

pub long_text : (t : List ℕ) → reached < length t → sets_of t ≡ []
long_text t long = nothing_listed t (λ s is e. let no_way : ⊥ = omega (arith, suffix_reached s is, ap length e) in no_way)

-- The search on its way: the sets before the one at hand are behind it, and those from there on are left.
--     left_of        what is left to add
--     one_found, one_skipped     the set at hand is one of the text's, or is not
--     two_added      a set's two bytes, as the code adds them
use Rattle.answer.proofs.Kit.{◌≡◌, refl, ap, ◌∙◌, Bool, true, false, cond, List, [], ◌∷◌, ◌++◌, ℕ, suc, ◌+◌, ◌-◌, ◌/◌, ◌%◌, ◌<◌, ◌≤◌, arith, length, length-append, append_assoc, lt-ltb}
use Rattle.answer.specs.Words.{same}
use Rattle.answer.specs.Made.{with_byte}
use Rattle.rules.specs.Suffix.{suffix_of}
use Rattle.suffixes.specs.Sets.{matching}
use Rattle.listing.specs.Listing.{in_bytes}

abbrev pub left_of : List ℕ → ℕ → List ℕ
left_of t s = in_bytes (matching t ((4097 - s) / 2) s)

-- a set in two bytes
abbrev pub two : ℕ → List ℕ
two s = s / 256 ∷ s % 256 ∷ []

module _ (t : List ℕ) (s : ℕ) (odd : s % 2 ≡ 1) (more : s < 4096) where
  step : (b : Bool) → same t (suffix_of s) ≡ b → left_of t s ≡ cond b (two s) [] ++ left_of t (s + 2)
  unfolding matching in_bytes
  step b e =
      let one : (4097 - s) / 2 ≡ suc ((4097 - (s + 2)) / 2) = omega arith in
      let later = matching t ((4097 - (s + 2)) / 2) (s + 2) in
      ap (λ (n : ℕ). in_bytes (matching t n s)) one ∙ ap (λ (b : Bool). in_bytes (cond b (s ∷ later) later)) e ∙ by_case b
    where
      by_case : (b : Bool) → in_bytes (cond b (s ∷ matching t ((4097 - (s + 2)) / 2) (s + 2)) (matching t ((4097 - (s + 2)) / 2) (s + 2))) ≡ cond b (two s) [] ++ left_of t (s + 2)
      by_case true = refl
      by_case false = refl

  pub one_found : same t (suffix_of s) ≡ true → left_of t s ≡ two s ++ left_of t (s + 2)
  one_found is = step true is

  pub one_skipped : same t (suffix_of s) ≡ false → left_of t s ≡ left_of t (s + 2)
  one_skipped isn = step false isn

pub two_added : (t : List ℕ) (a b : ℕ) → length t + 2 ≤ 32 → with_byte 32 (with_byte 32 t a) b ≡ t ++ a ∷ b ∷ []
two_added t a b room =
    let one : length t < 32 = omega arith in
    let other : length (t ++ a ∷ []) < 32 = rw length-append (omega arith) in
    rw (lt-ltb (length t) 32 one, lt-ltb (length (t ++ a ∷ [])) 32 other) (append_assoc t (a ∷ []) (b ∷ []))

-- The loop of `push_parts`: what is added so far, with what is left to add, is the whole.
--     Turn, begin, turn      a turn adds the part of the first interval that is left
use Rattle.answer.proofs.Kit.{◌≡◌, refl, sym, ap, ◌∙◌, Bool, false, List, [], ◌∷◌, ◌++◌, append_assoc, ℕ, ◌+◌, ◌≤◌, arith, length, length-append}
use Rattle.intervals.specs.declared.interval.Interval.{Interval}
use Rattle.rules.specs.Suffix.{worded, listed}
use Rattle.inference.specs.declared.wording.Prefix.{Prefix}
use Rattle.inference.specs.declared.wording.Prefix.TheVariants as Prefixes
use Rattle.inference.specs.private.Adds.{Adds}
use Rattle.inference.specs.private.Prefixes.{prefix_text, part, is_first_behind}

abbrev pub parts_text : Bool → Prefix → List Interval → List ℕ
parts_text first prefix l = listed first (worded (prefix_text prefix) l)

pub record Turn (n : ℕ) (t₀ : List ℕ) (first₀ : Bool) (prefix₀ : Prefix) (whole : List Interval) (t : List ℕ) (first : Bool) (prefix : Prefix) (left : List Interval) : Type 0 where
  pub next : is_first_behind first left ≡ is_first_behind first₀ whole
  pub adds_up : length t₀ + length (parts_text first₀ prefix₀ whole) + 8 ≤ n → t ++ parts_text first prefix left ≡ t₀ ++ parts_text first₀ prefix₀ whole

pub not_first : {A : Type 0} (l : List A) → is_first_behind false l ≡ false
not_first [] = refl
not_first (x ∷ more) = refl

begins : (first : Bool) (prefix : Prefix) (i : Interval) (more : List Interval) → parts_text first prefix (i ∷ more) ≡ part first prefix i ++ parts_text false Prefixes.None more
unfolding worded listed
begins first prefix i more = simp append_assoc

module _ (n : ℕ) (t₀ : List ℕ) (first₀ : Bool) (prefix₀ : Prefix) (whole : List Interval) where
  pub turn : (t : List ℕ) (first : Bool) (prefix : Prefix) (i : Interval) (more : List Interval) (t' : List ℕ)
      → Turn n t₀ first₀ prefix₀ whole t first prefix (i ∷ more) → Adds n t (part first prefix i) t' → Turn n t₀ first₀ prefix₀ whole t' false Prefixes.None more
  turn t first prefix i more t' h added =
      record {
        next = not_first more ∙ h.next;
        adds_up =
            λ room.
            let split = begins first prefix i more in
            let up = h.adds_up room in
            let sums : length t + length (parts_text first prefix (i ∷ more)) ≡ length t₀ + length (parts_text first₀ prefix₀ whole) = sym (length-append t (parts_text first prefix (i ∷ more))) ∙ ap length up ∙ length-append t₀ (parts_text first₀ prefix₀ whole) in
            let here = ap length split ∙ length-append (part first prefix i) (parts_text false Prefixes.None more) in
            ap (λ (x : List ℕ). x ++ parts_text false Prefixes.None more) (added (omega arith))
            ∙ append_assoc t (part first prefix i) (parts_text false Prefixes.None more) ∙ ap (λ (x : List ℕ). t ++ x) (sym split) ∙ up;
      }

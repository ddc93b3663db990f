-- What is written off a descriptor is the suffix of its set.
--     head_told        what stands before the parentheses
--     parts_told       what stands in them
use Rattle.answer.proofs.Kit.{◌≡◌, refl, ap₂, ◌∙◌, Bool, true, false, not, ◌||◌, List, ◌++◌, ℕ, bit_and, bit_xor, eqb}
use Rattle.intervals.specs.Sets.{is_rooted}
use Rattle.intervals.specs.Intervals.{set_of}
use Rattle.intervals.specs.declared.interval.Interval.TheVariants.{Ninth}
use Rattle.rules.specs.Classes.{only, intervals_in, intervals_of}
use Rattle.rules.specs.Parts.{suffix_quality, last_add}
use Rattle.rules.specs.Stack.{adds_of}
use Rattle.rules.specs.Heading.{nine, heading, sus}
use Rattle.rules.specs.Suffix.{worded, parts}
use Rattle.rules.proofs.Tested as Tested
use Rattle.rules.proofs.Told.{alterations_listed, adds_listed, omits_listed}
use Rattle.descriptors.specs.Descriptors.{descriptor_of}
use Rattle.inference.specs.private.Prefixes.{prefix_text, add_where}
use Rattle.inference.specs.private.Described.{head_of, add_parts_of, parts_of}

-- the 9 behind the `6` is there where its set is not empty
nine_flag : (b : Bool) → not (eqb (set_of (only b Ninth)) 0) ≡ b
unfolding only set_of
nine_flag true = refl
nine_flag false = refl

pub head_told : (s : ℕ) → head_of (descriptor_of s) ≡ heading s ++ sus s
unfolding descriptor_of heading sus
head_told s = rw (nine_flag (nine (suffix_quality s) (adds_of (suffix_quality s) (intervals_of s))))

prefix_where : (b : Bool) → prefix_text (add_where b) ≡ Tested.add_where b
prefix_where true = refl
prefix_where false = refl

-- the adds as the test at each set has them
adds_found_lem : (s : ℕ) → add_parts_of (descriptor_of s)
    ≡ Tested.adds_found (set_of (adds_of (suffix_quality s) (intervals_of s))) (Tested.nine_of (suffix_quality s) (intervals_of s)) (set_of (last_add s))
unfolding descriptor_of
adds_found_lem s =
    let a = set_of (adds_of (suffix_quality s) (intervals_of s)) in
    let n = Tested.nine_of (suffix_quality s) (intervals_of s) in
    ap₂ (λ (x y : List ℕ). worded x (intervals_in (bit_xor a n)) ++ worded y (intervals_in (set_of (last_add s)))) (prefix_where (eqb n 0 || not (eqb (bit_and a 16384) 0))) (prefix_where (eqb a 0))

pub parts_told : (s : ℕ) → is_rooted s ≡ true → parts_of (descriptor_of s) ≡ parts s
unfolding descriptor_of parts
parts_told s is = rw (alterations_listed s is, adds_found_lem s ∙ adds_listed s is, omits_listed s is)

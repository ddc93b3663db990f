-- Degrees as the code adds them.
--     row_text          the add of a row
--     degrees_row, adds_snoc     degrees behind others
--     sounding, missed  a subtract, by whether the class sounds
--     subtracts         the tones of a kind that don't sound: its third and its fifth, where they don't, and no other
use Rattle.answer.proofs.Kit.{◌≡◌, refl, sym, ap, ap₂, ◌∙◌, Bool, true, false, cond, not, List, [], ◌∷◌, ◌++◌, map, map-append, append-nil, append_assoc, ℕ, ◌%◌, ◌/◌, ◌^◌, arith, eq-eqb}
use Rattle.answer.specs.Words.{bytes}
use Rattle.answer.proofs.Tests.{left, right, said, is_true}
use Rattle.intervals.specs.Sets.{is_set, has, has_all, is_rooted}
use Rattle.intervals.specs.Intervals.{class_of, to_degree_of}
use Rattle.intervals.specs.declared.interval.Interval.{Interval}
use Rattle.intervals.specs.declared.interval.IntDegree.TheVariants.{Third, Fifth}
use Rattle.rules.specs.Classes.{keep}
use Rattle.harmonies.specs.Xml.{written}
use Rattle.harmonies.specs.Degrees.{Degree}
use Rattle.harmonies.specs.Kinds.{Kind, add_of, subtract_of, silent}
use Rattle.harmonies.specs.Harmony.{decimal, integer, degree, degrees}
use Rattle.harmonies.proofs.Texts.{written_then, degree_text_lem}
use Rattle.musicxml.specs.declared.degrees.Row.{Row}
use Rattle.musicxml.specs.private.Degrees.{degree_text, IsRow, subtract_where}

pub row_text : (i : Interval) (row : Row) → IsRow (add_of i) row → degree_text row.0.now row.1.now (bytes "add</degree-type></degree>") ≡ written (degree (add_of i))
unfolding degree_text bytes
row_text i row told = rw (told.value, told.alter) (sym (degree_text_lem (add_of i)))

-- the first of some, and those behind it
first_of : (d : Degree) (more : List Degree) → written (degrees (d ∷ more)) ≡ written (degree d) ++ written (degrees more)
unfolding degrees
first_of d more = written_then (degree d) (degrees more)

no_degrees : written (degrees []) ≡ []
unfolding degrees written
no_degrees = refl

pub degrees_row : (ds es : List Degree) → written (degrees (ds ++ es)) ≡ written (degrees ds) ++ written (degrees es)
degrees_row [] es = ap (λ (t : List ℕ). t ++ written (degrees es)) (sym no_degrees)
degrees_row (d ∷ more) es =
    first_of d (more ++ es) ∙ ap (λ (t : List ℕ). written (degree d) ++ t) (degrees_row more es)
    ∙ sym (append_assoc (written (degree d)) (written (degrees more)) (written (degrees es))) ∙ ap (λ (t : List ℕ). t ++ written (degrees es)) (sym (first_of d more))

-- the adds of intervals with one more
pub adds_snoc : (found : List Interval) (i : Interval)
    → written (degrees (map add_of (found ++ (i ∷ [])))) ≡ written (degrees (map add_of found)) ++ written (degree (add_of i))
adds_snoc found i =
    ap (λ (ds : List Degree). written (degrees ds)) (map-append add_of found (i ∷ [])) ∙ degrees_row (map add_of found) (add_of i ∷ [])
    ∙ ap (λ (t : List ℕ). written (degrees (map add_of found)) ++ t) (first_of (add_of i) [] ∙ rw no_degrees (append-nil (written (degree (add_of i)))))

-- a subtract with alter 0
abbrev subtract : List ℕ → List ℕ
subtract value = degree_text value (bytes "0") (bytes "subtract</degree-type></degree>")

module _ (set class : ℕ) (value : List ℕ) where
  pub sounding : (set / 2 ^ class % 2 ≡ 0 → ⊥) → [] ≡ subtract_where set class value
  unfolding has subtract_where
  sounding some = rw (eq-eqb (set / 2 ^ class % 2) 1 (omega (arith, some))) refl

  pub missed : set / 2 ^ class % 2 ≡ 0 → subtract value ≡ subtract_where set class value
  unfolding has subtract_where
  missed none = rw (none) refl

-- a subtract on the third or the fifth
on_third : (t : Interval) → to_degree_of t ≡ Third → written (degree (subtract_of t)) ≡ subtract (bytes "3")
unfolding degree_text bytes decimal integer
on_third t e = degree_text_lem (subtract_of t) ∙ rw e

on_fifth : (t : Interval) → to_degree_of t ≡ Fifth → written (degree (subtract_of t)) ≡ subtract (bytes "5")
unfolding degree_text bytes decimal integer
on_fifth t e = degree_text_lem (subtract_of t) ∙ rw e

-- tones that sound are none of the silent ones
none_silent : (s : ℕ) (more : List Interval) → has_all s (map class_of more) ≡ true → keep (λ t. not (has s (class_of t))) more ≡ []
unfolding keep has_all
none_silent s [] h = refl
none_silent s (t ∷ more) h =
    let both = said _ h in
    rw (is_true (has s (class_of t)) (left (has s (class_of t)) (has_all s (map class_of more)) both))
    (none_silent s more (is_true (has_all s (map class_of more)) (right (has s (class_of t)) (has_all s (map class_of more)) both)))

-- a rooted set has its root
has_root : (s : ℕ) → is_rooted s ≡ true → has s 0 ≡ true
unfolding is_rooted
has_root s is = is_true (has s 0) (right (is_set s) (has s 0) (said _ is))

-- a third and a fifth, each subtracted or not
two_subtracts : (third fifth : Interval) → to_degree_of third ≡ Third → to_degree_of fifth ≡ Fifth → (a b : Bool)
    → written (degrees (map subtract_of (cond (not a) (third ∷ cond (not b) (fifth ∷ []) []) (cond (not b) (fifth ∷ []) []))))
    ≡ cond a [] (subtract (bytes "3")) ++ cond b [] (subtract (bytes "5"))
two_subtracts third fifth e f true true = no_degrees
two_subtracts third fifth e f true false = first_of (subtract_of fifth) [] ∙ ap₂ ◌++◌ (on_fifth fifth f) no_degrees ∙ append-nil (subtract (bytes "5"))
two_subtracts third fifth e f false true = first_of (subtract_of third) [] ∙ ap₂ ◌++◌ (on_third third e) no_degrees
two_subtracts third fifth e f false false =
    first_of (subtract_of third) (subtract_of fifth ∷ [])
    ∙ ap₂ ◌++◌ (on_third third e) (first_of (subtract_of fifth) [] ∙ ap₂ ◌++◌ (on_fifth fifth f) no_degrees ∙ append-nil (subtract (bytes "5")))

pub subtracts : (k : Kind) (s : ℕ) → is_rooted s ≡ true → has_all s (map class_of k.more) ≡ true → to_degree_of k.third ≡ Third → to_degree_of k.fifth ≡ Fifth
    → written (degrees (map subtract_of (silent k s)))
    ≡ subtract_where s (class_of k.third) (bytes "3") ++ subtract_where s (class_of k.fifth) (bytes "5")
unfolding silent keep subtract_where
subtracts k s is more e f =
    rw (has_root s is, none_silent s k.more more) (two_subtracts k.third k.fifth e f (has s (class_of k.third)) (has s (class_of k.fifth)))

-- What the code computes of a rooted set is what the rules say of it: one test at each of the 2,048, in two halves, which
-- reads the set once.
--     rule       the test of a number holds
use Rattle.answer.proofs.Kit.{◌≡◌, Bool, true, cond, not, ◌&&◌, ◌||◌, List, [], ◌∷◌, ◌++◌, map, ℕ, zero, suc, ◌+◌, bit_and, bit_or, bit_xor, T, eqb, Option, Some, None}
use Rattle.answer.specs.Words.{bytes}
use Rattle.answer.proofs.Chosen.{test}
use Rattle.answer.proofs.Tests.{left, right, all}
use Rattle.intervals.specs.Sets.{is_rooted, bits}
use Rattle.intervals.specs.Intervals.{numeric_of, set_of, number_of}
use Rattle.intervals.specs.declared.interval.Interval.{Interval}
use Rattle.intervals.specs.declared.interval.Interval.TheVariants.{Ninth}
use Rattle.intervals.proofs.Rooted.{rooted, by_halves}
use Rattle.qualities.specs.Masks.{alteration_bits, extension_bits, stack_bits, own_bits}
use Rattle.qualities.specs.declared.quality.ChordQuality.{ChordQuality}
use Rattle.rules.specs.Classes.{only, intervals_in, intervals_of}
use Rattle.rules.specs.Parts.{with_third, suffix_quality, is_sus, alterations_of, extensions_of, last_add, omit_third, omit_fifth}
use Rattle.rules.specs.Stack.{own_seventh, unstacked_of, is_diminished, modifier_of, adds_of}
use Rattle.rules.specs.Heading.{nine, is_sixth}
use Rattle.rules.specs.Suffix.{worded, add_parts}
use Rattle.rules.specs.private.Steps.{with_third_from, sus_from, extensions_from, unstacked_from, modifier_from, adds_from, nine_from, last_from, omitted_third_from, omitted_fifth_from}
use Rattle.rules.proofs.Agree.{same_bool, same_all}
use Rattle.rules.proofs.Computed.{named_computed}

-- a modifier as a number
abbrev pub place_of : Option Interval → ℕ
place_of (Some i) = number_of i
place_of None = 23

abbrev pub nine_of : ChordQuality → List Interval → ℕ
nine_of q i = set_of (only (nine q (adds_of q i)) Ninth)

abbrev pub add_where : Bool → List ℕ
add_where carries = cond carries (bytes "add") []

-- the adds as they are written off their sets
abbrev pub adds_found : ℕ → ℕ → ℕ → List (List ℕ)
adds_found adds nine last =
    worded (add_where (eqb nine 0 || not (eqb (bit_and adds 16384) 0))) (intervals_in (bit_xor adds nine)) ++ worded (add_where (eqb adds 0)) (intervals_in last)

-- a number for each rule, in the order of `tests`
abbrev pub tests : ℕ → List Bool
tests s =
    let i = intervals_of s in
    let q = suffix_quality s in
    let n = set_of i in
    let al = alterations_of q i in
    let als = set_of al in
    let ex = set_of (extensions_of q i) in
    let un = set_of (unstacked_of q i) in
    let ad = adds_of q i in
    let ads = set_of ad in
    let la = last_add s in
    let ot = omit_third s in
    let of = omit_fifth s in
    let om = ot ++ of in
    eqb (with_third_from s) (with_third s)
    ∷ same_bool (sus_from s) (is_sus s)
    ∷ eqb (bit_and n (alteration_bits q)) als
    ∷ eqb (extensions_from n (extension_bits q)) ex
    ∷ eqb (unstacked_from (bit_or als ex) (bits (map numeric_of (own_seventh q))) (stack_bits q)) un
    ∷ eqb (place_of (modifier_from (is_diminished q) ex un)) (place_of (modifier_of q i))
    ∷ eqb (adds_from (is_diminished q) ex un (own_bits q)) ads
    ∷ eqb (nine_from (is_sixth q) ads) (nine_of q i)
    ∷ eqb (last_from (is_sus s) n) (set_of la)
    ∷ eqb (omitted_third_from s) (set_of ot)
    ∷ eqb (omitted_fifth_from n) (set_of of)
    ∷ eqb (bit_or (set_of ot) (set_of of)) (set_of om)
    ∷ same_all (worded [] (intervals_in als)) (worded [] al)
    ∷ same_all (adds_found ads (nine_of q i) (set_of la)) (add_parts q (bytes "add") (ad ++ la))
    ∷ same_all (worded (bytes "omit") (intervals_in (set_of om))) (worded (bytes "omit") om)
    ∷ []

unfoldable every : List Bool → Bool
every [] = true
every (t ∷ more) = t && every more

abbrev pub nth_test : List Bool → ℕ → Bool
nth_test [] k = true
nth_test (t ∷ more) zero = t
nth_test (t ∷ more) (suc k) = nth_test more k

each : (l : List Bool) → T (every l) → (k : ℕ) → T (nth_test l k)
unfolding every
each [] h k = tt
each (t ∷ more) h zero = left t (every more) h
each (t ∷ more) h (suc k) = each more (right t (every more) h) k

low_hold : T (all (λ h. every (tests (rooted h))) 1024)
unfolding named_computed every same_all test
low_hold = tt

high_hold : T (all (λ h. every (tests (rooted (1024 + h)))) 1024)
unfolding named_computed every same_all test
high_hold = tt

pub rule : (k s : ℕ) → is_rooted s ≡ true → T (nth_test (tests s) k)
rule k s is = each (tests s) (by_halves (λ s. every (tests s)) low_hold high_hold s is) k

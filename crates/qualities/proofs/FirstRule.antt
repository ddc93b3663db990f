-- The chain of tests that the code makes is the paper's list of rules.
--     Rule           the classes that a rule asks for, those that it keeps away, and its quality
--     rules          the rules but the first, which counts the classes
--     tests, first   the quality by the code's tests and by the paper's rules
--     answer         what the chain comes to is the quality
--     chained        that, by the tests that the code made
use Rattle.answer.proofs.Kit.{◌≡◌, refl, ap₂, ◌∙◌, Bool, true, cond, ◌&&◌, and-true, List, [], ◌∷◌, ◌++◌, ℕ, ◌<◌, bit_and, ones, T, eqb}
use Rattle.answer.proofs.Chosen.{test, yes, no_then}
use Rattle.answer.proofs.Tests.{left, right}
use Rattle.intervals.specs.Sets.{has, has_all, has_none, bits}
use Rattle.intervals.proofs.Counted.{class_count_lem}
use Rattle.intervals.proofs.Masked.{once, masked}
use Rattle.qualities.specs.Qualities.{quality_of}
use Rattle.qualities.specs.declared.quality.ChordQuality.{ChordQuality}
use Rattle.qualities.specs.declared.quality.ChordQuality.TheVariants.{Maj, Maj6, Maj7, Dominant7, Mi, Mi6, Mi7, MiMaj7, Augmented, Diminished, Diminished7, Power, Bass}

pub record Rule : Type 0 where
  pub asked : List ℕ
  pub away : List ℕ
  pub quality : ChordQuality

abbrev rule : List ℕ → List ℕ → ChordQuality → Rule
rule here none q = record { asked = here; away = none; quality = q }

abbrev pub rules : List Rule
rules =
    rule (4 ∷ 8 ∷ []) (9 ∷ 10 ∷ 11 ∷ []) Augmented
    ∷ rule (3 ∷ 6 ∷ 9 ∷ []) (4 ∷ 7 ∷ 10 ∷ []) Diminished7
    ∷ rule (3 ∷ 6 ∷ []) (4 ∷ 7 ∷ 10 ∷ []) Diminished
    ∷ rule (4 ∷ 10 ∷ []) [] Dominant7
    ∷ rule (4 ∷ 9 ∷ []) [] Maj6
    ∷ rule (4 ∷ 11 ∷ []) [] Maj7
    ∷ rule (4 ∷ []) [] Maj
    ∷ rule (3 ∷ 11 ∷ []) [] MiMaj7
    ∷ rule (3 ∷ 10 ∷ []) [] Mi7
    ∷ rule (3 ∷ 9 ∷ []) [] Mi6
    ∷ rule (3 ∷ []) [] Mi
    ∷ rule (5 ∷ 10 ∷ []) [] Dominant7
    ∷ rule (7 ∷ []) [] Power
    ∷ []

-- the code's tests: of the classes that a rule names, those in the set are those that it asks for
abbrev pub tests : ℕ → List Rule → ChordQuality
tests s [] = Maj
tests s (r ∷ more) = test (bit_and s (bits (r.asked ++ r.away))) (bits r.asked) r.quality (tests s more)

-- a rule in the paper's words, and the first that holds
abbrev holds : ℕ → List ℕ → List ℕ → Bool
holds s here [] = has_all s here
holds s here (k ∷ away) = has_all s here && has_none s (k ∷ away)

abbrev first : ℕ → List Rule → ChordQuality
first s [] = Maj
first s (r ∷ more) = cond (holds s r.asked r.away) r.quality (first s more)

-- one test says whether its rule holds
test_holds : (s : ℕ) (here away : List ℕ) → T (once here) → T (once (here ++ away)) → eqb (bit_and s (bits (here ++ away))) (bits here) ≡ holds s here away
unfolding has_none
test_holds s here [] h t = masked s here [] h t ∙ and-true (has_all s here)
test_holds s here (k ∷ away) h t = masked s here (k ∷ away) h t

-- no rule names a class twice
abbrev sound : List Rule → Bool
sound [] = true
sound (r ∷ more) = once r.asked && once (r.asked ++ r.away) && sound more

-- the first test that passes is that of the first rule that holds
tests_first : (s : ℕ) (l : List Rule) → T (sound l) → tests s l ≡ first s l
unfolding test
tests_first s [] t = refl
tests_first s (r ∷ more) t =
    let asked-once = once r.asked in
    let named-once = once (r.asked ++ r.away) in
    let both-once = left (asked-once && named-once) (sound more) t in
    ap₂ (λ (b : Bool) (q : ChordQuality). cond b r.quality q)
    (test_holds s r.asked r.away (left asked-once named-once both-once) (right asked-once named-once both-once))
    (tests_first s more (right (asked-once && named-once) (sound more) t))

sound_rules : T (sound rules)
unfolding once has
sound_rules = tt

-- the code's chain, of the count of classes and of the set
abbrev pub chain : ℕ → ℕ → ChordQuality
chain n s = test n 1 Bass (tests s rules)

pub answer : (q : ChordQuality) (s : ℕ) → s < 4096 → q ≡ chain (ones s) s → q ≡ quality_of s
unfolding test quality_of
answer q s h e = e ∙ ap₂ (λ (n : ℕ) (p : ChordQuality). cond (eqb n 1) Bass p) (class_count_lem s h) (tests_first s rules sound_rules)

pub ruleset chained = (answer, yes, no_then)

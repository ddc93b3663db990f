-- The quality of a set: paper 01, "Quality (003), first that holds", rule by rule in its order.
use Rattle.answer.specs.declared.refusal.Refusal.{Refusal}
use Rattle.std.specs.Prelude.{cond, ◌&&◌, [], ◌∷◌, ℕ, eqb, Result, Ok, Err}
use Rattle.answer.specs.declared.refusal.Refusal.TheVariants.{NotASet}
use Rattle.intervals.specs.Sets.{is_set, has_all, has_none, class_count}
use Rattle.qualities.specs.declared.quality.ChordQuality.{ChordQuality}
use Rattle.qualities.specs.declared.quality.ChordQuality.TheVariants.{Maj, Maj6, Maj7, Dominant7, Mi, Mi6, Mi7, MiMaj7, Augmented, Diminished, Diminished7, Power, Bass}

-- the quality of a set
unfoldable pub quality_of : ℕ → ChordQuality
quality_of s =
    cond (eqb (class_count s) 1) Bass
    (cond (has_all s (4 ∷ 8 ∷ []) && has_none s (9 ∷ 10 ∷ 11 ∷ [])) Augmented
    (cond (has_all s (3 ∷ 6 ∷ 9 ∷ []) && has_none s (4 ∷ 7 ∷ 10 ∷ [])) Diminished7
    (cond (has_all s (3 ∷ 6 ∷ []) && has_none s (4 ∷ 7 ∷ 10 ∷ [])) Diminished
    (cond (has_all s (4 ∷ 10 ∷ [])) Dominant7
    (cond (has_all s (4 ∷ 9 ∷ [])) Maj6
    (cond (has_all s (4 ∷ 11 ∷ [])) Maj7
    (cond (has_all s (4 ∷ [])) Maj
    (cond (has_all s (3 ∷ 11 ∷ [])) MiMaj7
    (cond (has_all s (3 ∷ 10 ∷ [])) Mi7
    (cond (has_all s (3 ∷ 9 ∷ [])) Mi6
    (cond (has_all s (3 ∷ [])) Mi
    (cond (has_all s (5 ∷ 10 ∷ [])) Dominant7
    (cond (has_all s (7 ∷ [])) Power
    Maj)))))))))))))

-- "qualities 0..12 in the order of 003"
abbrev pub quality_number : ChordQuality → ℕ
quality_number Maj = 0
quality_number Maj6 = 1
quality_number Maj7 = 2
quality_number Dominant7 = 3
quality_number Mi = 4
quality_number Mi6 = 5
quality_number Mi7 = 6
quality_number MiMaj7 = 7
quality_number Augmented = 8
quality_number Diminished = 9
quality_number Diminished7 = 10
quality_number Power = 11
quality_number Bass = 12

-- what a call answers: the quality, or refusal 1 for a number that is no set
unfoldable pub quality_answer : ℕ → Result ChordQuality Refusal
quality_answer s = cond (is_set s) (Ok (quality_of s)) (Err NotASet)

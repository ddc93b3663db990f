-- What the code makes of the classes of a set is what the paper says: a test at each of the 4,096 sets for each step.
use Rattle.answer.proofs.Kit.{◌≡◌, ap, ◌∙◌, ℕ, ◌*◌, ◌/◌, ◌%◌, ◌<◌, bit_and, bit_or}
use lib.Bits.{or_comm}
use Rattle.answer.proofs.Chosen.{test}
use Rattle.intervals.specs.Intervals.{set_of}
use Rattle.rules.specs.Classes.{at_once, of_class3, of_class6, of_class9, of_class8, intervals_of}
use Rattle.rules.proofs.Agree.{agree}
use Rattle.rules.proofs.Computed.{classes_computed}

-- a union is computed from its last part on: `bit_or` goes through the digits of its first number
turned : (a t f x g : ℕ) → bit_or (bit_or (bit_or (bit_or a t) f) x) g ≡ bit_or g (bit_or x (bit_or f (bit_or t a)))
turned a t f x g = or_comm _ g ∙ ap (bit_or g) (or_comm _ x ∙ ap (bit_or x) (or_comm _ f ∙ ap (bit_or f) (or_comm a t)))

abbrev once_bits : ℕ → ℕ
once_bits s =
    bit_or (bit_or (bit_or (bit_or (bit_or (bit_or (bit_or (s % 2 * 1) (s / 2 % 2 * 65536)) (s / 4 % 2 * 131072)) (s / 16 % 2 * 16)) (s / 32 % 2 * 524288))
    (s / 128 % 2 * 256)) (s / 1024 % 2 * 8192)) (s / 2048 % 2 * 16384)

abbrev once_turned : ℕ → ℕ
once_turned s =
    bit_or (s / 2048 % 2 * 16384) (bit_or (s / 1024 % 2 * 8192) (bit_or (s / 128 % 2 * 256) (bit_or (s / 32 % 2 * 524288) (bit_or (s / 16 % 2 * 16)
    (bit_or (s / 4 % 2 * 131072) (bit_or (s / 2 % 2 * 65536) (s % 2 * 1)))))))

once_turned_lem : (s : ℕ) → once_bits s ≡ once_turned s
once_turned_lem s =
    turned _ (s / 32 % 2 * 524288) (s / 128 % 2 * 256) (s / 1024 % 2 * 8192) (s / 2048 % 2 * 16384)
    ∙ ap (λ (x : ℕ). bit_or (s / 2048 % 2 * 16384) (bit_or (s / 1024 % 2 * 8192) (bit_or (s / 128 % 2 * 256) (bit_or (s / 32 % 2 * 524288) x))))
    (or_comm _ (s / 16 % 2 * 16) ∙ ap (bit_or (s / 16 % 2 * 16)) (or_comm _ (s / 4 % 2 * 131072) ∙ ap (bit_or (s / 4 % 2 * 131072)) (or_comm _ (s / 2 % 2 * 65536))))

pub once_told : (s : ℕ) → s < 4096 → once_bits s ≡ set_of (at_once s)
unfolding classes_computed
once_told s h = once_turned_lem s ∙ agree once_turned (λ s. set_of (at_once s)) 4096 tt s h

abbrev pub class3_bits : ℕ → ℕ
class3_bits s = test (bit_and s 8) 0 0 (test (bit_and s 16) 16 262144 8)

pub class_3_told : (r s : ℕ) → s < 4096 → r ≡ class3_bits s → r ≡ set_of (of_class3 s)
unfolding classes_computed test
class_3_told r s h e = e ∙ agree class3_bits (λ s. set_of (of_class3 s)) 4096 tt s h

abbrev pub class6_bits : ℕ → ℕ
class6_bits s = test (bit_and s 64) 0 0 (test (bit_and s 128) 128 1048576 128)

pub class_6_told : (r s : ℕ) → s < 4096 → r ≡ class6_bits s → r ≡ set_of (of_class6 s)
unfolding classes_computed test
class_6_told r s h e = e ∙ agree class6_bits (λ s. set_of (of_class6 s)) 4096 tt s h

abbrev pub class9_bits : ℕ → ℕ
class9_bits s = test (bit_and s 512) 0 0 (test (bit_and s 1024) 1024 4194304 (test (bit_and s 216) 72 4096 2048))

pub class_9_told : (r s : ℕ) → s < 4096 → r ≡ class9_bits s → r ≡ set_of (of_class9 s)
unfolding classes_computed test
class_9_told r s h e = e ∙ agree class9_bits (λ s. set_of (of_class9 s)) 4096 tt s h

abbrev pub class8_bits : ℕ → ℕ
class8_bits s = test (bit_and s 256) 0 0 (test (bit_and s 1552) 16 512 (test (bit_and s 1552) 0 1024 2097152))

pub class_8_told : (r s : ℕ) → s < 4096 → r ≡ class8_bits s → r ≡ set_of (of_class8 s)
unfolding classes_computed test
class_8_told r s h e = e ∙ agree class8_bits (λ s. set_of (of_class8 s)) 4096 tt s h

abbrev all_bits : ℕ → ℕ
all_bits s = bit_or (bit_or (bit_or (bit_or (set_of (at_once s)) (set_of (of_class3 s))) (set_of (of_class6 s))) (set_of (of_class9 s))) (set_of (of_class8 s))

abbrev all_turned : ℕ → ℕ
all_turned s = bit_or (set_of (of_class8 s)) (bit_or (set_of (of_class9 s)) (bit_or (set_of (of_class6 s)) (bit_or (set_of (of_class3 s)) (set_of (at_once s)))))

all_turned_lem : (s : ℕ) → s < 4096 → all_turned s ≡ set_of (intervals_of s)
unfolding classes_computed
all_turned_lem = agree all_turned (λ s. set_of (intervals_of s)) 4096 tt

pub all_told : (s : ℕ) → s < 4096 → all_bits s ≡ set_of (intervals_of s)
all_told s h = turned (set_of (at_once s)) (set_of (of_class3 s)) (set_of (of_class6 s)) (set_of (of_class9 s)) (set_of (of_class8 s)) ∙ all_turned_lem s h

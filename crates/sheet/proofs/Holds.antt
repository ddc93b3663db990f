-- The proof sheet holds: each of its rows is computed. A listing runs the suffix of every rooted set.
--     sheet_holds     all twelve rows
use Rattle.answer.proofs.Kit.{◌≡◌, refl, ap, ◌∙◌, Bool, true, cond, ◌&&◌, List, [], ◌∷◌, ℕ, zero, suc, ◌+◌, ◌-◌, ◌*◌, ◌%◌, arith, T, get_or}
use Rattle.answer.specs.Words.{bytes, same}
use Rattle.answer.specs.Replies.{text}
use Rattle.answer.proofs.Tests.{left, right as right', same→eq}
use Rattle.intervals.specs.Sets.{is_set, is_rooted, is_in}
use Rattle.qualities.specs.Qualities.{quality_answer}
use Rattle.rules.specs.Suffix.{suffix_of, suffix_reply}
use Rattle.rules.proofs.Computed.{suffix_computed}
use Rattle.intervals.proofs.Rooted.{is_rooted_lem, at_rooted}
use Rattle.rules.proofs.Agree.{same_bool, same_bool→eq}
use Rattle.suffixes.specs.Sets.{matching, sets_of}
use Rattle.listing.specs.Listing.{in_bytes, listing_of}
use Rattle.voicings.proofs.Computed.{voicing_computed}
use Rattle.sheet.specs.Sheet.{gives, answer_of, Row, sheet, Holds, AllHold}

-- the sets of the two listings of the sheet
abbrev augmented : List ℕ
augmented = 273 ∷ 401 ∷ []

abbrev flat_thirteenth : List ℕ
flat_thirteenth = 1297 ∷ 1425 ∷ 3345 ∷ 3473 ∷ []

-- a suffix is a text exactly at the sets of a list; one test of all rooted sets, for both listings
only_at : List ℕ → List ℕ → ℕ → List ℕ → Bool
only_at t sets s suffix = same_bool (same t suffix) (is_in s sets)

both_at : ℕ → List ℕ → Bool
both_at s suffix = only_at (bytes "+") augmented s suffix && only_at (bytes "7(b13)") flat_thirteenth s suffix

right : ℕ → Bool
right s = both_at s (suffix_of s)

all_right : (s : ℕ) → is_rooted s ≡ true → T (right s)
unfolding suffix_computed only_at both_at right
all_right = at_rooted right tt

-- of the last n rooted sets, those of a list
kept : List ℕ → ℕ → List ℕ
kept sets zero = []
kept sets (suc n) = cond (is_in (4095 - 2 * n) sets) ((4095 - 2 * n) ∷ kept sets n) (kept sets n)

-- where a suffix is a text exactly at the sets of a list, these are what a search for the text finds
abbrev OnlyAt : List ℕ → List ℕ → Type 0
OnlyAt t sets = (s : ℕ) → is_rooted s ≡ true → same t (suffix_of s) ≡ is_in s sets

searched : (t sets : List ℕ) → OnlyAt t sets → (n s : ℕ) → s % 2 ≡ 1 → s + 2 * n ≡ 4097 → matching t n s ≡ kept sets n
unfolding matching kept
searched t sets told zero s odd h = refl
searched t sets told (suc n) s odd h =
    let e : s ≡ 4095 - 2 * n = omega arith in
    ap (λ (b : Bool). cond b (s ∷ matching t n (s + 2)) (matching t n (s + 2))) (told s (is_rooted_lem s (omega arith) odd))
    ∙ ap (λ (l : List ℕ). cond (is_in s sets) (s ∷ l) l) (searched t sets told n (s + 2) (omega arith) (omega arith))
    ∙ ap (λ (k : ℕ). cond (is_in k sets) (k ∷ kept sets n) (kept sets n)) e

listed_sets : (t sets : List ℕ) → OnlyAt t sets → T (same (kept sets 2048) sets) → listing_of t ≡ in_bytes sets
unfolding sets_of listing_of
listed_sets t sets told all-kept = ap in_bytes (searched t sets told 2048 1 refl refl ∙ same→eq (kept sets 2048) sets all-kept)

augmented_kept : T (same (kept augmented 2048) augmented)
unfolding same is_in kept
augmented_kept = tt

thirteenth_kept : T (same (kept flat_thirteenth 2048) flat_thirteenth)
unfolding same is_in kept
thirteenth_kept = tt

plus_only : OnlyAt (bytes "+") augmented
unfolding right both_at only_at
plus_only s is = same_bool→eq (same (bytes "+") (suffix_of s)) (is_in s augmented) (left (only_at (bytes "+") augmented s (suffix_of s)) _ (all_right s is))

seven_only : OnlyAt (bytes "7(b13)") flat_thirteenth
unfolding right both_at only_at
seven_only s is =
    same_bool→eq (same (bytes "7(b13)") (suffix_of s)) (is_in s flat_thirteenth) (right' (only_at (bytes "+") augmented s (suffix_of s)) _ (all_right s is))

-- the row at a place of the sheet
abbrev at : ℕ → Row
at n = get_or sheet n record { given = []; found = [] }

suffixes : Holds (at 0) × Holds (at 1) × Holds (at 2) × Holds (at 3) × Holds (at 4) × Holds (at 5)
unfolding suffix_computed is_set is_rooted suffix_reply answer_of
suffixes = (refl, refl, refl, refl, refl, refl)

qualities : Holds (at 6)
unfolding suffix_computed is_set quality_answer answer_of
qualities = refl

listings : Holds (at 7) × Holds (at 8)
unfolding answer_of
listings = (
  ap (λ (t : List ℕ). gives (text t) ∷ []) (listed_sets (bytes "+") augmented plus_only augmented_kept),
  ap (λ (t : List ℕ). gives (text t) ∷ []) (listed_sets (bytes "7(b13)") flat_thirteenth seven_only thirteenth_kept),
)

voicings : Holds (at 9) × Holds (at 10) × Holds (at 11)
unfolding voicing_computed answer_of
voicings = (refl, refl, refl)

pub sheet_holds : AllHold sheet
sheet_holds =
    (suffixes.0, (suffixes.1, (suffixes.2, (suffixes.3, (suffixes.4, (suffixes.5, (qualities, (listings.0, (listings.1, (voicings.0, (voicings.1, (voicings.2, tt))))))))))))

-- What two calls have in common of which the second is given a moved part: paper 02, Q-14, of any function by its contract, as its proof and its callers read it (`Post`).
use Rattle.std.specs.Prelude.{◌≡◌, ℕ, ◌*◌, length, take}
use mathlib.Core.List.{List, flat_map}
use Rattle.names.specs.Names.{table_of}
use Rattle.names.specs.declared.table.Names.{Names}
use Rattle.candidates.specs.Candidates.{chords_of, line}
use Rattle.movedpart.specs.Raised.{raised, line_raised, SameClasses}

-- a call "and there is room": asked for the names and the codes that its arguments say, it answered how many these bytes are, and they stand at the front of the range that it
-- was lent, as it left it
pub record Wrote {ℓ} {K : Type ℓ} {R : Type 0} {A S : K → Type 0} (count : ℕ → R) (Post : (κs : K) → A κs → R → S κs → Type 0) (asked : (κs : K) → A κs → Names × List ℕ)
    (left : (κs : K) → S κs → List ℕ) (names : Names) (codes bytes : List ℕ) : Type ℓ where
  pub κs : K
  pub arguments : A κs
  pub answer : R
  pub exit : S κs
  pub made : Post κs arguments answer exit
  pub for_names : (asked κs arguments).0 ≡ names
  pub of_codes : (asked κs arguments).1 ≡ codes
  pub its_count : answer ≡ count (length bytes)
  pub its_bytes : take (length bytes) (left κs exit) ≡ bytes

-- the request's first three sentences, of what two such calls with the same names wrote, in whatever rooms
pub record KeepsSymbols {ℓ} (Call : Names → List ℕ → List ℕ → Type ℓ) : Type ℓ where
  pub listing_moves : (names : Names) (n : ℕ) (codes bytes bytes' : List ℕ) → Call names codes bytes → Call names (raised n codes) bytes'
      → (bytes ≡ flat_map (line (table_of names)) (chords_of codes)) × (bytes' ≡ flat_map (line_raised (table_of names) n) (chords_of codes))
  pub octaves_stay : (names : Names) (m : ℕ) (codes bytes bytes' : List ℕ) → Call names codes bytes → Call names (raised (12 * m) codes) bytes' → bytes' ≡ bytes
  pub classes_stay : (names : Names) (codes codes' bytes bytes' : List ℕ) → SameClasses codes codes' → Call names codes bytes → Call names codes' bytes' → bytes ≡ bytes'

-- two calls that write nothing, the second on the codes of the first raised by an amount, and for the same number: what holds of the amount and the two answers
abbrev pub TwoAnswers {ℓ} : {K : Type ℓ} {R : Type 0} {A S : K → Type 0} → (ℕ → R → R → Type 0) → ((κs : K) → A κs → R → S κs → Type 0) → ((κs : K) → A κs → List ℕ)
    → ((κs : K) → A κs → ℕ) → Type ℓ
TwoAnswers {K} {R} {A} {S} Holds Post codes number =
    (κs κs' : K) (a : A κs) (a' : A κs') (r r' : R) (s : S κs) (s' : S κs') (n : ℕ) → Post κs a r s → Post κs' a' r' s' → codes κs' a' ≡ raised n (codes κs a)
    → number κs' a' ≡ number κs a → Holds n r r'

-- What the private contracts say of a list of classes.
use Rattle.std.specs.Prelude.{◌≡◌, true, List, ℕ, ◌<◌, ◌≤◌, length, take, get_or}
use Rattle.intervals.specs.Sets.{has, set_where, is_in}

-- the set of some classes
unfoldable pub set_of : List ℕ → ℕ
set_of classes = set_where (λ c. is_in c classes)

-- each of some numbers is a class of a set
abbrev pub Within : ℕ → List ℕ → Type 0
Within set classes = (i : ℕ) → i < length classes → (get_or classes i 0 < 12) × (has set (get_or classes i 0) ≡ true)

-- at the front of a run of bytes stand at most twelve classes, so many, and this is their set
pub record Listed (order : List ℕ) (count set : ℕ) : Type 0 where
  pub few : count ≤ 12
  pub is_set : set ≡ set_of (take count order)
  pub each : Within set (take count order)

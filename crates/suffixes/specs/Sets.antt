-- Every set that a suffix stands for: demand 3 ("list every rooted set that demand 2 writes with exactly that suffix: none
-- missing, none twice, rising").
use Rattle.std.specs.Prelude.{cond, List, [], ◌∷◌, ℕ, zero, suc, ◌+◌}
use Rattle.answer.specs.Words.{same}
use Rattle.rules.specs.Suffix.{suffix_of}

-- of n rooted sets from s on, rising, those whose suffix is the text
unfoldable pub matching : List ℕ → ℕ → ℕ → List ℕ
matching t zero s = []
matching t (suc n) s = cond (same t (suffix_of s)) (s ∷ matching t n (s + 2)) (matching t n (s + 2))

-- of all rooted sets: 1, 3, .. 4095
unfoldable pub sets_of : List ℕ → List ℕ
sets_of t = matching t 2048 1

-- no suffix stands for more sets: proofs/Shared.antt has the theorem
abbrev pub most_shared : ℕ
most_shared = 16

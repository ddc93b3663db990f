-- A candidate's number loses none of its parts, and is not that of none.
--     parts_read      set, root and bass are read back from it
--     bass_told       a bass that is a class has another number than none
--     number_told     it is not 0
use Rattle.answer.proofs.Kit.{◌≡◌, List, ℕ, ◌/◌, ◌%◌, ◌<◌, ◌≤◌, arith, leb→le, true, Some, None}
use Rattle.answer.proofs.Tests.{said}
use Rattle.intervals.specs.Bass.{is_bass}
use Rattle.intervals.proofs.Rooted.{rooted_small, rooted_odd}
use Rattle.candidates.specs.declared.parts.Candidate.{Candidate}
use Rattle.candidates.specs.Candidates.{candidate_at}
use Rattle.candidates.proofs.Laws.{candidate_is}
use Rattle.host.specs.Numbers.{bass_number, parts_number}

pub record ReadsBack (number : ℕ) (c : Candidate) : Type 0 where
  pub set : number % 4096 ≡ c.set
  pub root : number / 4096 % 16 ≡ c.root
  pub bass : number / 65536 ≡ bass_number c.bass

pub bass_told : (class : ℕ) → is_bass (Some class) ≡ true → bass_number (Some class) < bass_number None
bass_told class is = let low = leb→le class 11 (said _ is) in omega arith

module _ (codes : List ℕ) (number : ℕ) (c : Candidate) (e : candidate_at codes number ≡ Some c) where
  small : c.set ≤ 4095
  small = rooted_small c.set (candidate_is codes number c e).rooted

  pub parts_read : ReadsBack (parts_number c) c
  parts_read =
      let less = (candidate_is codes number c e).root_less in
      let fits = small in
      record { set = omega arith; root = omega arith; bass = omega arith }

  pub number_told : parts_number c ≡ 0 → ⊥
  number_told none = let odd = rooted_odd c.set (candidate_is codes number c e).rooted in omega arith

-- From keys to elements: what `hemotusap_candidate` tells of a candidate, `hemotusap_harmony` writes.
--     exported     no candidate is refused, but for room
--     read-back    and from its element a reader has its root, its bass and its set
use Rattle.answer.proofs.Kit.{◌≡◌, ◌&&◌, true, List, ℕ, arith, leb, le-leb, Some}
use Rattle.answer.specs.Replies.{text}
use Rattle.intervals.specs.Bass.{is_bass}
use Rattle.candidates.specs.declared.parts.Candidate.{Candidate}
use Rattle.candidates.specs.Candidates.{flats, candidate_at}
use Rattle.candidates.proofs.Laws.{candidate_is}
use Rattle.harmonies.specs.Harmony.{harmony_of}
use Rattle.harmonies.specs.Reading.{read_harmony}
use Rattle.harmonies.proofs.Lossless.{lossless}
use Rattle.musicxml.specs.Replies.{harmony_reply}
use Rattle.musicxml.proofs.Replied.{element}

module _ (codes : List ℕ) (number : ℕ) (c : Candidate) (e : candidate_at codes number ≡ Some c) where
  classes : leb c.root 11 && is_bass c.bass ≡ true
  classes = let is = candidate_is codes number c e in rw (le-leb c.root 11 (let h = is.root_less in omega arith), is.bass_is)

  pub exported : harmony_reply flats c.root c.bass c.set ≡ text (harmony_of flats c.root c.bass c.set)
  exported = element c.root c.bass c.set (candidate_is codes number c e).rooted classes

  pub read_back : read_harmony (harmony_of flats c.root c.bass c.set) ≡ record { root = c.root; bass = c.bass; set = c.set }
  read_back = let is = candidate_is codes number c e in lossless c.root c.bass c.set is.root_less is.bass_is is.rooted

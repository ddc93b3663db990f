-- What it is to be raised by an amount: paper 02, Q-14.
use Rattle.std.specs.Prelude.{◌≡◌, List, ◌++◌, map, ℕ, ◌+◌, ◌%◌, Option}
use Rattle.std.specs.Option.{option_map}
use Rattle.answer.specs.Lines.{ended}
use Rattle.notes.specs.declared.note.Note.{Note}
use Rattle.names.specs.Names.{name_of}
use Rattle.rules.specs.Suffix.{suffix_of}
use Rattle.candidates.specs.declared.parts.Candidate.{Candidate}
use Rattle.candidates.specs.Keys.{firsts}
use Rattle.candidates.specs.Candidates.{slash}

-- a list: "every code of a list is raised by the same amount"
unfoldable pub raised : ℕ → List ℕ → List ℕ
raised n codes = map (λ code. code + n) codes

-- a class: "the old class raised by that amount", mod 12
abbrev pub class_raised : ℕ → ℕ → ℕ
class_raised n class = (class + n) % 12

-- a bass: none is none still
abbrev pub bass_raised : ℕ → Option ℕ → Option ℕ
bass_raised n = option_map (class_raised n)

-- a candidate: its root and its bass are raised, and the set is the same
unfoldable pub chord_raised : ℕ → Candidate → Candidate
chord_raised n c = record { root = class_raised n c.root; bass = bass_raised n c.bass; set = c.set }

-- a candidate's text: "every suffix is the same, and each root and bass name is the old class raised by that amount"
unfoldable pub symbol_raised : List Note → ℕ → Candidate → List ℕ
symbol_raised table n c = name_of table (class_raised n c.root) ++ suffix_of c.set ++ slash table (bass_raised n c.bass)

-- a candidate's line: "Each ends with LF"
unfoldable pub line_raised : List Note → ℕ → Candidate → List ℕ
line_raised table n c = ended (symbol_raised table n c)

-- the candidate of a number: where there is none, there is none still
abbrev pub answer_raised : ℕ → Option Candidate → Option Candidate
answer_raised n = option_map (chord_raised n)

-- "Two lists with the same classes in the same order of first occurrence"
abbrev pub SameClasses : List ℕ → List ℕ → Type 0
SameClasses codes codes' = firsts codes ≡ firsts codes'

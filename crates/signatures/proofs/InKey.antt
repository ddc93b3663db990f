-- Of the two listings of one list of keys, a candidate's line in a key is the candidate's own text in that key's names.
--     in_key       where the list has a candidate of the number
--     past_last    and where it has none, the line is the empty part at the end of the flat listing
--     handed_back  so a reference that `line` hands back shows that text
use denote.Ref.{Bor}
use Rattle.answer.proofs.Kit.{◌≡◌, refl, ap, ap₂, ◌∙◌, true, List, ℕ, length, take, drop, ℤ, Bor, Option, Some, None}
use Rattle.answer.specs.Lines.{line_at}
use Rattle.names.specs.Names.{table_of}
use Rattle.names.specs.declared.table.Names.{Names}
use Rattle.names.specs.declared.table.Names.TheVariants.{Flats, Sharps}
use Rattle.names.proofs.Named.{table_brief}
use Rattle.candidates.specs.declared.parts.Candidate.{Candidate}
use Rattle.candidates.specs.Candidates.{candidate_at, symbol, candidates_of}
use Rattle.candidates.proofs.Laws.{symbol_of, candidate_line}
use Rattle.signatures.specs.declared.line.Part.{Part}
use Rattle.signatures.specs.Signature.{is_signature, names_for}
use Rattle.signatures.specs.Part.{listing_in, no_line, part_of, PartOf}
use Rattle.signatures.proofs.Laws.{its_bytes, bytes_of, part_line, part_none}

-- the listing of some codes with the names of one table
abbrev listing : Names → List ℕ → List ℕ
listing names codes = candidates_of (table_of names) codes

chosen : (names : Names) (codes : List ℕ) → listing_in names (listing Flats codes) (listing Sharps codes) ≡ listing names codes
chosen Flats codes = refl
chosen Sharps codes = refl

module _ (codes : List ℕ) (number : ℕ) (fifths : ℤ) (key : is_signature fifths ≡ true) where
  abbrev names : Names
  names = names_for fifths

  abbrev part : Part
  part = part_of (listing Flats codes) (listing Sharps codes) number fifths

  -- the line of the number, in the listing that the key calls for
  its_line : (c : Option Candidate) → candidate_at codes number ≡ c → line_at (listing_in names (listing Flats codes) (listing Sharps codes)) number ≡ symbol_of (table_of names) c
  its_line c is =
      ap (λ (t : List ℕ). line_at t number) (chosen names codes) ∙ candidate_line (table_of names) (table_brief names) codes number
      ∙ ap (symbol_of (table_of names)) is

  pub past_last : candidate_at codes number ≡ None → part ≡ no_line (length (listing Flats codes))
  past_last is = part_none (listing Flats codes) (listing Sharps codes) number fifths key (its_line None is)

  module _ (c : Candidate) (is : candidate_at codes number ≡ Some c) where
    pub in_key : (part.names ≡ names) × (bytes_of (listing Flats codes) (listing Sharps codes) part ≡ symbol (table_of names) c)
    in_key = part_line (listing Flats codes) (listing Sharps codes) number fifths key (symbol (table_of names) c) (its_line (Some c) is)

    pub handed_back : (flat sharp r : Bor (List ℕ)) → flat.now ≡ listing Flats codes → sharp.now ≡ listing Sharps codes
        → PartOf (part_of flat.now sharp.now number fifths) flat sharp r → r.now ≡ symbol (table_of names) c
    handed_back flat sharp r e f back =
        let p = part_of flat.now sharp.now number fifths in
        back.bytes ∙ ap (λ (t : List ℕ). take p.length (drop p.start t)) (its_bytes p.names flat sharp)
        ∙ ap₂ (λ (x y : List ℕ). bytes_of x y (part_of x y number fifths)) e f ∙ in_key.1

-- Laws of a candidate's line as a part of a listing.
--     its_bytes      the bytes of the listing that is chosen of two
--     part_within    it lies in the listing whose names it has
--     part_line      in a key, it is the line of the number in the listing that the key calls for
--     part_none      and where that has none, the empty part at the end of the flat listing
--     part_outside   as it is outside the keys
use denote.Ref.{Bor}
use Rattle.answer.proofs.Kit.{◌≡◌, refl, ap, ◌∙◌, true, false, cond, List, ℕ, ◌+◌, ◌≤◌, arith, length, take, drop, ℤ, Bor, Some, None, Option}
use Rattle.std.specs.Prelude.{unwrap_or}
use Rattle.answer.specs.Lines.{line_at, line_start}
use Rattle.answer.proofs.Standing.{line_bytes, line_within}
use Rattle.names.specs.declared.table.Names.{Names}
use Rattle.names.specs.declared.table.Names.TheVariants.{Flats, Sharps}
use Rattle.signatures.specs.declared.line.Part.{Part}
use Rattle.signatures.specs.Signature.{is_signature, names_for, names_in}
use Rattle.signatures.specs.Part.{found_at, found_in, listing_in, no_line, part_at, part_for, part_found, part_of}

pub its_bytes : (names : Names) (flat sharp : Bor (List ℕ)) → (listing_in names flat sharp).now ≡ listing_in names flat.now sharp.now
its_bytes Flats flat sharp = refl
its_bytes Sharps flat sharp = refl

module _ (flat sharp : List ℕ) where
  abbrev pub IsWithin : Part → Type 0
  IsWithin part = part.start + part.length ≤ length (listing_in part.names flat sharp)

  -- what is found, or the empty part
  abbrev or_none : Option Part → Part
  or_none found = unwrap_or found (no_line (length flat))

  line_in : (names : Names) (number : ℕ) → IsWithin (or_none (part_at names (found_in (listing_in names flat sharp) number)))
  unfolding found_in
  line_in names number = by_line (line_at (listing_in names flat sharp) number) refl
    where
      by_line : (o : Option (List ℕ)) → line_at (listing_in names flat sharp) number ≡ o
          → IsWithin (or_none (part_at names (found_at (line_start (listing_in names flat sharp) number) o)))
      by_line None e = omega arith
      by_line (Some line) e = omega (arith, line_within (listing_in names flat sharp) number line e)

  pub part_within : (number : ℕ) (fifths : ℤ) → IsWithin (part_of flat sharp number fifths)
  unfolding part_of part_found
  part_within number fifths = by_names (names_in fifths)
    where
      by_names : (called : Option Names) → IsWithin (or_none (part_for called flat sharp number))
      by_names (Some names) = line_in names number
      by_names None = omega arith

-- the bytes of a part
abbrev pub bytes_of : List ℕ → List ℕ → Part → List ℕ
bytes_of flat sharp part = take part.length (drop part.start (listing_in part.names flat sharp))

module _ (flat sharp : List ℕ) (number : ℕ) (fifths : ℤ) where
  module _ (key : is_signature fifths ≡ true) where
    abbrev chosen : List ℕ
    chosen = listing_in (names_for fifths) flat sharp

    found : (o : Option (List ℕ)) → line_at chosen number ≡ o → part_of flat sharp number fifths ≡ or_none flat sharp (part_at (names_for fifths) (found_at (line_start chosen number) o))
    unfolding part_of part_found names_in found_in
    found o e =
        ap (λ b. or_none flat sharp (part_for (cond b (Some (names_for fifths)) None) flat sharp number)) key
        ∙ ap (λ (x : Option (List ℕ)). or_none flat sharp (part_at (names_for fifths) (found_at (line_start chosen number) x))) e

    pub part_line : (line : List ℕ) → line_at chosen number ≡ Some line
        → ((part_of flat sharp number fifths).names ≡ names_for fifths) × (bytes_of flat sharp (part_of flat sharp number fifths) ≡ line)
    part_line line e = rw (found (Some line) e) (refl, line_bytes chosen number line e)

    pub part_none : line_at chosen number ≡ None → part_of flat sharp number fifths ≡ no_line (length flat)
    part_none e = found None e

  pub part_outside : is_signature fifths ≡ false → part_of flat sharp number fifths ≡ no_line (length flat)
  unfolding part_of part_found names_in
  part_outside e = ap (λ b. or_none flat sharp (part_for (cond b (Some (names_for fifths)) None) flat sharp number)) e

-- A candidate's line as a part of one of two listings: paper 02, Q-9.
use Rattle.std.specs.Prelude.{◌≡◌, List, ℕ, ◌+◌, ℤ, length, take, drop, Some, None, Option, unwrap_or}
use Rattle.std.specs.Borrow.{Bor}
use Rattle.answer.specs.Lines.{line_at, line_start}
use Rattle.names.specs.declared.table.Names.{Names}
use Rattle.names.specs.declared.table.Names.TheVariants.{Flats, Sharps}
use Rattle.signatures.specs.declared.line.Part.{Part}
use Rattle.signatures.specs.Signature.{names_in}

-- a line, where there is one: where it begins, and its length "without its LF"
abbrev pub found_at : ℕ → Option (List ℕ) → Option (ℕ × ℕ)
found_at start None = None
found_at start (Some line) = Some (start, length line)

-- the line of a number from 0 in a listing
unfoldable pub found_in : List ℕ → ℕ → Option (ℕ × ℕ)
found_in listing number = found_at (line_start listing number) (line_at listing number)

-- of two, the listing with these names
abbrev pub listing_in : {A : Type 0} → Names → A → A → A
listing_in Flats flat sharp = flat
listing_in Sharps flat sharp = sharp

-- "the empty part at the flat listing's end"
abbrev pub no_line : ℕ → Part
no_line flatLength = record { names = Flats; start = flatLength; length = 0 }

-- what was found, as a part of the listing with these names
abbrev pub part_at : Names → Option (ℕ × ℕ) → Option Part
part_at names (Some found) = Some record { names = names; start = found.0; length = found.1 }
part_at names None = None

-- the line in the names that a key calls for: none where "a key out of range" calls for none, or for "a number beyond the chosen listing's lines"
abbrev pub part_for : Option Names → List ℕ → List ℕ → ℕ → Option Part
part_for (Some names) flat sharp number = part_at names (found_in (listing_in names flat sharp) number)
part_for None flat sharp number = None

-- that line, where there is one
unfoldable pub part_found : List ℕ → List ℕ → ℕ → ℤ → Option Part
part_found flat sharp number fifths = part_for (names_in fifths) flat sharp number

-- "that candidate's line as a part of whichever listing the key calls for"; each of the two "yields" the empty part
unfoldable pub part_of : List ℕ → List ℕ → ℕ → ℤ → Part
part_of flat sharp number fifths = unwrap_or (part_found flat sharp number fifths) (no_line (length flat))

-- a reference to such a part, "still in the caller's own memory": where it points, and the bytes there
pub record PartOf (part : Part) (flat sharp r : Bor (List ℕ)) : Type 0 where
  pub place : r.ref_ptr ≡ ((listing_in part.names flat sharp).ref_ptr.0, (listing_in part.names flat sharp).ref_ptr.1 + part.start)
  pub bytes : r.now ≡ take part.length (drop part.start (listing_in part.names flat sharp).now)

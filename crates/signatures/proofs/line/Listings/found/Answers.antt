-- `signatures::line::Listings::found` meets its contract: by the names that the key calls for.
use Rattle.answer.proofs.Kit.{◌≡◌, sym, ap, ◌∙◌, List, ℕ, ℤ, Bor, Option, Some, None}
use mir.Facts.{to_z-of_z}
use Rattle.names.specs.declared.table.Names.{Names}
use Rattle.signatures.specs.Signature.{names_in}
use Rattle.signatures.specs.Part.{found_in, listing_in, part_at, part_for, part_found}
use Rattle.signatures.proofs.Laws.{its_bytes}
use Rattle.signatures.proofs.line.Listings.found.Goals as goal

module _ (flat sharp : Bor (List ℕ)) (number : ℕ) (fifths : ℤ) where
  by_key : (called : Option Names) → names_in fifths ≡ called → part_for called flat.now sharp.now number ≡ part_found flat.now sharp.now number fifths
  unfolding part_found
  by_key called e = ap (λ (x : Option Names). part_for x flat.now sharp.now number) (sym e)

  -- of a key that calls for some names, the line in the listing that has them
  in_names : (names : Names) (listing : Bor (List ℕ)) (found : Option (ℕ × ℕ)) → names_in fifths ≡ Some names → listing ≡ listing_in names flat sharp → found ≡ found_in listing.now number
      → part_at names found ≡ part_found flat.now sharp.now number fifths
  in_names names listing found called is at =
      ap (part_at names) (at ∙ ap (λ (t : List ℕ). found_in t number) (ap (λ (r : Bor (List ℕ)). r.now) is ∙ its_bytes names flat sharp)) ∙ by_key (Some names) called

pub returns-in_err-names : goal.returns-in_err-names
returns-in_err-names c = c.from_residual.ensures ∙ by_key c.args.self.flat c.args.self.sharp _ _ None (rw (to_z-of_z c.ranges.fifths) at (sym c.names_in.ensures ∙ c.in_err-names.was))

pub returns-in_err-start : goal.returns-in_err-start
returns-in_err-start c =
    c.from_residual-in_err-start.ensures
    ∙ in_names c.args.self.flat c.args.self.sharp _ _ _ _ None (rw (to_z-of_z c.ranges.fifths) at (sym c.names_in.ensures ∙ c.in_ok-names.was)) c.of.ensures (sym c.in_err-start.was ∙ c.line_in.ensures)

pub returns : goal.returns
returns c =
    in_names c.args.self.flat c.args.self.sharp _ _ _ _ (Some (c.in_ok-start.start, c.in_ok-start.length)) (rw (to_z-of_z c.ranges.fifths) at (sym c.names_in.ensures ∙ c.in_ok-names.was)) c.of.ensures
    (sym c.in_ok-start.was ∙ c.line_in.ensures)

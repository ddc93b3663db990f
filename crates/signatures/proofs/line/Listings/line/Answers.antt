-- `signatures::line::Listings::line` meets its contract: the part lies in the listing that it is taken of.
use Rattle.answer.proofs.Kit.{◌≡◌, refl, sym, ap, ap₂, subst, ◌∙◌, List, ℕ, ◌+◌, ◌-◌, ◌≤◌, add_comm, arith, length, take, drop, ℤ, Bor}
use mir.Facts.{to_z-of_z}
use Rattle.signatures.specs.declared.line.Part.{Part}
use Rattle.signatures.specs.Part.{listing_in, part_of, PartOf}
use Rattle.signatures.proofs.Laws.{IsWithin, its_bytes, part_within}
use Rattle.signatures.proofs.line.Listings.line.Goals as goal
use Rattle.signatures.proofs.line.Listings.line.Goals.{After-of}

-- a part of a listing that was chosen by its names
module _ (flat sharp listing : Bor (List ℕ)) (number : ℕ) (fifths : ℤ) (part : Part) (is : part ≡ part_of flat.now sharp.now number fifths) (chosen : listing ≡ listing_in part.names flat sharp) where
  reaches : part.start + part.length ≤ length listing.now
  reaches = rw (chosen, its_bytes part.names flat sharp) (subst (IsWithin flat.now sharp.now) (sym is) (part_within flat.now sharp.now number fifths))

  taken : (r : Bor (List ℕ)) → r.ref_ptr ≡ (listing.ref_ptr.0, part.start + listing.ref_ptr.1)
      → r.now ≡ take (part.start + part.length - part.start) (drop part.start listing.now) → PartOf (part_of flat.now sharp.now number fifths) flat sharp r
  taken r place bytes =
      let many : part.start + part.length - part.start ≡ part.length = omega arith in
      subst (λ (x : Part). PartOf x flat sharp r) is
      record {
        place = place ∙ ap (λ (l : Bor (List ℕ)). (l.ref_ptr.0, part.start + l.ref_ptr.1)) chosen ∙ ap (λ (n : ℕ). ((listing_in part.names flat sharp).ref_ptr.0, n)) (add_comm part.start _);
        bytes = bytes ∙ ap₂ (λ (k : ℕ) (l : Bor (List ℕ)). take k (drop part.start l.now)) many chosen;
      }

told : (c : After-of) → c.line_part-part.result ≡ part_of c.args.self.flat.now c.args.self.sharp.now c.args.number c.args.fifths
told c = rw (to_z-of_z c.ranges.fifths) at c.line_part-part.ensures

within : (c : After-of) → c.line_part-part.result.start + c.line_part-part.result.length ≤ length c.of.result.now
within c = reaches c.args.self.flat c.args.self.sharp _ c.args.number c.args.fifths _ (told c) c.of.ensures

pub overflow_add-result : goal.overflow_add-result
overflow_add-result c = record { fits = omega (arith, within (goal.at.overflow_add-result c).After-of) }

pub slice_bounds-result-end : goal.slice_bounds-result-end
slice_bounds-result-end c = within (goal.at.slice_bounds-result-end c).After-of

pub returns : goal.returns
returns c = taken c.args.self.flat c.args.self.sharp _ c.args.number c.args.fifths _ (told (goal.at.returns c).After-of) c.of.ensures _ refl refl

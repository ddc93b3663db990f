-- `listing::search::search` meets its contract. The loop's invariant: what is found, with what the sets from `set` on give, is the listing.
use Rattle.answer.proofs.Kit.{◌≡◌, refl, ap, sym, ◌∙◌, List, ◌++◌, append-nil, append_assoc, ℕ, ◌+◌, ◌/◌, ◌%◌, ◌≤◌, arith, length, length-append}
use Rattle.answer.specs.Made.{with_byte}
use Rattle.intervals.proofs.Rooted.{is_rooted_lem}
use Rattle.suffixes.specs.Sets.{matching, sets_of}
use Rattle.listing.specs.Listing.{in_bytes, listing_of}
use Rattle.listing.proofs.Laws.{listing_room_lem}
use Rattle.listing.proofs.Found.{left_of, two, one_found, one_skipped, two_added}
use Rattle.listing.proofs.search.search.Goals as goal
use Rattle.listing.proofs.search.search.Goals.{then-is_suffix, else-is_suffix}

pub loop-set-init : goal.loop-set-init
unfolding sets_of listing_of
loop-set-init c = record { found = rw c.new-found.ensures refl; odd = refl; within = omega arith }

pub is_suffix-requires : goal.is_suffix-requires
is_suffix-requires c = let odd = c.loop-set.invariant.odd in let small = c.loop-set-test.true in let e = c.from.ensures in is_rooted_lem _ (omega arith) (omega arith)

pub loop-set-preserved : goal.loop-set-preserved
loop-set-preserved c = let h = c.loop-set in
    let t = c.args.name.now in
    let odd = h.invariant.odd in
    let small = c.loop-set-test.true in
    let is = rw c.from.ensures at c.is_suffix.ensures in
    record {
      found = elim c.if-is_suffix.branch [
        | then-is_suffix w ↦
            let behind = one_found t h.set odd small (sym is ∙ w.if-is_suffix.true) in
            let high : h.set / 256 % 256 ≡ h.set / 256 = omega arith in
            let sums = sym (length-append h.found (left_of t h.set)) ∙ ap length h.invariant.found in
            let room : length h.found + 2 ≤ 32 = omega (arith, listing_room_lem t, ap length behind) in
            rw (w.found-is, w.push_byte-then-is_suffix.ensures, w.push_byte.ensures, w.to_be_bytes.ensures)
            (ap (λ (b : ℕ). with_byte 32 (with_byte 32 h.found b) (h.set % 256) ++ left_of t (h.set + 2)) high
            ∙ ap (λ (l : List ℕ). l ++ left_of t (h.set + 2)) (two_added h.found (h.set / 256) (h.set % 256) room)
            ∙ append_assoc h.found (two h.set) (left_of t (h.set + 2)) ∙ ap (λ (l : List ℕ). h.found ++ l) (sym behind) ∙ h.invariant.found)
        | else-is_suffix w ↦ rw w.found-is (ap (λ (l : List ℕ). h.found ++ l) (sym (one_skipped t h.set odd small (sym is ∙ w.if-is_suffix.false))) ∙ h.invariant.found)
      ];
      odd = omega arith;
      within = omega arith;
    }

pub returns : goal.returns
unfolding matching in_bytes
returns c = let h = c.loop-set in
    let end : h.set ≡ 4097 = omega (arith, h.invariant.within, h.invariant.odd) in
    sym (append-nil h.found) ∙ ap (λ (s : ℕ). h.found ++ left_of c.args.name.now s) (sym end) ∙ h.invariant.found

-- A suffix put into a buffer, or added to a text, by whether its number is a rooted set and its place has room.
--     suffix_added     what the descriptor of a rooted set adds to a text
--     with_set, without_set     a text with the suffix of a rooted set, and of a number that is none
--     no_room          no place in a buffer
--     placed           the suffix, made in a text of its own and copied to its place, which has room for it
--     put_at_lem       what is told of a rooted set with room
--     one_put          two that are told of one call agree, up to the place behind the suffix
use borrow.Rule.Slice.PartMut.{put_mid}
use Rattle.answer.proofs.Kit.{◌≡◌, refl, sym, ap, ap₂, subst, subst₂, ◌∙◌, Bool, true, true≢false, false, and-false, List, [], ◌++◌, append_assoc, ℕ, ◌+◌, ◌-◌, ◌≤◌, ◌<◌, arith, add-zero, length, take, drop, drop-drop, take_at, length-append, length-take-le, take-append-drop, le-leb, lt-leb}
use Rattle.answer.specs.Written.{Writes}
use Rattle.intervals.specs.Sets.{is_rooted}
use Rattle.rules.specs.Suffix.{parenthesized, suffix_of, longest}
use Rattle.rules.proofs.Short.{suffix_short}
use Rattle.descriptors.specs.declared.descriptor.Descriptor.{Descriptor}
use Rattle.descriptors.specs.Descriptors.{descriptor_of}
use Rattle.inference.specs.Puts.{has_place, PutsSuffix, with_suffix}
use Rattle.inference.specs.private.Adds.{Adds}
use Rattle.inference.specs.private.Described.{head_of, parts_of}
use Rattle.inference.proofs.Described.{head_told, parts_told}

module _ (set : ℕ) where
  described : is_rooted set ≡ true → (d : Descriptor) → d ≡ descriptor_of set → head_of d ++ parenthesized (parts_of d) ≡ suffix_of set
  unfolding suffix_of
  described is d told =
      ap (λ (x : Descriptor). head_of x ++ parenthesized (parts_of x)) told
      ∙ ap₂ (λ (h : List ℕ) (p : List (List ℕ)). h ++ parenthesized p) (head_told set) (parts_told set is)

  -- what the descriptor of a rooted set adds, where the longest has room
  pub suffix_added : (n : ℕ) (t t' : List ℕ) (d : Descriptor) → (is_rooted set ≡ true) × (d ≡ descriptor_of set) → length t + 72 ≤ n
      → Adds n t (head_of d ++ parenthesized (parts_of d)) t' → t' ≡ t ++ suffix_of set
  suffix_added n t t' d told room adds =
      let text = described told.0 d told.1 in
      let short = suffix_short set told.0 in
      adds (rw text (omega arith)) ∙ ap (λ (x : List ℕ). t ++ x) text

  pub with_set : (n : ℕ) (t : List ℕ) → is_rooted set ≡ true → length t + 72 ≤ n → with_suffix n t set ≡ t ++ suffix_of set
  with_set n t is room = rw (is, le-leb (length t + longest + 8) n (omega arith))

  pub without_set : (n : ℕ) (t : List ℕ) → is_rooted set ≡ false → with_suffix n t set ≡ t
  without_set n t other = rw other

module _ (set : ℕ) (buffer : List ℕ) (at : ℕ) where
  stays : has_place buffer at set ≡ false → PutsSuffix set buffer at at buffer
  stays f = record { put = λ t. absurd (true≢false (sym t ∙ f)); stays = λ e. (refl, refl) }

  pub no_room : length buffer < at + 72 → PutsSuffix set buffer at at buffer
  unfolding has_place
  no_room h = stays (rw (lt-leb (at + longest + 8) (length buffer) (omega arith)) (and-false (is_rooted set)))

  module _ (room : at + 72 ≤ length buffer) where
    place : is_rooted set ≡ true → has_place buffer at set ≡ true
    unfolding has_place
    place is = rw (is, le-leb (at + longest + 8) (length buffer) (omega arith))

    no_place : is_rooted set ≡ false → has_place buffer at set ≡ false
    unfolding has_place
    no_place other = rw other

    -- a text copied to the place
    abbrev copied : List ℕ → List ℕ
    copied t = put_mid at (at + length t - at) buffer t

    copied_lem : (t : List ℕ) → copied t ≡ take at buffer ++ (t ++ drop (at + length t) buffer)
    copied_lem t =
        let whole : at + length t - at ≡ length t = omega arith in
        ap (λ (k : ℕ). put_mid at k buffer t) whole ∙ rw (drop-drop (length t) at buffer) refl

    by_set : (b : Bool) → is_rooted set ≡ b → (t : List ℕ) → t ≡ with_suffix 72 [] set → (at + length t ≤ length buffer) × PutsSuffix set buffer at (at + length t) (copied t)
    by_set true is t told =
        let same : t ≡ suffix_of set = told ∙ with_set set 72 [] is (omega arith) in
        let short = suffix_short set is in
        let fits : length t ≤ 64 = rw same short in
        let front : length (take at buffer ++ t) ≡ at + length t = length-append (take at buffer) t ∙ ap (λ (n : ℕ). n + length t) (length-take-le at buffer (omega arith)) in (
          omega arith,
          record {
            put =
                λ e.
                record {
                  place = ap (λ (x : List ℕ). at + length x) same;
                  added = ap (take (at + length t)) (copied_lem t ∙ sym (append_assoc (take at buffer) t (drop (at + length t) buffer))) ∙ take_at (take at buffer ++ t) (drop (at + length t) buffer) (at + length t) front ∙ ap (λ (x : List ℕ). take at buffer ++ x) same;
                };
            stays = λ f. absurd (true≢false (sym (place is) ∙ f));
          },
        )
    by_set false other t told =
        let none : t ≡ [] = told ∙ without_set set 72 [] other in
        subst (λ (x : List ℕ). (at + length x ≤ length buffer) × PutsSuffix set buffer at (at + length x) (copied x)) (sym none)
        (omega arith, subst₂ (PutsSuffix set buffer at) (sym (add-zero at)) (sym (copied_lem [] ∙ ap (λ (n : ℕ). take at buffer ++ drop n buffer) (add-zero at) ∙ take-append-drop at buffer)) (stays (no_place other)))

    pub placed : (t : List ℕ) → t ≡ with_suffix 72 [] set → (at + length t ≤ length buffer) × PutsSuffix set buffer at (at + length t) (copied t)
    placed = by_set (is_rooted set) refl

  pub put_at_lem : is_rooted set ≡ true → at + 72 ≤ length buffer → (r : ℕ) (left : List ℕ) → PutsSuffix set buffer at r left → Writes buffer at (suffix_of set) r left
  put_at_lem is room r left p = p.put (place room is)

  pub one_put : (r r' : ℕ) (left left' : List ℕ) → PutsSuffix set buffer at r left → PutsSuffix set buffer at r' left' → (r ≡ r') × (take r left ≡ take r' left')
  one_put r r' left left' p q = by_case (has_place buffer at set) refl
    where
      by_case : (b : Bool) → has_place buffer at set ≡ b → (r ≡ r') × (take r left ≡ take r' left')
      by_case true e = ((p.put e).place ∙ sym (q.put e).place, (p.put e).added ∙ sym (q.put e).added)
      by_case false e = let same = (p.stays e).0 ∙ sym (q.stays e).0 in (same, ap₂ take same ((p.stays e).1 ∙ sym (q.stays e).1))

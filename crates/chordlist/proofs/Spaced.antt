-- A line holds codes exactly when it is their texts with one space between.
--     spaced_read    such a line is read
--     read_spaced    and a line that is read is such
use Rattle.answer.proofs.Kit.{◌≡◌, refl, sym, ap, ap₂, ◌∙◌, Bool, true, true≢false, false, cond, ◌&&◌, List, [], ◌∷◌, ◌++◌, map, append-nil, ℕ, ◌<◌, arith, eqb, leb, ltb, leb→le, ltb→lt, length, length-append, Option, Some, None, ne_eqb, eqb-true}
use Rattle.answer.proofs.Tests.{left, right, said, is_true}
use Rattle.chordlist.specs.Parts.{with_byte, parts, joined}
use Rattle.chordlist.specs.Codes.{space, is_digit, are_digits, decimal, is_code, are_codes, Spaced, with_code, codes_of, codes_in}
use Rattle.chordlist.proofs.Parting.{onto, onto_part}

abbrev cut : List ℕ → List (List ℕ)
cut line = parts ([] ∷ []) space line

module _ (a b : Bool) (e : a && b ≡ true) where
  first_so : a ≡ true
  first_so = is_true a (left a b (said _ e))

  second_so : b ≡ true
  second_so = is_true b (right a b (said _ e))

-- a code has digits alone, and one at least
module _ (p : List ℕ) (is : is_code p ≡ true) where
  code_digits : are_digits p ≡ true
  unfolding is_code
  code_digits = second_so (ltb 0 (length p) && leb (length p) 3) (are_digits p) (first_so _ (leb (decimal 0 p) 255) is)

  code_long : 0 < length p
  unfolding is_code
  code_long =
      let one-to-three = first_so (ltb 0 (length p) && leb (length p) 3) (are_digits p) (first_so _ (leb (decimal 0 p) 255) is) in
      ltb→lt 0 (length p) (left (ltb 0 (length p)) (leb (length p) 3) (said _ one-to-three))

digits_cut : (p : List ℕ) → are_digits p ≡ true → (rest : List ℕ) → cut (p ++ rest) ≡ onto p (cut rest)
unfolding are_digits onto parts
digits_cut [] are rest = refl
digits_cut (b ∷ p) are rest =
    let least = leb→le 48 b (left (leb 48 b) _ (said _ (first_so (is_digit b) (are_digits p) are))) in
    rw (ne_eqb b space (let other : b ≡ space → ⊥ = omega (arith, least) in other)) (ap (with_byte b) (digits_cut p (second_so (is_digit b) (are_digits p) are) rest))

cut_joined : (p : List ℕ) (more : List (List ℕ)) → are_codes (p ∷ more) ≡ true → cut (joined space (p ∷ more)) ≡ p ∷ more
unfolding are_codes joined parts
cut_joined p [] are =
    ap cut (sym (append-nil p)) ∙ digits_cut p (code_digits p (first_so (is_code p) true are)) []
    ∙ onto_part p [] [] ∙ ap (λ (t : List ℕ). t ∷ []) (append-nil p)
cut_joined p (q ∷ more) are =
    digits_cut p (code_digits p (first_so (is_code p) _ are)) (space ∷ joined space (q ∷ more))
    ∙ onto_part p [] (cut (joined space (q ∷ more)))
    ∙ ap₂ ◌∷◌ (append-nil p) (cut_joined q more (second_so (is_code p) _ are))

codes_texts : (texts : List (List ℕ)) → are_codes texts ≡ true → codes_of texts ≡ Some (map (decimal 0) texts)
unfolding are_codes codes_of with_code
codes_texts [] are = refl
codes_texts (p ∷ more) are = rw (first_so (is_code p) (are_codes more) are) (ap (with_code (decimal 0 p)) (codes_texts more (second_so (is_code p) (are_codes more) are)))

-- a line of some bytes is cut
in_parts : (line : List ℕ) → 0 < length line → codes_in line ≡ codes_of (cut line)
unfolding codes_in
in_parts [] h = absurd (let no_way : ⊥ = omega arith in no_way)
in_parts (b ∷ more) h = refl

joined_long : (p : List ℕ) (more : List (List ℕ)) → 0 < length p → 0 < length (joined space (p ∷ more))
unfolding joined
joined_long p [] h = h
joined_long p (q ∷ more) h = rw length-append (omega arith)

texts_read : (texts : List (List ℕ)) → are_codes texts ≡ true → codes_in (joined space texts) ≡ Some (map (decimal 0) texts)
unfolding are_codes joined codes_in
texts_read [] are = refl
texts_read (p ∷ more) are =
    in_parts _ (joined_long p more (code_long p (first_so (is_code p) (are_codes more) are)))
    ∙ ap codes_of (cut_joined p more are) ∙ codes_texts (p ∷ more) are

pub spaced_read : (line codes : List ℕ) → Spaced line codes → codes_in line ≡ Some codes
spaced_read line codes s = ap codes_in (sym s.between) ∙ texts_read s.texts s.each ∙ ap Some s.worth

-- the parts of a line, joined, are the line
join_byte : (b : ℕ) (ps : List (List ℕ)) → joined space (with_byte b ps) ≡ b ∷ joined space ps
unfolding joined with_byte
join_byte b [] = refl
join_byte b (p ∷ []) = refl
join_byte b (p ∷ q ∷ more) = refl

join_next : (ps : List (List ℕ)) → 0 < length ps → joined space ([] ∷ ps) ≡ space ∷ joined space ps
unfolding joined
join_next [] h = absurd (let no_way : ⊥ = omega arith in no_way)
join_next (p ∷ more) h = refl

cut_long : (line : List ℕ) → 0 < length (cut line)
unfolding parts with_byte
cut_long [] = omega arith
cut_long (b ∷ more) = by_case (eqb b space) (cut more)
  where
    by_case : (t : Bool) (ps : List (List ℕ)) → 0 < length (cond t ([] ∷ ps) (with_byte b ps))
    by_case true ps = omega arith
    by_case false [] = omega arith
    by_case false (p ∷ more) = omega arith

joined_cut : (line : List ℕ) → joined space (cut line) ≡ line
unfolding parts joined
joined_cut [] = refl
joined_cut (b ∷ more) = by_case (eqb b space) refl (joined_cut more)
  where
    by_case : (t : Bool) → eqb b space ≡ t → joined space (cut more) ≡ more → joined space (cond t ([] ∷ cut more) (with_byte b (cut more))) ≡ b ∷ more
    by_case true e rest = join_next (cut more) (cut_long more) ∙ ap₂ ◌∷◌ (sym (eqb-true b space e)) rest
    by_case false e rest = join_byte b (cut more) ∙ ap (λ (l : List ℕ). b ∷ l) rest

parts_held : (ps : List (List ℕ)) (codes : List ℕ) → codes_of ps ≡ Some codes → (are_codes ps ≡ true) × (map (decimal 0) ps ≡ codes)
unfolding are_codes codes_of with_code
parts_held [] codes e = (refl, cc)
parts_held (p ∷ more) codes e = by_case (is_code p) (codes_of more) e (parts_held more)
  where
    by_case : (b : Bool) (l : Option (List ℕ)) → cond b (with_code (decimal 0 p) l) None ≡ Some codes → ((cs : List ℕ) → l ≡ Some cs → (are_codes more ≡ true) × (map (decimal 0) more ≡ cs))
        → (b && are_codes more ≡ true) × (decimal 0 p ∷ map (decimal 0) more ≡ codes)
    by_case true (Some cs) e rest = let r = rest cs refl in let is : decimal 0 p ∷ cs ≡ codes = cc in (r.0, ap (λ (l : List ℕ). decimal 0 p ∷ l) r.1 ∙ is)
    by_case true None e rest = absurd (true≢false cc)
    by_case false l e rest = absurd (true≢false cc)

pub read_spaced : (line codes : List ℕ) → codes_in line ≡ Some codes → Spaced line codes
unfolding codes_in are_codes joined
read_spaced [] codes e = record { texts = []; each = refl; between = refl; worth = cc }
read_spaced (b ∷ more) codes e =
    let held = parts_held (cut (b ∷ more)) codes e in
    record { texts = cut (b ∷ more); each = held.0; between = joined_cut (b ∷ more); worth = held.1 }

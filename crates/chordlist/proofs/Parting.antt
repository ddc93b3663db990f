-- Laws of texts in parts.
--     onto         parts with a text in front of the first
--     onto_part    where there is a first part
--     onto_none    where there is none
--     onto_byte    a text and a byte in front, one after the other
use Rattle.answer.proofs.Kit.{◌≡◌, refl, ap, List, [], ◌∷◌, ◌++◌, ℕ}
use Rattle.chordlist.specs.Parts.{with_byte}

unfoldable pub onto : List ℕ → List (List ℕ) → List (List ℕ)
onto [] ps = ps
onto (b ∷ t) ps = with_byte b (onto t ps)

pub onto_part : (t p : List ℕ) (more : List (List ℕ)) → onto t (p ∷ more) ≡ (t ++ p) ∷ more
unfolding onto with_byte
onto_part [] p more = refl
onto_part (b ∷ t) p more = ap (with_byte b) (onto_part t p more)

pub onto_none : (b : ℕ) (t : List ℕ) → onto (b ∷ t) [] ≡ (b ∷ t) ∷ []
unfolding onto with_byte
onto_none b [] = refl
onto_none b (c ∷ t) = ap (with_byte b) (onto_none c t)

pub onto_byte : (t : List ℕ) (b : ℕ) (ps : List (List ℕ)) → onto (t ++ (b ∷ [])) ps ≡ onto t (with_byte b ps)
unfolding onto
onto_byte [] b ps = refl
onto_byte (c ∷ t) b ps = ap (with_byte c) (onto_byte t b ps)

-- What is written is read: the elements of the bytes of some elements are these.
--     plain, clean     texts with no `<` and no `>`; elements of such texts, whose names begin with no `/`
--     parsed           elements that are clean are read back
--     clean_then       a clean row behind another
use Rattle.answer.proofs.Kit.{◌≡◌, refl, sym, ap, ◌∙◌, Bool, true, false, cond, not, ◌&&◌, ◌||◌, List, [], ◌∷◌, ◌++◌, append_assoc, append-nil, ℕ, T, eqb}
use Rattle.answer.specs.Words.{bytes}
use Rattle.answer.proofs.Tests.{left, right, both, eq→same}
use Rattle.harmonies.specs.Xml.{Elements, none, element, ◌then◌, written}
use Rattle.harmonies.specs.Scanning.{less, greater, slash, Tag, tag, Scanned, scanned, met, scan, Row, row, closed, opened, placed, joined, only, elements_of}

unfoldable pub plain : List ℕ → Bool
plain [] = true
plain (b ∷ more) = not (eqb b less || eqb b greater) && plain more

unfoldable pub is_name : List ℕ → Bool
is_name [] = false
is_name (b ∷ more) = not (eqb b slash) && plain (b ∷ more)

unfoldable pub clean : Elements → Bool
clean none = true
clean (element name text inside behind) = is_name name && plain text && clean inside && clean behind

unfoldable tags_of : Elements → List Tag → List Tag
tags_of none ts = ts
tags_of (element name text inside behind) ts = tag name text ∷ tags_of inside (tag (slash ∷ name) [] ∷ tags_of behind ts)

-- a byte of a plain text
met_plain : (b : ℕ) (s : Scanned) → T (not (eqb b less || eqb b greater)) → met b s ≡ scanned (b ∷ s.run) s.text s.tags
unfolding met
met_plain b s = by_cases (eqb b less) (eqb b greater)
  where
    by_cases : (l g : Bool) → T (not (l || g))
        → cond l (scanned [] [] (tag s.run s.text ∷ s.tags)) (cond g (scanned [] s.run s.tags) (scanned (b ∷ s.run) s.text s.tags))
        ≡ scanned (b ∷ s.run) s.text s.tags
    by_cases true true t = absurd t
    by_cases true false t = absurd t
    by_cases false true t = absurd t
    by_cases false false t = refl

scan_plain : (t more : List ℕ) → T (plain t) → (r x : List ℕ) (ts : List Tag) → scan more ≡ scanned r x ts → scan (t ++ more) ≡ scanned (t ++ r) x ts
unfolding plain scan
scan_plain [] more p r x ts e = e
scan_plain (b ∷ t) more p r x ts e =
    ap (met b) (scan_plain t more (right (not (eqb b less || eqb b greater)) (plain t) p) r x ts e)
    ∙ met_plain b (scanned (t ++ r) x ts) (left (not (eqb b less || eqb b greater)) (plain t) p)

-- a tag with the text behind it
scan_tag : (name text more : List ℕ) → T (plain name) → T (plain text) → (ts : List Tag) → scan more ≡ scanned [] [] ts
    → scan (less ∷ (name ++ (greater ∷ (text ++ more)))) ≡ scanned [] [] (tag name text ∷ ts)
unfolding scan met
scan_tag name text more pn pt ts e =
    let behind : scan (text ++ more) ≡ scanned text [] ts = scan_plain text more pt [] [] ts e ∙ ap (λ (x : List ℕ). scanned x [] ts) (append-nil text) in
    let end : scan (greater ∷ (text ++ more)) ≡ scanned [] text ts = ap (met greater) behind in
    let named : scan (name ++ (greater ∷ (text ++ more))) ≡ scanned name text ts
    = scan_plain name _ pn [] text ts end ∙ ap (λ (x : List ℕ). scanned x text ts) (append-nil name) in
    ap (met less) named

name_plain : (name : List ℕ) → T (is_name name) → T (plain name)
unfolding is_name plain
name_plain [] n = absurd n
name_plain (b ∷ more) n = right (not (eqb b slash)) (plain (b ∷ more)) n

abbrev shape : List ℕ → List ℕ → List ℕ → List ℕ → List ℕ
shape name text inner rest = less ∷ (name ++ (greater ∷ (text ++ (inner ++ (less ∷ ((slash ∷ name) ++ (greater ∷ ([] ++ rest))))))))

shaped : (name text : List ℕ) (inside behind : Elements) (more : List ℕ)
    → written (element name text inside behind) ++ more ≡ shape name text (written inside) (written behind ++ more)
unfolding written bytes
shaped name text inside behind more = simp append_assoc

module _ (name text : List ℕ) (inside behind : Elements) (c : T (clean (element name text inside behind))) where
  abbrev parts : Bool
  parts = is_name name && plain text && clean inside

  is_name_lem : T (is_name name)
  unfolding clean
  is_name_lem = left (is_name name) (plain text) (left (is_name name && plain text) (clean inside) (left parts (clean behind) c))

  is_plain : T (plain text)
  unfolding clean
  is_plain = right (is_name name) (plain text) (left (is_name name && plain text) (clean inside) (left parts (clean behind) c))

  inside_clean : T (clean inside)
  unfolding clean
  inside_clean = right (is_name name && plain text) (clean inside) (left parts (clean behind) c)

  behind_clean : T (clean behind)
  unfolding clean
  behind_clean = right parts (clean behind) c

scan_written : (e : Elements) → T (clean e) → (more : List ℕ) (ts : List Tag) → scan more ≡ scanned [] [] ts → scan (written e ++ more) ≡ scanned [] [] (tags_of e ts)
unfolding written tags_of plain
scan_written none c more ts h = h
scan_written (element name text inside behind) c more ts h =
    let pn = name_plain name (is_name_lem name text inside behind c) in
    let last = scan_written behind (behind_clean name text inside behind c) more ts h in
    let close = scan_tag (slash ∷ name) [] (written behind ++ more) pn tt (tags_of behind ts) last in
    let inner = scan_written inside (inside_clean name text inside behind c) _ _ close in
    ap scan (shaped name text inside behind more) ∙ scan_tag name text _ pn (is_plain name text inside behind c) _ inner

-- the rows that tags make
placed_name : (name text : List ℕ) → T (is_name name) → (rows : List Row) → placed name text rows ≡ opened name text rows
unfolding placed is_name
placed_name [] text n rows = absurd n
placed_name (b ∷ more) text n rows = by_cases (eqb b slash) (left (not (eqb b slash)) (plain (b ∷ more)) n)
  where
    by_cases : (t : Bool) → T (not t) → cond t (closed more rows) (opened (b ∷ more) text rows) ≡ opened (b ∷ more) text rows
    by_cases true k = absurd k
    by_cases false k = refl

then_none : (e : Elements) → e then none ≡ e
unfolding ◌then◌
then_none none = refl
then_none (element m t i b) = ap (element m t i) (then_none b)

joins : (e : Elements) → T (clean e) → (ts : List Tag) (n : List ℕ) (es : Elements) (rows : List Row)
    → joined ts ≡ row n es ∷ rows → joined (tags_of e ts) ≡ row n (e then es) ∷ rows
unfolding tags_of joined ◌then◌ placed closed opened
joins none c ts n es rows h = h
joins (element name text inside behind) c ts n es rows h =
    let last = joins behind (behind_clean name text inside behind c) ts n es rows h in
    let close : joined (tag (slash ∷ name) [] ∷ tags_of behind ts) ≡ row name none ∷ row n (behind then es) ∷ rows = ap (closed name) last in
    let inner = joins inside (inside_clean name text inside behind c) _ name none _ close in
    placed_name name text (is_name_lem name text inside behind c) _ ∙ ap (opened name text) inner ∙ rw (eq→same name, then_none inside)

pub parsed : (e : Elements) → T (clean e) → elements_of (written e) ≡ e
unfolding elements_of only scan joined
parsed e c =
    let scanned-whole = ap scan (sym (append-nil (written e))) ∙ scan_written e c [] [] refl in
    ap (λ (s : Scanned). only (joined s.tags)) scanned-whole ∙ ap only (joins e c [] [] none [] refl) ∙ then_none e

pub clean_then : (a b : Elements) → T (clean a) → T (clean b) → T (clean (a then b))
unfolding clean ◌then◌
clean_then none b ca cb = cb
clean_then (element name text inside behind) b ca cb =
    both (is_name name && plain text && clean inside) (clean (behind then b))
    (left (is_name name && plain text && clean inside) (clean behind) ca)
    (clean_then behind b (right (is_name name && plain text && clean inside) (clean behind) ca) cb)

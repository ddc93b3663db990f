-- Laws of reading the codes of a line.
--     no_bytes, too_long, no_digits, too_high, is_one     what a part is, by its length, its bytes and what it is worth
--     one_more, digits_append, decimal_more, broken       a byte more of a part
--     Read           what has been read before the part at k
--     start          before the first
--     next           a code more, for which there is room
--     lost           a part that is no code
--     read           behind the last
use Rattle.answer.proofs.Kit.{◌≡◌, refl, sym, ap, ◌∙◌, Bool, true, true≢false, false, cond, ◌&&◌, and-false, and_assoc, List, [], ◌∷◌, ◌++◌, append-nil, ℕ, ◌+◌, ◌-◌, ◌*◌, ◌<◌, ◌≤◌, add-one, arith, eqb, length, take, drop, get_or, length-append, drop-cons, drop-length, take-suc, take_all, take-append-drop, lt-ltb, le-leb, lt-leb, Option, Some, None}
use Rattle.std.specs.List.{slice_split, onto_first}
use Rattle.chordlist.specs.Parts.{with_byte, parts}
use Rattle.chordlist.specs.Codes.{space, digit0, is_digit, are_digits, decimal, is_code, with_code, codes_of, codes_in}
use Rattle.chordlist.specs.private.Calls.{code_in}

module _ (part : List ℕ) where
  pub no_bytes : length part ≡ 0 → code_in part ≡ None
  unfolding code_in is_code
  no_bytes e = rw e

  pub too_long : 3 < length part → code_in part ≡ None
  unfolding code_in is_code
  too_long h = rw (lt-leb (length part) 3 h) (simp and-false)

  pub no_digits : are_digits part ≡ false → code_in part ≡ None
  unfolding code_in is_code
  no_digits e = rw e (simp and-false)

  pub too_high : 255 < decimal 0 part → code_in part ≡ None
  unfolding code_in is_code
  too_high h = rw (lt-leb (decimal 0 part) 255 h) (simp and-false)

  pub is_one : 0 < length part → length part ≤ 3 → are_digits part ≡ true → decimal 0 part ≤ 255 → code_in part ≡ Some (decimal 0 part)
  unfolding code_in is_code
  is_one some few are low = rw (lt-ltb 0 (length part) some, le-leb (length part) 3 few, are, le-leb (decimal 0 part) 255 low)

-- digits and more bytes
pub digits_append : (t u : List ℕ) → are_digits (t ++ u) ≡ are_digits t && are_digits u
unfolding are_digits
digits_append [] u = refl
digits_append (b ∷ t) u = ap (λ (a : Bool). is_digit b && a) (digits_append t u) ∙ sym (and_assoc (is_digit b) (are_digits t) (are_digits u))

pub decimal_more : (number : ℕ) (t : List ℕ) (digit : ℕ) → decimal number (t ++ (digit ∷ [])) ≡ decimal number t * 10 + (digit - digit0)
unfolding decimal
decimal_more number [] digit = refl
decimal_more number (d ∷ t) digit = decimal_more (number * 10 + (d - digit0)) t digit

module _ (part : List ℕ) (i : ℕ) (inside : i < length part) where
  pub one_more : take (i + 1) part ≡ take i part ++ (get_or part i 0 ∷ [])
  one_more = rw add-one (take-suc part i 0 inside)

  pub broken : is_digit (get_or part i 0) ≡ false → are_digits part ≡ false
  unfolding are_digits
  broken e =
      ap are_digits (sym (take-append-drop i part) ∙ ap (λ (u : List ℕ). take i part ++ u) (drop-cons part i 0 inside))
      ∙ digits_append (take i part) (get_or part i 0 ∷ _) ∙ rw e (simp and-false)

-- a line with codes in front
unfoldable pub with_codes : List ℕ → Option (List ℕ) → Option (List ℕ)
with_codes [] l = l
with_codes (c ∷ cs) l = with_code c (with_codes cs l)

with_one_more : (cs : List ℕ) (c : ℕ) (l : Option (List ℕ)) → with_codes (cs ++ (c ∷ [])) l ≡ with_codes cs (with_code c l)
unfolding with_codes
with_one_more [] c l = refl
with_one_more (d ∷ cs) c l = ap (with_code d) (with_one_more cs c l)

with_none : (cs : List ℕ) → with_codes cs None ≡ None
unfolding with_codes with_code
with_none [] = refl
with_none (d ∷ cs) = ap (with_code d) (with_none cs)

with_some : (cs ds : List ℕ) → with_codes cs (Some ds) ≡ Some (cs ++ ds)
unfolding with_codes with_code
with_some [] ds = refl
with_some (d ∷ cs) ds = ap (with_code d) (with_some cs ds)

-- a line as std splits it
abbrev pub split : List ℕ → List (List ℕ)
split line = slice_split (λ (b : ℕ). eqb b space) line

onto : (b : ℕ) (ps : List (List ℕ)) → with_byte b ps ≡ onto_first b ps
unfolding with_byte
onto b [] = refl
onto b (p ∷ more) = refl

parts_split : (line : List ℕ) → parts ([] ∷ []) space line ≡ split line
unfolding parts
parts_split [] = refl
parts_split (b ∷ more) =
    ap (λ (ps : List (List ℕ)). cond (eqb b space) ([] ∷ ps) (with_byte b ps)) (parts_split more)
    ∙ ap (λ (ps : List (List ℕ)). cond (eqb b space) ([] ∷ split more) ps) (onto b (split more))

pub codes_split : (line : List ℕ) → (length line ≡ 0 → ⊥) → codes_of (split line) ≡ codes_in line
unfolding codes_in
codes_split [] other = absurd (other refl)
codes_split (b ∷ more) other = ap codes_of (sym (parts_split (b ∷ more)))

coded : (part : List ℕ) (code : ℕ) (more : List (List ℕ)) → code_in part ≡ Some code → codes_of (part ∷ more) ≡ with_code code (codes_of more)
unfolding codes_of code_in
coded part code more e = go (is_code part) e
  where
    go : (t : Bool) → cond t (Some (decimal 0 part)) None ≡ Some code → cond t (with_code (decimal 0 part) (codes_of more)) None ≡ with_code code (codes_of more)
    go true e = let is : decimal 0 part ≡ code = cc in ap (λ (c : ℕ). with_code c (codes_of more)) is
    go false e = absurd (true≢false cc)

uncoded : (part : List ℕ) (more : List (List ℕ)) → code_in part ≡ None → codes_of (part ∷ more) ≡ None
unfolding codes_of code_in
uncoded part more e = go (is_code part) e
  where
    go : (t : Bool) → cond t (Some (decimal 0 part)) None ≡ None → cond t (with_code (decimal 0 part) (codes_of more)) None ≡ None
    go true e = absurd (true≢false cc)
    go false e = refl

-- the bytes of parts, and one behind each
pub weight : List (List ℕ) → ℕ
weight [] = 0
weight (p ∷ more) = length p + 1 + weight more

weigh : (line : List ℕ) → weight (split line) ≡ length line + 1
unfolding weight
weigh [] = refl
weigh (b ∷ more) = by_case (eqb b space) (split more) (weigh more)
  where
    by_case : (t : Bool) (ps : List (List ℕ)) → weight ps ≡ length more + 1 → weight (cond t ([] ∷ ps) (onto_first b ps)) ≡ length (b ∷ more) + 1
    by_case true ps e = omega (arith, e)
    by_case false [] e = absurd (let no_way : ⊥ = omega (arith, e) in no_way)
    by_case false (p ∷ qs) e = omega (arith, e)

pub record Read (line codes : List ℕ) (k : ℕ) : Type 0 where
  pub rest : with_codes codes (codes_of (drop k (split line))) ≡ codes_of (split line)
  pub used : 2 * length codes + weight (drop k (split line)) ≤ length line + 1

pub start : (line : List ℕ) → Read line [] 0
unfolding with_codes
start line = record { rest = refl; used = omega (arith, weigh line) }

module _ (line codes part : List ℕ) (k : ℕ) (inside : k < length (split line)) (is : part ≡ get_or (split line) k part) (r : Read line codes k) where
  ahead : drop k (split line) ≡ part ∷ drop (k + 1) (split line)
  ahead = drop-cons (split line) k part inside ∙ rw (add-one, ← is)

  -- what is left to read
  left_over : with_codes codes (codes_of (part ∷ drop (k + 1) (split line))) ≡ codes_of (split line)
  left_over = ap (λ (ps : List (List ℕ)). with_codes codes (codes_of ps)) (sym ahead) ∙ r.rest

  weighed : 2 * length codes + (length part + 1 + weight (drop (k + 1) (split line))) ≤ length line + 1
  unfolding weight
  weighed = rw ahead at r.used

  module _ (code : ℕ) (e : code_in part ≡ Some code) where
    -- a code has a byte
    some_bytes : 0 < length part
    unfolding code_in is_code
    some_bytes = go part e
      where
        go : (p : List ℕ) → code_in p ≡ Some code → 0 < length p
        go [] e = absurd (true≢false cc)
        go (b ∷ p) e = omega arith

    pub next : Read line (codes ++ (code ∷ [])) (k + 1)
    next =
        let more = drop (k + 1) (split line) in
        record {
          rest = with_one_more codes code (codes_of more) ∙ ap (with_codes codes) (sym (coded part code more e)) ∙ left_over;
          used = rw length-append (omega (arith, weighed, some_bytes));
        }

    pub room : length line ≤ 1024 → take 512 (codes ++ (code ∷ [])) ≡ codes ++ (code ∷ [])
    room h = take_all 512 (codes ++ (code ∷ [])) (rw length-append (omega (arith, weighed, some_bytes)))

  pub lost : code_in part ≡ None → codes_of (split line) ≡ None
  lost e = sym left_over ∙ ap (with_codes codes) (uncoded part (drop (k + 1) (split line)) e) ∙ with_none codes

pub read : (line codes : List ℕ) (k : ℕ) → k ≡ length (split line) → Read line codes k → codes_of (split line) ≡ Some codes
unfolding codes_of
read line codes k end r =
    sym r.rest ∙ ap (λ (ps : List (List ℕ)). with_codes codes (codes_of ps)) (ap (λ (n : ℕ). drop n (split line)) end ∙ drop-length (split line))
    ∙ with_some codes [] ∙ ap Some (append-nil codes)

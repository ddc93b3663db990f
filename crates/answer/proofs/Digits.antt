-- A word's bytes: how they stand in a buffer, and that a word gives its text back.
--     put_nothing    where a word's bytes have no room, the place and the buffer stay
--     put_whole      where they have, they go to their place: that is `put_at`
--     packed_cons    a word, without its first byte and with it
--     is_short       a text that a word can hold
--     put_text       such a text's word, put at a place, adds the text to what stands before the place
--     put_first      and put first, it is the text
use Rattle.answer.proofs.Kit.{◌≡◌, refl, sym, ap, ap₂, append_assoc, drop-drop, subst, ◌∙◌, Bool, true, ◌&&◌, List, [], ◌∷◌, ◌++◌, ℕ, zero, suc, ◌+◌, ◌*◌, ◌/◌, ◌%◌, ◌-◌, ◌^◌, ◌≤◌, ◌<◌, arith, zero-add, div-div-eq-div-mul, not-suc-le-zero, le_of_suc-le-suc, lt_of_lt_of_le, pow-succ', pow-le-pow_right, mul_assoc, pow-add, le-leb, lt-leb, T, leb, ltb, ltb→lt, leb→le, lit<, length, take, drop, length-append, length-take-le, take-append-le, take-append-add}
use Rattle.std.specs.Int.{w64, to_le_bytes}
use borrow.Rule.Slice.PartMut.{put_mid}
use Rattle.answer.proofs.Tests.{left, right}
use Rattle.answer.specs.Words.{low, packed, digits, long, place_after, put_at}

-- the bytes of a number, as the code takes them
le_digits : (w : ℕ) → to_le_bytes w64 w ≡ digits 8 w
unfolding digits
le_digits w = simp div-div-eq-div-mul

abbrev pub Put : List ℕ → ℕ → ℕ → ℕ → List ℕ → Type 0
Put l i w r l' = (r ≡ place_after l i w) × (l' ≡ put_at l i w)

pub put_nothing : (l : List ℕ) (i w : ℕ) → length l < i + 8 → Put l i w i l
unfolding place_after put_at
put_nothing l i w h = (simp (lt-leb _ _ h), simp (lt-leb _ _ h))

pub put_whole : (l : List ℕ) (i w : ℕ) → i + 8 ≤ length l → Put l i w (i + long w) (put_mid i (i + 8 - i) l (to_le_bytes w64 w))
unfolding place_after put_at
put_whole l i w h =
    let eight : i + 8 - i ≡ 8 = omega arith in
    (simp (le-leb _ _ h), ap₂ (λ (k : ℕ) (t : List ℕ). put_mid i k l t) eight (le_digits w) ∙ rw (drop-drop 8 i l, le-leb _ _ h) (sym (append_assoc (take i l) (digits 8 w) (drop (i + 8) l))))

pub packed_cons : (b : ℕ) (t : List ℕ) → packed (b ∷ t) ≡ b + packed (0 ∷ t)
unfolding packed low
packed_cons b t = omega arith

-- a text that a word can hold: at most seven bytes, each below 256
unfoldable pub are_bytes : List ℕ → Bool
are_bytes [] = true
are_bytes (b ∷ more) = ltb b 256 && are_bytes more

unfoldable pub is_short : List ℕ → Bool
is_short t = leb (length t) 7 && are_bytes t

-- the digits of a number that begins with a text's bytes begin with the text
digits_low : (t : List ℕ) → T (are_bytes t) → (n m : ℕ) → length t ≤ n → take (length t) (digits n (low t + 256 ^ length t * m)) ≡ t
unfolding are_bytes low digits
digits_low [] h n m l = refl
digits_low (b ∷ more) h zero m l = absurd (not-suc-le-zero l)
digits_low (b ∷ more) h (suc n) m l =
    let small : b < 256 = ltb→lt b 256 (left (ltb b 256) (are_bytes more) h) in
    let up : 256 ^ suc (length more) * m ≡ 256 * (256 ^ length more * m) = rw (pow-succ', mul_assoc) in
    let first : (b + 256 * low more + 256 ^ suc (length more) * m) % 256 ≡ b = omega arith in
    let rest : (b + 256 * low more + 256 ^ suc (length more) * m) / 256 ≡ low more + 256 ^ length more * m = omega arith in
    ap₂ ◌∷◌ first (ap (λ (w : ℕ). take (length more) (digits n w)) rest ∙ digits_low more (right (ltb b 256) (are_bytes more) h) n m (le_of_suc-le-suc l))

low_less : (t : List ℕ) → T (are_bytes t) → low t < 256 ^ length t
unfolding are_bytes low
low_less [] h = lit< tt
low_less (b ∷ more) h =
    let small : b < 256 = ltb→lt b 256 (left (ltb b 256) (are_bytes more) h) in
    let less = low_less more (right (ltb b 256) (are_bytes more) h) in
    rw pow-succ' (omega arith)

module _ (t : List ℕ) (short : T (is_short t)) where
  pub short_length : length t ≤ 7
  unfolding is_short
  short_length = leb→le (length t) 7 (left (leb (length t) 7) (are_bytes t) short)

  are_bytes_lem : T (are_bytes t)
  unfolding is_short
  are_bytes_lem = right (leb (length t) 7) (are_bytes t) short

  long_packed : long (packed t) ≡ length t
  unfolding packed
  long_packed =
      let less : low t < 256 ^ 7 = lt_of_lt_of_le (low_less t are_bytes_lem) (pow-le-pow_right (lit< tt) short_length) in
      omega arith

  -- the word as `digits_low` reads it
  split : packed t ≡ low t + 256 ^ length t * (256 ^ (7 - length t) * length t)
  unfolding packed
  split =
      let e : 7 ≡ length t + (7 - length t) = omega (arith, short_length) in
      ap (λ (x : ℕ). low t + x) (ap (λ (n : ℕ). 256 ^ n * length t) e ∙ rw (pow-add, mul_assoc))

  take_packed : take (length t) (digits 8 (packed t)) ≡ t
  take_packed = rw split (digits_low t are_bytes_lem 8 (256 ^ (7 - length t) * length t) (omega (arith, short_length)))

  -- the word of a text, put at a place of a buffer
  module _ (l : List ℕ) (i : ℕ) (room : i + 8 ≤ length l) where
    pub place_text : place_after l i (packed t) ≡ i + length t
    unfolding place_after
    place_text = rw (le-leb _ _ room, long_packed)

    pub put_text : take (i + length t) (put_at l i (packed t)) ≡ take i l ++ t
    unfolding put_at digits
    put_text =
        let whole : length (take i l) ≡ i = length-take-le i l (omega arith) in
        let within : i + length t ≤ length (take i l ++ digits 8 (packed t)) = simp length-append (omega (arith, short_length)) in
        rw (le-leb _ _ room)
        (take-append-le (i + length t) (take i l ++ digits 8 (packed t)) (drop (i + 8) l) within
        ∙ subst (λ (j : ℕ). take (j + length t) (take i l ++ digits 8 (packed t)) ≡ take i l ++ take (length t) (digits 8 (packed t))) whole
        (take-append-add (take i l) (digits 8 (packed t)) (length t))
        ∙ ap (λ (x : List ℕ). take i l ++ x) take_packed)

-- what `put` gives where a word of a text goes to the front of a buffer
pub put_first : (t : List ℕ) → T (is_short t) → (l l' : List ℕ) (w r : ℕ) → 8 ≤ length l → w ≡ packed t → Put l 0 w r l' → (r ≡ length t) × (take r l' ≡ t)
put_first t short l l' w r room e p =
    let place : r ≡ length t = p.0 ∙ ap (place_after l 0) e ∙ place_text t short l 0 (rw zero-add room) ∙ zero-add (length t) in
    let first : take (length t) l' ≡ t = ap (take (length t)) (p.1 ∙ ap (put_at l 0) e) ∙ rw zero-add at (put_text t short l 0 (rw zero-add room)) in
    (place, rw place first)

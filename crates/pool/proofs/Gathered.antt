-- Laws of the tones of two ranges, and of a pool's places.
--     used_tones   as many as the shorter range has
--     tone_at      the tone at a place is that of the pair there
--     one_more     so a pool to which it is put has one tone of them more
--     removed      without the tone at a place: those before it, and those behind it
--     past_last    past the last tone none goes
use Rattle.answer.proofs.Kit.{◌≡◌, refl, sym, ap, ap₂, ◌∙◌, List, [], ◌∷◌, ◌++◌, ℕ, zero, suc, ◌+◌, ◌-◌, ◌≤◌, ◌<◌, min, not-suc-le-zero, le_of_suc-le-suc, add-one, arith, length, get_or, set, take, slice, take-suc, take-suc-set}
use Rattle.pool.specs.declared.pool.Tone.{Tone}
use Rattle.pool.specs.Pool.{tone_of, tones_of, without_at}

pub used_tones : (cs is : List ℕ) → length (tones_of cs is) ≡ min (length cs) (length is)
unfolding tones_of
used_tones [] is = omega arith
used_tones (c ∷ cs) [] = omega arith
used_tones (c ∷ cs) (i ∷ is) = let rest = used_tones cs is in omega arith

tone_at : (d : Tone) (cs is : List ℕ) (i : ℕ) → i < length (tones_of cs is) → get_or (tones_of cs is) i d ≡ tone_of (get_or cs i 0) (get_or is i 0)
unfolding tones_of
tone_at d [] is i h = absurd (not-suc-le-zero h)
tone_at d (c ∷ cs) [] i h = absurd (not-suc-le-zero h)
tone_at d (c ∷ cs) (j ∷ is) zero h = refl
tone_at d (c ∷ cs) (j ∷ is) (suc i) h = tone_at d cs is i (le_of_suc-le-suc h)

pub one_more : (cs is : List ℕ) (run : List Tone) (i : ℕ) → i < length (tones_of cs is) → i < length run → take i run ≡ take i (tones_of cs is)
    → take (i + 1) (set run i (tone_of (get_or cs i 0) (get_or is i 0))) ≡ take (i + 1) (tones_of cs is)
one_more cs is run i h k e =
    let t = tone_of (get_or cs i 0) (get_or is i 0) in
    rw add-one (take-suc-set run i t k ∙ ap₂ (λ (x : List Tone) (y : Tone). x ++ y ∷ []) e (sym (tone_at t cs is i h)) ∙ sym (take-suc (tones_of cs is) i t h))

split : (l : List Tone) (i n : ℕ) → i < n → take i l ++ slice (suc i) n l ≡ without_at i (take n l)
unfolding without_at
split l i zero h = absurd (not-suc-le-zero h)
split [] zero (suc n) h = refl
split [] (suc i) (suc n) h = refl
split (t ∷ l) zero (suc n) h = refl
split (t ∷ l) (suc i) (suc n) h = ap (λ (x : List Tone). t ∷ x) (split l i n (le_of_suc-le-suc h))

pub removed : (l : List Tone) (i n : ℕ) → i < n → take i l ++ slice (i + 1) n l ≡ without_at i (take n l)
removed l i n h = rw add-one (split l i n h)

pub past_last : (l : List Tone) (i : ℕ) → length l ≤ i → without_at i l ≡ l
unfolding without_at
past_last [] i h = refl
past_last (t ∷ l) zero h = absurd (not-suc-le-zero h)
past_last (t ∷ l) (suc i) h = ap (λ (x : List Tone). t ∷ x) (past_last l i (le_of_suc-le-suc h))

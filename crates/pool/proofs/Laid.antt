-- Laws of tones laid over the places of a pool.
--     whole       a pool is its tones, laid over itself
--     laid        so many at the front of a run that is another's from there on
--     pooled      tones of which at most sixteen are taken, before blanks, are a pool
--     fewer       a store leaves what stands behind it
--     ordered_tones   the tones of the pool of the first sixteen in order
use Rattle.answer.proofs.Kit.{◌≡◌, refl, sym, ap, ap₂, ◌∙◌, List, ℕ, ◌+◌, ◌≤◌, arith, length, length-take, take, drop, set, drop_at, take_all, length-take-le, drop-set-lt, drop-drop}
use Rattle.pool.specs.declared.pool.Tone.{Tone}
use Rattle.pool.specs.Held.{Held, places, blanks, laid_over, pool_of}
use Rattle.pool.specs.Order.{sorted}
use Rattle.pool.proofs.Sorted.{sorted_length}

pub whole : (pool : Held) → pool ≡ laid_over pool.tones (places pool)
whole pool = ap (λ (spare : List Tone). record { tones = pool.tones; spare = spare }) (sym (drop_at pool.tones pool.spare (length pool.tones) refl))

pub laid : (l run w : List Tone) (n : ℕ) → n ≤ length l → take n l ≡ w → drop n l ≡ drop n run
    → ◌≡◌ {A = Held} record { tones = take n l; spare = drop n l } (laid_over w run)
laid l run w n h e f =
    let long : length w ≡ n = sym (ap length e) ∙ length-take-le n l h in
    ap₂ (λ (tones spare : List Tone). record { tones = tones; spare = spare }) e (f ∙ ap (λ (k : ℕ). drop k run) (sym long))

pub pooled : (w : List Tone) → length w ≤ 16 → laid_over w blanks ≡ pool_of w
unfolding pool_of
pooled w h = ap (λ (l : List Tone). laid_over l blanks) (sym (take_all 16 w h))

pub fewer : (l run : List Tone) (i : ℕ) (t : Tone) → drop i l ≡ drop i run → drop (i + 1) (set l i t) ≡ drop (i + 1) run
fewer l run i t e = drop-set-lt (i + 1) l i t (omega arith) ∙ sym (drop-drop 1 i l) ∙ ap (drop 1) e ∙ drop-drop 1 i run

pub ordered_tones : (l : List Tone) → (pool_of (sorted (take 16 l))).tones ≡ sorted (take 16 l)
unfolding pool_of
ordered_tones l = take_all 16 _ (omega (arith, sorted_length (take 16 l), length-take 16 l))

-- The ring of a pool: the tone before the first is the last.
--     started    what the pool bars, begun behind its last tone
--     no_tones   of no tones none bars any
use Rattle.answer.proofs.Kit.{◌≡◌, refl, sym, ap, ◌∙◌, List, [], ◌∷◌, ℕ, suc, ◌-◌, ◌≤◌, ◌<◌, not-suc-le-zero, arith, length, get_or}
use Rattle.intervals.specs.Intervals.{intervals, set_of}
use Rattle.pool.specs.declared.pool.Tone.{Tone}
use Rattle.leads.specs.Lead.{barring, last_of, unbarred}

last_of_lem : (d t : Tone) (l : List Tone) → last_of t l ≡ get_or (t ∷ l) (length l) d
unfolding last_of
last_of_lem d t [] = refl
last_of_lem d t (x ∷ l) = last_of_lem d x l

pub started : (d : Tone) (l : List Tone) → 0 < length l → barring (get_or l (length l - 1) d) l 8388607 ≡ unbarred l
unfolding unbarred set_of intervals
started d [] p = absurd (not-suc-le-zero p)
started d (t ∷ l) p =
    let e : suc (length l) - 1 ≡ length l = omega arith in
    ap (λ (x : Tone). barring x (t ∷ l) 8388607) (ap (λ (k : ℕ). get_or (t ∷ l) k d) e ∙ sym (last_of_lem d t l))

pub no_tones : (l : List Tone) → length l ≤ 0 → 8388607 ≡ unbarred l
unfolding unbarred set_of intervals
no_tones [] h = refl
no_tones (t ∷ l) h = absurd (not-suc-le-zero h)

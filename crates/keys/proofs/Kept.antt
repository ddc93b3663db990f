-- Offers of the intervals of a set, and the set without one.
--     without_has    a set without a number has the others
--     keep_without   so the offers that it keeps are those of other intervals
--     keep_all       every offer of a chosen tone has one of 32 intervals
use Rattle.answer.proofs.Kit.{◌≡◌, refl, sym, ap, ◌∙◌, Bool, true, false, not, cond, ◌&&◌, ◌||◌, and-true, List, [], ◌∷◌, map, ℕ, ◌-◌, ◌^◌, ◌<◌, arith, T, eqb, eqb-true}
use Rattle.answer.proofs.Tests.{all, at, is_true}
use Rattle.intervals.specs.Sets.{has, without}
use Rattle.intervals.proofs.Members.{taken_has}
use Rattle.pool.specs.declared.pool.Tone.{Tone}
use Rattle.keys.specs.declared.nearest.Offer.{Offer}
use Rattle.keys.specs.Choice.{chosen}
use Rattle.keys.specs.private.Ranked.{nearest_of, keep}
use Rattle.intervals.proofs.Width.{within}
use Rattle.keys.proofs.Best.{near_interval, others}
use Rattle.keys.proofs.Others.{other_by}

pub without_has : (c s k : ℕ) → has (without c s) k ≡ has s k && not (eqb k c)
unfolding without
without_has c s k = by_case (has s c) refl
  where
    by_same : has s c ≡ false → (b : Bool) → eqb k c ≡ b → has s k ≡ has s k && not b
    by_same absent true e = let none : has s k ≡ false = ap (has s) (eqb-true k c e) ∙ absent in rw none
    by_same absent false e = sym (and-true (has s k))

    by_case : (b : Bool) → has s c ≡ b → has (cond b (s - 2 ^ c) s) k ≡ has s k && not (eqb k c)
    by_case true e = taken_has s c e k
    by_case false e = by_same e (eqb k c) refl

pub keep_without : (i s : ℕ) (l : List Offer) → keep (without i s) l ≡ others i (keep s l)
unfolding keep other_by
keep_without i s [] = refl
keep_without i s (o ∷ l) = ap (λ (b : Bool). cond b (o ∷ keep (without i s) l) (keep (without i s) l)) (without_has i s o.interval) ∙ by_case (has s o.interval) (eqb o.interval i) refl (keep_without i s l)
  where
    by_case : (b other : Bool) → eqb o.interval i ≡ other → keep (without i s) l ≡ others i (keep s l)
        → cond (b && not other) (o ∷ keep (without i s) l) (keep (without i s) l) ≡ others i (cond b (o ∷ keep s l) (keep s l))
    by_case false other e rest = rest
    by_case true true e rest = rest ∙ sym (rw e)
    by_case true false e rest = ap (λ (x : List Offer). o ∷ x) rest ∙ sym (rw e)

-- every number below 32 is in the set of 32 bits that has all
every_has : T (all (has 0xffff_ffff) 32)
unfolding all has
every_has = tt

has_all_lem : (k : ℕ) → k < 32 → has 0xffff_ffff k ≡ true
has_all_lem k h = is_true _ (at (has 0xffff_ffff) 32 every_has k h)

without_less : (c s : ℕ) → s < 2 ^ 32 → without c s < 2 ^ 32
unfolding without
without_less c s h = by_case (has s c)
  where
    by_case : (b : Bool) → cond b (s - 2 ^ c) s < 2 ^ 32
    by_case true = omega arith
    by_case false = h

in_either : (whole once k : ℕ) → whole < 2 ^ 32 → once < 2 ^ 32 → has whole k || has once k ≡ true → k < 32
in_either whole once k hw ho e = by_case (has whole k) refl e
  where
    by_case : (b : Bool) → has whole k ≡ b → b || has once k ≡ true → k < 32
    by_case true e f = within whole k hw e
    by_case false e f = within once k ho f

pub keep_all : (lowest limit wanted whole once : ℕ) (tones : List Tone) → whole < 2 ^ 32 → once < 2 ^ 32
    → keep 0xffff_ffff (map (nearest_of lowest limit wanted) (chosen whole once tones)) ≡ map (nearest_of lowest limit wanted) (chosen whole once tones)
unfolding keep chosen
keep_all lowest limit wanted whole once [] hw ho = refl
keep_all lowest limit wanted whole once (t ∷ l) hw ho =
    by_case (has whole t.interval || has once t.interval) refl
    (keep_all lowest limit wanted whole (without t.interval once) l hw (without_less t.interval once ho)) (keep_all lowest limit wanted whole once l hw ho)
  where
    near : Tone → Offer
    near = nearest_of lowest limit wanted

    by_case : (b : Bool) → has whole t.interval || has once t.interval ≡ b
        → keep 0xffff_ffff (map near (chosen whole (without t.interval once) l)) ≡ map near (chosen whole (without t.interval once) l)
        → keep 0xffff_ffff (map near (chosen whole once l)) ≡ map near (chosen whole once l)
        → keep 0xffff_ffff (map near (cond b (t ∷ chosen whole (without t.interval once) l) (chosen whole once l))) ≡ map near (cond b (t ∷ chosen whole (without t.interval once) l) (chosen whole once l))
    by_case true e f g =
        let small = in_either whole once t.interval hw ho e in
        let there : has 0xffff_ffff (near t).interval ≡ true = ap (has 0xffff_ffff) (near_interval lowest limit wanted t) ∙ has_all_lem t.interval small in
        rw there (ap (λ (x : List Offer). near t ∷ x) f)
    by_case false e f g = g

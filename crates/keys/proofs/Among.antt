-- Where tones and keys come from.
--     one_of           of a list that has an element or not
--     in_others, in_chosen   tones of other intervals, and chosen tones, are tones
--     chosen_next, chosen_has, chosen_all   of one set of intervals alone: tone by tone; each is of that set, and all that are
use Rattle.answer.proofs.Kit.{◌≡◌, refl, sym, ap, subst, ◌∙◌, Bool, true, false, cond, ◌||◌, or-false, List, [], ◌∷◌, Memᴰ, Memᴰ-head, Memᴰ-tail, Memᴰ-not_nil, Memᴰ-cases_cons, ⊎_elim, ℕ, ◌%◌, ◌^◌, zero-div, eqb}
use Rattle.intervals.specs.Sets.{has, without}
use Rattle.pool.specs.declared.pool.Tone.{Tone}
use Rattle.keys.specs.Choice.{chosen, other_tones}

pub one_of : {A : Type 0} {a x : A} {l m n : List A} (b : Bool) → Memᴰ a (cond b (x ∷ l) m) → (Memᴰ a l → Memᴰ a n) → (Memᴰ a m → Memᴰ a n)
    → Memᴰ a (x ∷ n)
one_of true h f g = ⊎_elim (λ e. Memᴰ-head e) (λ more. Memᴰ-tail (f more)) (Memᴰ-cases_cons h)
one_of false h f g = Memᴰ-tail (g h)

pub in_others : (i : ℕ) (l : List Tone) (t : Tone) → Memᴰ t (other_tones i l) → Memᴰ t l
unfolding other_tones
in_others i [] t h = h
in_others i (x ∷ l) t h = by_test (eqb x.interval i) h (in_others i l t)
  where
    by_test : (b : Bool) → Memᴰ t (cond b (other_tones i l) (x ∷ other_tones i l)) → (Memᴰ t (other_tones i l) → Memᴰ t l) → Memᴰ t (x ∷ l)
    by_test true h f = Memᴰ-tail (f h)
    by_test false h f = one_of true h f f

pub in_chosen : (whole once : ℕ) (l : List Tone) (t : Tone) → Memᴰ t (chosen whole once l) → Memᴰ t l
unfolding chosen
in_chosen whole once [] t h = h
in_chosen whole once (x ∷ l) t h =
    one_of (has whole x.interval || has once x.interval) h (in_chosen whole (without x.interval once) l t) (in_chosen whole once l t)

-- the empty set has nothing
none_in : (k : ℕ) → has 0 k ≡ false
unfolding has
none_in k = ap (λ (x : ℕ). eqb (x % 2) 1) (zero-div (2 ^ k))

-- of a whole set of intervals, and of no other
module _ (whole : ℕ) where
  pub chosen_next : (t : Tone) (l : List Tone) → chosen whole 0 (t ∷ l) ≡ cond (has whole t.interval) (t ∷ chosen whole 0 l) (chosen whole 0 l)
  unfolding chosen without
  chosen_next t l = rw (none_in t.interval, or-false (has whole t.interval)) refl

  pub chosen_has : (l : List Tone) (t : Tone) → Memᴰ t (chosen whole 0 l) → has whole t.interval ≡ true
  unfolding chosen
  chosen_has [] t h = absurd (Memᴰ-not_nil h)
  chosen_has (x ∷ l) t h = by_test (has whole x.interval) refl (subst (Memᴰ t) (chosen_next x l) h) (chosen_has l t)
    where
      by_test : (b : Bool) → has whole x.interval ≡ b → Memᴰ t (cond b (x ∷ chosen whole 0 l) (chosen whole 0 l))
          → (Memᴰ t (chosen whole 0 l) → has whole t.interval ≡ true) → has whole t.interval ≡ true
      by_test true e h f = ⊎_elim (λ (same : t ≡ x). ap (λ (u : Tone). has whole u.interval) same ∙ e) f (Memᴰ-cases_cons h)
      by_test false e h f = f h

  pub chosen_all : (l : List Tone) (t : Tone) → Memᴰ t l → has whole t.interval ≡ true → Memᴰ t (chosen whole 0 l)
  chosen_all [] t h is = absurd (Memᴰ-not_nil h)
  chosen_all (x ∷ l) t h is = subst (Memᴰ t) (sym (chosen_next x l)) (⊎_elim first (λ more. behind (has whole x.interval) (chosen_all l t more is)) (Memᴰ-cases_cons h))
    where
      first : t ≡ x → Memᴰ t (cond (has whole x.interval) (x ∷ chosen whole 0 l) (chosen whole 0 l))
      first same = rw (sym (ap (λ (u : Tone). has whole u.interval) same) ∙ is) (Memᴰ-head same)

      behind : (b : Bool) → Memᴰ t (chosen whole 0 l) → Memᴰ t (cond b (x ∷ chosen whole 0 l) (chosen whole 0 l))
      behind true m = Memᴰ-tail m
      behind false m = m

-- Elements of other intervals than one, of tones and of offers alike.
--     other_by    those of a list
--     few_others  they are no more
--     gone        and fewer, where one of that interval is in the list
--     tones_by    so it is with the tones of other intervals
use Rattle.answer.proofs.Kit.{◌≡◌, refl, sym, ap, ◌∙◌, Bool, true, false, cond, List, [], ◌∷◌, Memᴰ, Memᴰ-not_nil, Memᴰ-cases_cons, ⊎_elim, ℕ, suc, ◌≤◌, ◌<◌, arith, eqb, eq-eqb, length}
use Rattle.pool.specs.declared.pool.Tone.{Tone}
use Rattle.keys.specs.Choice.{other_tones}

module _ {A : Type 0} (interval : A → ℕ) where
  unfoldable pub other_by : ℕ → List A → List A
  other_by i [] = []
  other_by i (x ∷ more) = cond (eqb (interval x) i) (other_by i more) (x ∷ other_by i more)

  one_or_none : (b : Bool) (x : A) (l : List A) (n : ℕ) → length l ≤ n → length (cond b l (x ∷ l)) ≤ suc n
  one_or_none true x l n h = omega arith
  one_or_none false x l n h = omega arith

  pub few_others : (i : ℕ) (l : List A) → length (other_by i l) ≤ length l
  unfolding other_by
  few_others i [] = omega arith
  few_others i (x ∷ l) = one_or_none (eqb (interval x) i) x (other_by i l) (length l) (few_others i l)

  pub gone : (i : ℕ) (l : List A) (x : A) → interval x ≡ i → Memᴰ x l → length (other_by i l) < length l
  unfolding other_by
  gone i [] x e h = absurd (Memᴰ-not_nil h)
  gone i (y ∷ l) x e h =
      ⊎_elim
      (λ same. rw (eq-eqb (interval y) i (ap interval (sym same) ∙ e)) (omega (arith, few_others i l)))
      (λ later. let less = gone i l x e later in let at_most = one_or_none (eqb (interval y) i) y (other_by i l) (length (other_by i l)) (omega arith) in omega arith)
      (Memᴰ-cases_cons h)

pub tones_by : (i : ℕ) (l : List Tone) → other_tones i l ≡ other_by (λ (t : Tone). t.interval) i l
unfolding other_by other_tones
tones_by i [] = refl
tones_by i (t ∷ l) = ap (λ (rest : List Tone). cond (eqb t.interval i) rest (t ∷ rest)) (tones_by i l)

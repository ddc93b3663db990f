-- Parts in the parentheses, list behind list.
--     Listing     parts are added from where the parentheses begin: no_parts, then_parts
--     bare, closed     no parts, no parentheses; else what closes them makes the whole
use Rattle.answer.proofs.Kit.{◌≡◌, refl, sym, ap, subst, ◌∙◌, Bool, true, true≢false, false, List, [], ◌∷◌, ◌++◌, append-nil, append_assoc, ℕ}
use Rattle.answer.specs.Words.{bytes}
use Rattle.answer.specs.Made.{with_word}
use Rattle.intervals.specs.declared.interval.Interval.{Interval}
use Rattle.rules.specs.Suffix.{worded, listed, close, parenthesized}
use Rattle.inference.specs.private.Adds.{Adds}
use Rattle.inference.specs.private.Prefixes.{is_first_behind}
use Rattle.inference.proofs.Added.{no_more, word_added, then_adds}
use Rattle.inference.proofs.Texts.{close_word}
use Rattle.inference.proofs.Turn.{not_first}

listed_behind : (P Q : List (List ℕ)) → listed false (P ++ Q) ≡ listed false P ++ listed false Q
unfolding listed
listed_behind [] Q = refl
listed_behind (p ∷ more) Q = ap (λ (x : List ℕ). bytes "," ++ p ++ x) (listed_behind more Q) ∙ sym (append_assoc (bytes "," ++ p) (listed false more) (listed false Q))

-- parts listed behind others make the list of both
more : (P Q : List (List ℕ)) → listed true P ++ listed (is_first_behind true P) Q ≡ listed true (P ++ Q)
unfolding listed
more [] Q = refl
more (p ∷ ps) Q =
    append_assoc (bytes "(" ++ p) (listed false ps) (listed false Q)
    ∙ ap (λ (x : List ℕ). bytes "(" ++ p ++ x) (sym (listed_behind ps Q))

first_behind : (b : Bool) (P : List (List ℕ)) (word : List ℕ) (l : List Interval) → is_first_behind (is_first_behind b P) l ≡ is_first_behind b (P ++ worded word l)
unfolding worded
first_behind b [] word [] = refl
first_behind b [] word (i ∷ more) = refl
first_behind b (p ∷ ps) word l = not_first l

pub record Listing (n : ℕ) (t₀ : List ℕ) (P : List (List ℕ)) (first : Bool) (t : List ℕ) : Type 0 where
  pub next : first ≡ is_first_behind true P
  pub adds : Adds n t₀ (listed true P) t

pub no_parts : (n : ℕ) (t : List ℕ) → Listing n t [] true t
unfolding listed
no_parts n t = record { next = refl; adds = no_more n t }

pub then_parts : {n : ℕ} {t₀ t : List ℕ} {P : List (List ℕ)} {first : Bool} → Listing n t₀ P first t → (word : List ℕ) (l : List Interval) (next : Bool) (t' : List ℕ)
    → (next ≡ is_first_behind first l) × Adds n t (listed first (worded word l)) t' → Listing n t₀ (P ++ worded word l) next t'
then_parts {n} {t₀} {t} {P} {first} p word l next t' told =
    record {
      next = told.0 ∙ ap (λ (b : Bool). is_first_behind b l) p.next ∙ first_behind true P word l;
      adds =
          subst (λ (x : List ℕ). Adds n t₀ x t') (ap (λ (b : Bool). listed true P ++ listed b (worded word l)) p.next ∙ more P (worded word l))
          (then_adds n t₀ (listed true P) t (listed first (worded word l)) t' p.adds told.1);
    }

close_none : (P : List (List ℕ)) → true ≡ is_first_behind true P → close P ≡ []
unfolding close
close_none [] e = refl
close_none (p ∷ ps) e = absurd (true≢false e)

close_some : (P : List (List ℕ)) → false ≡ is_first_behind true P → close P ≡ bytes ")"
unfolding close
close_some [] e = absurd (true≢false (sym e))
close_some (p ∷ ps) e = refl

pub bare : {n : ℕ} {t₀ t : List ℕ} {P : List (List ℕ)} → Listing n t₀ P true t → Adds n t₀ (parenthesized P) t
unfolding parenthesized
bare {n} {t₀} {t} {P} p = subst (λ (x : List ℕ). Adds n t₀ x t) (sym (append-nil (listed true P)) ∙ ap (λ (x : List ℕ). listed true P ++ x) (sym (close_none P p.next))) p.adds

pub closed : {n : ℕ} {t₀ t : List ℕ} {P : List (List ℕ)} → Listing n t₀ P false t → (t' : List ℕ) → t' ≡ with_word n t 0x0100000000000029 → Adds n t₀ (parenthesized P) t'
unfolding parenthesized
closed {n} {t₀} {t} {P} p t' told =
    subst (λ (x : List ℕ). Adds n t₀ (listed true P ++ x) t') (sym (close_some P p.next))
    (then_adds n t₀ (listed true P) t (bytes ")") t' p.adds (word_added n t (bytes ")") t' 0x0100000000000029 close_word told))

-- The best of some keys, in words that ask for no search.
--     Earliest      none is better, and each that stands before it is worse: "earliest on a tie"
--     Nearer        better by nearness to a wanted key
--     earliest      so it is with the nearest of a list, and where there is none the list is empty
--     earliest_is   it is one of them
--     earliest_as   better said otherwise, by the keys of the list
use Rattle.answer.proofs.Kit.{◌≡◌, refl, sym, ap, subst, Bool, true, false, cond, List, [], ◌∷◌, Memᴰ, Memᴰ-head, Memᴰ-not_nil, Memᴰ-cases_cons, ⊎_elim, ℕ, suc, ◌≤◌, ◌<◌, arith, ltb, ltb→lt, ltb-false}
use mathlib.Core.List.Memᴰ
use mathlib.Core.Option.{Option, none, some}
use Rattle.answer.proofs.First.{IsFirst}
use Rattle.answer.proofs.Tests.{said}
use Rattle.keys.specs.Choice.{distance, ToneKey, unless_nearer, nearest}

module _ (Better : ℕ → ℕ → Type 0) where
  abbrev pub NoneBetter : List ToneKey → ToneKey → Type 0
  NoneBetter l k = (j : ToneKey) → Memᴰ j l → ¬ Better j.key k.key

  pub record Earliest (l : List ToneKey) (k : ToneKey) : Type 0 where
    pub place : ℕ
    pub first : IsFirst (NoneBetter l) (λ (j : ToneKey). Better k.key j.key) l place k

  pub earliest_is : {l : List ToneKey} {k : ToneKey} → Earliest l k → Memᴰ k l
  earliest_is {k = k} e = subst (Memᴰ k) (sym e.first.stands) (Memᴰ.append_right e.first.before (Memᴰ-head refl))

pub earliest_as : {Better Better' : ℕ → ℕ → Type 0} {l : List ToneKey} {k : ToneKey}
    → ((i j : ToneKey) → Memᴰ i l → Memᴰ j l → Better i.key j.key → Better' i.key j.key)
    → ((i j : ToneKey) → Memᴰ i l → Memᴰ j l → Better' i.key j.key → Better i.key j.key)
    → Earliest Better l k → Earliest Better' l k
earliest_as {Better} {Better'} {l} {k} to from e =
    record {
      place = e.place;
      first = record {
        before = e.first.before;
        behind = e.first.behind;
        stands = e.first.stands;
        its_place = e.first.its_place;
        found = λ j m better. e.first.found j m (from j k m is better);
        earlier = λ j m. to k j is (subst (Memᴰ j) (sym e.first.stands) (Memᴰ.append_left (k ∷ e.first.behind) m)) (e.first.earlier j m);
      };
    }
  where
    is : Memᴰ k l
    is = earliest_is Better e

module _ (wanted : ℕ) where
  abbrev pub Nearer : ℕ → ℕ → Type 0
  Nearer a b = distance wanted a < distance wanted b

  abbrev pub IsEarliest : List ToneKey → Option ToneKey → Type 0
  IsEarliest l none = l ≡ []
  IsEarliest l (some k) = Earliest Nearer l k

  -- the first of a list, where none behind it is nearer
  stays : (x : ToneKey) (l : List ToneKey) → NoneBetter Nearer l x → Earliest Nearer (x ∷ l) x
  stays x l best =
      record {
        place = 0;
        first = record {
          before = [];
          behind = l;
          stands = refl;
          its_place = refl;
          found = λ j m. ⊎_elim (λ e. rw e (λ less. absurd (let no_way : ⊥ = omega arith in no_way))) (best j) (Memᴰ-cases_cons m);
          earlier = λ j m. absurd (Memᴰ-not_nil m);
        };
      }

  -- a later one that is nearer
  passes : (x : ToneKey) (l : List ToneKey) (k : ToneKey) → Nearer k.key x.key → Earliest Nearer l k → Earliest Nearer (x ∷ l) k
  passes x l k less e =
      record {
        place = suc e.place;
        first = record {
          before = x ∷ e.first.before;
          behind = e.first.behind;
          stands = ap (λ (t : List ToneKey). x ∷ t) e.first.stands;
          its_place = ap suc e.first.its_place;
          found = λ j m. ⊎_elim (λ same. rw same (λ more. absurd (let no_way : ⊥ = omega arith in no_way))) (e.first.found j) (Memᴰ-cases_cons m);
          earlier = λ j m. ⊎_elim (λ same. rw same less) (e.first.earlier j) (Memᴰ-cases_cons m);
        };
      }

  pub earliest : (l : List ToneKey) → IsEarliest l (nearest wanted l)
  unfolding nearest
  earliest [] = refl
  earliest (x ∷ l) = by_case (nearest wanted l) (earliest l)
    where
      by_test : (later : ToneKey) → Earliest Nearer l later → (b : Bool) → ltb (distance wanted later.key) (distance wanted x.key) ≡ b → Earliest Nearer (x ∷ l) (cond b later x)
      by_test later e true less = passes x l later (ltb→lt _ _ (said _ less)) e
      by_test later e false more = let most : distance wanted x.key ≤ distance wanted later.key = ltb-false _ _ more in stays x l (λ j m less. e.first.found j m (omega arith))

      by_case : (o : Option ToneKey) → IsEarliest l o → Earliest Nearer (x ∷ l) (unless_nearer wanted x o)
      by_case none e = stays x l (λ j m. absurd (Memᴰ-not_nil (subst (Memᴰ j) e m)))
      by_case (some later) e = by_test later e (ltb (distance wanted later.key) (distance wanted x.key)) refl

-- The first of a list that a test finds, in words that ask for no search.
--     IsFirst         it stands at its place, it is as wanted, and each of those before it is not
--     first_less      its place is below the list's length
--     first_as        what is wanted, and what is not, said otherwise
--     Finds           what a test finds is the first that passes it; where nothing is found, none does
--     first_is        so it is with `first_where`
--     first_found     and what is the first is found
--     none_found      nothing, where the test finds none
use Rattle.answer.proofs.Kit.{◌≡◌, refl, sym, ap, ◌∙◌, Bool, true, false, cond, List, [], ◌∷◌, ◌++◌, Memᴰ, Memᴰ-head, Memᴰ-tail, Memᴰ-not_nil, Memᴰ-cases_cons, ⊎_elim, ℕ, suc, ◌<◌, arith, length, length-append, Option, None, Some}
use Rattle.answer.specs.First.{further, first_where}

pub record IsFirst {A : Type 0} (Wanted Other : A → Type 0) (l : List A) (place : ℕ) (x : A) : Type 0 where
  pub before : List A
  pub behind : List A
  pub stands : l ≡ before ++ (x ∷ behind)
  pub its_place : place ≡ length before
  pub found : Wanted x
  pub earlier : (y : A) → Memᴰ y before → Other y

module _ {A : Type 0} {Wanted Other : A → Type 0} {l : List A} {place : ℕ} {x : A} (h : IsFirst Wanted Other l place x) where
  pub first_less : place < length l
  first_less = rw (h.stands, h.its_place) (simp length-append (omega arith))

  pub first_as : {Wanted' Other' : A → Type 0} → Wanted' x → ((y : A) → Other y → Other' y) → IsFirst Wanted' Other' l place x
  first_as found other = record {
    before = h.before;
    behind = h.behind;
    stands = h.stands;
    its_place = h.its_place;
    found = found;
    earlier = λ y m. other y (h.earlier y m);
  }

module _ {A : Type 0} (test : A → Bool) where
  abbrev pub Passes : A → Type 0
  Passes x = test x ≡ true

  abbrev pub Fails : A → Type 0
  Fails x = test x ≡ false

  abbrev pub Finds : List A → Option (ℕ × A) → Type 0
  Finds l None = (y : A) → Memᴰ y l → Fails y
  Finds l (Some first) = IsFirst Passes Fails l first.0 first.1

  -- one more in front that the test does not find
  also_not : (x : A) (l : List A) → Fails x → Finds l None → Finds (x ∷ l) None
  also_not x l e h y m = ⊎_elim (λ same. rw same e) (λ more. h y more) (Memᴰ-cases_cons m)

  pub first_is : (l : List A) → Finds l (first_where test l)
  unfolding first_where
  first_is [] = λ y m. absurd (Memᴰ-not_nil m)
  first_is (x ∷ l) = by_test (test x) refl (first_where test l) (first_is l)
    where
      behind_it : Fails x → (o : Option (ℕ × A)) → Finds l o → Finds (x ∷ l) (further o)
      behind_it e None h = also_not x l e h
      behind_it e (Some first) h = record {
        before = x ∷ h.before;
        behind = h.behind;
        stands = ap (λ (k : List A). x ∷ k) h.stands;
        its_place = ap suc h.its_place;
        found = h.found;
        earlier = also_not x h.before e h.earlier;
      }

      by_test : (b : Bool) → test x ≡ b → (o : Option (ℕ × A)) → Finds l o → Finds (x ∷ l) (cond b (Some (0, x)) (further o))
      by_test true e o h = record { before = []; behind = l; stands = refl; its_place = refl; found = e; earlier = λ y m. absurd (Memᴰ-not_nil m) }
      by_test false e o h = behind_it e o h

  stands_first : (before : List A) (x : A) (behind : List A) → Passes x → Finds before None
      → first_where test (before ++ (x ∷ behind)) ≡ Some (length before, x)
  unfolding first_where
  stands_first [] x behind e h = rw e
  stands_first (b ∷ before) x behind e h = rw (h b (Memᴰ-head refl)) (ap further (stands_first before x behind e (λ y m. h y (Memᴰ-tail m))))

  pub first_found : (l : List A) (place : ℕ) (x : A) → IsFirst Passes Fails l place x → first_where test l ≡ Some (place, x)
  first_found l place x h =
      ap (first_where test) h.stands ∙ stands_first h.before x h.behind h.found h.earlier ∙ ap (λ (n : ℕ). Some (n, x)) (sym h.its_place)

  pub none_found : (l : List A) → Finds l None → first_where test l ≡ None
  unfolding first_where
  none_found [] h = refl
  none_found (x ∷ l) h = rw (h x (Memᴰ-head refl)) (ap further (none_found l (λ y m. h y (Memᴰ-tail m))))

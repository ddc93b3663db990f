-- A climb over the keys of a class, from its own up by twelves: those below the range are passed; the next key is nearer to the wanted one
-- exactly where that is beyond half the way to it, and from the first that is not, none is.
--     passed, taken, past_limit    which keys a climb has
--     reached        some octaves above the first, each nearer than the one before, and the next not below the limit or not nearer: the nearest
--     no_key         where the first is not below the limit there is none
use Rattle.answer.proofs.Kit.{◌≡◌, refl, sym, ap, ap₂, ◌∙◌, Bool, true, false, cond, ◌&&◌, and-false, List, [], ◌∷◌, map, ◌⊎◌, ⊎_elim, ℕ, zero, suc, ◌+◌, ◌*◌, ◌-◌, ◌≤◌, ◌<◌, arith, leb, ltb, lt-ltb, le-ltb, lt-leb, le-leb}
use mathlib.Core.Option.{Option, none, some}
use Rattle.keys.specs.Choice.{keys_from, distance, ToneKey, tone_key, unless_nearer, nearest}
use Rattle.keys.specs.private.Ranked.{octaves_below, first_key}
use Rattle.keys.proofs.Winner.{unless_joins}

no_nearer : (w key k : ℕ) → w ≤ key + 6 → key + 12 ≤ k → distance w key ≤ distance w k
no_nearer w key k near far = omega arith

nearer : (w key : ℕ) → key + 6 < w → distance w (key + 12) < distance w key
nearer w key far = omega arith

-- no key below a limit that is a byte is 255 from another, as no key is 0
pub known : (w key : ℕ) → w ≤ 255 → 0 < key → key < 255 → distance w key < 255
known w key byte low high = omega arith

module _ (lowest limit : ℕ) where
  -- a key below the range is passed, one in it is taken, and from its end on there is none
  pub passed : (n key : ℕ) → key < lowest → keys_from lowest limit (suc n) key ≡ keys_from lowest limit n (key + 12)
  unfolding keys_from
  passed n key h = rw (lt-leb lowest key h)

  pub taken : (n key : ℕ) → lowest ≤ key → key < limit → keys_from lowest limit (suc n) key ≡ key ∷ keys_from lowest limit n (key + 12)
  unfolding keys_from
  taken n key low h = rw (le-leb lowest key low, lt-ltb key limit h)

  pub past_limit : (n key : ℕ) → limit ≤ key → keys_from lowest limit n key ≡ []
  unfolding keys_from
  past_limit zero key h = refl
  past_limit (suc n) key h = rw (le-ltb key limit h, and-false (leb lowest key)) (past_limit n (key + 12) (omega arith))

  -- some octaves, of which the last key is below the range too
  all_passed : (m n key : ℕ) → m * 12 < lowest - key + 12 → keys_from lowest limit (m + n) key ≡ keys_from lowest limit n (key + m * 12)
  all_passed zero n key h =
      let same : 0 + n ≡ n = omega arith in
      let e : key ≡ key + 0 * 12 = omega arith in
      ap₂ (keys_from lowest limit) same e
  all_passed (suc m) n key h =
      let one_more : suc m + n ≡ suc (m + n) = omega arith in
      let e : key + 12 + m * 12 ≡ key + suc m * 12 = omega arith in
      ap (λ (k : ℕ). keys_from lowest limit k key) one_more ∙ passed (m + n) key (omega arith) ∙ all_passed m n (key + 12) (omega arith) ∙ ap (keys_from lowest limit n) e

  none_left : (n m key : ℕ) → m * 12 < lowest - key + 12 → limit ≤ key + m * 12 → keys_from lowest limit n key ≡ []
  unfolding keys_from
  none_left zero m key h top = refl
  none_left (suc n) zero key h top = past_limit (suc n) key (omega arith)
  none_left (suc n) (suc m) key h top = passed n key (omega arith) ∙ none_left n m (key + 12) (omega arith) (omega arith)

  module _ (wanted interval : ℕ) where
    -- the nearest of n keys from one on
    abbrev pub nearest_from : ℕ → ℕ → Option ToneKey
    nearest_from n key = nearest wanted (map (tone_key interval) (keys_from lowest limit n key))

    starts : (n key : ℕ) → lowest ≤ key → key < limit → nearest_from (suc n) key ≡ some (unless_nearer wanted (tone_key interval key) (nearest_from n (key + 12)))
    unfolding nearest
    starts n key low h = rw (taken n key low h)

    -- where the wanted key is not beyond half the way to the next, none that follows is nearer
    stays : (n key k : ℕ) → wanted ≤ key + 6 → key + 12 ≤ k → unless_nearer wanted (tone_key interval key) (nearest_from n k) ≡ tone_key interval key
    unfolding nearest keys_from
    stays zero key k near far = refl
    stays (suc n) key k near far = by_case (leb lowest k && ltb k limit) (stays n key (k + 12) near (omega arith))
      where
        by_case : (b : Bool) → unless_nearer wanted (tone_key interval key) (nearest_from n (k + 12)) ≡ tone_key interval key
            → unless_nearer wanted (tone_key interval key) (nearest wanted (map (tone_key interval) (cond b (k ∷ keys_from lowest limit n (k + 12)) (keys_from lowest limit n (k + 12))))) ≡ tone_key interval key
        by_case true rest =
            unless_joins wanted (tone_key interval key) (tone_key interval k) (nearest_from n (k + 12))
            ∙ ap (λ (b : Bool). unless_nearer wanted (cond b (tone_key interval k) (tone_key interval key)) (nearest_from n (k + 12))) (le-ltb (distance wanted k) (distance wanted key) (no_nearer wanted key k near far))
            ∙ rest
        by_case false rest = rest

    -- where it is, the nearest is that from the next on
    rises : (n key : ℕ) → lowest ≤ key → key + 12 < limit → key + 6 < wanted → nearest_from (suc (suc n)) key ≡ nearest_from (suc n) (key + 12)
    rises n key low top far =
        starts (suc n) key low (omega arith)
        ∙ ap (λ (o : Option ToneKey). some (unless_nearer wanted (tone_key interval key) o)) (starts n (key + 12) (omega arith) top)
        ∙ ap (λ (k : ToneKey). some k) (unless_joins wanted (tone_key interval key) (tone_key interval (key + 12)) (nearest_from n (key + 12 + 12)))
        ∙ ap (λ (b : Bool). some (unless_nearer wanted (cond b (tone_key interval (key + 12)) (tone_key interval key)) (nearest_from n (key + 12 + 12)))) (lt-ltb (distance wanted (key + 12)) (distance wanted key) (nearer wanted key far))
        ∙ sym (starts n (key + 12) (omega arith) top)

    climbs : (m n key : ℕ) → lowest ≤ key → key + 12 * m < limit → 12 * m ≤ wanted - key + 5 → nearest_from (m + suc n) key ≡ nearest_from (suc n) (key + 12 * m)
    climbs zero n key low top up =
        let same : 0 + suc n ≡ suc n = omega arith in
        let e : key ≡ key + 12 * 0 = omega arith in
        ap₂ nearest_from same e
    climbs (suc m) n key low top up =
        let e : key + 12 + 12 * m ≡ key + 12 * suc m = omega arith in
        let one_more : suc m + suc n ≡ suc (suc (m + n)) = omega arith in
        let as_many : suc (m + n) ≡ m + suc n = omega arith in
        ap (λ (k : ℕ). nearest_from k key) one_more
        ∙ rises (m + n) key low (omega arith) (omega arith)
        ∙ ap (λ (k : ℕ). nearest_from k (key + 12)) as_many
        ∙ climbs m n (key + 12) (omega arith) (omega arith) (omega arith)
        ∙ ap (nearest_from (suc n)) e

    top_is : (n key : ℕ) → lowest ≤ key → key < limit → (limit ≤ key + 12) ⊎ (wanted ≤ key + 6) → nearest_from (suc n) key ≡ some (tone_key interval key)
    unfolding nearest
    top_is n key low h end =
        starts n key low h
        ∙ ap (λ (k : ToneKey). some k)
        (⊎_elim
        (λ last. ap (λ (l : List ℕ). unless_nearer wanted (tone_key interval key) (nearest wanted (map (tone_key interval) l))) (past_limit n (key + 12) last))
        (λ near. stays n key (key + 12) near (omega arith))
        end)

    module _ (class : ℕ) where
      pub no_key : limit ≤ first_key lowest class → nearest_from 18 (48 + class) ≡ none
      unfolding nearest
      no_key h = ap (λ (l : List ℕ). nearest wanted (map (tone_key interval) l)) (none_left 18 (octaves_below lowest class) (48 + class) (omega arith) h)

      pub reached : limit ≤ 255 → (n : ℕ) → first_key lowest class + 12 * n < limit → 12 * n ≤ wanted - first_key lowest class + 5
          → (limit ≤ first_key lowest class + 12 * n + 12) ⊎ (wanted ≤ first_key lowest class + 12 * n + 6)
          → nearest_from 18 (48 + class) ≡ some (tone_key interval (first_key lowest class + 12 * n))
      reached byte n top up end =
          let m = octaves_below lowest class in
          let first = first_key lowest class in
          let low : lowest ≤ first = omega arith in
          let steps : 18 ≡ m + (n + suc (17 - m - n)) = omega arith in
          ap (λ (k : ℕ). nearest_from k (48 + class)) steps
          ∙ ap (λ (l : List ℕ). nearest wanted (map (tone_key interval) l)) (all_passed m (n + suc (17 - m - n)) (48 + class) (omega arith))
          ∙ climbs n (17 - m - n) first low top up
          ∙ top_is (17 - m - n) (first + 12 * n) (omega arith) top end

-- Laws of the nearest key.
--     earlier, joins    of two the later where it ranks less, else the earlier; of three, whichever two are joined first
--     nearest_append    the nearest of two lists is that of their nearest
--     is_one            the nearest of some keys is one of them
--     KeyOf, from_tones    a key of some tones is a tone's: within the range, and some octaves above its class's own
--     tone_of_lem, tone_interval, to_tones    whose key it is, with the same interval; and a tone's key is one of theirs
use Rattle.answer.proofs.Kit.{◌≡◌, refl, sym, ap, subst, ◌∙◌, Bool, true, false, cond, ◌&&◌, List, [], ◌∷◌, ◌++◌, Memᴰ, Memᴰ-head, Memᴰ-tail, Memᴰ-not_nil, Memᴰ-cases_cons, Memᴰ-append_cases, Memᴰ-of_map, ⊎_elim, ℕ, zero, suc, ◌+◌, ◌%◌, ◌≤◌, ◌<◌, dec_lt, arith, leb, ltb, leb→le, ltb→lt, lt-ltb, le-ltb}
use mathlib.Core.List.Memᴰ
use mathlib.Core.Option.{Option, none, some}
use Rattle.answer.proofs.Tests.{left, right, said}
use Rattle.pool.specs.declared.pool.Tone.{Tone}
use Rattle.keys.specs.Choice.{keys_from, keys_of, distance, ToneKey, tone_key, keys_of_tone, keys_of_tones, unless_nearer, nearest}
use Rattle.keys.proofs.Earliest.{earliest_is, Nearer, IsEarliest, earliest}

module _ {A : Type 0} (rank : A → ℕ) where
  abbrev pub earlier : A → A → A
  earlier a b = cond (ltb (rank b) (rank a)) b a

  pub first : (a b : A) → rank a ≤ rank b → earlier a b ≡ a
  first a b h = rw (le-ltb (rank b) (rank a) h)

  pub second : (a b : A) → rank b < rank a → earlier a b ≡ b
  second a b h = rw (lt-ltb (rank b) (rank a) h)

  pub joins : (a b c : A) → earlier (earlier a b) c ≡ earlier a (earlier b c)
  joins a b c = by_order (dec_lt (rank b) (rank a)) (dec_lt (rank c) (rank b))
    where
      by_order : Dec (rank b < rank a) → Dec (rank c < rank b) → earlier (earlier a b) c ≡ earlier a (earlier b c)
      by_order (yes h) (yes k) = let less : rank c < rank a = omega arith in rw (second a b h, second b c k, second a c less)
      by_order (yes h) (no k) = let more : rank b ≤ rank c = omega arith in rw (second a b h, first b c more, second a b h)
      by_order (no h) (yes k) = let more : rank a ≤ rank b = omega arith in rw (first a b more, second b c k)
      by_order (no h) (no k) =
          let more : rank a ≤ rank b = omega arith in
          let most : rank b ≤ rank c = omega arith in
          let last : rank a ≤ rank c = omega arith in
          rw (first a b more, first b c most, first a b more, first a c last)

module _ (wanted : ℕ) where
  pub unless_joins : (a b : ToneKey) (later : Option ToneKey)
      → unless_nearer wanted a (some (unless_nearer wanted b later)) ≡ unless_nearer wanted (unless_nearer wanted a (some b)) later
  unless_joins a b none = refl
  unless_joins a b (some c) = sym (joins (λ (k : ToneKey). distance wanted k.key) a b c)

  -- a nearest key, and that of what stands behind it
  abbrev pub before : Option ToneKey → Option ToneKey → Option ToneKey
  before none later = later
  before (some k) later = some (unless_nearer wanted k later)

  pub nearest_append : (l m : List ToneKey) → nearest wanted (l ++ m) ≡ before (nearest wanted l) (nearest wanted m)
  unfolding nearest
  nearest_append [] m = refl
  nearest_append (k ∷ l) m =
      ap (λ (o : Option ToneKey). some (unless_nearer wanted k o)) (nearest_append l m) ∙ by_case (nearest wanted l)
    where
      by_case : (o : Option ToneKey) → some (unless_nearer wanted k (before o (nearest wanted m))) ≡ some (unless_nearer wanted (unless_nearer wanted k o) (nearest wanted m))
      by_case none = refl
      by_case (some a) = ap (λ (x : ToneKey). some x) (unless_joins k a (nearest wanted m))

  -- none, or one of a list
  abbrev pub IsOne : List ToneKey → Option ToneKey → Type 0
  IsOne l none = Unit {0}
  IsOne l (some k) = Memᴰ k l

  pub is_one : (l : List ToneKey) → IsOne l (nearest wanted l)
  is_one l = by_case (nearest wanted l) (earliest wanted l)
    where
      by_case : (o : Option ToneKey) → IsEarliest wanted l o → IsOne l o
      by_case none e = tt
      by_case (some k) e = earliest_is (Nearer wanted) e

module _ (lowest limit : ℕ) where
  -- a key of a class: within the range, and not below the class's own, from which it is some octaves
  pub record IsKey (class key : ℕ) : Type 0 where
    pub low : lowest ≤ key
    pub high : key < limit
    pub own : 48 + class ≤ key
    pub octaves : key % 12 ≡ class % 12

  is_from : (n from key : ℕ) → Memᴰ key (keys_from lowest limit n from) → (lowest ≤ key) × (key < limit) × (from ≤ key) × (key % 12 ≡ from % 12)
  unfolding keys_from
  is_from zero from key m = absurd (Memᴰ-not_nil m)
  is_from (suc n) from key m =
      by_test (leb lowest from && ltb from limit) refl (λ later. let up = is_from n (from + 12) key later in (up.0, up.1, omega arith, omega arith)) m
    where
      by_test : (b : Bool) → leb lowest from && ltb from limit ≡ b
          → (Memᴰ key (keys_from lowest limit n (from + 12)) → (lowest ≤ key) × (key < limit) × (from ≤ key) × (key % 12 ≡ from % 12))
          → Memᴰ key (cond b (from ∷ keys_from lowest limit n (from + 12)) (keys_from lowest limit n (from + 12)))
          → (lowest ≤ key) × (key < limit) × (from ≤ key) × (key % 12 ≡ from % 12)
      by_test true e higher m =
          let fits = said (leb lowest from && ltb from limit) e in
          let low = leb→le lowest from (left (leb lowest from) (ltb from limit) fits) in
          let high = ltb→lt from limit (right (leb lowest from) (ltb from limit) fits) in
          ⊎_elim (λ (same : key ≡ from). (omega arith, omega arith, omega arith, ap (λ (k : ℕ). k % 12) same)) higher (Memᴰ-cases_cons m)
      by_test false e higher m = higher m

  pub is_key : (class key : ℕ) → Memᴰ key (keys_of lowest limit class) → IsKey class key
  unfolding keys_of
  is_key class key m = let from = is_from 18 (48 + class) key m in record { low = from.0; high = from.1; own = from.2; octaves = omega (arith, from.3) }

  -- a key of one of some tones
  pub record KeyOf (tones : List Tone) (key : ℕ) : Type 0 where
    pub tone : Tone
    pub among : Memᴰ tone tones
    pub key_is : IsKey tone.class key

  -- so it is of more tones
  pub of_more : {l m : List Tone} {key : ℕ} → ((t : Tone) → Memᴰ t l → Memᴰ t m) → KeyOf l key → KeyOf m key
  of_more f k = record { tone = k.tone; among = f k.tone k.among; key_is = k.key_is }

  -- the tone of a key
  pub tone_of_lem : (tones : List Tone) (k : ToneKey) → Memᴰ k (keys_of_tones lowest limit tones) → (t : Tone) × Memᴰ t tones × Memᴰ k (keys_of_tone lowest limit t)
  unfolding keys_of_tones
  tone_of_lem [] k m = absurd (Memᴰ-not_nil m)
  tone_of_lem (t ∷ l) k m =
      ⊎_elim
      (λ own. (t, Memᴰ-head refl, own))
      (λ later. let of = tone_of_lem l k later in (of.0, Memᴰ-tail of.1, of.2))
      (Memᴰ-append_cases (keys_of_tone lowest limit t) m)

  -- its interval is the key's
  pub tone_interval : (t : Tone) (k : ToneKey) → Memᴰ k (keys_of_tone lowest limit t) → t.interval ≡ k.interval
  unfolding keys_of_tone
  tone_interval t k own = ap (λ (x : ToneKey). x.interval) (Memᴰ-of_map (tone_key t.interval) (keys_of lowest limit t.class) own).2

  pub from_tones : (tones : List Tone) (k : ToneKey) → Memᴰ k (keys_of_tones lowest limit tones) → KeyOf tones k.key
  unfolding keys_of_tone
  from_tones tones k m =
      let of = tone_of_lem tones k m in
      let one = Memᴰ-of_map (tone_key of.0.interval) (keys_of lowest limit of.0.class) of.2 in
      record { tone = of.0; among = of.1; key_is = subst (λ (x : ToneKey). IsKey of.0.class x.key) one.2 (is_key of.0.class one.0 one.1) }

  pub to_tones : (tones : List Tone) (t : Tone) (k : ToneKey) → Memᴰ t tones → Memᴰ k (keys_of_tone lowest limit t) → Memᴰ k (keys_of_tones lowest limit tones)
  unfolding keys_of_tones
  to_tones [] t k h m = absurd (Memᴰ-not_nil h)
  to_tones (x ∷ l) t k h m =
      ⊎_elim
      (λ (same : t ≡ x). Memᴰ.append_left (keys_of_tones lowest limit l) (subst (λ (u : Tone). Memᴰ k (keys_of_tone lowest limit u)) same m))
      (λ more. Memᴰ.append_right (keys_of_tone lowest limit x) (to_tones l t k more m))
      (Memᴰ-cases_cons h)

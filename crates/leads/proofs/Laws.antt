-- Theorems on the lead.
--     bars_one        a tone bars its successor's interval and no other
--     in_without      the tones that a lead leaves are of the pool
--     free_of         the unbarred tones are of the pool
--     IsLead, lead_is    the lead is a key of an unbarred tone, none of theirs is nearer to the wanted one, and those that stand before it are farther; or it is 0,
--                     and they have no key
--     none_nearer, none_has   so no unbarred tone of the pool has a nearer key; or none of them has any
--     lead_of_lem     a lead is within the range, and read back the class of such a tone
use Rattle.answer.proofs.Kit.{◌≡◌, refl, sym, subst, Bool, true, false, not, cond, ◌&&◌, List, [], ◌∷◌, Memᴰ, Memᴰ-tail, Memᴰ-not_nil, ◌⊎◌, inl, inr, ℕ, eqb}
use mathlib.Core.Option.{Option, none, some, Option-elim}
use Rattle.intervals.specs.Sets.{has, without}
use Rattle.pool.specs.declared.pool.Tone.{Tone}
use Rattle.pool.specs.Pool.{any_tone}
use Rattle.keys.specs.Choice.{ToneKey, keys_of_tone, keys_of_tones, nearest, chosen}
use Rattle.keys.proofs.Kept.{without_has}
use Rattle.keys.proofs.Winner.{KeyOf, from_tones, to_tones}
use Rattle.keys.proofs.Among.{one_of, in_chosen, chosen_has, chosen_all}
use Rattle.keys.proofs.Earliest.{Earliest, earliest_is, Nearer, IsEarliest, earliest}
use Rattle.leads.specs.Lead.{rubs, unbarred, owns, without_last, lead_of}

pub bars_one : (t next : Tone) (free k : ℕ) → rubs t next ≡ true → has (cond (rubs t next) (without next.interval free) free) k ≡ has free k && not (eqb k next.interval)
bars_one t next free k e = rw e (without_has next.interval free k)

module _ (lowest limit : ℕ) where
  pub in_without : (key : ℕ) (l : List Tone) (t : Tone) → Memᴰ t (without_last lowest limit key l) → Memᴰ t l
  unfolding without_last
  in_without key [] t h = h
  in_without key (x ∷ l) t h = by_test (any_tone (owns lowest limit key) l) (owns lowest limit key x) h (in_without key l t)
    where
      by_test : (behind own : Bool) → Memᴰ t (cond behind (x ∷ without_last lowest limit key l) (cond own l (x ∷ l)))
          → (Memᴰ t (without_last lowest limit key l) → Memᴰ t l) → Memᴰ t (x ∷ l)
      by_test true own h f = one_of true h f f
      by_test false true h f = Memᴰ-tail h
      by_test false false h f = h

  module _ (wanted : ℕ) (pool : List Tone) where
    -- the tones that none bars, and their keys
    abbrev pub free : List Tone
    free = chosen (unbarred pool) 0 pool

    abbrev pub free_keys : List ToneKey
    free_keys = keys_of_tones lowest limit free

    -- a tone is one of them where it is of the pool and none bars its interval
    pub free_of : (t : Tone) → Memᴰ t free → Memᴰ t pool × (has (unbarred pool) t.interval ≡ true)
    free_of t m = (in_chosen (unbarred pool) 0 pool t m, chosen_has (unbarred pool) pool t m)

    of_free : (t : Tone) → Memᴰ t pool → has (unbarred pool) t.interval ≡ true → (k : ToneKey) → Memᴰ k (keys_of_tone lowest limit t) → Memᴰ k free_keys
    of_free t m is k h = to_tones lowest limit free t k (chosen_all (unbarred pool) pool t m is) h

    pub record IsLead (key : ℕ) : Type 0 where
      pub of : ToneKey
      pub its_key : key ≡ of.key
      pub best : Earliest (Nearer wanted) free_keys of

    pub record IsNoLead (key : ℕ) : Type 0 where
      pub is_0 : key ≡ 0
      pub no_key : free_keys ≡ []

    pub lead_is : IsLead (lead_of lowest limit wanted pool) ⊎ IsNoLead (lead_of lowest limit wanted pool)
    unfolding lead_of Option-elim
    lead_is = by_case (nearest wanted free_keys) (earliest wanted free_keys)
      where
        by_case : (o : Option ToneKey) → IsEarliest wanted free_keys o
            → IsLead (Option-elim o 0 (λ (k : ToneKey). k.key)) ⊎ IsNoLead (Option-elim o 0 (λ (k : ToneKey). k.key))
        by_case none e = inr record { is_0 = refl; no_key = e }
        by_case (some k) e = inl record { of = k; its_key = refl; best = e }

    -- a lead is a key of one of these tones
    pub lead_of_lem : (key : ℕ) → IsLead key → KeyOf lowest limit free key
    lead_of_lem key h = subst (KeyOf lowest limit free) (sym h.its_key) (from_tones lowest limit free h.of (earliest_is (Nearer wanted) h.best))

    -- so no unbarred tone of the pool has a nearer key, or any
    pub none_nearer : (key : ℕ) → IsLead key → (t : Tone) → Memᴰ t pool → has (unbarred pool) t.interval ≡ true
        → (k : ToneKey) → Memᴰ k (keys_of_tone lowest limit t) → ¬ Nearer wanted k.key key
    none_nearer key h t m is k own = rw h.its_key (h.best.first.found k (of_free t m is k own))

    pub none_has : (key : ℕ) → IsNoLead key → (t : Tone) → Memᴰ t pool → has (unbarred pool) t.interval ≡ true → (k : ToneKey) → ¬ Memᴰ k (keys_of_tone lowest limit t)
    none_has key h t m is k own = Memᴰ-not_nil (subst (Memᴰ k) h.no_key (of_free t m is k own))

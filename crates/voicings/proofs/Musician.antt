-- What a musician would ask of a voicing, for every range of keys and every chord whose call is not refused: a reader need not read the search to know what
-- it finds.
--     Sounds         a key of one of the chord's tones: from the lowest to the highest, and read back (key mod 12) the tone's class
--     guide_sounds, tension_sounds, lead_sounds    each guide is such a key; so is each tension; so is the lead, unless it is the 0 of a lead that no tone may have
--     its_parts      a voicing is its bass keys, guides, tensions and lead, of the pool that the lead has left
--     above_sounds   so each key above the bass sounds, but for that 0
--     the_lead_is    the lead is the nearest key of an unbarred tone, the earliest on a tie; or it is that 0
--     guides_climb   the guides go from the lowest up, each the lowest key there is
--     tensions_descend    the tensions are below the lead and go from the highest down, each the highest key there is
--     midi_keys      no key of a voicing is above 127
use Rattle.answer.proofs.Kit.{◌≡◌, refl, sym, subst, ◌∙◌, true, List, [], ◌∷◌, ◌++◌, Memᴰ, Memᴰ-cases_cons, Memᴰ-append_cases, Memᴰ-eq_of_singleton, ◌⊎◌, inl, inr, ⊎_elim, ℕ, suc, ◌+◌, ◌%◌, ◌≤◌, ◌<◌, mod-eq_of_lt, arith, leb, leb→le, Option, Some, None, Ok}
use Rattle.answer.proofs.Tests.{said}
use Rattle.intervals.specs.Bass.{is_bass}
use Rattle.pool.specs.declared.pool.Tone.{Tone}
use Rattle.pool.specs.Pool.{tones_of}
use Rattle.pool.specs.Order.{sorted}
use Rattle.pairs.specs.Checks.{pairs_checked}
use Rattle.pairs.proofs.FirstBad.{Says, checked_says}
use Rattle.pool.proofs.Among.{in_sorted}
use Rattle.keys.proofs.Winner.{KeyOf, of_more}
use Rattle.keys.proofs.Among.{in_chosen}
use Rattle.keys.proofs.Turns.{InOrder, InTurns, placed_from}
use Rattle.leads.specs.Lead.{without_last, lead_of}
use Rattle.leads.proofs.Laws.{in_without, free_of, IsLead, IsNoLead, lead_is, lead_of_lem}
use Rattle.voicings.specs.declared.voicing.Chord.{Chord}
use Rattle.voicings.specs.Guides.{guide_tones, tension_tones, guide_keys, tension_keys}
use Rattle.voicings.specs.Voicing.{wanted_of, bass_keys, above_bass, above, voicing_of}
use Rattle.voicings.proofs.Replied.{IsGood}
use Rattle.voicings.proofs.Ordered.{Lower, Higher, guides_turns, guides_rise, tensions_below, tensions_turns, tensions_fall}

-- a key of one of some tones, read back
pub record Sounds (lowest highest : ℕ) (tones : List Tone) (key : ℕ) : Type 0 where
  pub tone : Tone
  pub among : Memᴰ tone tones
  pub reads_back : key % 12 ≡ tone.class
  pub not_below : lowest ≤ key
  pub not_above : key ≤ highest

-- the classes of a chord that is not refused
is_class : (l : List Tone) → pairs_checked l ≡ (Ok tt) → (t : Tone) → Memᴰ t l → t.class ≤ 11
is_class l e t h = ((subst (Says l) e (checked_says l)).1 t h).0

module _ (lowest highest : ℕ) (tones : List Tone) (classes_are : (t : Tone) → Memᴰ t tones → t.class ≤ 11) where
  -- a key below a limit that is not above the range sounds
  sounds : {limit key : ℕ} → limit ≤ suc highest → KeyOf lowest limit tones key → Sounds lowest highest tones key
  sounds {limit} {key} most k =
      let class = classes_are k.tone k.among in
      record {
        tone = k.tone;
        among = k.among;
        reads_back = k.key_is.octaves ∙ mod-eq_of_lt (let less : k.tone.class < 12 = omega arith in less);
        not_below = k.key_is.low;
        not_above = omega (arith, k.key_is.high);
      }

  -- of a pool of such tones
  module _ (pool : List Tone) (of_chord : (t : Tone) → Memᴰ t pool → Memᴰ t tones) where
    pub guide_sounds : (key : ℕ) → Memᴰ key (guide_keys lowest (suc highest) pool) → Sounds lowest highest tones key
    unfolding guide_keys
    guide_sounds key h = sounds (omega arith) (of_more _ _ (λ t m. of_chord t (in_chosen _ _ pool t m)) (placed_from lowest (suc highest) 0 _ key h))

    pub tension_sounds : (lead : ℕ) → lead ≤ suc highest → (key : ℕ) → Memᴰ key (tension_keys lowest lead pool) → Sounds lowest highest tones key
    unfolding tension_keys
    tension_sounds lead most key h = sounds most (of_more _ _ (λ t m. of_chord t (in_chosen _ _ pool t m)) (placed_from lowest lead lead _ key h))

    pub lead_sounds : (wanted : ℕ) → Sounds lowest highest tones (lead_of lowest (suc highest) wanted pool) ⊎ IsNoLead lowest (suc highest) wanted pool (lead_of lowest (suc highest) wanted pool)
    lead_sounds wanted = ⊎_elim (λ is. inl (sounds (omega arith) (of_more _ _ (λ t m. of_chord t (free_of lowest (suc highest) wanted pool t m).0) (lead_of_lem lowest (suc highest) wanted pool _ is)))) (λ no. inr no) (lead_is lowest (suc highest) wanted pool)

-- the keys below the guides: a class from 36 on, and one from 48 on
bass_low : (root : ℕ) (bass : Option ℕ) → root ≤ 11 → is_bass bass ≡ true → (key : ℕ) → Memᴰ key (bass_keys root bass) → key ≤ 59
bass_low root None h e key m = let is = Memᴰ-eq_of_singleton m in omega arith
bass_low root (Some bass) h e key m =
    let low = leb→le bass 11 (said (leb bass 11) e) in
    ⊎_elim (λ (is : key ≡ bass + 36). omega arith) (λ more. let is = Memᴰ-eq_of_singleton more in omega arith) (Memᴰ-cases_cons m)

module _ (chord : Chord) (classes intervals : List ℕ) where
  abbrev tones : List Tone
  tones = tones_of classes intervals

  abbrev lowest : ℕ
  lowest = chord.lowest

  abbrev limit : ℕ
  limit = suc chord.highest

  abbrev wanted : ℕ
  wanted = wanted_of chord.highest chord.lead

  abbrev lead : ℕ
  lead = lead_of lowest limit wanted (sorted tones)

  -- the pool once the lead has left, its guides and its tensions
  abbrev left_pool : List Tone
  left_pool = without_last lowest limit lead (sorted tones)

  abbrev guides : List ℕ
  guides = guide_keys lowest limit left_pool

  abbrev tensions : List ℕ
  tensions = tension_keys lowest lead left_pool

  pub its_parts : voicing_of chord classes intervals ≡ bass_keys chord.root chord.bass ++ (guides ++ tensions ++ (lead ∷ []))
  unfolding voicing_of above above_bass
  its_parts = refl

  -- no unbarred tone of the chord has a key, and the lead is 0
  abbrev NoLead : ℕ → Type 0
  NoLead key = IsNoLead lowest limit wanted (sorted tones) key

  pub the_lead_is : IsLead lowest limit wanted (sorted tones) lead ⊎ NoLead lead
  the_lead_is = lead_is lowest limit wanted (sorted tones)

  pub guides_climb : InTurns lowest limit Lower (guide_tones left_pool) guides × InOrder (λ (key later : ℕ). key ≤ later) guides
  guides_climb = (guides_turns lowest limit left_pool, guides_rise lowest limit left_pool)

  pub tensions_descend : ((key : ℕ) → Memᴰ key tensions → key < lead)
      × InTurns lowest lead Higher (tension_tones left_pool) tensions
      × InOrder (λ (key later : ℕ). later ≤ key) tensions
  tensions_descend = (tensions_below lowest lead left_pool, tensions_turns lowest lead left_pool, tensions_fall lowest lead left_pool)

  module _ (pairs : pairs_checked tones ≡ (Ok tt)) where
    abbrev Heard : ℕ → Type 0
    Heard key = Sounds lowest chord.highest tones key

    the_lead : Heard lead ⊎ NoLead lead
    the_lead = lead_sounds lowest chord.highest tones (is_class tones pairs) (sorted tones) (in_sorted tones) wanted

    lead_low : lead ≤ limit
    lead_low = ⊎_elim (λ s. omega (arith, s.not_above)) (λ no. omega (arith, no.is_0)) the_lead

    of_chord : (t : Tone) → Memᴰ t left_pool → Memᴰ t tones
    of_chord t m = in_sorted tones t (in_without lowest limit lead (sorted tones) t m)

    pub above_sounds : (key : ℕ) → Memᴰ key (guides ++ tensions ++ (lead ∷ [])) → Heard key ⊎ NoLead key
    above_sounds key h = ⊎_elim (λ m. inl (⊎_elim guide tension (Memᴰ-append_cases guides m))) last (Memᴰ-append_cases (guides ++ tensions) h)
      where
        guide : Memᴰ key guides → Heard key
        guide = guide_sounds lowest chord.highest tones (is_class tones pairs) left_pool of_chord key

        tension : Memᴰ key tensions → Heard key
        tension m = tension_sounds lowest chord.highest tones (is_class tones pairs) left_pool of_chord lead lead_low key m

        last : Memᴰ key (lead ∷ []) → Heard key ⊎ NoLead key
        last m = subst (λ (k : ℕ). Heard k ⊎ NoLead k) (sym (Memᴰ-eq_of_singleton m)) the_lead

    pub midi_keys : IsGood chord → (key : ℕ) → Memᴰ key (voicing_of chord classes intervals) → key ≤ 127
    midi_keys good key h =
        ⊎_elim
        (λ m. omega (arith, bass_low chord.root chord.bass good.root good.bass key m))
        (λ m. ⊎_elim (λ s. omega (arith, s.not_above, good.midi)) (λ no. omega (arith, no.is_0)) (above_sounds key m))
        (Memᴰ-append_cases (bass_keys chord.root chord.bass) (subst (Memᴰ key) its_parts h))

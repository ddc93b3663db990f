-- A description by its steps: what each step is told makes the whole.
--     split        what the extensions become
--     described    at a rooted set the descriptor
use Rattle.intervals.specs.declared.interval.Interval.{Interval}
use Rattle.answer.proofs.Kit.{◌≡◌, ap, ap₂, ◌∙◌, Bool, true, ℕ, bit_and, bit_or, Option}
use Rattle.intervals.specs.Sets.{is_rooted}
use Rattle.intervals.specs.Intervals.{set_of}
use Rattle.qualities.specs.Masks.{own_bits, alteration_bits, extension_bits, stack_bits}
use Rattle.qualities.specs.declared.quality.ChordQuality.{ChordQuality}
use Rattle.intervals.specs.declared.interval.Interval.TheVariants.{Ninth}
use Rattle.rules.specs.Classes.{only, intervals_of}
use Rattle.rules.specs.Parts.{suffix_quality, last_add, omit_fifth}
use Rattle.rules.specs.Stack.{unstacked_of, modifier_of, adds_of}
use Rattle.rules.specs.Heading.{nine}
use Rattle.rules.specs.private.Steps.{sus_from, extensions_from, unstacked_from, modifier_from, adds_from, nine_from, last_from, omitted_third_from, omitted_fifth_from}
use Rattle.rules.proofs.Told as Told
use Rattle.descriptors.specs.declared.kinds.Kind.{Kind}
use Rattle.descriptors.specs.declared.descriptor.Descriptor.{Descriptor}
use Rattle.descriptors.specs.Kinds.{kind_of}
use Rattle.descriptors.specs.private.Split.{missed_by, Splits}
use Rattle.descriptors.specs.Descriptors.{descriptor_of}

pub split : (q : ChordQuality) (row : Kind) → row ≡ kind_of q → (a e u stack own : ℕ) (m : Option Interval) (found nine : ℕ)
    → u ≡ unstacked_from (bit_or a e) row.2 stack → stack ≡ stack_bits q → own ≡ own_bits q
    → m ≡ modifier_from row.4 e u → found ≡ adds_from row.4 e u own → nine ≡ nine_from row.3 found → Splits q a e m found nine
split q row t a e u stack own m found nine hu hs ho hm hf hn =
    let missed : u ≡ missed_by q a e = hu ∙ ap₂ (unstacked_from (bit_or a e)) (ap (λ (k : Kind). k.2) t) hs in
    let diminished = ap (λ (k : Kind). k.4) t in
    record {
      stacked = hm ∙ ap₂ (λ (d : Bool) (x : ℕ). modifier_from d e x) diminished missed;
      added = hf ∙ ap (λ (x : ℕ). adds_from row.4 e u x) ho ∙ ap₂ (λ (d : Bool) (x : ℕ). adds_from d e x (own_bits q)) diminished missed;
      behind = hn ∙ ap (λ (k : Kind). nine_from k.3 found) t;
    }

module _ (s : ℕ) (is : is_rooted s ≡ true) where
  -- of its intervals and quality, the masks, what the steps gave
  pub described : (i : ℕ) (q : ChordQuality) (altered extended e : ℕ) (m : Option Interval) (found behind third noThird noFifth : ℕ)
      → i ≡ set_of (intervals_of s) → q ≡ suffix_quality s → altered ≡ alteration_bits q → extended ≡ extension_bits q → e ≡ extensions_from i extended
      → Splits q (bit_and i altered) e m found behind
      → third ≡ last_from (sus_from s) i → noThird ≡ omitted_third_from s → noFifth ≡ omitted_fifth_from i
      → ◌≡◌ {A = Descriptor}
      record {
        set = s;
        intervals = i;
        quality = q;
        sus = sus_from s;
        modifier = m;
        alterations = bit_and i altered;
        adds = found;
        nine = behind;
        third = third;
        omits = bit_or noThird noFifth;
      }
      (descriptor_of s)
  unfolding descriptor_of
  described i q altered extended e m found behind third noThird noFifth hi hq ha hx he hs ht ho hf =
      let als = ap₂ bit_and hi (ha ∙ ap alteration_bits hq) ∙ Told.alterations s is in
      let exs = he ∙ ap₂ extensions_from hi (hx ∙ ap extension_bits hq) ∙ Told.extensions s is in
      let missed : missed_by q (bit_and i altered) e ≡ set_of (unstacked_of (suffix_quality s) (intervals_of s)) = rw (als, exs, hq) (Told.unstacked s is) in
      let last : m ≡ modifier_of (suffix_quality s) (intervals_of s) = hs.stacked ∙ rw (missed, exs, hq) (Told.modifier s is) in
      let added : found ≡ set_of (adds_of (suffix_quality s) (intervals_of s)) = hs.added ∙ rw (missed, exs, hq) (Told.adds s is) in
      let nines : behind ≡ set_of (only (nine (suffix_quality s) (adds_of (suffix_quality s) (intervals_of s))) Ninth) = hs.behind ∙ rw (added, hq) (Told.nine_behind s is) in
      let thirds : third ≡ set_of (last_add s) = ht ∙ rw (Told.sus_told s is, hi) (Told.last_add_lem s is) in
      let fifths : noFifth ≡ set_of (omit_fifth s) = hf ∙ rw hi (Told.omit_fifth_lem s is) in
      let omitted = ap₂ bit_or (ho ∙ Told.omit_third_lem s is) fifths ∙ Told.omits s is in
      rw (als, last, nines, added, thirds, omitted, Told.sus_told s is, hi, hq)

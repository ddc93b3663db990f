-- The whole element as the code adds it.
--     whole_text, whole     texts in a row, which are the element
--     few                   the set of those that are added is one of intervals
use Rattle.answer.proofs.Kit.{◌≡◌, ap₂, ◌∙◌, true, List, ◌++◌, append_assoc, map, ℕ, ◌<◌, ◌^◌, bit_and, Option}
use Rattle.answer.specs.Words.{bytes}
use Rattle.intervals.specs.Sets.{is_rooted}
use Rattle.intervals.specs.Intervals.{set_of}
use Rattle.rules.specs.Classes.{intervals_in, intervals_of}
use Rattle.rules.specs.Parts.{suffix_quality}
use Rattle.names.specs.Names.{flats}
use Rattle.harmonies.specs.Xml.{written}
use Rattle.harmonies.specs.Kinds.{Kind, kind_of, add_of, subtract_of, outside, silent, degrees_of}
use Rattle.harmonies.specs.Harmony.{bass_of, degrees, harmony_of}
use Rattle.harmonies.proofs.Lossless.{kind_sounds}
use Rattle.harmonies.proofs.Texts.{harmony_text}
use Rattle.musicxml.specs.declared.kinds.Kind as kinds
use Rattle.musicxml.specs.private.Kinds.{IsKind}
use Rattle.musicxml.specs.private.Degrees.{subtract_where}
use Rattle.musicxml.proofs.Degree.{degrees_row, subtracts}
use Rattle.musicxml.proofs.Outside.{outside_bits, outside_small}
use Rattle.musicxml.proofs.Pitched.{root_text, root_text_lem}

-- of a kind's row, the intervals of a set, and the numbers handed in
abbrev pub whole_text : kinds.Kind → ℕ → ℕ → Option ℕ → ℕ → List ℕ
whole_text row found root b s =
    root_text root ++ row.name.now ++ bytes "</kind>" ++ written (bass_of flats b) ++ written (degrees (map add_of (intervals_in (bit_and row.outside found))))
    ++ subtract_where s row.third (bytes "3") ++ subtract_where s row.fifth (bytes "5") ++ bytes "</harmony>"

module _ (s : ℕ) (is : is_rooted s ≡ true) (row : kinds.Kind) (found : ℕ) (told : IsKind (suffix_quality s) row) (all : found ≡ set_of (intervals_of s)) where
  abbrev k : Kind
  k = kind_of (suffix_quality s)

  abbrev adds : List ℕ
  adds = written (degrees (map add_of (intervals_in (bit_and row.outside found))))

  are_adds : written (degrees (map add_of (outside k (intervals_of s)))) ≡ adds
  are_adds = rw (told.outside, all, outside_bits k s is)

  pub few : bit_and row.outside found < 2 ^ 23
  few = rw (told.outside, all) (outside_small k s is)

  -- the degrees: the adds, the third and the fifth
  all_degrees : written (degrees (degrees_of s)) ≡ adds ++ (subtract_where s row.third (bytes "3") ++ subtract_where s row.fifth (bytes "5"))
  unfolding degrees_of
  all_degrees =
      degrees_row (map add_of (outside k (intervals_of s))) (map subtract_of (silent k s))
      ∙ ap₂ ◌++◌ are_adds (subtracts k s is (kind_sounds s is) told.on_third told.on_fifth ∙ rw (told.third, told.fifth))

  pub whole : (root : ℕ) (b : Option ℕ) → root < 12 → harmony_of flats root b s ≡ whole_text row found root b s
  whole root b h = harmony_text flats root b s ∙ rw (root_text_lem root h, told.name, all_degrees) (simp append_assoc)

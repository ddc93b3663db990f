-- The classes of a raised list, and its candidates.
--     firsts_raised     in order of first occurrence, each class is raised
--     seen_raised       from the raised root, the set is seen as it was
--     all_raised        so each candidate is raised
--     numbered_raised   and with it the one of a number
--     lines_raised, symbols_raised     and what is written of them, in all and of each
--     octaves           raised by octaves, a list has the same classes
--     lower_keys        and where it has keys alone, the old one has
use Rattle.answer.proofs.Kit.{◌≡◌, refl, sym, ap, ap₂, ◌∙◌, Bool, true, false, cond, ◌||◌, List, [], ◌∷◌, ◌++◌, map, flat_map, ℕ, zero, suc, ◌+◌, ◌*◌, ◌%◌, arith, eqb, Option, Some, None}
use Rattle.std.proofs.lemmas.Bool.Decides.{nat_tests}
use mathlib.Core.List.Memᴰ
use mathlib.Core.List.{map-map}
use Rattle.intervals.specs.Sets.{has, set_where, is_in}
use Rattle.intervals.proofs.Wheres.{below_same}
use Rattle.notes.specs.declared.note.Note.{Note}
use Rattle.candidates.specs.declared.parts.Candidate.{Candidate}
use Rattle.candidates.specs.Keys.{key_class, seen_from, class_set, new_behind, firsts}
use Rattle.candidates.specs.Candidates.{chord, chords, chords_of, numbered_in, symbol, line, lines}
use Rattle.candidates.proofs.Heard.{set_heard}
use Rattle.strict.proofs.FirstAbove.{AreKeys}
use Rattle.movedpart.specs.Raised.{raised, class_raised, bass_raised, chord_raised, symbol_raised, line_raised, answer_raised}

abbrev classes : List ℕ → List ℕ
classes codes = map key_class codes

-- the classes of some codes that are new behind those of others
abbrev news : List ℕ → List ℕ → List ℕ
news before codes = new_behind (classes before) (classes codes)

module _ (n : ℕ) where
  -- codes of one class are raised to codes of one class, and others to others
  same_class : (a b : ℕ) → eqb (key_class (a + n)) (key_class (b + n)) ≡ eqb (key_class a) (key_class b)
  same_class a b = grind (arith, nat_tests)

  heard_raised : (a : ℕ) (codes : List ℕ) → is_in (key_class (a + n)) (classes (raised n codes)) ≡ is_in (key_class a) (classes codes)
  unfolding is_in raised
  heard_raised a [] = refl
  heard_raised a (b ∷ more) = ap₂ ◌||◌ (same_class a b) (heard_raised a more)

  new_raised : (before codes : List ℕ) → news (raised n before) (raised n codes) ≡ map (class_raised n) (news before codes)
  unfolding new_behind raised
  new_raised before [] = refl
  new_raised before (a ∷ more) =
      ap (λ (b : Bool). cond b (news (raised n before) (raised n more)) (key_class (a + n) ∷ news (raised n (a ∷ before)) (raised n more))) (heard_raised a before)
      ∙ by_case (is_in (key_class a) (classes before)) (new_raised before more) (new_raised (a ∷ before) more)
    where
      by_case : (b : Bool) → news (raised n before) (raised n more) ≡ map (class_raised n) (news before more)
          → news (raised n (a ∷ before)) (raised n more) ≡ map (class_raised n) (news (a ∷ before) more)
          → cond b (news (raised n before) (raised n more)) (key_class (a + n) ∷ news (raised n (a ∷ before)) (raised n more))
          ≡ map (class_raised n) (cond b (news before more) (key_class a ∷ news (a ∷ before) more))
      by_case true old new = old
      by_case false old new = ap₂ ◌∷◌ (let same : key_class (a + n) ≡ class_raised n (key_class a) = omega arith in same) new

  module _ (codes : List ℕ) where
    pub firsts_raised : firsts (raised n codes) ≡ map (class_raised n) (firsts codes)
    unfolding firsts raised
    firsts_raised = new_raised [] codes

    pub seen_raised : (root : ℕ) → seen_from (class_raised n root) (class_set (raised n codes)) ≡ seen_from root (class_set codes)
    unfolding seen_from set_where
    seen_raised root = below_same 12 _ _ (λ k h. it_has k)
      where
        it_has : (k : ℕ) → has (class_set (raised n codes)) ((class_raised n root + k) % 12) ≡ has (class_set codes) ((root + k) % 12)
        it_has k =
            let same : (class_raised n root + k) % 12 ≡ (root + k + n) % 12 = omega arith in
            set_heard (raised n codes) _ (omega arith) ∙ ap (λ (c : ℕ). is_in c (classes (raised n codes))) same ∙ heard_raised (root + k) codes
            ∙ sym (set_heard codes ((root + k) % 12) (omega arith))

    chord_raised_lem : (bass : Option ℕ) (class : ℕ) → chord (class_set (raised n codes)) (bass_raised n bass) (class_raised n class) ≡ chord_raised n (chord (class_set codes) bass class)
    unfolding chord chord_raised
    chord_raised_lem bass class = ap (λ (s : ℕ). record { root = class_raised n class; bass = bass_raised n bass; set = s }) (seen_raised class)

    each_raised : (bass : Option ℕ) (l : List ℕ)
        → map (chord (class_set (raised n codes)) (bass_raised n bass)) (map (class_raised n) l) ≡ map (chord_raised n) (map (chord (class_set codes) bass) l)
    each_raised bass [] = refl
    each_raised bass (class ∷ more) = ap₂ ◌∷◌ (chord_raised_lem bass class) (each_raised bass more)

    chords_raised : (l : List ℕ) → chords (class_set (raised n codes)) (map (class_raised n) l) ≡ map (chord_raised n) (chords (class_set codes) l)
    unfolding chords
    chords_raised [] = refl
    chords_raised (first ∷ rest) = ap₂ ◌∷◌ (chord_raised_lem None first) (each_raised (Some first) rest)

    pub all_raised : chords_of (raised n codes) ≡ map (chord_raised n) (chords_of codes)
    unfolding chords_of
    all_raised = ap (chords (class_set (raised n codes))) firsts_raised ∙ chords_raised (firsts codes)

  pub numbered_raised : (listed : List Candidate) (number : ℕ) → numbered_in (map (chord_raised n) listed) number ≡ answer_raised n (numbered_in listed number)
  unfolding numbered_in
  numbered_raised [] number = refl
  numbered_raised (c ∷ more) zero = refl
  numbered_raised (c ∷ more) (suc number) = numbered_raised more number

same_classes : (m : ℕ) (codes : List ℕ) → classes (raised (12 * m) codes) ≡ classes codes
unfolding raised
same_classes m [] = refl
same_classes m (code ∷ more) = ap₂ ◌∷◌ (let same : key_class (code + 12 * m) ≡ key_class code = omega arith in same) (same_classes m more)

pub octaves : (m : ℕ) (codes : List ℕ) → firsts (raised (12 * m) codes) ≡ firsts codes
unfolding firsts
octaves m codes = ap (new_behind []) (same_classes m codes)

pub lines_raised : (table : List Note) (n : ℕ) (listed : List Candidate) → lines table (map (chord_raised n) listed) ≡ flat_map (line_raised table n) listed
unfolding lines flat_map line symbol line_raised symbol_raised chord_raised
lines_raised table n [] = refl
lines_raised table n (c ∷ more) = ap (λ (t : List ℕ). line_raised table n c ++ t) (lines_raised table n more)

pub symbols_raised : (table : List Note) (n : ℕ) (listed : List Candidate) → map (symbol table) (map (chord_raised n) listed) ≡ map (symbol_raised table n) listed
unfolding symbol symbol_raised chord_raised
symbols_raised table n listed = map-map (symbol table) (chord_raised n) listed

pub lower_keys : (n : ℕ) (codes : List ℕ) → AreKeys (raised n codes) → AreKeys codes
unfolding raised
lower_keys n codes keys code m = omega (arith, keys (code + n) (Memᴰ.map (λ (c : ℕ). c + n) m))

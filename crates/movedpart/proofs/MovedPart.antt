-- Paper 02, Q-14: a moved part keeps its symbols, law by law. `specs/Raised.antt` says what it is to be raised, `specs/Calls.antt` what is said of two calls.
--     1   parts_move, part_moves, count_stays    the candidates' parts, and how many there are
--         listing_moves, lines_move              the listing's bytes line by line, and its lines as they are read
--     2   octaves_stay                           the listing's bytes, raised by octaves
--     3   classes_stay                           and of lists with the same classes in the same order
--     4   strict_moves, strict_octaves_stay, strict_classes_stay     the strict entry's replies
--     6   F-keeps                                1, 2 and 3 of two calls of F that had room
--         candidate_moves, host_candidate_moves, candidate_count_stays, host_candidate_count_stays     and 1 of those that tell the parts
-- All of it holds for any table of names, so for flats and sharps by one proof (5); only of lines as they are read it asks that names be brief, so that none has an end of line
-- in it. That no code passes 255 is asked nowhere: a call can't be given a list with such a code.
use Rattle.answer.proofs.Kit.{◌≡◌, refl, sym, ap, ap₂, ◌∙◌, T, List, map, flat_map, ℕ, ◌*◌, length, length-map, pos, Option, Ok}
use Rattle.answer.specs.Lines.{lines_of}
use Rattle.answer.specs.Replies.{text}
use Rattle.intervals.specs.Sets.{class_count}
use Rattle.notes.specs.declared.note.Note.{Note}
use Rattle.names.specs.Names.{table_of}
use Rattle.names.specs.declared.table.Names.{Names}
use Rattle.names.specs.declared.table.Names.TheVariants.{Flats, Sharps}
use Rattle.names.proofs.Named.{are_brief}
use Rattle.candidates.specs.declared.parts.Candidate.{Candidate}
use Rattle.candidates.specs.Keys.{class_set}
use Rattle.candidates.specs.Candidates.{chords_of, numbered_in, candidate_at, symbol, line, lines, candidates_of}
use Rattle.candidates.proofs.Chords.{chords_counted}
use Rattle.candidates.proofs.Laws.{candidates_lines, same_candidates}
use Rattle.host.specs.Numbers.{candidate_number}
use Rattle.strict.specs.Strict.{strict_reply}
use Rattle.strict.proofs.FirstAbove.{AreKeys, strict_same}
use Rattle.candidates.proofs.lines.candidates_in.Reads as candidates-in
use Rattle.candidates.proofs.lines.candidates.Reads as candidates
use Rattle.candidates.proofs.lines.candidate_count.Reads as candidate-count
use Rattle.candidates.proofs.numbered.candidate.Reads as candidate
use Rattle.strict.proofs.entry.candidates_strict_in.Reads as candidates-strict-in
use Rattle.strict.proofs.entry.candidates_strict.Reads as candidates-strict
use Rattle.hemotusap.proofs.symbols.hemotusap_candidates.Reads as host-candidates
use Rattle.hemotusap.proofs.symbols.hemotusap_candidates_sharp.Reads as host-candidates-sharp
use Rattle.hemotusap.proofs.symbols.hemotusap_candidates_strict.Reads as host-candidates-strict
use Rattle.hemotusap.proofs.symbols.hemotusap_candidates_strict_sharp.Reads as host-candidates-strict-sharp
use Rattle.hemotusap.proofs.symbols.hemotusap_candidate_count.Reads as host-candidate-count
use Rattle.hemotusap.proofs.symbols.hemotusap_candidate.Reads as host-candidate
use Rattle.movedpart.specs.Raised.{raised, chord_raised, symbol_raised, line_raised, answer_raised, SameClasses}
use Rattle.movedpart.specs.Calls.{Wrote, KeepsSymbols, TwoAnswers}
use Rattle.movedpart.proofs.Raised.{all_raised, numbered_raised, symbols_raised, lines_raised, octaves, lower_keys}
use Rattle.movedpart.proofs.Calls.{Listed, library, host, any_codes, keys_alone, listing_written}

-- 1. "if every code of a list is raised by the same amount .. the candidates keep number and order"
module _ (n : ℕ) (codes : List ℕ) where
  -- each has its root and its bass raised, and the same set
  pub parts_move : chords_of (raised n codes) ≡ map (chord_raised n) (chords_of codes)
  parts_move = all_raised n codes

  -- so has the one of a number, and where there was none there is none
  pub part_moves : (number : ℕ) → candidate_at (raised n codes) number ≡ answer_raised n (candidate_at codes number)
  unfolding candidate_at
  part_moves number = ap (λ (l : List Candidate). numbered_in l number) parts_move ∙ numbered_raised n (chords_of codes) number

  -- there are as many
  pub count_stays : class_count (class_set (raised n codes)) ≡ class_count (class_set codes)
  count_stays = sym (chords_counted (raised n codes)) ∙ ap length parts_move ∙ length-map (chords_of codes) (chord_raised n) ∙ chords_counted codes

  module _ (table : List Note) where
    -- candidate by candidate a line, in which "every suffix is the same, and each root and bass name is the old class raised by that amount"
    pub listing_moves : (candidates_of table codes ≡ flat_map (line table) (chords_of codes)) × (candidates_of table (raised n codes) ≡ flat_map (line_raised table n) (chords_of codes))
    unfolding candidates_of lines
    listing_moves = (refl, ap (lines table) parts_move ∙ lines_raised table n (chords_of codes))

    -- and so the lines are as they are read from the bytes, where names are brief
    pub lines_move : T (are_brief table) → (lines_of (candidates_of table codes) ≡ map (symbol table) (chords_of codes))
        × (lines_of (candidates_of table (raised n codes)) ≡ map (symbol_raised table n) (chords_of codes))
    lines_move brief =
        (candidates_lines table brief codes, candidates_lines table brief (raised n codes) ∙ ap (map (symbol table)) parts_move ∙ symbols_raised table n (chords_of codes))

-- 2. "Raising by a multiple of 12 leaves the listing's bytes equal"
pub octaves_stay : (table : List Note) (m : ℕ) (codes : List ℕ) → candidates_of table (raised (12 * m) codes) ≡ candidates_of table codes
octaves_stay table m codes = same_candidates (raised (12 * m) codes) codes (octaves m codes) table

-- 3. "Two lists with the same classes in the same order of first occurrence also give equal bytes"
pub classes_stay : (table : List Note) (codes codes' : List ℕ) → SameClasses codes codes' → candidates_of table codes ≡ candidates_of table codes'
classes_stay table codes codes' same = same_candidates codes codes' same table

-- 4. "The strict entry of Q-6 has the same law up to 127"
module _ (table : List Note) where
  -- where the raised list is of keys alone, so is the old one, and the strict entry replies with both listings, so that 1 is said of its lines
  pub strict_moves : (n : ℕ) (codes : List ℕ) → AreKeys (raised n codes)
      → (strict_reply table codes ≡ text (candidates_of table codes)) × (strict_reply table (raised n codes) ≡ text (candidates_of table (raised n codes)))
  strict_moves n codes keys = (strict_same codes table (lower_keys n codes keys), strict_same (raised n codes) table keys)

  pub strict_octaves_stay : (m : ℕ) (codes : List ℕ) → AreKeys (raised (12 * m) codes) → strict_reply table (raised (12 * m) codes) ≡ strict_reply table codes
  strict_octaves_stay m codes keys = let both = strict_moves (12 * m) codes keys in both.1 ∙ ap text (octaves_stay table m codes) ∙ sym both.0

  pub strict_classes_stay : (codes codes' : List ℕ) → AreKeys codes → AreKeys codes' → SameClasses codes codes' → strict_reply table codes ≡ strict_reply table codes'
  strict_classes_stay codes codes' keys keys' same =
      strict_same codes table keys ∙ ap text (classes_stay table codes codes' same) ∙ sym (strict_same codes' table keys')

-- 6. What calls wrote that list the candidates is as was said of the listing
keeps {ℓ} : (Call : Names → List ℕ → List ℕ → Type ℓ) → Listed Call → KeepsSymbols Call
keeps Call listed = record {
  listing_moves = λ names n codes bytes bytes' call call'.
      let both = listing_moves n codes (table_of names) in (listed names codes bytes call ∙ both.0, listed names (raised n codes) bytes' call' ∙ both.1);
  octaves_stay = λ names m codes bytes bytes' call call'.
      listed names (raised (12 * m) codes) bytes' call' ∙ octaves_stay (table_of names) m codes ∙ sym (listed names codes bytes call);
  classes_stay = λ names codes codes' bytes bytes' same call call'.
      listed names codes bytes call ∙ classes_stay (table_of names) codes codes' same ∙ sym (listed names codes' bytes' call');
}

-- the library's four calls, and the boundary's: `a` are a call's arguments in their order, `s` what it left of them
pub candidates_in_keeps : KeepsSymbols (Wrote Ok candidates-in.Post (λ κs a. (a.0, a.1.0.now)) (λ κs s. s.1.1.0.now))
candidates_in_keeps = keeps _ (listing_written library any_codes (λ κs a. a.1.1.0.now) (λ κs a r s made. made))

pub candidates_keeps : KeepsSymbols (Wrote Ok candidates.Post (λ κs a. (Flats, a.0.now)) (λ κs s. s.1.0.now))
candidates_keeps = keeps _ (listing_written library any_codes (λ κs a. a.1.0.now) (λ κs a r s made. made))

pub candidates_strict_in_keeps : KeepsSymbols (Wrote Ok candidates-strict-in.Post (λ κs a. (a.0, a.1.0.now)) (λ κs s. s.1.1.0.now))
candidates_strict_in_keeps = keeps _ (listing_written library keys_alone (λ κs a. a.1.1.0.now) (λ κs a r s made. made))

pub candidates_strict_keeps : KeepsSymbols (Wrote Ok candidates-strict.Post (λ κs a. (Flats, a.0.now)) (λ κs s. s.1.0.now))
candidates_strict_keeps = keeps _ (listing_written library keys_alone (λ κs a. a.1.0.now) (λ κs a r s made. made))

pub host_candidates_keeps : KeepsSymbols (Wrote pos host-candidates.Post (λ κs a. (Flats, a.0.now)) (λ κs s. s.1.0.now))
host_candidates_keeps = keeps _ (listing_written host any_codes (λ κs a. a.1.0.now) (λ κs a r s made. made))

pub host_candidates_sharp_keeps : KeepsSymbols (Wrote pos host-candidates-sharp.Post (λ κs a. (Sharps, a.0.now)) (λ κs s. s.1.0.now))
host_candidates_sharp_keeps = keeps _ (listing_written host any_codes (λ κs a. a.1.0.now) (λ κs a r s made. made))

pub host_candidates_strict_keeps : KeepsSymbols (Wrote pos host-candidates-strict.Post (λ κs a. (Flats, a.0.now)) (λ κs s. s.1.0.now))
host_candidates_strict_keeps = keeps _ (listing_written host keys_alone (λ κs a. a.1.0.now) (λ κs a r s made. made))

pub host_candidates_strict_sharp_keeps : KeepsSymbols (Wrote pos host-candidates-strict-sharp.Post (λ κs a. (Sharps, a.0.now)) (λ κs s. s.1.0.now))
host_candidates_strict_sharp_keeps = keeps _ (listing_written host keys_alone (λ κs a. a.1.0.now) (λ κs a r s made. made))

-- and those that tell the parts: a candidate of the same number has root and bass raised, or there is none
pub candidate_moves : TwoAnswers (λ n r r'. r' ≡ answer_raised n r) candidate.Post (λ κs a. a.0.now) (λ κs a. a.1.0)
candidate_moves κs κs' a a' r r' s s' n made made' moved same =
    made' ∙ ap₂ candidate_at moved same ∙ part_moves n a.0.now a.1.0 ∙ ap (answer_raised n) (sym made)

-- there are as many
pub candidate_count_stays : TwoAnswers (λ n r r'. r' ≡ r) candidate-count.Post (λ κs a. a.0.now) (λ κs a. 0)
candidate_count_stays κs κs' a a' r r' s s' n made made' moved same = made' ∙ ap (λ (l : List ℕ). class_count (class_set l)) moved ∙ count_stays n a.0.now ∙ sym made

-- a host is told the same as numbers
pub host_candidate_moves : TwoAnswers (λ n r r'. (c : Option Candidate) × (r ≡ candidate_number c) × (r' ≡ candidate_number (answer_raised n c))) host-candidate.Post
    (λ κs a. a.0.now) (λ κs a. a.1.0)
host_candidate_moves κs κs' a a' r r' s s' n made made' moved same =
    (candidate_at a.0.now a.1.0, made, made' ∙ ap candidate_number (ap₂ candidate_at moved same ∙ part_moves n a.0.now a.1.0))

pub host_candidate_count_stays : TwoAnswers (λ n r r'. r' ≡ r) host-candidate-count.Post (λ κs a. a.0.now) (λ κs a. 0)
host_candidate_count_stays κs κs' a a' r r' s s' n made made' moved same =
    made' ∙ ap (λ (l : List ℕ). pos (class_count (class_set l))) moved ∙ ap pos (count_stays n a.0.now) ∙ sym made

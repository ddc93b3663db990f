-- `candidates::lines::push_lines` meets its contract. The loop's invariant: the lines of the classes before this one are written.
use Rattle.answer.proofs.Kit.{◌≡◌, refl, sym, ap, ap₂, ◌∙◌, true, List, ◌++◌, flat_map, ℕ, ◌<◌, ◌≤◌, arith, length, length-append, get_or, take_all, Option, Some}
use Rattle.std.specs.Prelude.{slice_get}
use Rattle.std.specs.Option.{option_map}
use Rattle.std.proofs.lemmas.Option.{slice_get-get_or}
use Rattle.intervals.specs.Sets.{has}
use Rattle.names.specs.Names.{table_of}
use Rattle.names.proofs.Named.{table_brief}
use Rattle.candidates.specs.Candidates.{chord, chords, numbered_in, line, lines}
use Rattle.candidates.specs.private.Classes.{set_of}
use Rattle.candidates.proofs.Chords.{as_many, numbered_chord, next_bass}
use Rattle.candidates.proofs.Listed.{line_length, one_more}
use Rattle.candidates.proofs.lines.push_lines.Goals as goal
use Rattle.candidates.proofs.lines.push_lines.Goals.{After-from-root, After-or-bass}

-- this class is one of the set, and has its candidate
class_is : (c : After-from-root) → slice_get c.args.classes.now c.loop-class.class-index ≡ Some c.from-root.result
class_is c =
    slice_get-get_or c.args.classes.now c.loop-class.class-index 0 (omega (arith, ap length c.as_slice-class-items.ensures.all))
    ∙ ap Some (ap (λ (l : List ℕ). get_or l c.loop-class.class-index 0) (sym c.as_slice-class-items.ensures.all) ∙ sym c.from-root.ensures)

of_the_set : (c : After-from-root) → (c.from-root.result < 12) × (has (set_of c.args.classes.now) c.from-root.result ≡ true)
of_the_set c =
    rw (c.from-root.ensures, c.as_slice-class-items.ensures.all)
    (c.as_slice-class-items.ensures.each c.loop-class.class-index (omega (arith, ap length c.as_slice-class-items.ensures.all)))

candidate_is : (c : After-or-bass) → slice_get (chords (set_of c.args.classes.now) c.args.classes.now) c.loop-class.class-index ≡ Some c.chord.result
unfolding numbered_in
candidate_is c =
    let classes = c.args.classes.now in
    numbered_chord (set_of classes) classes c.loop-class.class-index
    ∙ ap₂ (λ (bass : Option ℕ). option_map (chord (set_of classes) bass)) (sym c.loop-class.invariant.bass) (class_is (goal.at.loop-class-preserved c).After-from-root)
    ∙ ap Some (sym c.chord.ensures.chord)

pub loop-class-init : goal.loop-class-init
unfolding lines flat_map
loop-class-init c = record { lines = c.requires; bass = refl; few = rw c.requires (omega arith) }

pub chord-requires : goal.chord-requires
chord-requires c = of_the_set (goal.at.chord-requires c).After-from-root

pub loop-class-preserved : goal.loop-class-preserved
loop-class-preserved c =
    let table = table_of c.args.names in
    let classes = c.args.classes.now in
    let i = c.loop-class.class-index in
    let p = goal.at.loop-class-preserved c in
    let short = line_length table (table_brief c.args.names) c.chord.result c.chord.ensures.rooted in
    record {
      lines =
          c.push_line.ensures ∙ ap (λ (t : List ℕ). t ++ line table c.chord.result) c.loop-class.invariant.lines
          ∙ sym (one_more table (chords (set_of classes) classes) i c.chord.result (candidate_is c));
      bass = c.or-bass.ensures ∙ next_bass classes i c.from-root.result (class_is p.After-from-root) c.loop-class.bass c.loop-class.invariant.bass;
      few = rw c.push_line.ensures (simp length-append (omega (arith, c.loop-class.invariant.few, short)));
    }

pub returns : goal.returns
returns c =
    let classes = c.args.classes.now in
    let all = as_many (set_of classes) classes in
    let end : length (chords (set_of classes) classes) ≤ c.loop-class.class-index = omega (arith, all, ap length c.as_slice-class-items.ensures.all) in
    c.loop-class.invariant.lines ∙ ap (lines (table_of c.args.names)) (take_all c.loop-class.class-index (chords (set_of classes) classes) end)

-- `spelling::tones::tones` meets its contract: a row of the set's tones, of which all but the first space is given.
use Rattle.answer.proofs.Kit.{◌≡◌, refl, sym, ap, subst, ◌∙◌, append-nil, true, true≢false, List, ℕ, ◌+◌, ◌-◌, ◌%◌, ◌^◌, ◌≤◌, mod-eq_of_lt, arith, length, length-drop, drop, take_all, Ok}
use Rattle.std.proofs.lemmas.Result.{err_from_is_err_and}
use Rattle.answer.specs.Replies.{Answered, text}
use Rattle.answer.proofs.Rooms.{refused_by}
use Rattle.intervals.specs.Intervals.{set_of}
use Rattle.intervals.specs.Sets.{is_rooted}
use Rattle.intervals.proofs.Rooted.{rooted_small}
use Rattle.intervals.proofs.Rows.{set_small}
use Rattle.notes.specs.Notes.{is_note}
use Rattle.names.specs.Names.{flats}
use Rattle.names.proofs.Named.{flats_brief, note_in_lem}
use Rattle.rules.specs.Classes.{intervals_in, intervals_of}
use Rattle.rules.proofs.Counted.{at_least_one, at_most_twelve, set_reads}
use Rattle.spelling.specs.Tones.{spelled_by, spaced, tone_names, tone_of, tones_of, tones_on}
use Rattle.spelling.specs.declared.tones.TheConstants.{ROOM}
use Rattle.spelling.proofs.Replied.{on_set, by_the_set}
use Rattle.spelling.proofs.Row.{row_of, row_some, row_long, tone_given, turn, given}
use Rattle.spelling.proofs.tones.tones.Goals as goal
use Rattle.spelling.proofs.tones.tones.Goals.{After-into_iter-interval-iterator, After-get_note, After-as_slice}

-- the members of what `intervals` gave are the intervals of a rooted set
members : (s found : ℕ) → is_rooted s ≡ true → found ≡ set_of (intervals_of (s % 4096)) → intervals_in (found % 2 ^ 23) ≡ intervals_of s
members s found is told =
    let small = rooted_small s is in
    let own : found ≡ set_of (intervals_of s) = told ∙ ap (λ (x : ℕ). set_of (intervals_of x)) (mod-eq_of_lt (omega arith)) in
    ap intervals_in (mod-eq_of_lt (rw own (set_small (intervals_of s))) ∙ own) ∙ set_reads s is

-- the loop has those
all : (c : After-into_iter-interval-iterator) → c.into_iter-interval-iterator.result ≡ intervals_of c.in_ok-set.set
all c =
    c.into_iter-interval-iterator.ensures.into_iter_gives ∙ c.of-interval-items.ensures
    ∙ members c.in_ok-set.set c.intervals.result c.set.ensures.1 (rw c.set.ensures.0 at c.intervals.ensures)

-- the root is a note
note : (c : After-into_iter-interval-iterator) → is_note c.in_ok-root.root ≡ true
note c = note_in_lem flats flats_brief c.args.root c.in_ok-root.root (sym c.class_note.ensures ∙ c.in_ok-root.was)

-- and its interval's tone is not refused
tone : (c : After-get_note) → is_note c.in_ok-root.root ≡ true → c.get_note.result ≡ Ok (tone_of spelled_by c.in_ok-root.root c.in-Some.interval)
tone c is = c.get_note.ensures ∙ rw (c.st.ensures, c.numeric.ensures, c.to_degree.ensures) (tone_given spelled_by c.in_ok-root.root is c.in-Some.interval)

pub returns-in_err-set : goal.returns-in_err-set
returns-in_err-set c =
    let why = err_from_is_err_and c.from_residual.result c.from_residual.ensures.1 in
    rw (why.1, why.2) (refused_by _ _ _ (by_the_set spelled_by c.args.root c.args.set ∙ ap (on_set spelled_by c.args.root) (sym c.new.ensures ∙ c.in_err-set.was)))

pub returns-in_err-root : goal.returns-in_err-root
unfolding tones_on
returns-in_err-root c =
    let why = err_from_is_err_and c.from_residual-in_err-root.result c.from_residual-in_err-root.ensures.1 in
    rw (why.1, why.2)
    (refused_by _ _ _
    (by_the_set spelled_by c.args.root c.args.set ∙ ap (on_set spelled_by c.args.root) (sym c.new.ensures ∙ c.in_ok-set.was)
    ∙ ap (λ n. tones_on spelled_by n c.in_ok-set.set) (sym c.class_note.ensures ∙ c.in_err-root.was)))

pub loop-interval-init : goal.loop-interval-init
loop-interval-init c = rw c.new-row.ensures refl

pub returns-in_err-tone : goal.returns-in_err-tone
returns-in_err-tone c =
    let p = goal.at.returns-in_err-tone c in
    let given = tone p.After-get_note (note p.After-into_iter-interval-iterator) in
    let refused = c.in_err-tone.was in
    absurd (true≢false cc)

pub loop-interval-preserved : goal.loop-interval-preserved
loop-interval-preserved c =
    let p = goal.at.loop-interval-preserved c in
    let root = c.in_ok-root.root in
    let given = tone p.After-get_note (note p.After-into_iter-interval-iterator) in
    let same : c.in_ok-tone.tone ≡ tone_of spelled_by root c.in-Some.interval = let was = c.in_ok-tone.was in cc in
    let most = at_most_twelve c.in_ok-set.set c.set.ensures.1 in
    let long = row_long spelled_by root (intervals_of c.in_ok-set.set) in
    let room : length (row_of spelled_by root c.into_iter-interval-iterator.result) + 8 ≤ ROOM = rw (all p.After-into_iter-interval-iterator) (omega (arith, most, long)) in
    rw (c.push.ensures, c.push_byte.ensures, c.to_word.ensures, same)
    (turn spelled_by root ROOM _ room c.loop-interval.row c.in-Some.interval c.next.new.self (rw c.in-Some.ensures.steps at c.loop-interval.invariant))

-- the row that the loop leaves
row : (c : After-as_slice) → c.into_iter-interval-iterator.result ≡ intervals_of c.in_ok-set.set
    → c.as_slice.result.now ≡ row_of spelled_by c.in_ok-root.root (intervals_of c.in_ok-set.set)
unfolding spaced
row c all = c.as_slice.ensures.bytes ∙ sym (append-nil c.loop-interval.row) ∙ rw (c.in-None.ensures.steps.0, all) at c.loop-interval.invariant

some : (c : After-as_slice) → c.into_iter-interval-iterator.result ≡ intervals_of c.in_ok-set.set → 1 ≤ length c.as_slice.result.now
some c all = rw (row c all) (row_some spelled_by c.in_ok-root.root (intervals_of c.in_ok-set.set) (at_least_one c.in_ok-set.set c.set.ensures.1))

pub slice_bounds-names-count : goal.slice_bounds-names-count
slice_bounds-names-count c = let p = goal.at.slice_bounds-names-count c in some p.After-as_slice (all p.After-into_iter-interval-iterator)

pub slice_bounds-names-start : goal.slice_bounds-names-start
slice_bounds-names-start c = let p = goal.at.slice_bounds-names-start c in some p.After-as_slice (all p.After-into_iter-interval-iterator)

pub returns : goal.returns
unfolding tones_on tones_of
returns c =
    let p = goal.at.returns c in
    let l = c.as_slice.result.now in
    let root = c.in_ok-root.root in
    let names =
    take_all (length l - 1) (drop 1 l) (omega (arith, length-drop 1 l)) ∙ ap (drop 1) (row p.After-as_slice (all p.After-into_iter-interval-iterator))
    ∙ given (tone_names spelled_by root (intervals_of c.in_ok-set.set)) in
    rw (by_the_set spelled_by c.args.root c.args.set, sym c.new.ensures ∙ c.in_ok-set.was, sym c.class_note.ensures ∙ c.in_ok-root.was)
    (subst (λ (t : List ℕ). Answered (text t) c.args.out.now c.give.result c.give.new.out) names c.give.ensures)

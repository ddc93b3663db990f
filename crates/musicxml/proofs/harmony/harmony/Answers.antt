-- `musicxml::harmony::harmony` meets its contract: the tests say what the call has to give, and the texts in a row are the element.
use Rattle.answer.proofs.Kit.{◌≡◌, sym, ap, subst, ◌∙◌, Bool, true, ◌&&◌, List, [], ℕ, ◌<◌, ◌^◌, arith, leb, leb→le, bit_and, mod-eq_of_lt, map, Option}
use Rattle.std.proofs.lemmas.Result.{err_from_is_err_and}
use Rattle.answer.specs.Words.{bytes}
use Rattle.answer.specs.Replies.{Reply, text, Answered}
use Rattle.answer.proofs.Rooms.{refused_by}
use Rattle.answer.proofs.Tests.{left, right, said, is_true}
use Rattle.intervals.specs.Bass.{is_bass}
use Rattle.intervals.specs.Intervals.{set_of}
use Rattle.intervals.proofs.Rooted.{rooted_small}
use Rattle.qualities.specs.declared.quality.ChordQuality.{ChordQuality}
use Rattle.rules.specs.Classes.{intervals_in, intervals_of}
use Rattle.descriptors.proofs.Replied.{shown_told}
use Rattle.harmonies.specs.Xml.{written}
use Rattle.harmonies.specs.Kinds.{add_of}
use Rattle.harmonies.specs.Harmony.{flats, bass_of, degrees}
use Rattle.harmonies.proofs.Long.{harmony_short}
use Rattle.harmonies.proofs.Lossless.{class_of_lem}
use Rattle.musicxml.specs.private.Kinds.{IsKind}
use Rattle.musicxml.specs.private.Texts.{Adds}
use Rattle.musicxml.proofs.Pitched.{root_text, bass_text_lem}
use Rattle.musicxml.proofs.Pushed.{made, nothing, then, named}
use Rattle.musicxml.proofs.Replied.{on_shown, by_the_shown, no_class, element}
use Rattle.musicxml.proofs.Whole.{whole_text, whole, few}
use Rattle.musicxml.proofs.harmony.harmony.Goals as goal
use Rattle.musicxml.proofs.harmony.harmony.Goals.{After-push_bytes-3, Joined-bass, in-Some, in_default}

-- the bass, or nothing
bass : (c : Joined-bass) → is_bass c.args.bass ≡ true → Adds c.push_bytes-2.new.self (written (bass_of flats c.args.bass)) c.match-bass.element
unfolding written bytes
bass c is = elim c.match-bass.branch [
  | in-Some w ↦
      let class = class_of_lem w.in-Some.class (subst (λ (b : Option ℕ). is_bass b ≡ true) w.in-Some.is is) in
      rw (w.in-Some.is, w.element-is) (named (sym (bass_text_lem w.in-Some.class class)) w.push_pitch-in-Some.ensures)
  | in_default w ↦ rw (w.in_default.is, w.element-is) (nothing _)
]

-- all texts in a row
row : (c : After-push_bytes-3)
    → Adds c.push_bytes-2.new.self (written (bass_of flats c.args.bass)) c.match-bass.element
    → bit_and c.of-kind.result.outside c.intervals.result < 2 ^ 23
    → Adds [] (whole_text c.of-kind.result c.intervals.result c.args.root c.args.bass c.args.set) c.push_bytes-3.new.self
unfolding bytes
row c under few =
    let root = subst (λ (t : List ℕ). Adds t (root_text c.args.root) c.push_pitch.new.element) c.new-element.ensures c.push_pitch.ensures in
    let adds = named (ap (λ (n : ℕ). written (degrees (map add_of (intervals_in n)))) (mod-eq_of_lt few)) c.push_adds.ensures in
    then (then (then (then (then (then (then root (made c.push_bytes.ensures)) (made c.push_bytes-2.ensures)) under) adds) c.push_subtract.ensures) c.push_subtract-2.ensures) (made c.push_bytes-3.ensures)

pub returns-in_err-shown : goal.returns-in_err-shown
returns-in_err-shown c =
    let why = err_from_is_err_and c.from_residual.result c.from_residual.ensures.1 in
    rw (why.1, why.2)
    (refused_by _ _ _ (by_the_shown c.args.root c.args.bass c.args.set ∙ ap (on_shown c.args.root c.args.bass c.args.set) (sym c.shown.ensures ∙ c.in_err-shown.was)))

pub returns-then-not-root-is_bass : goal.returns-then-not-root-is_bass
returns-then-not-root-is_bass c =
    let tested = ap (λ (b : Bool). leb c.args.root 11 && b) c.is_bass.ensures in
    refused_by _ _ _ (no_class _ _ _ (shown_told c.args.set _ c.shown.ensures _ c.in_ok-shown.was).0 (sym tested ∙ c.if-not-root-is_bass.true))

pub returns : goal.returns
returns c =
    let p = goal.at.returns c in
    let a = c.args in
    let shown = shown_told a.set _ c.shown.ensures _ c.in_ok-shown.was in
    let kind = subst (λ (q : ChordQuality). IsKind q c.of-kind.result) shown.1 c.of-kind.ensures in
    let small = rooted_small a.set shown.0 in
    let all = c.intervals.ensures ∙ ap (λ (x : ℕ). set_of (intervals_of x)) (mod-eq_of_lt (omega arith)) in
    let good = sym (ap (λ (b : Bool). leb a.root 11 && b) c.is_bass.ensures) ∙ c.if-not-root-is_bass.false in
    let last = leb→le a.root 11 (left (leb a.root 11) _ (said _ good)) in
    let class : a.root < 12 = omega arith in
    let over = is_true (is_bass a.bass) (right (leb a.root 11) _ (said _ good)) in
    let texts = row p.After-push_bytes-3 (bass p.Joined-bass over) (few a.set shown.0 c.of-kind.result c.intervals.result kind all) in
    let is = named (sym (whole a.set shown.0 c.of-kind.result c.intervals.result kind all a.root a.bass class)) texts in
    let short = harmony_short a.root a.bass a.set class over shown.0 in
    let made = is.where_room (omega (arith, short)) in
    subst (λ (x : Reply). Answered x a.out.now c.give.result c.give.new.out) (ap text made ∙ sym (element a.root a.bass a.set shown.0 good)) c.give.ensures

-- `pairs::checks::check_pairs` meets its contract: by the count of the pairs, then by each of them.
use Rattle.answer.proofs.Kit.{◌≡◌, sym, ap, subst, ◌∙◌, false, List, [], ◌∷◌, ◌⊎◌, ⊎_elim, ℕ, ◌+◌, ◌≤◌, ◌<◌, refl, length, lt-leb, le-leb, Result, None, ⊤}
use Rattle.std.proofs.lemmas.Slice.Zip.{either_empty_from_Zip}
use Rattle.answer.proofs.FirstRefused.{refused_from, here, onward, from_0, at_end}
use Rattle.answer.specs.declared.refusal.Refusal.{Refusal}
use Rattle.pool.specs.declared.pool.Tone.{Tone}
use Rattle.pool.specs.Pool.{tone_of, tones_of}
use Rattle.pairs.specs.Checks.{is_bad, bad_pair, first_checked, pairs_checked}
use Rattle.pairs.proofs.checks.check_pairs.Goals as goal
use Rattle.pairs.proofs.checks.check_pairs.Goals.{In-Some}

-- pairs that are few enough are refused as the first bad one is
few : (tones : List Tone) (n : ℕ) → n ≡ length tones → n ≤ 16 → pairs_checked tones ≡ first_checked tones
unfolding pairs_checked
few tones n e h = rw (le-leb _ _ (subst (λ (k : ℕ). k ≤ 16) e h))

abbrev refused : ℕ → List Tone → Result ⊤ Refusal
refused = refused_from is_bad bad_pair

pub returns-then-used-gt-MOST : goal.returns-then-used-gt-MOST
unfolding pairs_checked
returns-then-used-gt-MOST c = let many = subst (λ (n : ℕ). 16 < n) c.used.ensures c.if-used-gt-MOST.true in rw (lt-leb _ _ many)

pub loop-place-init : goal.loop-place-init
loop-place-init c =
    let classes : c.into_iter-place-iterator.result.iter.a.rest.now ≡ c.args.pairs.classes.now = cc in
    let intervals : c.into_iter-place-iterator.result.iter.b.rest.now ≡ c.args.pairs.intervals.now = cc in
    let start : c.into_iter-place-iterator.result.count ≡ 0 = cc in
    rw (classes, intervals, start) (from_0 is_bad bad_pair _)

-- what is left of the pairs begins with the one that is looked at
turn : (c : In-Some) → refused c.loop-place.place-iterator.count (tones_of c.loop-place.place-iterator.iter.a.rest.now c.loop-place.place-iterator.iter.b.rest.now)
    ≡ refused c.in-Some.place (tone_of c.in-Some.field-0-1-0.now c.in-Some.field-0-1-1.now ∷ tones_of c.next.new.self.iter.a.rest.now c.next.new.self.iter.b.rest.now)
unfolding tones_of
turn c =
    let s = c.in-Some.ensures.steps in
    rw (s.0.0, s.0.1, ← s.1) refl

pub returns-then-class-gt-LAST_NOTE : goal.returns-then-class-gt-LAST_NOTE
returns-then-class-gt-LAST_NOTE c =
    let above : 11 < c.in-Some.field-0-1-0.now = c.if-class-gt-LAST_NOTE.true in
    sym (here is_bad bad_pair _ _ _ (rw (lt-leb _ _ above)) ∙ rw (lt-leb _ _ above))
    ∙ sym (turn (goal.at.returns-then-class-gt-LAST_NOTE c).In-Some)
    ∙ c.loop-place.invariant ∙ sym (few _ _ c.used.ensures c.if-used-gt-MOST.false)

pub returns-then-interval-gt-LAST_INTERVAL : goal.returns-then-interval-gt-LAST_INTERVAL
returns-then-interval-gt-LAST_INTERVAL c =
    let class = le-leb _ _ c.if-class-gt-LAST_NOTE.false in
    let above : 22 < c.in-Some.field-0-1-1.now = c.if-interval-gt-LAST_INTERVAL.true in
    sym (here is_bad bad_pair _ _ _ (rw (class, lt-leb _ _ above)) ∙ rw class)
    ∙ sym (turn (goal.at.returns-then-interval-gt-LAST_INTERVAL c).In-Some)
    ∙ c.loop-place.invariant ∙ sym (few _ _ c.used.ensures c.if-used-gt-MOST.false)

pub loop-place-preserved : goal.loop-place-preserved
loop-place-preserved c =
    let s = c.in-Some.ensures.steps in
    let good : is_bad (tone_of c.in-Some.field-0-1-0.now c.in-Some.field-0-1-1.now) ≡ false = rw (le-leb _ _ c.if-class-gt-LAST_NOTE.false, le-leb _ _ c.if-interval-gt-LAST_INTERVAL.false) in
    let place : c.next.new.self.count ≡ c.in-Some.place + 1 = cc in
    rw place (sym (onward is_bad bad_pair _ _ _ good)) ∙ sym (turn (goal.at.loop-place-preserved c).In-Some) ∙ c.loop-place.invariant

-- at the end of a range no pair is left
none_left : (cs is : List ℕ) → (cs ≡ []) ⊎ (is ≡ []) → tones_of cs is ≡ []
unfolding tones_of
none_left [] is h = refl
none_left (c ∷ cs) [] h = refl
none_left (c ∷ cs) (i ∷ is) h = ⊎_elim (λ (e : c ∷ cs ≡ []). cc) (λ (e : i ∷ is ≡ []). cc) h

pub returns : goal.returns
returns c =
    let left = c.loop-place.place-iterator in
    let empty = either_empty_from_Zip left.iter c.next.new.self.iter None refl c.in-None.ensures.steps.0 in
    sym (at_end is_bad bad_pair left.count) ∙ sym (ap (refused left.count) (none_left _ _ empty)) ∙ c.loop-place.invariant ∙ sym (few _ _ c.used.ensures c.if-used-gt-MOST.false)

-- The room of spelled tones: on no root has a rooted set a line of more than 34 bytes, and one has as many.
--     weights          for each root a number that has at each interval's digit, to base 8, the length of the tone's name and its space: one test says so,
--                      and another, at each rooted set, that its digits' sum is at most 35
--     tones_room_lem   no call's answer has more than 34 bytes
--     tones_reached    one has 34
use Rattle.answer.specs.declared.refusal.Refusal.{Refusal}
use Rattle.answer.specs.declared.refusal.Refusal.TheVariants.{NotASet}
use Rattle.answer.proofs.Kit.{◌≡◌, refl, sym, subst, Bool, true, true≢false, false, cond, ◌&&◌, List, [], ◌∷◌, ℕ, zero, suc, ◌+◌, ◌/◌, ◌%◌, ◌^◌, ◌≤◌, arith, T, eqb, leb, eqb→eq, leb→le, length, length-append, Result, Ok, Err}
use Rattle.answer.specs.Words.{bytes}
use Rattle.answer.specs.Replies.{NotForRoom, AtMost}
use Rattle.answer.proofs.Tests.{left, right, all}
use Rattle.intervals.specs.Sets.{is_rooted, rooted_answer}
use Rattle.intervals.specs.Intervals.{nth, numbered, number_of}
use Rattle.intervals.specs.declared.interval.Interval.{Interval}
use Rattle.intervals.proofs.Rooted.{at_rooted}
use Rattle.intervals.proofs.Rows.{of_numbered, at_interval}
use Rattle.notes.specs.declared.note.Note.{Note}
use Rattle.names.specs.Names.{flats, flat, note_in}
use Rattle.names.proofs.Named.{none_in}
use Rattle.rules.specs.Classes.{intervals_of}
use Rattle.rules.proofs.Computed.{classes_computed}
use Rattle.spelling.specs.Tones.{spelled_by, tone_name, tone_names, spaced, joined, tones_of, tones_on, tones_reply}
use Rattle.spelling.proofs.Computed.{tones_computed}
use Rattle.spelling.proofs.Replied.{on_set, by_the_set}

abbrev weights : List ℕ
weights =
    179050535920125945498
    ∷ 261036632005489043171
    ∷ 179050539699697169562
    ∷ 178041764787851470491
    ∷ 243616114290033767634
    ∷ 178041729603594725018
    ∷ 261036632005489047779
    ∷ 179050539699697165978
    ∷ 178026283664132384483
    ∷ 243614143965196792986
    ∷ 178041764787966813851
    ∷ 243616114290048447698
    ∷ []

abbrev weight : ℕ → Interval → ℕ
weight w i = w / 8 ^ number_of i % 8

unfoldable sum : ℕ → List Interval → ℕ
sum w [] = 0
sum w (i ∷ more) = weight w i + sum w more

-- a root's number is right
abbrev right_at : Note → ℕ → Interval → Bool
right_at root w i = eqb (weight w i) (suc (length (tone_name spelled_by root i)))

abbrev right_for : Note → ℕ → Bool
right_for root w = all (λ n. of_numbered (right_at root w) (numbered n)) 23

row_weighs : (root : Note) (w : ℕ) → T (right_for root w) → (found : List Interval) → length (spaced (tone_names spelled_by root found)) ≡ sum w found
unfolding spaced sum bytes
row_weighs root w t [] = refl
row_weighs root w t (i ∷ more) =
    let here = eqb→eq (weight w i) (suc (length (tone_name spelled_by root i))) (at_interval (right_at root w) t i) in
    let cut = length-append (tone_name spelled_by root i) (spaced (tone_names spelled_by root more)) in
    omega (arith, here, cut, row_weighs root w t more)

-- of all roots
unfoldable are_right : List Note → List ℕ → Bool
are_right [] [] = true
are_right [] (w ∷ ws) = false
are_right (n ∷ more) [] = false
are_right (n ∷ more) (w ∷ ws) = right_for n w && are_right more ws

unfoldable are_light : List ℕ → List Interval → Bool
are_light [] found = true
are_light (w ∷ ws) found = leb (sum w found) 35 && are_light ws found

light : (table : List Note) (ws : List ℕ) → T (are_right table ws) → (found : List Interval) → T (are_light ws found)
    → (class : ℕ) (root : Note) → note_in table class ≡ Ok root → length (spaced (tone_names spelled_by root found)) ≤ 35
unfolding are_right are_light
light [] [] t found l class root e = absurd (true≢false cc)
light [] (w ∷ ws) t found l class root e = absurd t
light (n ∷ more) [] t found l class root e = absurd t
light (n ∷ more) (w ∷ ws) t found l zero root e =
    let same : n ≡ root = cc in
    rw (sym same, row_weighs n w (left (right_for n w) _ t) found) (leb→le (sum w found) 35 (left (leb (sum w found) 35) _ l))
light (n ∷ more) (w ∷ ws) t found l (suc class) root e = light more ws (right (right_for n w) _ t) found (right (leb (sum w found) 35) _ l) class root e

flats_right : T (are_right flats weights)
unfolding tones_computed are_right nth numbered
flats_right = tt

all_light : (s : ℕ) → is_rooted s ≡ true → T (are_light weights (intervals_of s))
unfolding classes_computed are_light sum
all_light = at_rooted (λ s. let i = intervals_of s in are_light weights i) tt

-- without the first space
joined_length : (l : List (List ℕ)) → length (spaced l) ≤ 35 → length (joined l) ≤ 34
unfolding spaced joined bytes
joined_length [] h = omega arith
joined_length (t ∷ more) h = omega arith

-- on what a table gave for the root class
on_root : (root s : ℕ) → is_rooted s ≡ true → (a : Result Note Refusal) → note_in flats root ≡ a → AtMost 34 (tones_on spelled_by a s)
unfolding tones_of tones_on
on_root root s is (Ok n) e = joined_length (tone_names spelled_by n (intervals_of s)) (light flats weights flats_right (intervals_of s) (all_light s is) root n e)
on_root root s is (Err why) e = subst NotForRoom (none_in flats root why e) tt

pub tones_room_lem : (root s : ℕ) → AtMost 34 (tones_reply spelled_by root s)
unfolding rooted_answer
tones_room_lem root s = rw (by_the_set spelled_by root s) (by_test (is_rooted s) refl)
  where
    by_test : (b : Bool) → is_rooted s ≡ b → AtMost 34 (on_set spelled_by root (cond b (Ok s) (Err NotASet)))
    by_test true is = on_root root s is (note_in flats root) refl
    by_test false is = tt

pub tones_reached : length (tones_of spelled_by (flat 4) 4095) ≡ 34
unfolding tones_computed
tones_reached = refl

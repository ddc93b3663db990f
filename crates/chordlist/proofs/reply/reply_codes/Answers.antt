-- `chordlist::reply::reply_codes` meets its contract: there is room for all candidates and the stop, so that none but a code above 127 is refused.
use Rattle.answer.specs.declared.refusal.Refusal.{Refusal}
use Rattle.answer.proofs.Kit.{◌≡◌, refl, sym, subst, ap, ◌∙◌, List, [], ◌∷◌, ◌++◌, ℕ, ◌+◌, ◌≤◌, arith, length, length-append, take, take_at, take_all, drop, Result, Ok, Err}
use Rattle.answer.specs.Words.{bytes}
use Rattle.answer.specs.Replies.{Reply, refuse, text, output_of, room_after, Answered, AtMost}
use Rattle.answer.proofs.Rooms.{written}
use Rattle.names.specs.Names.{flats}
use Rattle.names.proofs.Named.{flats_brief}
use Rattle.strict.specs.Strict.{strict_reply}
use Rattle.strict.proofs.FirstAbove.{strict_room}
use Rattle.chordlist.specs.Replies.{bad_text, reply_text, codes_text}
use Rattle.chordlist.proofs.reply.reply_codes.Goals as goal
use Rattle.chordlist.proofs.reply.reply_codes.Goals.{In-Ok}

-- a text stands in front, as the reply says
pub record Stands (reply : Reply) (n : ℕ) (left : List ℕ) : Type 0 where
  pub listed : List ℕ
  pub is : reply ≡ text listed
  pub most : length listed ≤ 840
  pub count : n ≡ length listed
  pub front : take n left ≡ listed

-- what a call came to that had room for any text
abbrev Came : Reply → Result ℕ Refusal → List ℕ → Type 0
Came reply (Ok n) left = Stands reply n left
Came reply (Err why) left = reply_text reply ≡ bad_text

came : (reply : Reply) (room left : List ℕ) (r : Result ℕ Refusal) → AtMost 840 reply → 842 ≤ length room → Answered reply room r left → Came reply r left
unfolding output_of room_after reply_text
came (refuse why) room left r most h a = subst (λ (x : Result ℕ Refusal). Came (refuse why) x left) (sym a.0) refl
came (text t) room left r most h a =
    let w = written t room (omega arith) in
    let stands : left ≡ t ++ drop (length t) room = a.1 ∙ sym w.1 in
    subst (λ (x : Result ℕ Refusal). Came (text t) x left) (w.0 ∙ sym a.0)
    (record { listed = t; is = refl; most = most; count = refl; front = ap (take (length t)) stands ∙ take_at t (drop (length t) room) (length t) refl })

-- the stop, behind what stands
stopped : (reply : Reply) (n : ℕ) (left : List ℕ) → Stands reply n left → take 842 (take 842 (take n left ++ (46 ∷ [])) ++ (10 ∷ [])) ≡ reply_text reply
unfolding reply_text bytes
stopped reply n left s =
    let stop = s.listed ++ (46 ∷ []) in
    let long : length stop ≡ length s.listed + 1 = length-append s.listed (46 ∷ []) in
    rw (s.front, s.is)
    (ap (λ (t : List ℕ). take 842 (t ++ (10 ∷ []))) (take_all 842 stop (omega (arith, s.most, long)))
    ∙ take_all 842 (stop ++ (10 ∷ [])) (omega (arith, s.most, long, length-append stop (10 ∷ []))))

module _ (c : In-Ok) where
  listing : Stands (strict_reply flats c.args.codes.now) c.in-Ok.count c.candidates_strict.new.out
  listing =
      came (strict_reply flats c.args.codes.now) c.answer.inside.array c.candidates_strict.new.out (Ok c.in-Ok.count) (strict_room _ flats flats_brief)
      (omega (arith, c.answer.told)) c.in-Ok.ensures

pub invariant_of-answer : goal.invariant_of-answer
invariant_of-answer c = let l = listing (goal.at.invariant_of-answer c).In-Ok in omega (arith, l.count, l.most)

pub returns-in-Ok : goal.returns-in-Ok
unfolding codes_text
returns-in-Ok c =
    c.push-in-Ok.ensures ∙ ap (λ (t : List ℕ). take 842 (t ++ (10 ∷ []))) c.push.ensures
    ∙ stopped (strict_reply flats c.args.codes.now) _ _ (listing (goal.at.returns-in-Ok c).In-Ok)

pub returns-in-Err : goal.returns-in-Err
unfolding codes_text
returns-in-Err c =
    c.reply_bad.ensures
    ∙ sym (came (strict_reply flats c.args.codes.now) c.answer.inside.array c.candidates_strict.new.out (Err c.in-Err.field-0) (strict_room _ flats flats_brief) (omega (arith, c.answer.told)) c.in-Err.ensures)

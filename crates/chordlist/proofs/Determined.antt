-- Determinacy of what `main` calls (`Rattle.answer.proofs.Determined` has the law): each contract allows one answer to each
-- call, and one content of what it is lent.
--     reply_decides, finish_decides     what is printed
--     take_in_decides    what is kept of the line, and what is printed
--     feed_decides       what is kept of the line, where every write went well
use denote.RattleType.{RattleType}
use denote.Param.Laws.{Laws}
use mir.Syntax.{Dict}
use Rattle.std.proofs.Common.{Result, Ok}
use Rattle.std.specs.declared.io.traits.Write.{Ghosts as Write}
use Rattle.answer.proofs.Kit.{◌≡◌, refl, List, ℕ}
use Rattle.answer.proofs.Determined.{DecidesWith, determined}
use Rattle.chordlist.proofs.input.take_in.Reads as take_in
use Rattle.chordlist.proofs.input.finish.Reads as finish
use Rattle.chordlist.proofs.reply.reply.Reads as reply
use Rattle.chordlist.proofs.feed.Reads as feed

pub reply_decides : DecidesWith reply.Post (λ κs s. s.1.0.now)
reply_decides κs a r r' s s' p q = (refl, determined p q)

pub finish_decides : DecidesWith finish.Post (λ κs s. s.1.0.now)
finish_decides κs a r r' s s' p q = (refl, determined p q)

pub take_in_decides : DecidesWith take_in.Post (λ κs s. s.1.0.now) × DecidesWith take_in.Post (λ κs s. s.1.1.0.now)
take_in_decides = (λ κs a r r' s s' p q. (refl, determined p.0 q.0), λ κs a r r' s s' p q. (refl, determined p.1 q.1))

-- where every write went well, what is kept of the line
abbrev DecidesPart {ℓ} : {K : Type ℓ} {T E : Type 0} {A S : K → Type 0} → ((κs : K) → A κs → Result T E → S κs → Type 0) → ((κs : K) → S κs → List ℕ) → Type ℓ
DecidesPart {K} {T} {E} {A} {S} Post part =
    (κs : K) (a : A κs) (n n' : T) (s s' : S κs) → Post κs a (Ok n) s → Post κs a (Ok n') s' → part κs s ≡ part κs s'

pub feed_decides : (W : RattleType) (laws : Laws W) (write : Write W.Denot) (dict : Dict) → DecidesPart (feed.Post W laws write dict) (λ κs s. s.1.0.now)
feed_decides W laws write dict κs a n n' s s' p q = determined p.0 q.0

-- Laws of texts that are added to an element.
--     nothing, then     nothing, and one text behind another
--     made              a text that was pushed
--     named             what was added, by another name
use Rattle.answer.proofs.Kit.{◌≡◌, refl, sym, le-leb, ap, ◌∙◌, List, [], ◌++◌, append-nil, append_assoc, ℕ, ◌+◌, ◌≤◌, arith, length, length-append}
use Rattle.musicxml.specs.declared.element.TheConstants.{ROOM}
use Rattle.answer.specs.Made.{IsWithBytes}
use Rattle.musicxml.specs.private.Texts.{Adds}

pub nothing : (t : List ℕ) → Adds t [] t
nothing t = record { where_room = λ _. sym (append-nil t) }

pub then : {t t' t'' u v : List ℕ} → Adds t u t' → Adds t' v t'' → Adds t (u ++ v) t''
then {t} {t'} {t''} {u} {v} first second = record { where_room = both }
  where
    both : length t + length (u ++ v) ≤ ROOM → t'' ≡ t ++ (u ++ v)
    both room =
        let whole = length-append u v in
        let one : t' ≡ t ++ u = first.where_room (omega (arith, whole, room)) in
        let long : length t' ≡ length t + length u = ap length one ∙ length-append t u in
        second.where_room (omega (arith, whole, long, room)) ∙ rw one (append_assoc t u v)

-- what `Text::push_bytes` ensures
pub made : {t u t' : List ℕ} → IsWithBytes ROOM t u t' → Adds t u t'
made {t} {u} {t'} e = record { where_room = λ room. e.is ∙ rw (le-leb _ _ room) refl }

pub named : {t t' u v : List ℕ} → u ≡ v → Adds t u t' → Adds t v t'
named e added = rw e at added

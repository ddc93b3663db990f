-- `inference::normalize::push_parentheses` meets its contract: four lists of parts in a row, and what closes them.
use Rattle.answer.proofs.Kit.{◌≡◌, ap, ap₂, subst, ◌∙◌, Bool, List, [], ◌++◌, append_assoc, ℕ, eqb, not, ◌||◌, bit_and, bit_xor}
use Rattle.answer.specs.Words.{bytes}
use Rattle.rules.specs.Classes.{intervals_in}
use Rattle.rules.specs.Suffix.{worded}
use Rattle.descriptors.specs.declared.descriptor.Descriptor.{Descriptor}
use Rattle.inference.specs.declared.wording.Prefix.{Prefix}
use Rattle.inference.specs.private.Prefixes.{prefix_text, add_where}
use Rattle.inference.specs.private.Described.{parts_of}
use Rattle.inference.proofs.Listed.{Listing, no_parts, then_parts, bare, closed}
use Rattle.inference.proofs.normalize.push_parentheses.Given.{Over}
use Rattle.inference.proofs.normalize.push_parentheses.Goals as goal
use Rattle.inference.proofs.normalize.push_parentheses.Goals.{After-push_parts-no_parts}

-- the four lists, in a row
listed_of : Prefix → Prefix → Descriptor → List (List ℕ)
listed_of first then d =
    worded [] (intervals_in d.alterations) ++ worded (prefix_text first) (intervals_in (bit_xor d.adds d.nine))
    ++ worded (prefix_text then) (intervals_in d.third) ++ worded (bytes "omit") (intervals_in d.omits)

four_lists : (g : Over) (c : After-push_parts-no_parts g) → listed_of c.add_where-first.result c.add_where-then.result c.args.descriptor ≡ parts_of c.args.descriptor
unfolding listed_of
four_lists g c =
    let d = c.args.descriptor in
    ap₂ (λ (first then : Prefix). listed_of first then d) c.add_where-first.ensures c.add_where-then.ensures
    ∙ ap (λ (x : List (List ℕ)). x ++ worded (bytes "omit") (intervals_in d.omits)) (append_assoc (worded [] (intervals_in d.alterations)) (worded (prefix_text (add_where (eqb d.nine 0 || not (eqb (bit_and d.adds 16384) 0)))) (intervals_in (bit_xor d.adds d.nine))) (worded (prefix_text (add_where (eqb d.adds 0))) (intervals_in d.third)))

written : (g : Over) (c : After-push_parts-no_parts g) → Listing g.row.N c.args.text.now (parts_of c.args.descriptor) c.push_parts-no_parts.result c.push_parts-no_parts.new.text
unfolding listed_of
written g c =
    let row = then_parts (then_parts (then_parts (then_parts (no_parts g.row.N c.args.text.now) _ _ _ _ (c.push_parts-no_alterations.ensures.next, c.push_parts-no_alterations.ensures.adds))
    _ _ _ _ (c.push_parts-no_adds.ensures.next, c.push_parts-no_adds.ensures.adds))
    _ _ _ _ (c.push_parts-no_third.ensures.next, c.push_parts-no_third.ensures.adds))
    _ _ _ _ (c.push_parts-no_parts.ensures.next, c.push_parts-no_parts.ensures.adds) in
    subst (λ (x : List (List ℕ)). Listing g.row.N c.args.text.now x c.push_parts-no_parts.result c.push_parts-no_parts.new.text) (four_lists g c) row

pub returns-then-not-no_parts : goal.returns-then-not-no_parts
returns-then-not-no_parts g c =
    let row = written g (goal.at.returns-then-not-no_parts g c).After-push_parts-no_parts in
    closed (subst (λ (no : Bool). Listing g.row.N c.args.text.now (parts_of c.args.descriptor) no c.push_parts-no_parts.new.text) c.if-not-no_parts.true row) _ c.push.ensures

pub returns-else-not-no_parts : goal.returns-else-not-no_parts
returns-else-not-no_parts g c =
    let row = written g (goal.at.returns-else-not-no_parts g c).After-push_parts-no_parts in
    bare (subst (λ (no : Bool). Listing g.row.N c.args.text.now (parts_of c.args.descriptor) no c.push_parts-no_parts.new.text) c.if-not-no_parts.false row)

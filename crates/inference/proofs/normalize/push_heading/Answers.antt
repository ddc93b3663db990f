-- `inference::normalize::push_heading` meets its contract: four texts in a row.
use Rattle.answer.proofs.Kit.{ap, ◌∙◌, cond, not, [], ◌++◌, eqb, eq-eqb, ne_eqb}
use Rattle.answer.specs.Words.{bytes}
use Rattle.rules.specs.Heading.{wording, modified}
use Rattle.descriptors.specs.declared.kinds.Kind.{Kind}
use Rattle.inference.specs.private.Adds.{Adds}
use Rattle.inference.proofs.Added.{no_more, word_added, then_adds}
use Rattle.inference.proofs.Texts.{wording_short, nine_word, modifier_word_lem, sus_word}
use Rattle.inference.proofs.normalize.push_heading.Given.{Over}
use Rattle.inference.proofs.normalize.push_heading.Goals as goal
use Rattle.inference.proofs.normalize.push_heading.Goals.{After-push-2, then-descriptor-ne0, else-descriptor-ne0}

nine_added : (g : Over) (c : After-push-2 g) → Adds g.row.N c.push.new.self (cond (not (eqb c.args.descriptor.nine 0)) (bytes "9") []) c.if-descriptor-ne0.text
nine_added g c = elim c.if-descriptor-ne0.branch [
  | then-descriptor-ne0 w ↦ rw (w.text-is, ne_eqb c.args.descriptor.nine 0 w.if-descriptor-ne0.true) (word_added _ _ _ _ _ nine_word w.push-then-descriptor-ne0.ensures)
  | else-descriptor-ne0 w ↦ rw (w.text-is, eq-eqb c.args.descriptor.nine 0 w.if-descriptor-ne0.false) (no_more _ _)
]

-- up to the modifier
modified_added : (g : Over) (c : After-push-2 g) →
    let d = c.args.descriptor in
    Adds g.row.N c.args.text.now (wording d.quality ++ cond (not (eqb d.nine 0)) (bytes "9") [] ++ modified d.quality d.modifier) c.push-2.new.self
modified_added g c =
    let d = c.args.descriptor in
    let row = c.kind_of-kind.ensures in
    let is-modifier = modifier_word_lem d.quality _ d.modifier (ap (λ (k : Kind). k.1) row) in
    then_adds _ _ _ _ _ _
    (then_adds _ _ _ _ _ _ (word_added _ _ _ _ _ record { short = wording_short d.quality; is = ap (λ (k : Kind). k.0) row } c.push.ensures) (nine_added g c))
    (word_added _ _ _ _ _ record { short = is-modifier.short; is = c.modifier_word.ensures ∙ is-modifier.is } c.push-2.ensures)

pub returns-then-descriptor : goal.returns-then-descriptor
returns-then-descriptor g c =
    rw c.if-descriptor.true
    (then_adds _ _ _ _ _ _ (modified_added g (goal.at.returns-then-descriptor g c).After-push-2) (word_added _ _ _ _ _ sus_word c.push-then-descriptor.ensures))

pub returns-else-descriptor : goal.returns-else-descriptor
returns-else-descriptor g c =
    rw c.if-descriptor.false
    (then_adds _ _ _ _ _ _ (modified_added g (goal.at.returns-else-descriptor g c).After-push-2) (no_more _ _))

-- `descriptors::descriptor::describe` meets its contract: at a rooted set each step is what the rules say.
use Rattle.answer.proofs.Kit.{◌≡◌, sym, ap, ◌∙◌, true, ℕ, mod-eq_of_lt, arith, rules, Ok, Err}
use Rattle.intervals.specs.Sets.{is_rooted}
use Rattle.intervals.specs.Intervals.{set_of}
use Rattle.intervals.proofs.Rooted.{rooted_small, rooted_ok, rooted_err}
use Rattle.rules.specs.Classes.{intervals_of}
use Rattle.rules.specs.Parts.{suffix_quality}
use Rattle.descriptors.proofs.Described.{described}
use Rattle.descriptors.proofs.Replied.{not_rooted, rooted}
use Rattle.descriptors.proofs.descriptor.describe.Goals as goal
use Rattle.descriptors.proofs.descriptor.describe.Goals.{After-intervals-found}

-- what is described is the set that was given
module _ (c : After-intervals-found) where
  abbrev set : ℕ
  set = c.args.set

  given : (is_rooted set ≡ true) × (c.in_ok-new.field-0 ≡ set)
  given = rooted_ok set _ (sym c.new.ensures ∙ c.in_ok-new.was)

  intervals_told : c.intervals-found.result ≡ set_of (intervals_of set)
  intervals_told =
      let small = rooted_small set given.0 in
      c.intervals-found.ensures ∙ ap (λ (s : ℕ). set_of (intervals_of s)) (mod-eq_of_lt (omega arith))

  quality_told : c.shown_quality-quality.result ≡ suffix_quality set
  quality_told = c.shown_quality-quality.ensures ∙ ap suffix_quality given.1

pub returns-in_err-new : goal.returns-in_err-new
returns-in_err-new c =
    let e : c.from_residual.result ≡ Err (c.in_err-new.field-0.0) = search rules in
    let no = rooted_err c.args.set _ (sym c.new.ensures ∙ c.in_err-new.was) in
    e ∙ ap Err no.1 ∙ not_rooted c.args.set no.0

pub returns : goal.returns
returns c =
    let b = (goal.at.returns c).After-intervals-found in
    ap Ok
    (described (set b) (given b).0 _ _ _ _ _ _ _ _ _ _ _ (intervals_told b) (quality_told b)
    c.alteration_mask.ensures c.extension_mask.ensures c.within-extensions.ensures c.split_extensions-split.ensures
    c.last_add.ensures c.omitted_third.ensures c.omitted_fifth.ensures)
    ∙ rooted (set b) (given b).0

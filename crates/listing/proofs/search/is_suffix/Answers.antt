-- `listing::search::is_suffix` meets its contract: the suffix of a rooted set is made in a text of its own, and compared.
use Rattle.answer.proofs.Kit.{◌≡◌, ap, ◌∙◌, [], List, ℕ, arith}
use Rattle.answer.specs.Words.{same}
use Rattle.rules.specs.Suffix.{suffix_of}
use Rattle.inference.specs.Puts.{with_suffix}
use Rattle.inference.proofs.Puts.{with_set}
use Rattle.listing.proofs.Compared.{compared}
use Rattle.listing.proofs.search.is_suffix.Goals as goal
use Rattle.listing.proofs.search.is_suffix.Goals.{After-as_slice}

made : (c : After-as_slice) → c.as_slice.result.now ≡ suffix_of c.args.set
made c =
    c.as_slice.ensures.bytes ∙ c.push_suffix.ensures ∙ ap (λ (t : List ℕ). with_suffix 72 t c.args.set) c.new-suffix.ensures
    ∙ with_set c.args.set 72 [] c.requires (omega arith)

pub returns : goal.returns
returns c = c.eq.ensures ∙ compared c.args.name.now c.as_slice.result.now ∙ ap (same c.args.name.now) (made (goal.at.returns c).After-as_slice)

-- `listing::search::listing` meets its contract: what was found is given, and where the text is too long, nothing.
use Rattle.answer.proofs.Kit.{List, [], ℕ, subst, arith}
use Rattle.answer.specs.Replies.{text, Answered}
use Rattle.answer.proofs.Rooms.{written}
use Rattle.listing.proofs.Laws.{long_listing}
use Rattle.listing.proofs.search.listing.Goals as goal

pub returns-then-name-gt-LONGEST : goal.returns-then-name-gt-LONGEST
returns-then-name-gt-LONGEST c = rw (long_listing c.args.name.now (omega arith)) (written [] c.args.out.now (omega arith))

pub returns : goal.returns
returns c = subst (λ (l : List ℕ). Answered (text l) c.args.out.now c.give.result c.give.new.out) c.search.ensures c.give.ensures

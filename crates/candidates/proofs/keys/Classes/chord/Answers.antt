-- `candidates::keys::Classes::chord` meets its contract: the set that is stored is the set of the classes.
use Rattle.answer.proofs.Kit.{◌≡◌, ap, ◌∙◌, ℕ}
use Rattle.intervals.specs.Sets.{is_in}
use Rattle.intervals.proofs.Wheres.{where_less}
use Rattle.candidates.specs.Keys.{seen_from}
use Rattle.candidates.specs.Candidates.{chord}
use Rattle.candidates.specs.private.Classes.{set_of}
use Rattle.candidates.proofs.Turned.{seen_rooted}
use Rattle.candidates.proofs.keys.Classes.chord.Goals as goal
use Rattle.candidates.proofs.keys.Classes.chord.Goals.{After-self}

is_set : (c : After-self) → c.self.inside.set ≡ set_of c.args.self.now
is_set c = c.self.invariant.is_set ∙ ap set_of c.self.view_is

pub seen_from-requires-clause-classes : goal.seen_from-requires-clause-classes
unfolding set_of
seen_from-requires-clause-classes c = rw (is_set (goal.at.seen_from-requires-clause-classes c).After-self) (where_less (λ k. is_in k c.args.self.now))

pub returns : goal.returns
unfolding chord
returns c =
    let is = is_set (goal.at.returns c).After-self in
    let seen = c.seen_from.ensures ∙ ap (seen_from c.args.root) is in
    record {
      chord = ap (λ (set : ℕ). record { root = c.args.root; bass = c.args.bass; set = set }) seen;
      rooted = rw seen (seen_rooted c.args.root (set_of c.args.self.now) c.requires.1 c.requires.0);
    }

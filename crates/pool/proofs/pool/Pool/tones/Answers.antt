-- `pool::pool::Pool::tones` meets its contract: it shows the places that the view has.
use Rattle.answer.proofs.Kit.{ap}
use Rattle.pool.specs.Held.{Held}
use Rattle.pool.proofs.pool.Pool.tones.Goals as goal

pub returns-clause-tones : goal.returns-clause-tones
returns-clause-tones c = ap (λ (pool : Held). pool.tones) c.self.view_is

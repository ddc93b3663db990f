-- `signatures::line::Listings::of` meets its contract.
use Rattle.answer.proofs.Kit.{refl}
use Rattle.signatures.proofs.line.Listings.of.Goals as goal

pub returns-in-Flats : goal.returns-in-Flats
returns-in-Flats c = rw c.in-Flats.is refl

pub returns-in-Sharps : goal.returns-in-Sharps
returns-in-Sharps c = rw c.in-Sharps.is refl

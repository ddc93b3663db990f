-- Laws of what is printed.
--     with_error     what holds, holds with an error too
use Rattle.std.specs.Result.{OnErr}
use Rattle.std.proofs.Common.{Result, Ok, Err}

-- whatever came back
pub with_error : {T E P : Type 0} (r : Result T E) → P → OnErr r P
with_error (Ok v) p = tt
with_error (Err e) p = p

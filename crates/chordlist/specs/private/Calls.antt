-- What the private contracts say of a call: what was read off a part of a line.
use Rattle.std.specs.Prelude.{List, ℕ, Option, Some, None, cond}
use Rattle.chordlist.specs.Codes.{is_code, decimal}

-- the code of a part, where it is one
unfoldable pub code_in : List ℕ → Option ℕ
code_in part = cond (is_code part) (Some (decimal 0 part)) None

-- What the code computes of a rooted set, step by step, on numbers with a bit for each interval or degree. Contracts of private functions cite
-- it; proofs/Tested.antt has the one test by which each step is what the rules say.
use Rattle.intervals.specs.declared.interval.Interval.{Interval}
use Rattle.std.specs.Prelude.{Bool, cond, ℕ, ◌-◌, ◌*◌, ◌/◌, ◌%◌, eqb, leb, Option, Some, None}
use Rattle.std.specs.Int.Bits.{bit_and, bit_or}
use Rattle.answer.proofs.Chosen.{test}
use Rattle.intervals.specs.declared.interval.Interval.TheVariants.{Ninth, Eleventh, Thirteenth}

-- the set with class 4 put in where it has neither class 3 nor class 4
abbrev pub with_third_from : ℕ → ℕ
with_third_from s = test (bit_and s 24) 0 (bit_or s 16) s

-- sus: of classes 3 and 5 only the second
abbrev pub sus_from : ℕ → Bool
sus_from s = eqb (bit_and s 40) 32

-- the intervals within a mask, a major sixth as 13
abbrev pub extensions_from : ℕ → ℕ → ℕ
extensions_from i mask = let found = bit_and i mask in bit_or (bit_and found 4294965247) (found / 2048 % 2 * 4194304)

-- the extensions up to whose degree a member of a stack is missing
abbrev pub unstacked_from : ℕ → ℕ → ℕ → ℕ
unstacked_from named own stack =
    let degrees = bit_or (bit_or (bit_or (bit_or own (named / 16384 % 2 * 128)) (bit_or (bit_or (named / 65536) (named / 131072)) (named / 262144) % 2 * 512))
    (bit_or (named / 524288) (named / 1048576) % 2 * 2048)) (bit_or (named / 2097152) (named / 4194304) % 2 * 8192) in
    let missing = bit_and stack (4294967295 - degrees) in
    let nine = bit_or (missing / 128) (missing / 512) in
    let eleven = bit_or nine (missing / 2048) in
    let thirteen = bit_or eleven (missing / 8192) in
    bit_or (bit_or (nine % 2 * 131072) (eleven % 2 * 524288)) (thirteen % 2 * 4194304)

-- the last extension that is stacked
abbrev pub modifier_from : Bool → ℕ → ℕ → Option Interval
modifier_from dim extensions unstacked =
    let stacked = bit_and extensions (4294967295 - bit_or unstacked 16384) in
    cond dim None
    (cond (leb 4194304 stacked) (Some Thirteenth) (cond (leb 524288 stacked) (Some Eleventh) (cond (leb 131072 stacked) (Some Ninth) None)))

-- the adds
abbrev pub adds_from : Bool → ℕ → ℕ → ℕ → ℕ
adds_from dim extensions unstacked own = cond dim extensions (bit_and extensions (bit_or (bit_and unstacked (4294967295 - own / 512 % 2 * 4194304)) 16384))

-- the 9 behind the `6`
abbrev pub nine_from : Bool → ℕ → ℕ
nine_from six adds = cond six (bit_and adds 131072) 0

-- the major third under sus
abbrev pub last_from : Bool → ℕ → ℕ
last_from sus i = cond sus (bit_and i 16) 0

-- the third that is omitted: of classes 3, 4 and 5 none
abbrev pub omitted_third_from : ℕ → ℕ
omitted_third_from s = test (bit_and s 56) 0 16 0

-- the fifth that is omitted: neither a fifth nor a b13
abbrev pub omitted_fifth_from : ℕ → ℕ
omitted_fifth_from i = test (bit_and i 2098048) 0 256 0

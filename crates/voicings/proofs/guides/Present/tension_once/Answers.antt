-- `voicings::guides::Present::tension_once` meets its contract: by what the pool holds, and whether it is small or very small.
use Rattle.answer.proofs.Kit.{◌≡◌, refl, Bool, true, false, not, cond, ◌&&◌, [], ◌∷◌, ◌++◌, ◌+◌, ◌*◌, ltb}
use mir.Val.{bool_byte}
use Rattle.intervals.specs.Intervals.{set_of}
use Rattle.intervals.specs.declared.interval.Interval.TheVariants.{Unison, DiminishedFifth, PerfectFifth, MajorSixth, MajorSeventh}
use Rattle.voicings.proofs.guides.Present.tension_once.Goals as goal

-- the sum of the code, by the four tests that it makes
sum : (small very sixth seventh : Bool)
    → bool_byte small * 384 + bool_byte very * 1 + bool_byte (sixth && seventh) * 2048 + bool_byte (sixth && not seventh) * 16384
    ≡ set_of
    (cond small (PerfectFifth ∷ DiminishedFifth ∷ []) []
    ++ cond very (Unison ∷ []) []
    ++ cond sixth (cond seventh (MajorSixth ∷ []) (MajorSeventh ∷ [])) [])
unfolding set_of
sum true true true true = refl
sum true true true false = refl
sum true true false b = refl
sum true false true true = refl
sum true false true false = refl
sum true false false b = refl
sum false true true true = refl
sum false true true false = refl
sum false true false b = refl
sum false false true true = refl
sum false false true false = refl
sum false false false b = refl

pub returns : goal.returns
returns c =
    rw (c.from.ensures, c.from-root.ensures, c.from-clear_of_minor.ensures, c.from-clear_of_sixth.ensures)
    (sum (ltb c.args.count 6) (ltb c.args.count 3) c.args.self.sixth c.args.self.seventh)

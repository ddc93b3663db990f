-- What a caller has of a lead and the pool that it leaves.
--     fewer       the pool has no more tones once the lead has left
use Rattle.answer.proofs.Kit.{Bool, true, false, cond, List, [], ◌∷◌, ℕ, suc, ◌≤◌, arith, length}
use Rattle.pool.specs.declared.pool.Tone.{Tone}
use Rattle.pool.specs.Pool.{any_tone}
use Rattle.leads.specs.Lead.{owns, without_last}

module _ (lowest limit : ℕ) where
  pub fewer : (key : ℕ) (l : List Tone) → length (without_last lowest limit key l) ≤ length l
  unfolding without_last
  fewer key [] = omega arith
  fewer key (t ∷ l) = by_owner (any_tone (owns lowest limit key) l) (owns lowest limit key t) (fewer key l)
    where
      by_owner : (behind own : Bool) → length (without_last lowest limit key l) ≤ length l → length (cond behind (t ∷ without_last lowest limit key l) (cond own l (t ∷ l))) ≤ suc (length l)
      by_owner true own less = omega arith
      by_owner false true less = omega arith
      by_owner false false less = omega arith

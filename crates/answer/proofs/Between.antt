-- A whole number between two bounds, as code tests it: below the one, above the other, or inside.
use Rattle.answer.proofs.Kit.{◌≡◌, Bool, true, false, ◌&&◌, ℤ, le_z, le_z_yes, lt_z, lt_z_no, lt_z_yes, clash_ℤ}
use Rattle.answer.proofs.Tests.{left, right, both, is_true, is_false, said, denied}

module _ (low high z : ℤ) where
  abbrev between : Bool
  between = le_z low z && le_z z high

  pub not_below : lt_z z low ≡ true → between ≡ false
  not_below e = is_false _ (λ t. clash_ℤ (lt_z_yes {a = z} {b = low} (said _ e)) (le_z_yes (left (le_z low z) (le_z z high) t)))

  pub not_above : lt_z high z ≡ true → between ≡ false
  not_above e = is_false _ (λ t. clash_ℤ (lt_z_yes {a = high} {b = z} (said _ e)) (le_z_yes (right (le_z low z) (le_z z high) t)))

  pub inside : lt_z z low ≡ false → lt_z high z ≡ false → between ≡ true
  inside below above =
      is_true _ (both (le_z low z) (le_z z high) (lt_z_no {a = z} {b = low} (denied _ below)).le (lt_z_no {a = high} {b = z} (denied _ above)).le)

-- `host::numbers::refused` meets its contract: by whether the refusal tells a place.
use Rattle.answer.proofs.Kit.{◌≡◌, sym, ap, ap₂, ◌∙◌, ℕ, ◌+◌, ◌-◌, ◌*◌, ◌^◌, min, arith, rules, pos, ◌-ℤ◌, Option}
use mir.Syntax.{w64}
use mir.Facts.{to_z-of_z}
use Rattle.std.specs.Int.{saturate_signed}
use Rattle.host.specs.Numbers.{minus, size_of}
use Rattle.host.proofs.numbers.refused.Goals as goal
use Rattle.host.proofs.numbers.refused.Goals.{in-None, in-Some}

below_0 : (size : ℕ) → saturate_signed w64 (pos 0 -ℤ pos size) ≡ minus size
below_0 size = grind arith

past_the_lowest : (size : ℕ) → minus (min size (2 ^ 64 - 1)) ≡ minus size
past_the_lowest size = grind arith

pub returns : goal.returns
returns c =
    let told = λ (n : ℕ) (p : Option ℕ). minus (size_of n p) in
    let its_size : minus c.match-place.size ≡ told c.number.result c.place.result = elim c.match-place.branch [
      | in-None w ↦ ap minus (w.size-is ∙ c.from-number.ensures) ∙ ap (told c.number.result) (sym w.in-None.is)
      | in-Some w ↦
          ap minus (w.size-is ∙ w.saturating_add-size.ensures) ∙ past_the_lowest _
          ∙ ap (λ (n : ℕ). minus (256 * n + w.in-Some.place)) c.from-number.ensures ∙ ap (told c.number.result) (sym w.in-Some.is)
    ] in
    to_z-of_z {w = w64} (search rules) ∙ c.saturating_sub_unsigned.ensures ∙ below_0 c.match-place.size ∙ its_size ∙ ap₂ told c.number.ensures c.place.ensures

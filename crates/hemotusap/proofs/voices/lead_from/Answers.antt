-- `hemotusap::voices::lead_from` meets its contract: a lead that eight bits hold is one.
use Rattle.answer.proofs.Kit.{◌≡◌, ◌∙◌, ℕ, ◌<◌, rules, Result}
use Rattle.std.specs.Result.{OkIff, result_ok}
use Rattle.hemotusap.specs.Host.{lead_from}
use Rattle.hemotusap.proofs.voices.lead_from.Goals as goal

held : {E : Type 0} (lead : ℕ) (r : Result ℕ E) → OkIff r (lead < 256) lead → result_ok r ≡ lead_from lead
held lead r h = search rules

pub returns : goal.returns
returns c = c.ok.ensures.value ∙ held c.args.lead _ c.try_from.ensures

-- Determinacy of the crate's public contract (`Rattle.answer.proofs.Determined` has the law).
--     nearest_lead_decides      the contract of `nearest_lead` allows one answer to each call
use Rattle.answer.proofs.Determined.{Decides, determined}
use Rattle.leads.proofs.lead.nearest_lead.Reads as nearest_lead

pub nearest_lead_decides : Decides nearest_lead.Post
nearest_lead_decides κs a r r' s s' = determined

-- What is said of a refusal.
use Rattle.std.proofs.Common.{◌≡◌, sym, subst, inl, inr}
use Rattle.sf_refusal.specs.Refusals.{OrMemory, no_memory}
use Rattle.sf_refusal.specs.declared.refusal.Breach.{Breach}
use Rattle.sf_refusal.specs.declared.refusal.Refusal.{Refusal}
use Rattle.gezmulda_c.specs.Giving.{MaySay}

-- it is due, or memory was wanting
pub said_due : {explained : Breach → Type 0} {refusal r : Refusal} → OrMemory explained refusal → MaySay refusal r → OrMemory explained r
said_due {explained = explained} due (inl same) = subst (λ r. OrMemory explained r) (sym same) due
said_due {explained = explained} due (inr memory) = subst (λ r. OrMemory explained r) (sym memory) no_memory

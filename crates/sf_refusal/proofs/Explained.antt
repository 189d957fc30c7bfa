-- Refusals that are explained, or say that memory was wanting.
use Rattle.std.proofs.Common.{◌≡◌, sym, subst, Result, Ok, Err, IfErr, IsErrAnd}
use Rattle.sf_refusal.specs.declared.spot.Spot.{Spot}
use Rattle.sf_refusal.specs.declared.rule.Rule.{Rule}
use Rattle.sf_refusal.specs.declared.refusal.Breach.{Breach}
use Rattle.sf_refusal.specs.declared.refusal.Refusal.{Refusal}
use Rattle.sf_refusal.specs.declared.refusal.Refusal.TheVariants.{Broken, Memory}
use Rattle.sf_refusal.specs.Refusals.{breach_of, broken, OrMemory, because, no_memory}

-- what follows from an explained refusal
pub or_memory : {P Q : Breach → Type 0} {r : Refusal} → ((b : Breach) → P b → Q b) → OrMemory P r → OrMemory Q r
or_memory f (because {b = b} h) = because (f b h)
or_memory f no_memory = no_memory

-- the breach that is named is explained
pub explained : {P : Breach → Type 0} {b : Breach} → OrMemory P (Broken b) → P b
explained (because h) = h

-- a rule is broken at a place
pub breaks_at : {P : Breach → Type 0} {r : Refusal} (rule : Rule) {s t : Spot} → r ≡ broken rule s → s ≡ t → P (breach_of rule t) → OrMemory P r
breaks_at {P} rule is at h = subst (OrMemory P) (sym is) (because (subst (λ s. P (breach_of rule s)) (sym at) h))

-- memory was wanting
pub lacks_memory : {P : Breach → Type 0} {r : Refusal} → r ≡ Memory → OrMemory P r
lacks_memory {P} is = subst (OrMemory P) (sym is) no_memory

-- what a `?` returns
pub refused_on : {A : Type 0} {P : Breach → Type 0} (answer : Result A Refusal) (r : Refusal) → IsErrAnd answer (λ e. e ≡ r) → OrMemory P r → IfErr answer (λ e. OrMemory P e)
refused_on (Ok x) r is h = tt
refused_on {P = P} (Err e) r is h = subst (OrMemory P) (sym is) h

-- what a `?` returns where memory was wanting
pub memory_on : {A : Type 0} (P : Breach → Type 0) (answer : Result A Refusal) → IsErrAnd answer (λ e. e ≡ Memory) → IfErr answer (λ e. OrMemory P e)
memory_on P answer is = refused_on answer Memory is no_memory

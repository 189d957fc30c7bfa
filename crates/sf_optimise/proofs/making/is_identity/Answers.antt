use Rattle.std.proofs.Common.{sym}
use Rattle.sf_optimise.proofs.Forms.{built_as, identity_built, pipeline_no_identity}
use Rattle.sf_optimise.proofs.making.is_identity.Goals as goal

pub returns-in-Identity : goal.returns-in-Identity
returns-in-Identity c = identity_built c.in-Primitive-Bare.is (rw c.in-Primitive-Bare.is at c.in-Primitive-Bare.field-0-is) c.in-Identity.is c.node.ensures.builds

pub returns-in-Pipeline : goal.returns-in-Pipeline
returns-in-Pipeline c = sym (pipeline_no_identity (built_as c.in-Pipeline.is c.node.ensures.builds))

use Rattle.sf_law.specs.Entries.{IsCodedPrimitive}
use Rattle.sf_law.specs.Held.{HoldsPlanned}
use Rattle.sf_optimise.specs.Making.{no_chain}
use Rattle.sf_optimise.proofs.Forms.{ok_when, built_as, pipeline_no_arr, primitive_chain}
use Rattle.sf_optimise.proofs.making.chain_in.Goals as goal

pub returns-in-Primitive : goal.returns-in-Primitive
returns-in-Primitive c =
    let q = c.in-Primitive.primitive in
    ok_when {H = λ x. IsCodedPrimitive x q × HoldsPlanned x q} c.chain_of.result
    (λ o h. primitive_chain (built_as c.in-Primitive.is c.node.ensures.builds) (rw c.in-Primitive.is at c.node.ensures.beside) (λ x k m. h x (k, m))) (λ x k. c.chain_of.ensures x k.0 k.1)

pub returns-in-Pipeline : goal.returns-in-Pipeline
returns-in-Pipeline c = no_chain (pipeline_no_arr (built_as c.in-Pipeline.is c.node.ensures.builds))

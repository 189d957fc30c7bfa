use Rattle.sf_law.specs.Entries.{chain_over}
use Rattle.sf_prim.proofs.Linked.{fused_begins}
use Rattle.sf_prim.proofs.prim_state.PrimState.linked.Goals as goal

pub returns : goal.returns
returns g c = λ C φ.
    let x = g.N.Names.expressions c.args.names.now in
    fused_begins (chain_over x c.args.chain.now) c.in_ok-new.field-0 c.in_ok-links.links c.in_ok-new.ensures.ok (c.in_ok-links.ensures C φ)

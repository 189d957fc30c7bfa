use Rattle.sf_state.proofs.Copies.{node_freezes}
use Rattle.sf_state.proofs.state.freeze_node.Goals as goal

pub returns : goal.returns
returns c = λ μ P s h A.
    node_freezes μ c.args.wait c.args.names.now c.in_ok-around.around c.args.node c.in_ok-new.field-0.value (c.in_ok-around.ensures μ) c.in_ok-new.ensures.ok P s h A

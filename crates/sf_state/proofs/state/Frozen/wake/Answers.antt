use Rattle.sf_state.proofs.Copies.{kept_around}
use Rattle.sf_state.proofs.state.Frozen.wake.Goals as goal

pub returns-in-Primitive-clause-stands : goal.returns-in-Primitive-clause-stands
returns-in-Primitive-clause-stands c = λ μ P L A.
    let names = c.args.self.now.names in
    rw c.in-Primitive.is at (kept_around μ names c.in_ok-around.around c.in_ok-node.field-0 (c.in_ok-around.ensures μ) P L (c.in_ok-node.ensures μ names P L A))

pub returns-in-Mapped-clause-stands : goal.returns-in-Mapped-clause-stands
returns-in-Mapped-clause-stands c = λ μ P L A.
    let names = c.args.self.now.names in
    rw c.in-Mapped.is at (kept_around μ names c.in_ok-around.around c.in_ok-node.field-0 (c.in_ok-around.ensures μ) P L (c.in_ok-node.ensures μ names P L A))

pub returns-in-Primitives-clause-stands : goal.returns-in-Primitives-clause-stands
returns-in-Primitives-clause-stands c = λ μ P L A.
    let names = c.args.self.now.names in
    rw c.in-Primitives.is at (kept_around μ names c.in_ok-around.around c.in_ok-node.field-0 (c.in_ok-around.ensures μ) P L (c.in_ok-node.ensures μ names P L A))

pub returns-in-Live-clause-stands : goal.returns-in-Live-clause-stands
returns-in-Live-clause-stands c = λ μ P L A.
    let names = c.args.self.now.names in
    rw c.in-Live.is at (kept_around μ names c.in_ok-around.around c.in_ok-node.field-0 (c.in_ok-around.ensures μ) P L (c.in_ok-node.ensures μ names P L A))

pub returns-in-Switch-clause-stands : goal.returns-in-Switch-clause-stands
returns-in-Switch-clause-stands c = λ μ P L A.
    let names = c.args.self.now.names in
    rw c.in-Switch.is at (kept_around μ names c.in_ok-around.around c.in_ok-node.field-0 (c.in_ok-around.ensures μ) P L (c.in_ok-node.ensures μ names P L A))

pub returns-in-Continuation-clause-stands : goal.returns-in-Continuation-clause-stands
returns-in-Continuation-clause-stands c = λ μ P L A.
    let names = c.args.self.now.names in
    rw c.in-Continuation.is at (kept_around μ names c.in_ok-around.around c.in_ok-node.field-0 (c.in_ok-around.ensures μ) P L (c.in_ok-node.ensures μ names P L A))

pub returns-in-Gathering-clause-stands : goal.returns-in-Gathering-clause-stands
returns-in-Gathering-clause-stands c = λ μ P L A.
    let names = c.args.self.now.names in
    rw c.in-Gathering.is at (kept_around μ names c.in_ok-around.around c.in_ok-node.field-0 (c.in_ok-around.ensures μ) P L (c.in_ok-node.ensures μ names P L A))

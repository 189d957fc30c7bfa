use Rattle.sf_law.specs.Copies.{copies_primitive, copies_joined, copies_sided, copies_headed, copies_transformed, copies_switching, copies_continuing}
use Rattle.sf_law.proofs.plain.plan_node.Goals as goal

pub returns-in_ok-primitive-in-Primitive-clause-same : goal.returns-in_ok-primitive-in-Primitive-clause-same
returns-in_ok-primitive-in-Primitive-clause-same c = rw c.in-Primitive.is (copies_primitive c.in_ok-primitive-in-Primitive.ensures.same)

pub returns-in_ok-named-in-Named-clause-same : goal.returns-in_ok-named-in-Named-clause-same
returns-in_ok-named-in-Named-clause-same c = rw c.in-Named.is (c.in_ok-named-in-Named.ensures.same _ _)

pub returns-in-Joined-clause-same : goal.returns-in-Joined-clause-same
returns-in-Joined-clause-same c = rw (c.in-Joined.is, c.id.ensures, c.id-in-Joined.ensures) copies_joined

pub returns-in-Sided-clause-same : goal.returns-in-Sided-clause-same
returns-in-Sided-clause-same c = rw (c.in-Sided.is, c.id-in-Sided.ensures) copies_sided

pub returns-in_ok-code-in-Headed-clause-same : goal.returns-in_ok-code-in-Headed-clause-same
returns-in_ok-code-in-Headed-clause-same c = rw (c.in-Headed.is, c.id-in-Headed.ensures) copies_headed

pub returns-in_ok-head-in-Transformed-clause-same : goal.returns-in_ok-head-in-Transformed-clause-same
returns-in_ok-head-in-Transformed-clause-same c = rw (c.in-Transformed.is, c.id-in-Transformed.ensures) copies_transformed

pub returns-in-Switching-clause-same : goal.returns-in-Switching-clause-same
returns-in-Switching-clause-same c = rw (c.in-Switching.is, c.plan_switch.ensures) copies_switching

pub returns-in-Continuation-clause-same : goal.returns-in-Continuation-clause-same
returns-in-Continuation-clause-same c = rw (c.in-Continuation.is, c.plan_continuing.ensures) copies_continuing

pub returns-in_ok-named-in-Named-clause-coded : goal.returns-in_ok-named-in-Named-clause-coded
returns-in_ok-named-in-Named-clause-coded c = c.in_ok-named-in-Named.ensures.coded _

pub returns-in_ok-named-in-Named-clause-beside : goal.returns-in_ok-named-in-Named-clause-beside
returns-in_ok-named-in-Named-clause-beside c = c.in_ok-named-in-Named.ensures.beside _

use Rattle.std.proofs.Common.{sym}
use Rattle.sf_term.specs.declared.form.Join.TheVariants.{InParallel}
use Rattle.sf_begin.proofs.Begins.{parts_joined, open_sided, open_builds_headed, open_builds_transformed, open_builds_gathered}
use Rattle.sf_begin.proofs.opening.open.Goals as goal
use Rattle.sf_begin.specs.Contexts.{context_machine}

pub returns-in-Joined-InParallel-default-default : goal.returns-in-Joined-InParallel-default-default
returns-in-Joined-InParallel-default-default g c = λ t B.
    let μ = context_machine g.R.Holds.answers c.args.context.now in
    let w = c.in-Joined-InParallel-default-default in
    c.in_parallel.ensures μ t (parts_joined μ InParallel w.left w.right t (rw (rw w.is at c.requires) at (rw w.is at B))) c.args.input.now

pub returns-in-Sided : goal.returns-in-Sided
returns-in-Sided g c = λ t B. open_sided (context_machine g.R.Holds.answers c.args.context.now) c.in-Sided.side c.in-Sided.part t c.args.names.now _ _ (rw c.in-Sided.is at B) c.on_side.ensures c.wrapped.ensures c.args.input.now

pub returns-in-Headed : goal.returns-in-Headed
returns-in-Headed g c = λ t B.
    open_builds_headed (context_machine g.R.Holds.answers c.args.context.now) c.in-Headed.heading c.in-Headed.field-1 c.in-Headed.code c.in-Headed.part t c.args.names.now _ (rw c.in-Headed.is at B) (c.headed.ensures _ c.args.input.now)

pub returns-in-Transformed : goal.returns-in-Transformed
returns-in-Transformed g c = λ t B.
    open_builds_transformed (context_machine g.R.Holds.answers c.args.context.now) c.in-Transformed.field-0 c.in-Transformed.code c.in-Transformed.part t c.args.names.now _ (rw c.in-Transformed.is at B) (c.transformed.ensures _)

pub returns-in-Pipeline : goal.returns-in-Pipeline
returns-in-Pipeline g c = λ t B.
    c.pipeline.ensures (context_machine g.R.Holds.answers c.args.context.now) c.in-Pipeline.stages t (sym c.deref.ensures.value) (rw c.in-Pipeline.is at B) c.args.input.now

pub returns-in-Gathered : goal.returns-in-Gathered
returns-in-Gathered g c = λ t B.
    let μ = context_machine g.R.Holds.answers c.args.context.now in
    open_builds_gathered μ c.in-Gathered.members t c.args.names.now _ (rw c.in-Gathered.is at B) (rw c.deref-in-Gathered.ensures at c.gathered.ensures) c.args.input.now

pub returns-in-Releasing : goal.returns-in-Releasing
returns-in-Releasing g c = λ t B. c.members_under.ensures t (rw c.in-Releasing.is at B) c.args.input.now

pub returns-in-Editing : goal.returns-in-Editing
returns-in-Editing g c = λ t B. c.members_edited.ensures t (rw c.in-Editing.is at B) c.args.input.now

pub returns-in-Probe : goal.returns-in-Probe
returns-in-Probe g c = λ t B e N. c.probe.ensures (context_machine g.R.Holds.answers c.args.context.now) t (rw c.in-Probe.is at B) c.args.input.now e

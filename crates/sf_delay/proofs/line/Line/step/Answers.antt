use Rattle.std.proofs.Common.{◌≡◌, cond, refl, sym, ap, ◌∙◌}
use Rattle.sf_operator.specs.Outcomes.{answer}
use Rattle.sf_delay.proofs.Turns.{delays_on, held_is}
use Rattle.sf_delay.proofs.line.Line.step.Goals as goal
use Rattle.sf_delay.proofs.line.Line.step.Goals.{then-self, else-self}

pub returns-clause-told : goal.returns-clause-told
returns-clause-told c = λ q v L k.
    let after : c.if-self.after ≡ cond c.args.self.now.begun c.args.dt c.args.self.now.delay = elim c.if-self.branch [
      | then-self w ↦ w.after-is ∙ sym (ap (λ b. cond b c.args.dt c.args.self.now.delay) w.if-self.true)
      | else-self w ↦ w.after-is ∙ sym (ap (λ b. cond b c.args.dt c.args.self.now.delay) w.if-self.false)
    ] in
    ap answer (held_is q v c.args.dt c.args.value.now L c.args.self.now _ c.pass.new.self _ c.in_ok-push_back.ensures.items refl refl refl refl refl c.replace-input.ensures.value after (rw c.waited-waited.ensures at c.in_ok-pass.ensures.passes) c.in_ok-pass.ensures.to_come k ∙ sym c.in_ok-value.ensures)

pub returns-clause-kept : goal.returns-clause-kept
returns-clause-kept c = λ q v L k.
    let after : c.if-self.after ≡ cond c.args.self.now.begun c.args.dt c.args.self.now.delay = elim c.if-self.branch [
      | then-self w ↦ w.after-is ∙ sym (ap (λ b. cond b c.args.dt c.args.self.now.delay) w.if-self.true)
      | else-self w ↦ w.after-is ∙ sym (ap (λ b. cond b c.args.dt c.args.self.now.delay) w.if-self.false)
    ] in
    delays_on q v c.args.dt c.args.value.now L c.args.self.now _ c.pass.new.self _ c.in_ok-push_back.ensures.items refl refl refl refl refl c.replace-input.ensures.value after (rw c.waited-waited.ensures at c.in_ok-pass.ensures.passes) c.in_ok-pass.ensures.to_come k

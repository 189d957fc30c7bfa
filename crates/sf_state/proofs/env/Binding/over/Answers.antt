use Rattle.sf_state.specs.declared.env.Binding.{Binding}
use Rattle.sf_state.proofs.Fewer.{over_made}
use Rattle.sf_state.proofs.env.Binding.over.Goals as goal

pub returns : goal.returns
returns c = λ μ m l e h k.
    let b : Binding = record { pattern = c.args.self.now.pattern; value = c.in_ok-value.value; around = c.in-Some.around } in
    over_made μ b c.in_ok-binding.binding.value c.in_ok-binding.ensures.ok c.args.self.now.value c.in_ok-value.ensures h (rw c.in-Some.is at k)

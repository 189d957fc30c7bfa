use Rattle.std.proofs.Common.{◌≡◌, [], refl, ap, ◌∙◌}
use Rattle.std.specs.Prelude.{Option, Some, None, option_to_list}
use Rattle.sf_value.specs.Values.{Data}
use Rattle.sf_code.specs.Names.{scope_with}
use Rattle.sf_code.specs.Worth.{frame_around}
use Rattle.sf_code.proofs.open.Closure.new.Goals as goal

is_none : (o : Option Data) → option_to_list o ≡ [] → o ≡ None
is_none None h = refl
is_none (Some d) h = cc

pub returns-clause-bare : goal.returns-clause-bare
returns-clause-bare g c = λ h.
    let s = scope_with (g.N.Names.values c.args.names.now) (λ x d. None) in
    let x = g.N.Names.expressions c.args.names.now in
    is_none _ (c.in_ok-around.ensures (λ x d. None) ∙ ap (λ o. frame_around x o.around s) c.deref.ensures ∙ ap (λ o. frame_around x o s) h)

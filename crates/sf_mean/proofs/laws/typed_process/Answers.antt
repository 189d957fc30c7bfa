use Rattle.sf_expr.proofs.Sound.{expression_yields, function_yields}
use Rattle.sf_mean.proofs.TypedProcesses.{gives_has}
use Rattle.sf_mean.proofs.laws.typed_process.Goals as goal

pub returns : goal.returns
returns k = λ n P L o c a b A p l. gives_has n (λ R i t s h q. expression_yields h q) (λ R f a b x s F h q. function_yields F q h) A p l

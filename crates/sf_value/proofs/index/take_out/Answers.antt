use Rattle.std.proofs.Common.{rules}
use Rattle.sf_value.proofs.Removing.{retained}
use Rattle.sf_value.proofs.index.take_out.Goals as goal

pub returns : goal.returns
returns g c = retained _ c.args.place _ (λ k v b w f t. search rules) c.args.places.now.entries _ c.retain.ensures.filtered

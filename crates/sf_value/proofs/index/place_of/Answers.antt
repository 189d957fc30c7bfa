use Rattle.std.proofs.Common.{◌∙◌, ap, rules}
use Rattle.std.specs.Option.{unwrap_or}
use Rattle.sf_value.proofs.Indexes.{put}
use Rattle.sf_value.proofs.index.place_of.Goals as goal

pub returns-clause-places : goal.returns-clause-places
returns-clause-places g c =
    put g.K.Ord.cmp g.met.K.Ord.total c.args.places.now.entries _ c.args.key c.args.place c.or_insert.result.now c.in_ok-places.ensures.ordered
    (c.or_insert.ensures.value ∙ ap (λ o. unwrap_or o c.args.place) c.in_ok-places.ensures.value) (search rules)

use Rattle.std.proofs.Common.{◌∙◌, ap, sym, subst, Some}
use Rattle.sf_value.specs.Values.{Kind}
use Rattle.sf_expr.specs.declared.meaning.Meaning.{Meaning}
use Rattle.sf_expr.specs.Meanings.{meant}
use Rattle.sf_expr.specs.Scopes.{entries_around}
use Rattle.sf_expr.specs.Typing.{Fits}
use Rattle.sf_expr.specs.Judging.{naming_at}
use Rattle.sf_expr.proofs.Judged.{fits_at, stops_broken}
use Rattle.sf_expr.proofs.Scoped.{value_meant, kind_found, named_from}
use Rattle.sf_expr.proofs.typing.name_type.Goals as goal

pub returns-in_ok-clone_in-in-Some-Value : goal.returns-in_ok-clone_in-in-Some-Value
returns-in_ok-clone_in-in-Some-Value c =
    let same = c.in_ok-clone_in-in-Some-Value.ensures.same in
    ap (naming_at c.args.at) (named_from c.args.name.now (entries_around c.args.names.now) ∙ ap kind_found c.in-Some-Value.ensures.found ∙ ap (λ (m : Meaning). Some (value_meant (meant m))) c.in-Some-Value.field-0-is ∙ ap (λ (t : Kind). Some (Some t)) (sym same))
    ∙ fits_at c.args.at _ (subst (λ (t : Kind). Fits t) (sym same) c.in_ok-clone_in-in-Some-Value.ensures.small)

pub returns-in-Some-Process : goal.returns-in-Some-Process
returns-in-Some-Process c =
    stops_broken c.broken.ensures
    (ap (naming_at c.args.at) (named_from c.args.name.now (entries_around c.args.names.now) ∙ ap kind_found c.in-Some-Process.ensures.found ∙ ap (λ (m : Meaning). Some (value_meant (meant m))) c.in-Some-Process.field-0-is))

pub returns-in-Some-Collection : goal.returns-in-Some-Collection
returns-in-Some-Collection c =
    stops_broken c.broken-in-Some-Collection.ensures
    (ap (naming_at c.args.at) (named_from c.args.name.now (entries_around c.args.names.now) ∙ ap kind_found c.in-Some-Collection.ensures.found ∙ ap (λ (m : Meaning). Some (value_meant (meant m))) c.in-Some-Collection.field-0-is))

pub returns-in-None : goal.returns-in-None
returns-in-None c = stops_broken c.broken-in-None.ensures (ap (naming_at c.args.at) (named_from c.args.name.now (entries_around c.args.names.now) ∙ ap kind_found c.in-None.ensures.absent))

use Rattle.std.proofs.Common.{◌∙◌, ap, sym, subst}
use Rattle.std.specs.Borrow.{Bor}
use Rattle.std.specs.Prelude.{List}
use Rattle.sf_value.specs.Values.{Name}
use Rattle.sf_refusal.proofs.Explained.{refused_on}
use Rattle.sf_expr.specs.Patterns.{pattern_of}
use Rattle.sf_expr.specs.Typing.{AddsNames}
use Rattle.sf_expr.specs.Meanings.{Entries, names_seen, value_names}
use Rattle.sf_expr.specs.Scopes.{frame_entries}
use Rattle.sf_expr.specs.Judging.{judged_seen, Stops}
use Rattle.sf_expr.proofs.Judged.{names_refuse, type_refuses, seen_differ}
use Rattle.sf_expr.proofs.frame.Frame.of_pattern.Goals as goal

pub returns-in_err-see-clause-err : goal.returns-in_err-see-clause-err
returns-in_err-see-clause-err c =
    let r = c.in_err-see.field-0.0 in
    refused_on _ r c.from_residual.ensures.1
    (names_refuse c.args.pattern.now c.args.ty.now c.args.at r (subst (λ (ns : List (Bor Name)). Stops r (judged_seen (names_seen ns) c.args.pattern.now)) c.new.ensures.empty c.in_err-see.ensures.err))

pub returns-in_err-bind-clause-err : goal.returns-in_err-bind-clause-err
returns-in_err-bind-clause-err c =
    let seen = ap (λ (ns : List (Bor Name)). judged_seen (names_seen ns) c.args.pattern.now) (sym c.new.ensures.empty) ∙ c.in_ok-see.ensures.ok in
    refused_on _ c.in_err-bind.field-0.0 c.from_residual-in_err-bind.ensures.1 (type_refuses c.args.pattern.now c.args.ty.now c.args.at seen c.in_err-bind.ensures.err)

pub returns-clause-bound : goal.returns-clause-bound
returns-clause-bound c =
    let seen = ap (λ (ns : List (Bor Name)). judged_seen (names_seen ns) c.args.pattern.now) (sym c.new.ensures.empty) ∙ c.in_ok-see.ensures.ok in
    record {
      adds = subst (λ (es : Entries). AddsNames (pattern_of c.args.pattern.now) c.args.ty.now (value_names es) (value_names (frame_entries c.bind.new.self))) c.new-frame.ensures c.in_ok-bind.ensures.ok;
      apart = seen_differ c.args.pattern.now seen;
    }

use Rattle.std.proofs.Common.{◌≡◌, Result, Ok, Err, List, sym, subst}
use Rattle.std.specs.Prelude.{IfOk}
use Rattle.std.specs.List.{AllZip}
use Rattle.sf_expr.specs.declared.exprs.Exprs.{Exprs}
use Rattle.sf_expr.specs.Arena.{IsCopy, Extends}
use Rattle.sf_expr.proofs.Entered.{unchanged_keeps, keeps_trans}
use Rattle.sf_term.specs.Arena.{program_expressions, headers_of}
use Rattle.sf_law.specs.Headers.{PlanHeader}
use Rattle.sf_law.specs.Copies.{CopiesTemplate}
use Rattle.sf_law.proofs.Among.{templates_bound}
use Rattle.sf_law.proofs.plain.empty_plan.Goals as goal

-- what stands for a value and a list stands for those of a plan that are the same
for_those : {A E B C : Type 0} (P : B → C → Type 0) (f : A → B) (g : A → C) (b : B) (c : C) → P b c
    → (r : Result A E) → IfOk r (λ a. f a ≡ b) → IfOk r (λ a. g a ≡ c) → IfOk r (λ a. P (f a) (g a))
for_those P f g b c h (Ok a) is same = subst (λ b. P b (g a)) (sym is) (subst (λ c. P b c) (sym same) h)
for_those P f g b c h (Err e) is same = is

for_that : {A E B : Type 0} (P : B → Type 0) (f : A → B) (b : B) → P b → (r : Result A E) → IfOk r (λ a. f a ≡ b) → IfOk r (λ a. P (f a))
for_that P f b h (Ok a) is = subst P (sym is) h
for_that P f b h (Err e) is = is

pub new-requires : goal.new-requires
new-requires c = templates_bound c.plan_templates.new.expressions c.templates.result.now c.in_ok-templates.templates.items c.in_ok-templates.ensures.copied

pub returns-clause-kept : goal.returns-clause-kept
returns-clause-kept c =
    let x = program_expressions c.args.program.now in
    let y = c.in_ok-expressions.expressions in
    let z = c.plan_templates.new.expressions in
    let copy = subst (λ w. IsCopy w y) c.expressions.ensures c.in_ok-expressions.ensures in
    for_that (Extends x) _ z (keeps_trans x y z (unchanged_keeps x y copy) c.in_ok-templates.ensures.kept) c.new.result c.new.ensures.expressions

pub returns-clause-copied : goal.returns-clause-copied
returns-clause-copied c =
    let z = c.plan_templates.new.expressions in
    let hs = headers_of c.args.program.now in
    let ms = c.in_ok-templates.templates.items in
    let made = subst (λ hs. AllZip (CopiesTemplate z) hs ms) c.templates.ensures.templates c.in_ok-templates.ensures.copied in
    for_those (λ (x : Exprs) (ms : List PlanHeader). AllZip (CopiesTemplate x) hs ms) _ _ z ms made c.new.result c.new.ensures.expressions c.new.ensures.templates

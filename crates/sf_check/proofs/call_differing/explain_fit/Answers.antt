use Rattle.std.proofs.Common.{◌≡◌, ◌≤◌, All, ◌∙◌, sym, ap, subst, Some}
use mathlib.Core.Path.{subst₂}
use Rattle.std.specs.Iterator.Adapters.{zip_first, zip_second}
use Rattle.std.specs.Slice.Iter.{iter_rest}
use Rattle.std.proofs.lemmas.List.Elements.{All-same, All-rest, All-head}
use Rattle.std.proofs.lemmas.Slice.Zip.{Zip-more, either_empty_from_Zip}
use Rattle.sf_value.specs.Values.{Kind}
use Rattle.sf_refusal.specs.declared.spot.Spot.{Spot}
use Rattle.sf_term.specs.Trees.{arguments_depth}
use Rattle.sf_term.specs.Parameters.{parameters_of}
use Rattle.sf_term.specs.Arena.{term_number, term_spot_at, arguments_of, ArgumentBelow, HoldsArgument}
use Rattle.sf_mean.specs.Typing.{no_argument_fits}
use Rattle.sf_expr.proofs.Bound.{on_err}
use Rattle.sf_reach.proofs.Shallow.{first_shallow, rest_shallow}
use Rattle.sf_differ.specs.declared.difference.Wanted.TheVariants.{Exactly}
use Rattle.sf_differ.specs.Differences.{IsOther}
use Rattle.sf_differ.proofs.Told.{told_as, told_on}
use Rattle.sf_check.specs.Contexts.{program_in, context_in}
use Rattle.sf_check.specs.Answering.{ArgumentFits}
use Rattle.sf_check.specs.Differing.{ArgumentDiffers, this_differs, argument_differs, call_input}
use Rattle.sf_check.proofs.Arguments.{left_length}
use Rattle.sf_check.proofs.Unlike.{FitBefore, fit_first, fit_next, walk_first, walk_next, walk_end}
use Rattle.sf_check.proofs.call_differing.explain_fit.Goals as goal

pub loop-argument-init : goal.loop-argument-init
loop-argument-init c =
    let p = program_in c.args.context.now in
    let gives = c.into_iter-argument-iterator.ensures.into_iter_gives in
    let first : iter_rest (zip_first c.into_iter-argument-iterator.result) ≡ c.args.arguments.now =
    ap (λ z. iter_rest (zip_first z)) gives ∙ ap iter_rest c.zip-argument-items.ensures.first ∙ c.iter.ensures.rest in
    let given : iter_rest (zip_second c.zip-argument-items.result) ≡ c.parameters-parameters.result.now = c.zip-argument-items.ensures.second.0 in
    let second : iter_rest (zip_second c.into_iter-argument-iterator.result) ≡ c.args.template.now.parameters =
    ap (λ z. iter_rest (zip_second z)) gives ∙ given ∙ c.parameters-parameters.ensures in
    let whole = FitBefore p (context_in c.args.context.now) (term_spot_at p c.args.term) c.args.arguments.now (parameters_of c.args.template.now.parameters) in
    record {
      so = walk_first whole first second (fit_first (left_length c.requires.typed));
      below = All-same (ArgumentBelow p (term_number c.args.term)) _ _ first c.requires.below;
      held = All-same (HoldsArgument p) _ _ first c.requires.arguments_held;
      shallow = subst (λ vs. arguments_depth (arguments_of p vs) ≤ 64) (sym first) c.requires.shallow;
    }

pub argument_suits-requires : goal.argument_suits-requires
argument_suits-requires c =
    let p = program_in c.args.context.now in
    let step = Zip-more c.loop-argument.argument-iterator c.next.new.self _ _ c.in-Some.is c.next.ensures.steps in
    record {
      below = All-head (ArgumentBelow p (term_number c.args.term)) _ _ (subst (All (ArgumentBelow p (term_number c.args.term))) step.0 c.loop-argument.invariant.below);
      argument_held = All-head (HoldsArgument p) _ _ (subst (All (HoldsArgument p)) step.0 c.loop-argument.invariant.held);
      shallow = λ i is. first_shallow p _ _ i is (subst (λ vs. arguments_depth (arguments_of p vs) ≤ 64) step.0 c.loop-argument.invariant.shallow);
    }

pub loop-argument-preserved : goal.loop-argument-preserved
loop-argument-preserved c =
    let p = program_in c.args.context.now in
    let step = Zip-more c.loop-argument.argument-iterator c.next.new.self _ _ c.in-Some.is c.next.ensures.steps in
    let whole = FitBefore p (context_in c.args.context.now) (term_spot_at p c.args.term) c.args.arguments.now (parameters_of c.args.template.now.parameters) in
    record {
      so = fit_next (walk_next whole step.0 step.1 c.loop-argument.invariant.so) (subst (λ k. ArgumentFits p (context_in c.args.context.now) c.in-Some.argument.now k) c.form.ensures c.in_ok-argument_suits.ensures.ok);
      below = All-rest (ArgumentBelow p (term_number c.args.term)) _ _ _ step.0 c.loop-argument.invariant.below;
      held = All-rest (HoldsArgument p) _ _ _ step.0 c.loop-argument.invariant.held;
      shallow = rest_shallow p _ _ (subst (λ vs. arguments_depth (arguments_of p vs) ≤ 64) step.0 c.loop-argument.invariant.shallow);
    }

pub returns-in_err-argument_suits : goal.returns-in_err-argument_suits
returns-in_err-argument_suits c =
    let p = program_in c.args.context.now in
    let Γ = context_in c.args.context.now in
    let step = Zip-more c.loop-argument.argument-iterator c.next.new.self _ _ c.in-Some.is c.next.ensures.steps in
    let whole = FitBefore p Γ (term_spot_at p c.args.term) c.args.arguments.now (parameters_of c.args.template.now.parameters) in
    let so = walk_next whole step.0 step.1 c.loop-argument.invariant.so in
    told_on _ _ c.from_residual.ensures.1
    (told_as (λ d k. argument_differs c.requires.typed (so.differs d (this_differs (subst₂ (λ s k. ArgumentDiffers p Γ s c.in-Some.argument.now k d) c.spot-spot.ensures c.form.ensures k)))) c.in_err-argument_suits.ensures.err)

pub returns : goal.returns
returns c =
    let p = program_in c.args.context.now in
    let whole = FitBefore p (context_in c.args.context.now) (term_spot_at p c.args.term) c.args.arguments.now (parameters_of c.args.template.now.parameters) in
    let so = walk_end whole c.loop-argument.invariant.so.many c.loop-argument.invariant.so (either_empty_from_Zip c.loop-argument.argument-iterator c.next.new.self _ c.in-None.is c.next.ensures.steps) in
    on_err c.suits_type.result
    (λ b h. told_as (λ d k. call_input (so.fits no_argument_fits) (subst₂ (λ (u : Kind) (s : Spot). IsOther (Some (Exactly u)) s c.args.input.now d) c.input.ensures c.spot-spot.ensures k)) h) c.suits_type.ensures.err

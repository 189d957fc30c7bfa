use Rattle.std.proofs.Common.{◌≤◌, All}
use Rattle.std.specs.Iterator.Adapters.{zip_first, zip_second}
use Rattle.std.specs.Slice.Iter.{iter_rest}
use Rattle.sf_term.specs.Trees.{arguments_depth}
use Rattle.sf_term.specs.Arena.{term_number, term_spot_at, arguments_of, ArgumentBelow, HoldsArgument}
use Rattle.sf_term.specs.Parameters.{parameters_of}
use Rattle.sf_check.specs.Contexts.{program_in, context_in}
use Rattle.sf_check.proofs.Unlike.{FitBefore}
use Rattle.sf_check.proofs.call_differing.explain_fit.Given as goal

-- which arguments are left
abbrev pub invariant-loop-argument : goal.invariant-loop-argument
invariant-loop-argument l =
    let left = iter_rest (zip_first l.argument-iterator) in
    record {
      so : FitBefore (program_in l.context) (context_in l.context) (term_spot_at (program_in l.context) l.term) l.arguments (parameters_of l.template.parameters) left (parameters_of (iter_rest (zip_second l.argument-iterator)));
      below : All (ArgumentBelow (program_in l.context) (term_number l.term)) left;
      held : All (HoldsArgument (program_in l.context)) left;
      shallow : arguments_depth (arguments_of (program_in l.context) left) ≤ 64;
    }

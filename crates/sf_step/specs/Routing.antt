-- What the parts of a form take at one step, and what its value is made of.
use Rattle.std.specs.Prelude.{None, Ok, unwrap_or}
use Rattle.sf_value.specs.Values.{Data, pair, first_of, second_of}
use Rattle.sf_expr.specs.Evaluation.{Evaluated, answer}
use Rattle.sf_term.specs.declared.form.Observation.{Observation}
use Rattle.sf_term.specs.declared.form.Switching.{Switching}
use Rattle.sf_term.specs.declared.form.Switching.TheVariants.{Basic, Recurring}
use Rattle.sf_term.specs.declared.form.Join.{Join}
use Rattle.sf_term.specs.declared.form.Join.TheVariants.{InSequence, InParallel, FannedOut}
use Rattle.sf_state.specs.declared.state.Wrap.{Wrap}
use Rattle.sf_state.specs.declared.state.Wrap.TheVariants.{First, Second, Loop, Initialized, Replaced, Followed}
use Rattle.sf_state.specs.Standing.{worth_given}

-- ## Joins

-- the left part's input, from the join's
abbrev pub left_input : Join → Data → Data
left_input InSequence x = x
left_input InParallel x = first_of x
left_input FannedOut x = x

-- the right part's input, from the join's and the left part's output
abbrev pub right_input : Join → Data → Data → Data
right_input InSequence x y = y
right_input InParallel x y = second_of x
right_input FannedOut x y = x

-- ## Forms with one part

-- the part's input, from the form's
abbrev pub part_input : Wrap → Data → Data
part_input First x = first_of x
part_input Second x = second_of x
part_input (Loop v) x = pair x v
part_input (Initialized o) x = x
part_input (Replaced o) x = unwrap_or o x
part_input (Followed last) x = x

-- the form's value, from its input and the part's output, or the fault that comes after that
abbrev pub wrap_value : Wrap → Data → Data → Evaluated Data
wrap_value First x y = answer (pair y (second_of x))
wrap_value Second x y = answer (pair (first_of x) y)
wrap_value (Loop v) x y = answer (first_of y)
wrap_value (Initialized o) x y = answer (unwrap_or o y)
wrap_value (Replaced o) x y = answer y
wrap_value (Followed last) x y = worth_given last

-- what the form keeps, after the part's output
abbrev pub kept_after : Wrap → Data → Wrap
kept_after First y = First
kept_after Second y = Second
kept_after (Loop v) y = Loop (second_of y)
kept_after (Initialized o) y = Initialized None
kept_after (Replaced o) y = Replaced None
kept_after (Followed last) y = Followed (Ok y)

-- ## Switches

-- which of the two values a switch shows at its event
abbrev pub observation_of : Switching → Observation
observation_of (Basic o) = o
observation_of (Recurring o) = o

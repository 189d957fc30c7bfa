-- What expressions are typed under.
use Rattle.std.specs.Prelude.{◌++◌}
use Rattle.sf_func.specs.Signatures.{signatures_in}
use Rattle.sf_expr.specs.declared.exprs.Exprs.{Exprs}
use Rattle.sf_expr.specs.declared.frame.Frame.{Frame}
use Rattle.sf_expr.specs.declared.typing.ExprContext.{ExprContext}
use Rattle.sf_expr.specs.Typing.{Names, names_and_functions}
use Rattle.sf_expr.specs.Meanings.{value_names}
use Rattle.sf_expr.specs.Scopes.{scope_names, frame_entries, entries_around}

-- the arena that they stand in
abbrev pub exprs_in : ExprContext → Exprs
exprs_in c = c.exprs.now

-- the types of the names around them, and those of stored functions
abbrev pub types_around : ExprContext → Names
types_around c = names_and_functions (signatures_in c.functions.now) (scope_names c.names.now)

-- the same with the names of a frame inside
abbrev pub types_within : Frame → ExprContext → Names
types_within f c = names_and_functions (signatures_in c.functions.now) (value_names (frame_entries f ++ entries_around c.names.now))

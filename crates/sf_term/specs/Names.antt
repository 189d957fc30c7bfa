-- Names in patterns and in headers.
use Rattle.std.specs.Prelude.{List, All}
use Rattle.sf_lex.specs.Words.{IsName}
use Rattle.sf_expr.specs.Expressions.{Pattern, names_of_pattern}
use Rattle.sf_term.specs.Parameters.{PlacedParameter}

-- all names of a pattern are names of the language
abbrev pub HasNames : Pattern → Type 0
HasNames p = All IsName (names_of_pattern p)

-- all names of parameters are names of the language
abbrev pub AreNamed : List PlacedParameter → Type 0
AreNamed qs = All (λ (q : PlacedParameter). IsName q.name) qs

-- What holds of operators.
use Rattle.std.specs.Prelude.{◌≡◌, Some}
use Rattle.sf_value.specs.Values.{Kind, Data, HasKind}
use Rattle.sf_operator.specs.declared.operator.Unary.{Unary}
use Rattle.sf_operator.specs.declared.operator.Operator.{Operator}
use Rattle.sf_operator.specs.declared.operator.Mapping.{Mapping}
use Rattle.sf_operator.specs.declared.operator.Folding.{Folding}
use Rattle.sf_operator.specs.Outcomes.{Evaluated}
use Rattle.sf_operator.specs.Answers.{Yields}
use Rattle.sf_operator.specs.Kinds.{unary_kind, binary_kind, mapped_argument, mapped_kind, folded_argument, folded_kind}
use Rattle.sf_operator.specs.Operations.{unary_value, decided, operated}
use Rattle.sf_operator.specs.FunctionForms.{mapped_value, folded_value}

-- an operator makes a value of the type that the table of types says, or a fault
abbrev pub EachUnaryYields : Type 0
EachUnaryYields = (o : Unary) (t u : Kind) (d : Data) → HasKind d t → unary_kind o t ≡ Some u → Yields u (unary_value o d)

abbrev pub EachOperatorYields : Type 0
EachOperatorYields = (op : Operator) (t u v : Kind) (d c : Data) → HasKind d t → HasKind c u → binary_kind op t u ≡ Some v → Yields v (operated op d c)

-- so is what the first operand decides alone
abbrev pub EachDecisionYields : Type 0
EachDecisionYields = (op : Operator) (t u v : Kind) (d c : Data) → HasKind d t → binary_kind op t u ≡ Some v → decided op d ≡ Some c → HasKind c v

-- so is what a form makes of values and a function, where the function makes values of a type, or faults, of those that it takes
abbrev pub EachMappingYields : Type 0
EachMappingYields = (m : Mapping) (t a u v : Kind) (d : Data) (f : Data → Evaluated Data) → HasKind d t → mapped_argument m t ≡ Some a → mapped_kind m t u ≡ Some v
    → ((x : Data) → HasKind x a → Yields u (f x)) → Yields v (mapped_value m d f)

abbrev pub EachFoldingYields : Type 0
EachFoldingYields = (o : Folding) (t u a v w : Kind) (d : Data) (other : Evaluated Data) (f : Data → Evaluated Data) → HasKind d t → Yields u other → folded_argument o t u ≡ Some a → folded_kind o t u v ≡ Some w
    → ((x : Data) → HasKind x a → Yields v (f x)) → Yields w (folded_value o d other f)

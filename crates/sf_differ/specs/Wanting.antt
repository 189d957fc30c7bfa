-- Which types the places of operators want.
use Rattle.std.specs.Prelude.{◌≡◌, Option, Some, None, option_map}
use Rattle.sf_value.specs.Values.{Kind, bool_kind, int_kind}
use Rattle.sf_operator.specs.declared.operator.Unary.{Unary}
use Rattle.sf_operator.specs.declared.operator.Unary.TheVariants as unary
use Rattle.sf_operator.specs.declared.operator.Mapping.{Mapping}
use Rattle.sf_operator.specs.declared.operator.Mapping.TheVariants as mapping
use Rattle.sf_operator.specs.declared.operator.Folding.{Folding}
use Rattle.sf_operator.specs.declared.operator.Folding.TheVariants as folding
use Rattle.sf_operator.specs.declared.operator.Operator.{Operator}
use Rattle.sf_operator.specs.declared.operator.Operator.TheVariants.{Arithmetic, Equality, Comparison, Logic, Tag, Attach, FromEvent, Gate, Merge, Get}
use Rattle.sf_operator.specs.Kinds.{payload_of, columns_of, kind_of_keys}
use Rattle.sf_differ.specs.declared.difference.Wanted.{Wanted}
use Rattle.sf_differ.specs.declared.difference.Wanted.TheVariants as wanted

-- A type is found.
pub record IsMade (o : Option Kind) : Type 0 where
  pub made : Kind
  pub is : o ≡ Some made

-- which operands an operator wants
abbrev pub operand_wants : Unary → Option Wanted
operand_wants unary.Not = Some (wanted.Exactly bool_kind)
operand_wants unary.Event = None
operand_wants unary.First = Some wanted.Pair
operand_wants unary.Second = Some wanted.Pair
operand_wants unary.IsEvent = Some wanted.Event
operand_wants unary.Size = Some wanted.Table

-- which left operands an operator wants
abbrev pub left_wants : Operator → Option Wanted
left_wants (Arithmetic o) = Some (wanted.Exactly int_kind)
left_wants (Equality o) = None
left_wants (Comparison o) = Some wanted.Ordered
left_wants (Logic o) = Some (wanted.Exactly bool_kind)
left_wants Tag = Some wanted.Event
left_wants Attach = Some wanted.Event
left_wants FromEvent = Some wanted.Event
left_wants Gate = Some wanted.Event
left_wants (Merge m) = Some wanted.Event
left_wants Get = Some wanted.Table

-- which right ones, beside a left one of a type
abbrev pub right_wants : Operator → Kind → Option Wanted
right_wants (Arithmetic o) t = Some (wanted.Exactly int_kind)
right_wants (Equality o) t = Some (wanted.Exactly t)
right_wants (Comparison o) t = Some (wanted.Exactly t)
right_wants (Logic o) t = Some (wanted.Exactly bool_kind)
right_wants Tag t = None
right_wants Attach t = None
right_wants FromEvent t = option_map (λ a. wanted.Exactly a) (payload_of t)
right_wants Gate t = Some (wanted.Exactly bool_kind)
right_wants (Merge m) t = Some (wanted.Exactly t)
right_wants Get t = option_map (λ c. wanted.Exactly (kind_of_keys c.0)) (columns_of t)

-- which values a form with a function wants
abbrev pub mapping_wants : Mapping → Option Wanted
mapping_wants mapping.Let = None
mapping_wants mapping.Filter = Some wanted.Event
mapping_wants mapping.Map = Some wanted.Event

-- which values it wants its function to make
abbrev pub mapped_wants : Mapping → Option Wanted
mapped_wants mapping.Let = None
mapped_wants mapping.Filter = Some (wanted.Exactly bool_kind)
mapped_wants mapping.Map = None

-- which first values a form of two with a function wants
abbrev pub folding_wants : Folding → Option Wanted
folding_wants folding.Match = Some wanted.Event
folding_wants folding.Merge = Some wanted.Event
folding_wants folding.Fold = Some wanted.Table

-- which second ones, beside a first one of a type
abbrev pub second_wants : Folding → Kind → Option Wanted
second_wants folding.Match t = None
second_wants folding.Merge t = Some (wanted.Exactly t)
second_wants folding.Fold t = None

-- which values it wants its function to make, of both
abbrev pub folded_wants : Folding → Kind → Kind → Option Wanted
folded_wants folding.Match t u = Some (wanted.Exactly u)
folded_wants folding.Merge t u = option_map (λ a. wanted.Exactly a) (payload_of t)
folded_wants folding.Fold t u = Some (wanted.Exactly u)

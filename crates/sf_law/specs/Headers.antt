-- Templates as they stand in an arena of plans.
use Rattle.std.specs.Prelude.{◌≡◌, ℕ, List, [], length, slice_index_or, bytes_eq, unwrap_or, String}
use Rattle.indexmap.specs.IndexMap.{IndexMap, get_by_text}
use Rattle.std.specs.List.{position_or_len}
use Rattle.sf_value.specs.Values.{Name, Kind, unit_kind}
use Rattle.sf_expr.specs.declared.exprs.NameId.{NameId}
use Rattle.sf_expr.specs.declared.exprs.PatternId.{PatternId}
use Rattle.sf_term.specs.Parameters.{NameKind}
use Rattle.sf_law.specs.declared.node.PlanId.{PlanId}

-- a parameter: its name, the pattern that binds this name alone, and what it stands for
pub record ParameterHeader : Type 0 where
  pub name : NameId
  pub pattern : PatternId
  pub kind : NameKind

-- a template, whose body is an id
pub record PlanHeader : Type 0 where
  pub name : Name
  pub parameters : List ParameterHeader
  pub input : Kind
  pub output : Kind
  pub body : PlanId

-- a template with the body that stands at the number of its own; with the id of a number, where none stands there
abbrev pub rebodied : List PlanId → ℕ → PlanHeader → PlanHeader
rebodied ids n h = record { name = h.name; parameters = h.parameters; input = h.input; output = h.output; body = slice_index_or ids h.body.0 (record { 0 = n }) }

-- the number of the first template of a name; how many there are, where none has it
abbrev pub place_named : Name → List PlanHeader → ℕ
place_named x hs = position_or_len (λ (h : PlanHeader). bytes_eq x h.name) hs

-- under each name stands the number of its first template, if there is one
abbrev pub NumbersFirst : {Y S : Type 0} → IndexMap (String Y) ℕ S → List PlanHeader → Type 0
NumbersFirst numbers hs = (x : Name) → unwrap_or (get_by_text numbers x) (length hs) ≡ place_named x hs

-- what stands for a template that isn't there: no parameters, and a body that no plan holds
abbrev pub no_header : PlanHeader
no_header = record { name = []; parameters = []; input = unit_kind; output = unit_kind; body = record { 0 = 18446744073709551615 } }

-- That a node is coded has one proof at most, so a plan can keep it.
use Rattle.std.specs.Prelude.{◌≡◌, ℕ, Bool, true, nat_eq, bytes_eq, refl, Result, Ok, Err, Option, List, [], ◌∷◌, slice_index_or}
use Rattle.std.specs.BTreeMap.{BTreeMap, get}
use Rattle.std.specs.Ordering.{nat_cmp}
use Rattle.std.specs.Coded.{Coded-set, code_by, coded_result, codes, Unit-prop}
use Rattle.sf_value.specs.Values.{Name, Data}
use Rattle.sf_value.specs.declared.fault.ValueFault.{ValueFault}
use Rattle.sf_value.specs.contracts.value.Value as values
use Rattle.sf_value.specs.contracts.fault.ValueFault as faults
use Rattle.sf_operator.specs.Outcomes.{Evaluated, answer, failed}
use Rattle.sf_expr.specs.Expressions.{Pattern, unnamed, named, both, Expression, Function}
use Rattle.sf_expr.specs.Patterns.{PlacedPattern, placed_unnamed, placed_name, placed_both, pattern_of}
use Rattle.sf_expr.specs.contracts.pat.Pat as placed
use Rattle.sf_expr.specs.Evaluation.{scope_functions, eval, apply}
use Rattle.sf_expr.specs.Arena.{Holds, HoldsFunction, expression, function_at, name_at, stored_pattern}
use Rattle.sf_expr.specs.declared.exprs.ExprId.{ExprId}
use Rattle.sf_expr.specs.declared.exprs.FunctionId.{FunctionId}
use Rattle.std.proofs.Math.Bridge.{le_prop}
use Rattle.sf_law.specs.Held.{HoldsChain, HoldsPlanned, HoldsBeside}
use Rattle.sf_expr.specs.declared.exprs.Exprs.{Exprs}
use Rattle.sf_code.specs.declared.open.OpenCode.{OpenCode}
use Rattle.sf_code.specs.CodeView.{code_of}
use Rattle.sf_code.specs.Running.{run}
use Rattle.sf_code.specs.Compiling.{is_closed}
use Rattle.sf_code.specs.Around.{patterns_around}
use Rattle.sf_expr.specs.declared.exprs.numbers.NumberedPattern.{NumberedPattern}
use Rattle.sf_expr.specs.declared.exprs.numbers.NumberedPattern.TheVariants.{Unnamed, Name as Numbered, Both'}
use Rattle.sf_expr.specs.declared.exprs.numbers.Numbers.{Numbers}
use Rattle.sf_expr.specs.Numbered.{number_at, TellsName}
use Rattle.sf_code.specs.Worth.{frame_around, is_closed_within, IsCodeOf, IsCodeOfFunction}
use Rattle.sf_law.specs.declared.node.PlanArgument.{PlanArgument}
use Rattle.sf_law.specs.declared.node.PlanArgument.TheVariants as arguments
use Rattle.sf_law.specs.declared.node.PlanChain.{PlanChain}
use Rattle.sf_law.specs.declared.node.PlanChain.TheVariants as chains
use Rattle.sf_law.specs.declared.node.PlanCollection.{PlanCollection}
use Rattle.sf_law.specs.declared.node.PlanCollection.TheVariants as collections
use Rattle.sf_law.specs.declared.node.PlanNode.{PlanNode}
use Rattle.sf_law.specs.declared.node.PlanNode.TheVariants as nodes
use Rattle.sf_law.specs.declared.node.PlanPrimitive.{PlanPrimitive}
use Rattle.sf_law.specs.declared.node.PlanPrimitive.TheVariants as primitives
use Rattle.sf_law.specs.Headers.{ParameterHeader, PlanHeader}
use Rattle.sf_law.specs.Places.{names_of_parameters, last_parameter, ArePlaces}
use Rattle.sf_law.specs.Entries.{IsCodedChain, IsCodedPrimitive, IsCodedCollection, IsCodedArgument, IsCoded, BindsNames}

-- an evaluation as a result, and back
abbrev result_in : Evaluated Data → Result Data ValueFault
result_in (answer d) = Ok d
result_in (failed x) = Err x

abbrev evaluated : Result Data ValueFault → Evaluated Data
evaluated (Ok d) = answer d
evaluated (Err x) = failed x

evaluated-result : (v : Evaluated Data) → evaluated (result_in v) ≡ v
evaluated-result (answer d) = refl
evaluated-result (failed x) = refl

evaluated-set : (v w : Evaluated Data) → IsProp (v ≡ w)
evaluated-set = Coded-set (code_by (Result Data ValueFault) (coded_result values.the_row.coded faults.the_row.coded) result_in evaluated evaluated-result)

-- a pattern with no places, and back
abbrev placed_nowhere : Pattern → PlacedPattern
placed_nowhere unnamed = placed_unnamed
placed_nowhere (named x) = placed_name x (record { line = 0; column = 0 })
placed_nowhere (both p q) = placed_both (placed_nowhere p) (placed_nowhere q)

pattern-placed : (p : Pattern) → pattern_of (placed_nowhere p) ≡ p
pattern-placed unnamed = refl
pattern-placed (named x) = refl
pattern-placed (both p q) = λ i. both (pattern-placed p i) (pattern-placed q i)

pattern-set : (p q : Pattern) → IsProp (p ≡ q)
pattern-set = Coded-set (code_by PlacedPattern placed.the_row.coded placed_nowhere pattern_of pattern-placed)

pub BindsNames-prop : (x : Exprs) (h : PlanHeader) → IsProp (BindsNames x h)
BindsNames-prop x h = λ a b i n d l. let q : ParameterHeader = slice_index_or h.parameters n d in pattern-set (pattern_of (stored_pattern x q.pattern)) (named (name_at x q.name)) (a n d l) (b n d l) i

truth-set : (a b : Bool) → IsProp (a ≡ b)
truth-set = Coded-set (Prim.hlevel codes)

IsCodeOf-prop : (x : Exprs) (e : Expression) (c : OpenCode) → IsProp (IsCodeOf x e c)
IsCodeOf-prop x e c a b = λ i. record { closed = truth-set (is_closed (patterns_around x c.around) e) true a.closed b.closed i; worth = λ s. evaluated-set (run (code_of c.code) (frame_around x c.around s) (scope_functions s)) (eval e s) (a.worth s) (b.worth s) i }

IsCodeOfFunction-prop : (x : Exprs) (g : Function) (c : OpenCode) → IsProp (IsCodeOfFunction x g c)
IsCodeOfFunction-prop x g c a b = λ i. record { closed = truth-set (is_closed_within (patterns_around x c.around) g) true a.closed b.closed i; worth = λ s d. evaluated-set (run (code_of c.code) (d ∷ frame_around x c.around s) (scope_functions s)) (apply g d s) (a.worth s d) (b.worth s d) i }

IsCodedChain-prop : (x : Exprs) (c : PlanChain) → IsProp (IsCodedChain x c)
IsCodedChain-prop x (chains.Lone f c) = IsCodeOfFunction-prop x (function_at x f) c.value
IsCodedChain-prop x (chains.Chained' a f b g) = λ k l i. (IsCodedChain-prop x f k.0 l.0 i, IsCodedChain-prop x g k.1 l.1 i)
IsCodedChain-prop x (chains.OnSide' d a f) = IsCodedChain-prop x f
IsCodedChain-prop x (chains.OnBoth' a f b g) = λ k l i. (IsCodedChain-prop x f k.0 l.0 i, IsCodedChain-prop x g k.1 l.1 i)
IsCodedChain-prop x (chains.Fanned' a f b g) = λ k l i. (IsCodedChain-prop x f k.0 l.0 i, IsCodedChain-prop x g k.1 l.1 i)

IsCodedPrimitive-prop : (x : Exprs) (q : PlanPrimitive) → IsProp (IsCodedPrimitive x q)
IsCodedPrimitive-prop x (primitives.Bare k) = Unit-prop
IsCodedPrimitive-prop x (primitives.Never n) = Unit-prop
IsCodedPrimitive-prop x (primitives.WithValue k e c) = IsCodeOf-prop x (expression x e) c
IsCodedPrimitive-prop x (primitives.Timed k q e c) = IsCodeOf-prop x (expression x e) c
IsCodedPrimitive-prop x (primitives.Selected k n) = Unit-prop
IsCodedPrimitive-prop x (primitives.Arrow f c) = IsCodeOfFunction-prop x (function_at x f) c.value
IsCodedPrimitive-prop x (primitives.Fused r) = IsCodedChain-prop x r.value
IsCodedPrimitive-prop x (primitives.Accumulated k e d f c) = λ a b i. (IsCodeOf-prop x (expression x e) d a.0 b.0 i, IsCodeOfFunction-prop x (function_at x f) c.value a.1 b.1 i)

IsCodedCollection-prop : (x : Exprs) (q : PlanCollection) → IsProp (IsCodedCollection x q)
IsCodedCollection-prop x (collections.Empty k t) = Unit-prop
IsCodedCollection-prop x (collections.Used k) = Unit-prop
IsCodedCollection-prop x (collections.Added' r q e c a) = λ k l i. (IsCodedCollection-prop x q k.0 l.0 i, IsCodeOf-prop x (expression x e) c k.1 l.1 i)
IsCodedCollection-prop x (collections.Dropped' r q e c) = λ k l i. (IsCodedCollection-prop x q k.0 l.0 i, IsCodeOf-prop x (expression x e) c k.1 l.1 i)
IsCodedCollection-prop x (collections.Kept' r q f c) = λ k l i. (IsCodedCollection-prop x q k.0 l.0 i, IsCodeOfFunction-prop x (function_at x f) c k.1 l.1 i)
IsCodedCollection-prop x (collections.Chosen' e c r q s o) = λ k l i. (IsCodeOf-prop x (expression x e) c k.0 l.0 i, IsCodedCollection-prop x q k.1 l.1 i, IsCodedCollection-prop x o k.2 l.2 i)

IsCodedArgument-prop : (x : Exprs) (v : PlanArgument) → IsProp (IsCodedArgument x v)
IsCodedArgument-prop x (arguments.Value e c) = IsCodeOf-prop x (expression x e) c
IsCodedArgument-prop x (arguments.Started w k) = Unit-prop
IsCodedArgument-prop x (arguments.Closed a) = Unit-prop
IsCodedArgument-prop x (arguments.Collected r) = IsCodedCollection-prop x r.value

pub IsCoded-prop : (x : Exprs) (n : PlanNode) → IsProp (IsCoded x n)
IsCoded-prop x (nodes.Primitive q) = IsCodedPrimitive-prop x q
IsCoded-prop x (nodes.Started w k) = Unit-prop
IsCoded-prop x (nodes.Probe r) = Unit-prop
IsCoded-prop x (nodes.Call k g v) = λ a b i n d h. IsCodedArgument-prop x (slice_index_or v.items n d) (a n d h) (b n d h) i
IsCoded-prop x (nodes.Joined j a b) = Unit-prop
IsCoded-prop x (nodes.Sided d a) = Unit-prop
IsCoded-prop x (nodes.Headed h e c a) = IsCodeOf-prop x (expression x e) c
IsCoded-prop x (nodes.Transformed f c a) = IsCodeOfFunction-prop x (function_at x f) c
IsCoded-prop x (nodes.Switching n) = Unit-prop
IsCoded-prop x (nodes.Continuation n) = Unit-prop
IsCoded-prop x (nodes.Gathered r) = IsCodedCollection-prop x r.value
IsCoded-prop x (nodes.Releasing s) = IsCodedCollection-prop x s.members.value
IsCoded-prop x (nodes.Editing s) = λ a b i. (IsCodedCollection-prop x s.members.value a.0 b.0 i, IsCodedCollection-prop x s.edit.value a.1 b.1 i)
IsCoded-prop x (nodes.Pipeline v) = Unit-prop

Holds-prop : (x : Exprs) (e : ExprId) → IsProp (Holds x e)
unfolding Holds
Holds-prop x e = le_prop

HoldsFunction-prop : (x : Exprs) (f : FunctionId) → IsProp (HoldsFunction x f)
unfolding HoldsFunction
HoldsFunction-prop x f = le_prop

HoldsChain-prop : (x : Exprs) (c : PlanChain) → IsProp (HoldsChain x c)
HoldsChain-prop x (chains.Lone f c) = HoldsFunction-prop x f
HoldsChain-prop x (chains.Chained' a f b g) = λ k l i. (HoldsChain-prop x f k.0 l.0 i, HoldsChain-prop x g k.1 l.1 i)
HoldsChain-prop x (chains.OnSide' d a f) = HoldsChain-prop x f
HoldsChain-prop x (chains.OnBoth' a f b g) = λ k l i. (HoldsChain-prop x f k.0 l.0 i, HoldsChain-prop x g k.1 l.1 i)
HoldsChain-prop x (chains.Fanned' a f b g) = λ k l i. (HoldsChain-prop x f k.0 l.0 i, HoldsChain-prop x g k.1 l.1 i)

HoldsPlanned-prop : (x : Exprs) (q : PlanPrimitive) → IsProp (HoldsPlanned x q)
HoldsPlanned-prop x (primitives.Bare k) = Unit-prop
HoldsPlanned-prop x (primitives.Never n) = Unit-prop
HoldsPlanned-prop x (primitives.WithValue k e c) = Holds-prop x e
HoldsPlanned-prop x (primitives.Timed k q e c) = Holds-prop x e
HoldsPlanned-prop x (primitives.Selected k n) = Unit-prop
HoldsPlanned-prop x (primitives.Arrow f c) = HoldsFunction-prop x f
HoldsPlanned-prop x (primitives.Fused r) = HoldsChain-prop x r.value
HoldsPlanned-prop x (primitives.Accumulated k e d f c) = λ a b i. (Holds-prop x e a.0 b.0 i, HoldsFunction-prop x f a.1 b.1 i)

pub HoldsBeside-prop : (x : Exprs) (n : PlanNode) → IsProp (HoldsBeside x n)
HoldsBeside-prop x (nodes.Primitive q) = HoldsPlanned-prop x q
HoldsBeside-prop x (nodes.Started w k) = Unit-prop
HoldsBeside-prop x (nodes.Probe r) = Unit-prop
HoldsBeside-prop x (nodes.Call k g v) = Unit-prop
HoldsBeside-prop x (nodes.Joined j a b) = Unit-prop
HoldsBeside-prop x (nodes.Sided d a) = Unit-prop
HoldsBeside-prop x (nodes.Headed h e c a) = Holds-prop x e
HoldsBeside-prop x (nodes.Transformed f c a) = HoldsFunction-prop x f
HoldsBeside-prop x (nodes.Switching n) = Unit-prop
HoldsBeside-prop x (nodes.Continuation n) = Unit-prop
HoldsBeside-prop x (nodes.Gathered r) = Unit-prop
HoldsBeside-prop x (nodes.Releasing s) = Unit-prop
HoldsBeside-prop x (nodes.Editing s) = Unit-prop
HoldsBeside-prop x (nodes.Pipeline v) = Unit-prop

pub TellsName-prop : (m : ℕ) (x : Name) (s : NumberedPattern) (p : Pattern) → IsProp (TellsName m x s p)
TellsName-prop m x Unnamed unnamed = Unit-prop
TellsName-prop m x Unnamed (named y) = λ a. absurd a
TellsName-prop m x Unnamed (both p q) = λ a. absurd a
TellsName-prop m x (Numbered k) unnamed = λ a. absurd a
TellsName-prop m x (Numbered k) (named y) = truth-set (nat_eq m k) (bytes_eq x y)
TellsName-prop m x (Numbered k) (both p q) = λ a. absurd a
TellsName-prop m x (Both' a s b t) unnamed = λ a. absurd a
TellsName-prop m x (Both' a s b t) (named y) = λ a. absurd a
TellsName-prop m x (Both' a s b t) (both p q) = λ k l i. (TellsName-prop m x s p k.0 l.0 i, TellsName-prop m x t q k.1 l.1 i)

place-set : (a b : Option ℕ) → IsProp (a ≡ b)
place-set = Coded-set (Prim.hlevel codes)

pub ArePlaces-prop : (x : Exprs) (n : Numbers) (hs : List PlanHeader) (ps : List (BTreeMap ℕ ℕ)) → IsProp (ArePlaces x n hs ps)
ArePlaces-prop x n [] [] = Unit-prop
ArePlaces-prop x n [] (p ∷ ps) = λ a. absurd a
ArePlaces-prop x n (h ∷ hs) [] = λ a. absurd a
ArePlaces-prop x n (h ∷ hs) (p ∷ ps) = λ a b i. ((λ k. place-set (get nat_cmp p (number_at n k)) (last_parameter (name_at x k) (names_of_parameters x h.parameters)) (a.0 k) (b.0 k) i), ArePlaces-prop x n hs ps a.1 b.1 i)

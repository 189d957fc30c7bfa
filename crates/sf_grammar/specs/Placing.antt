-- Where what was read from a text stands: a form at its first token, and a name at its own.
use Rattle.std.specs.Prelude.{◌≡◌, ℕ, true, false, List, [], ◌∷◌, ◌++◌, length, map, ℤ}
use Rattle.sf_value.specs.Values.{Name}
use Rattle.sf_refusal.specs.declared.spot.Spot.{Spot}
use Rattle.sf_operator.specs.declared.operator.Unary.{Unary}
use Rattle.sf_operator.specs.declared.operator.Operator.{Operator}
use Rattle.sf_operator.specs.declared.operator.Mapping.TheVariants as mappings
use Rattle.sf_expr.specs.declared.exprs.ExprId.{ExprId}
use Rattle.sf_expr.specs.declared.exprs.NameId.{NameId}
use Rattle.sf_expr.specs.declared.exprs.ConstantId.{ConstantId}
use Rattle.sf_expr.specs.declared.exprs.FunctionId.{FunctionId}
use Rattle.sf_expr.specs.declared.exprs.PatternId.{PatternId}
use Rattle.sf_expr.specs.declared.exprs.Mapped.{Mapped}
use Rattle.sf_expr.specs.declared.exprs.Folded.{Folded}
use Rattle.sf_expr.specs.declared.exprs.ExprNode.{ExprNode}
use Rattle.sf_expr.specs.declared.exprs.ExprNode.TheVariants as expressions
use Rattle.sf_expr.specs.Patterns.{PlacedPattern, placed_unnamed, placed_name, placed_both}
use Rattle.sf_term.specs.declared.form.Bare.{Bare}
use Rattle.sf_term.specs.declared.form.WithValue.{WithValue}
use Rattle.sf_term.specs.declared.form.Timing.{Timing}
use Rattle.sf_term.specs.declared.form.Selection.{Selection}
use Rattle.sf_term.specs.declared.form.Accumulation.{Accumulation}
use Rattle.sf_term.specs.declared.form.Join.{Join}
use Rattle.sf_term.specs.declared.form.Side.{Side}
use Rattle.sf_term.specs.declared.form.Heading.{Heading}
use Rattle.sf_term.specs.declared.form.Naming.{Naming}
use Rattle.sf_term.specs.declared.node.TermId.{TermId}
use Rattle.sf_term.specs.declared.node.ArgumentsId.{ArgumentsId}
use Rattle.sf_term.specs.declared.node.Argument.{Argument}
use Rattle.sf_term.specs.declared.node.Argument.TheVariants as arguments
use Rattle.sf_term.specs.declared.node.Primitive.TheVariants as primitives
use Rattle.sf_value.specs.Values.{Kind}
use Rattle.sf_value.specs.declared.ty.KeyType.{KeyType}
use Rattle.sf_value.specs.KindView.{key_kind_of}
use Rattle.sf_term.specs.Trees.{without_members}
use Rattle.sf_term.specs.declared.collection.CollectionId.{CollectionId}
use Rattle.sf_term.specs.declared.collection.CollExpr.{CollExpr}
use Rattle.sf_term.specs.declared.collection.CollExpr.TheVariants as collections
use Rattle.sf_term.specs.declared.node.Switch.{Switch}
use Rattle.sf_term.specs.declared.node.Continuation.{Continuation}
use Rattle.sf_term.specs.declared.node.Releasing.{Releasing}
use Rattle.sf_term.specs.declared.node.Editing.{Editing}
use Rattle.sf_term.specs.declared.node.Node.{Node}
use Rattle.sf_term.specs.declared.node.Node.TheVariants as nodes
use Rattle.sf_term.specs.declared.program.Program.{Program}
use Rattle.sf_term.specs.Parameters.{PlacedParameter, binding_of}
use Rattle.sf_term.specs.Headers.{Header}
use Rattle.sf_term.specs.Arena.{HoldsCollection, collection_node, HoldsTerm, HoldsExpression, ProgramHoldsPattern, ProgramHoldsFunction, term_node_at, term_spot_at, program_expression, expression_node_at, expression_spot_at, function_pattern_at, function_body_at, placed_pattern, argument_nodes, headers_of, term_template, templates_of, tree}
use Rattle.sf_lex.specs.Tokens.{Located, offset_place}
use Rattle.sf_grammar.specs.declared.ty.Version.{Version}
use Rattle.sf_grammar.specs.Spelling.{stands_initially, takes_brackets, stands_between, maps_in_brackets, spell_expression, spell_parameter, spell_signature, IsNetworkText, spell_term, spell_collection}

-- the places of two parts in brackets, with a token between them
abbrev pub around : Spot → List Spot → Spot → List Spot → Spot → List Spot
around opening one between two closing = opening ∷ (one ++ (between ∷ (two ++ (closing ∷ []))))

-- a pattern whose tokens have these places
pub data PatternPlaced : PlacedPattern → List Spot → Type 0 where
  unnamed_placed : {at : Spot} → PatternPlaced placed_unnamed (at ∷ [])
  name_placed : {x : Name} {at : Spot} → PatternPlaced (placed_name x (at)) (at ∷ [])
  both_placed : {p q : PlacedPattern} {xs ys : List Spot} (opening comma closing : Spot) → PatternPlaced p xs → PatternPlaced q ys → PatternPlaced (placed_both p q) (around opening xs comma ys closing)

-- a program holds an expression of this node under an id, and it stands where this token does
pub record ExpressionStands (p : Program) (id : ExprId) (n : ExprNode) (at : Spot) : Type 0 where
  pub held : HoldsExpression p id
  pub node : expression_node_at p id ≡ n
  pub spot : expression_spot_at p id ≡ at

-- a program holds a pattern under an id, whose tokens have these places
pub record PatternStands (p : Program) (q : PatternId) (places : List Spot) : Type 0 where
  pub held : ProgramHoldsPattern p q
  pub placed : PatternPlaced (placed_pattern p q) places

-- the expression at an id, whose tokens have these places in a text of the version
pub data ExpressionPlaced (v : Version) (p : Program) : ExprId → List Spot → Type 0 where
  number_placed : {id : ExprId} {z : _} {at : Spot} → ExpressionStands p id (expressions.Int z) at → ExpressionPlaced v p id (at ∷ [])
  unit_placed : {id : ExprId} {opening : Spot} (closing : Spot) → ExpressionStands p id expressions.Unit opening → ExpressionPlaced v p id (opening ∷ closing ∷ [])
  truth_placed : {id : ExprId} {b : _} {at : Spot} → ExpressionStands p id (expressions.Truth b) at → ExpressionPlaced v p id (at ∷ [])
  constant_placed : {id : ExprId} {n : ConstantId} {xs : List Spot} {at : Spot} → ExpressionStands p id (expressions.Constant n) at
      → length (at ∷ xs) ≡ length (spell_expression v (program_expression p id)) → ExpressionPlaced v p id (at ∷ xs)
  variable_placed : {id : ExprId} {n : NameId} {at : Spot} → ExpressionStands p id (expressions.Name n) at → ExpressionPlaced v p id (at ∷ [])
  pair_placed : {id a b : ExprId} {xs ys : List Spot} {opening : Spot} (comma closing : Spot) → ExpressionStands p id (expressions.Pair a b) opening
      → ExpressionPlaced v p a xs → ExpressionPlaced v p b ys → ExpressionPlaced v p id (around opening xs comma ys closing)
  prefixed_placed : {id a : ExprId} {o : Unary} {xs : List Spot} {at : Spot} → takes_brackets o ≡ false → ExpressionStands p id (expressions.Applied o a) at
      → ExpressionPlaced v p a xs → ExpressionPlaced v p id (at ∷ xs)
  one_in_brackets_placed : {id a : ExprId} {o : Unary} {xs : List Spot} {at : Spot} (opening closing : Spot) → takes_brackets o ≡ true → ExpressionStands p id (expressions.Applied o a) at
      → ExpressionPlaced v p a xs → ExpressionPlaced v p id (at ∷ opening ∷ (xs ++ (closing ∷ [])))
  operation_placed : {id a b : ExprId} {o : Operator} {xs ys : List Spot} {opening : Spot} (operator closing : Spot) → stands_between o ≡ true → ExpressionStands p id (expressions.Operation a o b) opening
      → ExpressionPlaced v p a xs → ExpressionPlaced v p b ys → ExpressionPlaced v p id (around opening xs operator ys closing)
  two_in_brackets_placed : {id a b : ExprId} {o : Operator} {xs ys : List Spot} {at : Spot} (opening comma closing : Spot) → stands_between o ≡ false → ExpressionStands p id (expressions.Operation a o b) at
      → ExpressionPlaced v p a xs → ExpressionPlaced v p b ys → ExpressionPlaced v p id (at ∷ around opening xs comma ys closing)
  conditional_placed : {id a b c : ExprId} {xs ys zs : List Spot} {at : Spot} (then_at else_at : Spot) → ExpressionStands p id (expressions.Conditional a b c) at
      → ExpressionPlaced v p a xs → ExpressionPlaced v p b ys → ExpressionPlaced v p c zs → ExpressionPlaced v p id (at ∷ (xs ++ (then_at ∷ (ys ++ (else_at ∷ zs)))))
  let_placed : {id a b : ExprId} {q : PatternId} {ps xs ys : List Spot} {at : Spot} (equals in_at : Spot) → ExpressionStands p id (expressions.Mapped (record { part = a; mapping = mappings.Let; pattern = q; body = b })) at
      → PatternStands p q ps → ExpressionPlaced v p a xs → ExpressionPlaced v p b ys → ExpressionPlaced v p id (at ∷ (ps ++ (equals ∷ (xs ++ (in_at ∷ ys)))))
  one_and_function_placed : {id : ExprId} {n : Mapped} {xs ps ys : List Spot} {at : Spot} (opening comma leads closing : Spot) → maps_in_brackets n.mapping ≡ true → ExpressionStands p id (expressions.Mapped n) at
      → ExpressionPlaced v p n.part xs → PatternStands p n.pattern ps → ExpressionPlaced v p n.body ys → ExpressionPlaced v p id (at ∷ around opening xs comma (ps ++ (leads ∷ ys)) closing)
  two_and_function_placed : {id : ExprId} {n : Folded} {xs ys ps zs : List Spot} {at : Spot} (opening comma second leads closing : Spot) → ExpressionStands p id (expressions.Folded n) at
      → ExpressionPlaced v p n.first xs → ExpressionPlaced v p n.second ys → PatternStands p n.pattern ps → ExpressionPlaced v p n.body zs → ExpressionPlaced v p id (at ∷ around opening xs comma (ys ++ (second ∷ (ps ++ (leads ∷ zs)))) closing)
  called_placed : {id a : ExprId} {g : NameId} {xs : List Spot} {at place : Spot} (opening closing : Spot) → ExpressionStands p id (expressions.Called g place a) at
      → ExpressionPlaced v p a xs → ExpressionPlaced v p id (at ∷ place ∷ opening ∷ (xs ++ (closing ∷ [])))

-- the function at an id, whose tokens have these places
pub data FunctionPlaced (v : Version) (p : Program) : FunctionId → List Spot → Type 0 where
  function_placed : {f : FunctionId} {xs ys : List Spot} (leads : Spot) → ProgramHoldsFunction p f → PatternPlaced (function_pattern_at p f) xs → ExpressionPlaced v p (function_body_at p f) ys
      → FunctionPlaced v p f (xs ++ (leads ∷ ys))

-- a program holds a term of this node under an id, and it stands where this token does
pub record TermStands (p : Program) (id : TermId) (n : Node) (at : Spot) : Type 0 where
  pub held : HoldsTerm p id
  pub node : term_node_at p id ≡ n
  pub spot : term_spot_at p id ≡ at

mutual
  -- the term at an id, whose tokens have these places
  pub data TermPlaced (v : Version) (p : Program) : TermId → List Spot → Type 0 where
    bare_placed : {id : TermId} {k : Bare} {at : Spot} → TermStands p id (nodes.Primitive (primitives.Bare k)) at → TermPlaced v p id (at ∷ [])
    never_placed : {id : TermId} {n : ConstantId} {xs : List Spot} {at : Spot} → TermStands p id (nodes.Primitive (primitives.Never n)) at
        → length (at ∷ xs) ≡ length (spell_term v (tree p id)) → TermPlaced v p id (at ∷ xs)
    with_value_placed : {id : TermId} {k : WithValue} {e : ExprId} {xs : List Spot} {at : Spot} → stands_initially k ≡ false → TermStands p id (nodes.Primitive (primitives.WithValue k e)) at
        → ExpressionPlaced v p e xs → TermPlaced v p id (at ∷ xs)
    initialized_placed : {id : TermId} {k : WithValue} {e : ExprId} {xs : List Spot} {at : Spot} (opening comma word closing : Spot) → stands_initially k ≡ true → TermStands p id (nodes.Primitive (primitives.WithValue k e)) at
        → ExpressionPlaced v p e xs → TermPlaced v p id (at ∷ around opening xs comma (word ∷ []) closing)
    timed_placed : {id : TermId} {k : Timing} {q : ℤ} {e : ExprId} {xs : List Spot} {at : Spot} (time : Spot) → TermStands p id (nodes.Primitive (primitives.Timed k q e)) at
        → ExpressionPlaced v p e xs → TermPlaced v p id (at ∷ time ∷ xs)
    selected_placed : {id : TermId} {k : Selection} {n : ℤ} {at : Spot} (number : Spot) → TermStands p id (nodes.Primitive (primitives.Selected k n)) at → TermPlaced v p id (at ∷ number ∷ [])
    arrow_placed : {id : TermId} {f : FunctionId} {xs : List Spot} {at : Spot} → TermStands p id (nodes.Primitive (primitives.Arrow f)) at
        → FunctionPlaced v p f xs → TermPlaced v p id (at ∷ xs)
    accumulated_placed : {id : TermId} {k : Accumulation} {e : ExprId} {f : FunctionId} {xs ys : List Spot} {at : Spot} (opening comma closing : Spot) → TermStands p id (nodes.Primitive (primitives.Accumulated k e f)) at
        → ExpressionPlaced v p e xs → FunctionPlaced v p f ys → TermPlaced v p id (at ∷ around opening xs comma ys closing)
    joined_placed : {id a b : TermId} {j : Join} {xs ys : List Spot} {opening : Spot} (between closing : Spot) → TermStands p id (nodes.Joined j a b) opening
        → TermPlaced v p a xs → TermPlaced v p b ys → TermPlaced v p id (around opening xs between ys closing)
    sided_placed : {id a : TermId} {s : Side} {xs : List Spot} {at : Spot} → TermStands p id (nodes.Sided s a) at
        → TermPlaced v p a xs → TermPlaced v p id (at ∷ xs)
    headed_placed : {id a : TermId} {e : ExprId} {h : Heading} {xs ys : List Spot} {at : Spot} (opening comma closing : Spot) → TermStands p id (nodes.Headed h e a) at
        → ExpressionPlaced v p e xs → TermPlaced v p a ys → TermPlaced v p id (at ∷ around opening xs comma ys closing)
    transformed_placed : {id a : TermId} {f : FunctionId} {xs ys : List Spot} {at : Spot} (opening comma closing : Spot) → TermStands p id (nodes.Transformed f a) at
        → FunctionPlaced v p f xs → TermPlaced v p a ys → TermPlaced v p id (at ∷ around opening xs comma ys closing)
    switching_placed : {id : TermId} {n : Switch} {xs ps ys : List Spot} {at : Spot} (opening comma leads closing : Spot) → TermStands p id (nodes.Switching n) at
        → TermPlaced v p n.source xs → PatternStands p n.pattern ps → TermPlaced v p n.body ys → TermPlaced v p id (at ∷ around opening xs comma (ps ++ (leads ∷ ys)) closing)
    named_placed : {id : TermId} {w : Naming} {k : NameId} {at place : Spot} → TermStands p id (nodes.Named w k place) at → TermPlaced v p id (at ∷ place ∷ [])
    continuing_placed : {id : TermId} {n : Continuation} {xs ys ps zs : List Spot} {at : Spot} (opening comma second third leads closing : Spot) → TermStands p id (nodes.Continuation n) at
        → TermPlaced v p n.source xs → TermPlaced v p n.observer ys → PatternStands p n.pattern ps → TermPlaced v p n.body zs → TermPlaced v p id (at ∷ around opening xs comma (ys ++ (second ∷ n.place ∷ third ∷ (ps ++ (leads ∷ zs)))) closing)
    gathered_placed : {id : TermId} {i : CollectionId} {xs : List Spot} {at : Spot} → TermStands p id (nodes.Gathered i) at
        → HoldsCollection p i → CollectionPlaced v p (collection_node p i) xs → TermPlaced v p id (at ∷ xs)
    releasing_placed : {id : TermId} {n : Releasing} {xs ys ps zs : List Spot} {at : Spot} (opening comma second third leads closing : Spot) → TermStands p id (nodes.Releasing n) at
        → HoldsCollection p n.members → CollectionPlaced v p (collection_node p n.members) xs → TermPlaced v p n.observer ys → PatternStands p n.pattern ps → TermPlaced v p n.body zs
        → TermPlaced v p id (at ∷ around opening xs comma (ys ++ (second ∷ n.place ∷ third ∷ (ps ++ (leads ∷ zs)))) closing)
    editing_placed : {id : TermId} {n : Editing} {xs ps ys : List Spot} {at : Spot} (opening comma second leads closing : Spot) → TermStands p id (nodes.Editing n) at
        → HoldsCollection p n.members → CollectionPlaced v p (collection_node p n.members) xs → PatternStands p n.pattern ps → HoldsCollection p n.edit → CollectionPlaced v p (collection_node p n.edit) ys
        → TermPlaced v p id (at ∷ around opening xs comma (n.place ∷ second ∷ (ps ++ (leads ∷ ys))) closing)
    call_placed : {id : TermId} {g : NameId} {a : ArgumentsId} {xs : List Spot} {at : Spot} (opening : Spot) → TermStands p id (nodes.Call g a) at
        → ArgumentsPlaced v p (argument_nodes p a) xs → TermPlaced v p id (at ∷ opening ∷ xs)

  -- a collection whose tokens have these places: each of its forms stands at its first token
  pub data CollectionPlaced (v : Version) (p : Program) : CollExpr → List Spot → Type 0 where
    empty_placed : {k : KeyType} {t : Kind} {xs : List Spot} {at : Spot} → length (at ∷ xs) ≡ length (spell_collection v (without_members (key_kind_of k) t)) → CollectionPlaced v p (collections.Empty k t at) (at ∷ xs)
    used_placed : {k : NameId} {at place : Spot} → CollectionPlaced v p (collections.Used k place at) (at ∷ place ∷ [])
    added_placed : {a : _} {c : CollExpr} {e : ExprId} {t : TermId} {xs ys zs : List Spot} {at : Spot} (opening comma second closing : Spot)
        → CollectionPlaced v p c xs → ExpressionPlaced v p e ys → TermPlaced v p t zs → CollectionPlaced v p (collections.Added' a c e t at) (at ∷ around opening xs comma (ys ++ (second ∷ zs)) closing)
    dropped_placed : {a : _} {c : CollExpr} {e : ExprId} {xs ys : List Spot} {at : Spot} (opening comma closing : Spot)
        → CollectionPlaced v p c xs → ExpressionPlaced v p e ys → CollectionPlaced v p (collections.Dropped' a c e at) (at ∷ around opening xs comma ys closing)
    kept_placed : {a : _} {c : CollExpr} {f : FunctionId} {xs ys : List Spot} {at : Spot} (opening comma closing : Spot)
        → CollectionPlaced v p c xs → FunctionPlaced v p f ys → CollectionPlaced v p (collections.Kept' a c f at) (at ∷ around opening xs comma ys closing)
    chosen_placed : {a b : _} {e : ExprId} {c d : CollExpr} {xs ys zs : List Spot} {at : Spot} (then_at else_at : Spot)
        → ExpressionPlaced v p e xs → CollectionPlaced v p c ys → CollectionPlaced v p d zs → CollectionPlaced v p (collections.Chosen' e a c b d at) (at ∷ (xs ++ (then_at ∷ (ys ++ (else_at ∷ zs)))))

  -- the arguments of a call and the closing bracket, whose tokens have these places
  pub data ArgumentsPlaced (v : Version) (p : Program) : List Argument → List Spot → Type 0 where
    no_arguments_placed : (closing : Spot) → ArgumentsPlaced v p [] (closing ∷ [])
    some_arguments_placed : {a : Argument} {bs : List Argument} {xs : List Spot} → EachArgumentPlaced v p (a ∷ bs) xs → ArgumentsPlaced v p (a ∷ bs) xs

  -- arguments, each with a token behind it: a comma, or behind the last one the closing bracket
  pub data EachArgumentPlaced (v : Version) (p : Program) : List Argument → List Spot → Type 0 where
    no_argument_placed : EachArgumentPlaced v p [] []
    argument_placed : {a : Argument} {bs : List Argument} {xs ys : List Spot} (separator : Spot) → ArgumentPlaced v p a xs → EachArgumentPlaced v p bs ys → EachArgumentPlaced v p (a ∷ bs) (xs ++ (separator ∷ ys))

  -- an argument, whose tokens have these places
  pub data ArgumentPlaced (v : Version) (p : Program) : Argument → List Spot → Type 0 where
    value_argument_placed : {e : ExprId} {xs : List Spot} → ExpressionPlaced v p e xs → ArgumentPlaced v p (arguments.Value e) xs
    process_argument_placed : {t : TermId} {xs : List Spot} (word : Spot) → TermPlaced v p t xs → ArgumentPlaced v p (arguments.Process t) (word ∷ xs)
    collection_argument_placed : {i : CollectionId} {xs : List Spot} (word : Spot) → HoldsCollection p i → CollectionPlaced v p (collection_node p i) xs → ArgumentPlaced v p (arguments.Collection i) (word ∷ xs)

-- a parameter whose tokens have these places: its name stands at the first
pub record ParameterPlaced (v : Version) (q : PlacedParameter) (places : List Spot) : Type 0 where
  pub behind : List Spot
  pub split : places ≡ q.spot ∷ behind
  pub counted : length places ≡ length (spell_parameter v (binding_of q))

-- parameters, each with a token behind it: a comma, or behind the last one the closing bracket
pub data EachParameterPlaced (v : Version) : List PlacedParameter → List Spot → Type 0 where
  no_parameter_placed : EachParameterPlaced v [] []
  parameter_placed : {q : PlacedParameter} {qs : List PlacedParameter} {xs ys : List Spot} (separator : Spot) → ParameterPlaced v q xs → EachParameterPlaced v qs ys → EachParameterPlaced v (q ∷ qs) (xs ++ (separator ∷ ys))

-- the parameters of a template and the closing bracket, whose tokens have these places
pub data ParametersPlaced (v : Version) : List PlacedParameter → List Spot → Type 0 where
  no_parameters_placed : (closing : Spot) → ParametersPlaced v [] (closing ∷ [])
  some_parameters_placed : {q : PlacedParameter} {qs : List PlacedParameter} {xs : List Spot} → EachParameterPlaced v (q ∷ qs) xs → ParametersPlaced v (q ∷ qs) xs

-- a template whose tokens have these places, in a text of the version: its name stands at the second, its parameters behind the bracket, and its body behind as many as spell its types
pub record TemplatePlaced (v : Version) (p : Program) (h : Header) (places : List Spot) : Type 0 where
  pub word : Spot
  pub opening : Spot
  pub listed : List Spot
  pub signature : List Spot
  pub body : List Spot
  pub end : Spot
  pub split : places ≡ word ∷ h.spot ∷ opening ∷ (listed ++ (signature ++ (body ++ (end ∷ []))))
  pub parameters : ParametersPlaced v h.parameters listed
  pub typed : length signature ≡ length (spell_signature v (term_template p h))
  pub placed : TermPlaced v p h.body body

-- templates one behind the other, whose tokens have these places
pub data TemplatesPlaced (v : Version) (p : Program) : List Header → List Spot → Type 0 where
  none_placed : TemplatesPlaced v p [] []
  template_placed : {h : Header} {hs : List Header} {xs ys : List Spot} → TemplatePlaced v p h xs → TemplatesPlaced v p hs ys → TemplatesPlaced v p (h ∷ hs) (xs ++ ys)

-- a network whose tokens have these places, of which three stand in front of its templates
pub record NetworkPlaced (v : Version) (p : Program) (places : List Spot) : Type 0 where
  pub word : Spot
  pub version : Spot
  pub semicolon : Spot
  pub behind : List Spot
  pub split : places ≡ word ∷ version ∷ semicolon ∷ behind
  pub templates : TemplatesPlaced v p (headers_of p) behind

-- all forms and names of a program stand where its tokens do in the bytes
pub record IsPlacedIn (bytes : List ℕ) (p : Program) : Type 0 where
  pub text : IsNetworkText bytes (templates_of p)
  pub placed : NetworkPlaced text.version p (map (λ (l : Located). offset_place bytes l.offset) text.located)

-- Terms and templates stay where they stand, and stand at their first token.
use Rattle.std.proofs.Common.{◌≡◌, ◌≢◌, ℕ, suc, false, List, [], ◌∷◌, ◌++◌, length, map, Result, Ok, Err, refl, sym, ◌∙◌, ap, append_assoc, subst, ℤ}
use Rattle.std.specs.Prelude.{IfOk, Vec}
use Rattle.std.specs.declared.alloc.Global.{Global}
use Rattle.std.specs.declared.rc.Rc.{Rc}
use Rattle.sf_text.specs.declared.parts.stop.Stop.{Stop}
use mathlib.Core.Path.{ap₂}
use Rattle.std.proofs.lemmas.List.{append-nil}
use Rattle.sf_refusal.specs.declared.spot.Spot.{Spot}
use Rattle.sf_expr.specs.declared.exprs.ConstantId.{ConstantId}
use Rattle.sf_expr.specs.declared.exprs.ExprId.{ExprId}
use Rattle.sf_expr.specs.declared.exprs.FunctionId.{FunctionId}
use Rattle.sf_expr.specs.declared.exprs.NameId.{NameId}
use Rattle.sf_expr.specs.declared.exprs.PatternId.{PatternId}
use Rattle.sf_expr.specs.Patterns.{PlacedPattern}
use Rattle.sf_term.specs.declared.form.Bare.{Bare}
use Rattle.sf_term.specs.declared.form.Bare.TheVariants as bares
use Rattle.sf_term.specs.declared.form.WithValue.{WithValue}
use Rattle.sf_term.specs.declared.form.WithValue.TheVariants as values
use Rattle.sf_term.specs.declared.form.Timing.{Timing}
use Rattle.sf_term.specs.declared.form.Selection.{Selection}
use Rattle.sf_term.specs.declared.form.Accumulation.{Accumulation}
use Rattle.sf_term.specs.declared.form.Join.{Join}
use Rattle.sf_term.specs.declared.form.Side.{Side}
use Rattle.sf_term.specs.declared.form.Heading.{Heading}
use Rattle.sf_term.specs.declared.form.Heading.TheVariants as headings
use Rattle.sf_term.specs.declared.form.Observation.{Observation}
use Rattle.sf_term.specs.declared.form.Switching.{Switching}
use Rattle.sf_term.specs.declared.form.Naming.{Naming}
use Rattle.sf_term.specs.declared.form.Naming.TheVariants as namings
use Rattle.sf_term.specs.declared.collection.CollectionId.{CollectionId}
use Rattle.sf_term.specs.declared.collection.CollExpr.{CollExpr}
use Rattle.sf_term.specs.declared.collection.CollExpr.TheVariants as collections
use Rattle.sf_term.specs.declared.node.TermId.{TermId}
use Rattle.sf_term.specs.declared.node.ArgumentsId.{ArgumentsId}
use Rattle.sf_term.specs.declared.node.Argument.{Argument}
use Rattle.sf_term.specs.declared.node.Argument.TheVariants as arguments
use Rattle.sf_term.specs.Parameters.{PlacedParameter, binding_of}
use Rattle.sf_term.specs.declared.node.Primitive.{Primitive}
use Rattle.sf_term.specs.declared.node.Primitive.TheVariants as primitives
use Rattle.sf_term.specs.declared.node.Node.{Node}
use Rattle.sf_term.specs.declared.node.Node.TheVariants as nodes
use Rattle.sf_term.specs.declared.program.Program.{Program}
use Rattle.sf_term.specs.Trees.{Term, headed, primitive, never}
use Rattle.sf_term.specs.Headers.{Header}
use Rattle.sf_term.specs.Arena.{ExtendsTrees, ExtendsProgram, HoldsCollection, collection_node, AddsCollection, AddsUsed, HoldsTerm, HoldsTermParts, ProgramHoldsPattern, HoldsArguments, tree, term_of, program_entry, term_node_at, program_expression, placed_pattern, argument_nodes, AddsTerm, AddsTemplate, term_template}
use Rattle.sf_term.proofs.Extended.{keeps_trees_trans, unchanged_keeps, node_builds, parts_held}
use Rattle.sf_value.specs.Values.{Name, Kind}
use Rattle.sf_value.specs.KindView.{key_kind_of}
use Rattle.sf_value.specs.declared.ty.KeyType.{KeyType}
use Rattle.sf_lex.specs.Tokens.{Tok, Located, seen, shown, offset_place, symbol}
use Rattle.sf_lex.specs.Cutting.{AreTokensOf}
use Rattle.sf_lex.specs.declared.symbol.Symbol.TheVariants as symbols
use Rattle.sf_grammar.specs.declared.ty.Version.{Version}
use Rattle.sf_grammar.specs.Spelling.{stands_initially, head_makes, spell_keys, spell_type, spell_parameter, spell_signature, spell_term}
use Rattle.sf_grammar.specs.Reading.{got, parse_keys, parse_inner_type, parse_parameter, parse_signature}
use Rattle.sf_text.specs.Parsing.Answers.{toks}
use Rattle.sf_grammar.proofs.Parts.{TookKeys, keys_takes}
use Rattle.sf_grammar.proofs.Takes.{TookType, inner_type_takes, parameter_takes, TookSignature, signature_takes}
use Rattle.sf_lex.specs.declared.token.PlacedToken.{PlacedToken}
use Rattle.sf_grammar.specs.Placing.{around, PatternPlaced, ExpressionPlaced, FunctionPlaced, TermStands, TermPlaced, bare_placed, never_placed, with_value_placed, initialized_placed, timed_placed, selected_placed, arrow_placed, accumulated_placed, joined_placed, sided_placed, headed_placed, transformed_placed, switching_placed, named_placed, continuing_placed, gathered_placed, releasing_placed, editing_placed, CollectionPlaced, empty_placed, used_placed, added_placed, dropped_placed, kept_placed, chosen_placed, call_placed, ArgumentsPlaced, no_arguments_placed, some_arguments_placed, EachArgumentPlaced, no_argument_placed, argument_placed, ArgumentPlaced, value_argument_placed, process_argument_placed, collection_argument_placed, ParameterPlaced, EachParameterPlaced, ParametersPlaced, no_parameters_placed, some_parameters_placed, TemplatePlaced, TemplatesPlaced, none_placed, template_placed, NetworkPlaced, IsPlacedIn}
use Rattle.sf_text.specs.Progress.{IsSpelled}
use Rattle.sf_text.proofs.Whole.{toks_same}
use Rattle.sf_text.specs.Parsing.Consuming.{places, BehindOne, BehindSome, NamePlaced, Consumes, Parted}
use Rattle.sf_text.specs.Consuming.{MembersPlaced, headed_node, HeadingPlaced, PlacesTemplate}
use Rattle.sf_text.proofs.Parsing.Placed.{some_more, pattern_stays, expression_keeps, function_keeps, behind_first, in_brackets_read, behind_opening, parted, pattern_stands, front_counted}

term_stays : (old new : Program) → ExtendsTrees old new → (id : TermId) (n : Node) (at : Spot) → TermStands old id n at → TermStands new id n at
term_stays old new k id n at s = record { held = k.terms id s.held; node = k.nodes id s.held ∙ s.node; spot = k.spots id s.held ∙ s.spot }

-- the arguments of a call are held
arguments_held : (p : Program) (id : TermId) (g : NameId) (a : ArgumentsId) → HoldsTerm p id → term_node_at p id ≡ nodes.Call g a → HoldsArguments p a
unfolding term_node_at program_entry
arguments_held p id g a held is = let parts : HoldsTermParts p (nodes.Call g a) = subst (HoldsTermParts p) is (parts_held p id) in parts.1

-- the collection at an id, which is there as it was
members_at : (v : Version) (old new : Program) → ExtendsTrees old new → (i : CollectionId) (xs : List Spot) → HoldsCollection old i → CollectionPlaced v new (collection_node old i) xs → CollectionPlaced v new (collection_node new i) xs
members_at v old new k i xs held placed = subst (λ (c : CollExpr). CollectionPlaced v new c xs) (sym (k.collections i held)) placed

mutual
  pub term_keeps : (v : Version) (old new : Program) → ExtendsTrees old new → (id : TermId) (xs : List Spot) → TermPlaced v old id xs → TermPlaced v new id xs
  term_keeps v old new k id xs (bare_placed s) = bare_placed (term_stays old new k _ _ _ s)
  term_keeps v old new k id xs (never_placed s counted) =
      never_placed (term_stays old new k _ _ _ s) (counted ∙ ap (λ (t : Term). length (spell_term v t)) (sym (k.trees id s.held)))
  term_keeps v old new k id xs (with_value_placed behind s value) = with_value_placed behind (term_stays old new k _ _ _ s) (expression_keeps v old new k _ _ value)
  term_keeps v old new k id xs (initialized_placed opening comma word closing front s value) =
      initialized_placed opening comma word closing front (term_stays old new k _ _ _ s) (expression_keeps v old new k _ _ value)
  term_keeps v old new k id xs (timed_placed time s value) = timed_placed time (term_stays old new k _ _ _ s) (expression_keeps v old new k _ _ value)
  term_keeps v old new k id xs (selected_placed number s) = selected_placed number (term_stays old new k _ _ _ s)
  term_keeps v old new k id xs (arrow_placed s function) = arrow_placed (term_stays old new k _ _ _ s) (function_keeps v old new k _ _ function)
  term_keeps v old new k id xs (accumulated_placed opening comma closing s value function) =
      accumulated_placed opening comma closing (term_stays old new k _ _ _ s) (expression_keeps v old new k _ _ value) (function_keeps v old new k _ _ function)
  term_keeps v old new k id xs (joined_placed between closing s one two) =
      joined_placed between closing (term_stays old new k _ _ _ s) (term_keeps v old new k _ _ one) (term_keeps v old new k _ _ two)
  term_keeps v old new k id xs (sided_placed s part) = sided_placed (term_stays old new k _ _ _ s) (term_keeps v old new k _ _ part)
  term_keeps v old new k id xs (headed_placed opening comma closing s value part) =
      headed_placed opening comma closing (term_stays old new k _ _ _ s) (expression_keeps v old new k _ _ value) (term_keeps v old new k _ _ part)
  term_keeps v old new k id xs (transformed_placed opening comma closing s function part) =
      transformed_placed opening comma closing (term_stays old new k _ _ _ s) (function_keeps v old new k _ _ function) (term_keeps v old new k _ _ part)
  term_keeps v old new k id xs (switching_placed opening comma leads closing s source pattern body) =
      switching_placed opening comma leads closing (term_stays old new k _ _ _ s) (term_keeps v old new k _ _ source) (pattern_stays old new k _ _ pattern) (term_keeps v old new k _ _ body)
  term_keeps v old new k id xs (named_placed s) = named_placed (term_stays old new k _ _ _ s)
  term_keeps v old new k id xs (continuing_placed opening comma second third leads closing s source observer pattern body) =
      continuing_placed opening comma second third leads closing (term_stays old new k _ _ _ s) (term_keeps v old new k _ _ source) (term_keeps v old new k _ _ observer) (pattern_stays old new k _ _ pattern) (term_keeps v old new k _ _ body)
  term_keeps v old new k id xs (gathered_placed {i = i} s held members) =
      gathered_placed (term_stays old new k _ _ _ s) (k.holds_collections i held) (members_at v old new k i _ held (collection_keeps v old new k _ _ members))
  term_keeps v old new k id xs (releasing_placed {n = n} opening comma second third leads closing s held members observer pattern body) =
      releasing_placed opening comma second third leads closing (term_stays old new k _ _ _ s) (k.holds_collections n.members held) (members_at v old new k n.members _ held (collection_keeps v old new k _ _ members))
      (term_keeps v old new k _ _ observer) (pattern_stays old new k _ _ pattern) (term_keeps v old new k _ _ body)
  term_keeps v old new k id xs (editing_placed {n = n} opening comma second leads closing s held members pattern there edit) =
      editing_placed opening comma second leads closing (term_stays old new k _ _ _ s) (k.holds_collections n.members held) (members_at v old new k n.members _ held (collection_keeps v old new k _ _ members))
      (pattern_stays old new k _ _ pattern) (k.holds_collections n.edit there) (members_at v old new k n.edit _ there (collection_keeps v old new k _ _ edit))
  term_keeps v old new k id xs (call_placed {g = g} {a = a} {xs = ys} opening s actuals) =
      call_placed opening (term_stays old new k _ _ _ s) (subst (λ (bs : List Argument). ArgumentsPlaced v new bs ys) (sym (k.arguments a (arguments_held old id g a s.held s.node))) (arguments_keep v old new k (argument_nodes old a) ys actuals))

  pub collection_keeps : (v : Version) (old new : Program) → ExtendsTrees old new → (c : CollExpr) (xs : List Spot) → CollectionPlaced v old c xs → CollectionPlaced v new c xs
  collection_keeps v old new k c xs (empty_placed counted) = empty_placed counted
  collection_keeps v old new k c xs used_placed = used_placed
  collection_keeps v old new k c xs (added_placed opening comma second closing others key member) =
      added_placed opening comma second closing (collection_keeps v old new k _ _ others) (expression_keeps v old new k _ _ key) (term_keeps v old new k _ _ member)
  collection_keeps v old new k c xs (dropped_placed opening comma closing others key) = dropped_placed opening comma closing (collection_keeps v old new k _ _ others) (expression_keeps v old new k _ _ key)
  collection_keeps v old new k c xs (kept_placed opening comma closing others function) = kept_placed opening comma closing (collection_keeps v old new k _ _ others) (function_keeps v old new k _ _ function)
  collection_keeps v old new k c xs (chosen_placed then_at else_at condition one two) =
      chosen_placed then_at else_at (expression_keeps v old new k _ _ condition) (collection_keeps v old new k _ _ one) (collection_keeps v old new k _ _ two)

  pub arguments_keep : (v : Version) (old new : Program) → ExtendsTrees old new → (bs : List Argument) (xs : List Spot) → ArgumentsPlaced v old bs xs → ArgumentsPlaced v new bs xs
  arguments_keep v old new k bs xs (no_arguments_placed closing) = no_arguments_placed closing
  arguments_keep v old new k bs xs (some_arguments_placed each) = some_arguments_placed (each_argument_keeps v old new k bs xs each)

  pub each_argument_keeps : (v : Version) (old new : Program) → ExtendsTrees old new → (bs : List Argument) (xs : List Spot) → EachArgumentPlaced v old bs xs → EachArgumentPlaced v new bs xs
  each_argument_keeps v old new k bs xs no_argument_placed = no_argument_placed
  each_argument_keeps v old new k bs xs (argument_placed separator one others) = argument_placed separator (argument_keeps v old new k _ _ one) (each_argument_keeps v old new k _ _ others)

  pub argument_keeps : (v : Version) (old new : Program) → ExtendsTrees old new → (b : Argument) (xs : List Spot) → ArgumentPlaced v old b xs → ArgumentPlaced v new b xs
  argument_keeps v old new k b xs (value_argument_placed value) = value_argument_placed (expression_keeps v old new k _ _ value)
  argument_keeps v old new k b xs (process_argument_placed word part) = process_argument_placed word (term_keeps v old new k _ _ part)
  argument_keeps v old new k b xs (collection_argument_placed {i = i} word held members) =
      collection_argument_placed word (k.holds_collections i held) (members_at v old new k i _ held (collection_keeps v old new k _ _ members))

members_keep : (v : Version) (old new : Program) → ExtendsTrees old new → (i : CollectionId) (xs : List Spot) → MembersPlaced v old i xs → MembersPlaced v new i xs
members_keep v old new k i xs m = record { held = k.holds_collections i m.held; placed = members_at v old new k i xs m.held (collection_keeps v old new k _ xs m.placed) }

pub templates_keep : (v : Version) (old new : Program) → ExtendsTrees old new → (hs : List Header) (xs : List Spot) → TemplatesPlaced v old hs xs → TemplatesPlaced v new hs xs
templates_keep v old new k hs xs none_placed = none_placed
templates_keep v old new k hs xs (template_placed {h = h} t ts) =
    template_placed (record {
      word = t.word;
      opening = t.opening;
      listed = t.listed;
      signature = t.signature;
      body = t.body;
      end = t.end;
      split = t.split;
      parameters = t.parameters;
      typed = t.typed;
      placed = term_keeps v old new k h.body t.body t.placed;
    }) (templates_keep v old new k _ _ ts)

-- one template more
pub templates_more : (v : Version) (p : Program) (hs : List Header) (h : Header) (xs ys : List Spot) → TemplatesPlaced v p hs xs → TemplatePlaced v p h ys → TemplatesPlaced v p (hs ++ h ∷ []) (xs ++ ys)
templates_more v p hs h xs ys none_placed t = subst (TemplatesPlaced v p (h ∷ [])) (append-nil ys) (template_placed t none_placed)
templates_more v p hs h xs ys (template_placed {xs = front} {ys = behind} first others) t =
    subst (TemplatesPlaced v p _) (sym (append_assoc front behind ys)) (template_placed first (templates_more v p _ h behind ys others t))

term_stands : (old new : Program) (id : TermId) (n : Node) (t : Term) (spot : Spot) → AddsTerm old new id n t spot → TermStands new id n spot
term_stands old new id n t spot a = record { held = a.within; node = a.node; spot = a.spotted }

pub bare_read : {v : Version} {old new : Program} {id : TermId} {k : Bare} {t : Term} {spot : Spot} (rest : List Spot) → AddsTerm old new id (nodes.Primitive (primitives.Bare k)) t spot → Consumes (TermPlaced v new id) (spot ∷ rest) rest
bare_read {v} {old} {new} {id} {k} {t} {spot} rest added = record { front = spot ∷ []; split = refl; holds = bare_placed (term_stands old new id _ t spot added) }

pub with_value_read : {v : Version} {mid new : Program} {id : TermId} {k : WithValue} {e : ExprId} {t : Term} {spot : Spot} {r0 rest : List Spot} → stands_initially k ≡ false → AddsTerm mid new id (nodes.Primitive (primitives.WithValue k e)) t spot
    → Consumes (ExpressionPlaced v mid e) r0 rest → Consumes (TermPlaced v new id) (spot ∷ r0) rest
with_value_read {v} {mid} {new} {id} {k} {e} {t} {spot} behind added value =
    behind_first value (λ xs p. with_value_placed behind (term_stands mid new id _ t spot added) (expression_keeps v mid new added.kept.trees e xs p))

pub timed_read : {v : Version} {mid new : Program} {id : TermId} {k : Timing} {q : ℤ} {e : ExprId} {t : Term} {spot : Spot} {r r0 rest : List Spot} → AddsTerm mid new id (nodes.Primitive (primitives.Timed k q e)) t spot
    → BehindOne r r0 → Consumes (ExpressionPlaced v mid e) r0 rest → Consumes (TermPlaced v new id) (spot ∷ r) rest
timed_read {v} {mid} {new} {id} {k} {q} {e} {t} {spot} added time value =
    behind_opening time (behind_first value (λ xs p. timed_placed time.at (term_stands mid new id _ t spot added) (expression_keeps v mid new added.kept.trees e xs p)))

pub selected_read : {v : Version} {old new : Program} {id : TermId} {k : Selection} {n : ℤ} {t : Term} {spot : Spot} {r rest : List Spot} → AddsTerm old new id (nodes.Primitive (primitives.Selected k n)) t spot
    → BehindOne r rest → Consumes (TermPlaced v new id) (spot ∷ r) rest
selected_read {v} {old} {new} {id} {k} {n} {t} {spot} added number =
    record { front = spot ∷ number.at ∷ []; split = ap (λ ts. spot ∷ ts) number.split; holds = selected_placed number.at (term_stands old new id _ t spot added) }

pub arrow_read : {v : Version} {mid new : Program} {id : TermId} {f : FunctionId} {t : Term} {spot : Spot} {r0 rest : List Spot} → AddsTerm mid new id (nodes.Primitive (primitives.Arrow f)) t spot
    → Consumes (FunctionPlaced v mid f) r0 rest → Consumes (TermPlaced v new id) (spot ∷ r0) rest
arrow_read {v} {mid} {new} {id} {f} {t} {spot} added function =
    behind_first function (λ xs p. arrow_placed (term_stands mid new id _ t spot added) (function_keeps v mid new added.kept.trees f xs p))

pub sided_read : {v : Version} {mid new : Program} {id a : TermId} {s : Side} {t : Term} {spot : Spot} {r0 rest : List Spot} → AddsTerm mid new id (nodes.Sided s a) t spot
    → Consumes (TermPlaced v mid a) r0 rest → Consumes (TermPlaced v new id) (spot ∷ r0) rest
sided_read {v} {mid} {new} {id} {a} {s} {t} {spot} added part =
    behind_first part (λ xs p. sided_placed (term_stands mid new id _ t spot added) (term_keeps v mid new added.kept.trees a xs p))

-- an expression and a function in brackets
pub accumulated_read : {v : Version} {one two new : Program} {id : TermId} {k : Accumulation} {e : ExprId} {f : FunctionId} {t : Term} {spot : Spot} {r r0 r1 r2 r3 rest : List Spot} → ExtendsTrees one two → AddsTerm two new id (nodes.Primitive (primitives.Accumulated k e f)) t spot
    → BehindOne r r0 → Consumes (ExpressionPlaced v one e) r0 r1 → BehindOne r1 r2 → Consumes (FunctionPlaced v two f) r2 r3 → BehindOne r3 rest → Consumes (TermPlaced v new id) (spot ∷ r) rest
accumulated_read {v} {one} {two} {new} {id} {k} {e} {f} {t} {spot} {r} {r0} {r1} {r2} {r3} {rest} K added opening value between function closing =
    behind_opening opening (in_brackets_read value between function closing (λ comma closing xs ys p q.
    accumulated_placed opening.at comma closing (term_stands two new id _ t spot added) (expression_keeps v two new added.kept.trees e xs (expression_keeps v one two K e xs p)) (function_keeps v two new added.kept.trees f ys q)))

-- a node is that of a head with a part of another node: `-->` with `pre`, or any other
data HeadedNode : Heading → ExprId → TermId → Node → Node → Type 0 where
  pre_node : {e : ExprId} {a : TermId} → HeadedNode headings.Initialized e a (nodes.Primitive (primitives.Bare bares.Pre)) (nodes.Primitive (primitives.WithValue values.InitializedPre e))
  other_node : {h : Heading} {e : ExprId} {a : TermId} {n : Node} → HeadedNode h e a n (nodes.Headed h e a)

primitive_view : (e : ExprId) (a : TermId) (q : Primitive) → HeadedNode headings.Initialized e a (nodes.Primitive q) (headed_node headings.Initialized e a (nodes.Primitive q))
primitive_view e a (primitives.Bare bares.Pre) = pre_node
primitive_view e a _ = other_node

node_view : (h : Heading) (e : ExprId) (a : TermId) (n : Node) → HeadedNode h e a n (headed_node h e a n)
node_view headings.Initialized e a (nodes.Primitive q) = primitive_view e a q
node_view _ e a n = other_node

-- it stands for what the head makes of the part
node_makes : (p : Program) (h : Heading) (e : ExprId) (a : TermId) (n : Node) → tree p a ≡ term_of p n → term_of p (headed_node h e a n) ≡ head_makes h (program_expression p e) (tree p a)
node_makes p headings.Initialized e a (nodes.Primitive (primitives.Bare bares.Pre)) is = ap (head_makes headings.Initialized (program_expression p e)) (sym is)
node_makes p headings.Initialized e a (nodes.Named namings.Probe k s) is = ap (headed headings.Initialized (program_expression p e)) is ∙ ap (head_makes headings.Initialized (program_expression p e)) (sym is)
node_makes p h e a n is = ap (headed h (program_expression p e)) is ∙ ap (head_makes h (program_expression p e)) (sym is)

pub headed_makes : (p : Program) (h : Heading) (e : ExprId) (a : TermId) → term_of p (headed_node h e a (term_node_at p a)) ≡ head_makes h (program_expression p e) (tree p a)
headed_makes p h e a = node_makes p h e a (term_node_at p a) (node_builds p a (term_node_at p a) refl)

-- a primitive without constants has one place
bare_places : {v : Version} {p : Program} {id : TermId} {k : Bare} {xs : List Spot} → term_node_at p id ≡ nodes.Primitive (primitives.Bare k) → TermPlaced v p id xs → (at : Spot) × (xs ≡ at ∷ [])
bare_places is (bare_placed {at = at} s) = (at, refl)
bare_places is (never_placed s counted) = absurd (let e = sym s.node ∙ is in cc)
bare_places is (with_value_placed behind s value) = absurd (let e = sym s.node ∙ is in cc)
bare_places is (initialized_placed opening comma word closing front s value) = absurd (let e = sym s.node ∙ is in cc)
bare_places is (timed_placed time s value) = absurd (let e = sym s.node ∙ is in cc)
bare_places is (selected_placed number s) = absurd (let e = sym s.node ∙ is in cc)
bare_places is (arrow_placed s function) = absurd (let e = sym s.node ∙ is in cc)
bare_places is (accumulated_placed opening comma closing s value function) = absurd (let e = sym s.node ∙ is in cc)
bare_places is (joined_placed between closing s one two) = absurd (let e = sym s.node ∙ is in cc)
bare_places is (sided_placed s part) = absurd (let e = sym s.node ∙ is in cc)
bare_places is (headed_placed opening comma closing s value part) = absurd (let e = sym s.node ∙ is in cc)
bare_places is (transformed_placed opening comma closing s function part) = absurd (let e = sym s.node ∙ is in cc)
bare_places is (switching_placed opening comma leads closing s source pattern body) = absurd (let e = sym s.node ∙ is in cc)
bare_places is (named_placed s) = absurd (let e = sym s.node ∙ is in cc)
bare_places is (continuing_placed opening comma second third leads closing s source observer pattern body) = absurd (let e = sym s.node ∙ is in cc)
bare_places is (gathered_placed s held members) = absurd (let e = sym s.node ∙ is in cc)
bare_places is (releasing_placed opening comma second third leads closing s held members observer pattern body) = absurd (let e = sym s.node ∙ is in cc)
bare_places is (editing_placed opening comma second leads closing s held members pattern there edit) = absurd (let e = sym s.node ∙ is in cc)
bare_places is (call_placed opening s actuals) = absurd (let e = sym s.node ∙ is in cc)

-- what a head makes stands so, with these places of the value and the part
headed_placed_so : {v : Version} {two new : Program} {id a : TermId} {h : Heading} {e : ExprId} {n m : Node} {t : Term} {spot : Spot} {xs ys : List Spot} (opening comma closing : Spot) → HeadedNode h e a n m → term_node_at two a ≡ n
    → AddsTerm two new id m t spot → ExpressionPlaced v new e xs → TermPlaced v two a ys → TermPlaced v new id (spot ∷ around opening xs comma ys closing)
headed_placed_so {v} {two} {new} {id} {t = t} {spot = spot} {xs = xs} opening comma closing pre_node is added value part =
    let one = bare_places is part in
    subst (λ (ys : List Spot). TermPlaced v new id (spot ∷ around opening xs comma ys closing)) (sym one.1) (initialized_placed opening comma one.0 closing refl (term_stands two new id _ t spot added) value)
headed_placed_so {v} {two} {new} {id} {a = a} {t = t} {spot = spot} {ys = ys} opening comma closing other_node is added value part =
    headed_placed opening comma closing (term_stands two new id _ t spot added) value (term_keeps v two new added.kept.trees a ys part)

-- an expression and a term in brackets
pub headed_read : {v : Version} {one two new : Program} {id a : TermId} (h : Heading) {e : ExprId} {n : Node} {t : Term} {spot : Spot} {r r0 r1 r2 r3 rest : List Spot} → ExtendsTrees one two → n ≡ headed_node h e a (term_node_at two a) → AddsTerm two new id n t spot
    → BehindOne r r0 → Consumes (ExpressionPlaced v one e) r0 r1 → BehindOne r1 r2 → Consumes (TermPlaced v two a) r2 r3 → BehindOne r3 rest → Consumes (TermPlaced v new id) (spot ∷ r) rest
headed_read {v} {one} {two} {new} {id} {a} h {e} {n} {t} {spot} k is added opening value between part closing =
    behind_opening opening (in_brackets_read value between part closing (λ comma closing xs ys p q.
    headed_placed_so opening.at comma closing (subst (HeadedNode h e a (term_node_at two a)) (sym is) (node_view h e a (term_node_at two a))) refl added (expression_keeps v two new added.kept.trees e xs (expression_keeps v one two k e xs p)) q))

-- a function and a term in brackets
pub transformed_read : {v : Version} {one two new : Program} {id a : TermId} {f : FunctionId} {t : Term} {spot : Spot} {r r0 r1 r2 r3 rest : List Spot} → ExtendsTrees one two → AddsTerm two new id (nodes.Transformed f a) t spot
    → BehindOne r r0 → Consumes (FunctionPlaced v one f) r0 r1 → BehindOne r1 r2 → Consumes (TermPlaced v two a) r2 r3 → BehindOne r3 rest → Consumes (TermPlaced v new id) (spot ∷ r) rest
transformed_read {v} {one} {two} {new} {id} {a} {f} {t} {spot} k added opening function between part closing =
    behind_opening opening (in_brackets_read function between part closing (λ comma closing xs ys p q.
    transformed_placed opening.at comma closing (term_stands two new id _ t spot added) (function_keeps v two new added.kept.trees f xs (function_keeps v one two k f xs p)) (term_keeps v two new added.kept.trees a ys q)))

-- a term, a pattern and another term in brackets
pub switching_read : {v : Version} {one two new : Program} {id a b : TermId} {w : Switching} {p : PlacedPattern} {q : PatternId} {t : Term} {spot : Spot} {r r0 r1 r2 r3 rest : List Spot} → ExtendsTrees one two → AddsTerm two new id (nodes.Switching (record { form = w; source = a; pattern = q; body = b })) t spot
    → ProgramHoldsPattern new q × (placed_pattern new q ≡ p) → BehindOne r r0 → Consumes (TermPlaced v one a) r0 r1 → BehindOne r1 r2 → Consumes (Parted (PatternPlaced p) (TermPlaced v two b)) r2 r3 → BehindOne r3 rest
    → Consumes (TermPlaced v new id) (spot ∷ r) rest
switching_read {v} {one} {two} {new} {id} {a} {b} {w} {p} {q} {t} {spot} k added there opening source comma body closing =
    behind_opening opening (in_brackets_read source comma body closing (λ comma closing xs zs x n.
    parted (λ zs. TermPlaced v new id (spot ∷ around opening.at xs comma zs closing)) n (λ leads ps ys placed y.
    switching_placed opening.at comma leads closing (term_stands two new id _ t spot added) (term_keeps v two new added.kept.trees a xs (term_keeps v one two k a xs x)) (pattern_stands new q p ps there placed) (term_keeps v two new added.kept.trees b ys y))))

pub named_read : {v : Version} {old new : Program} {id : TermId} {w : Naming} {k : NameId} {t : Term} {spot place : Spot} {r rest : List Spot} → AddsTerm old new id (nodes.Named w k place) t spot → NamePlaced place r rest → Consumes (TermPlaced v new id) (spot ∷ r) rest
named_read {v} {old} {new} {id} {w} {k} {t} {spot} {place} added name = record { front = spot ∷ place ∷ []; split = ap (λ ts. spot ∷ ts) name.split; holds = named_placed (term_stands old new id _ t spot added) }

-- two terms, a name, a pattern and a third term in brackets
pub continuing_read : {v : Version} {one two three new : Program} {id a b c : TermId} {w : Observation} {k : NameId} {p : PlacedPattern} {q : PatternId} {t : Term} {spot place : Spot} {r r0 r1 r2 r3 r4 r5 r6 r7 rest : List Spot} → ExtendsTrees one two → ExtendsTrees two three
    → AddsTerm three new id (nodes.Continuation (record { shown = w; source = a; observer = b; name = k; place = place; pattern = q; body = c })) t spot → ProgramHoldsPattern new q × (placed_pattern new q ≡ p) → BehindOne r r0 → Consumes (TermPlaced v one a) r0 r1 → BehindOne r1 r2 → Consumes (TermPlaced v two b) r2 r3 → BehindOne r3 r4
    → NamePlaced place r4 r5 → BehindOne r5 r6 → Consumes (Parted (PatternPlaced p) (TermPlaced v three c)) r6 r7 → BehindOne r7 rest → Consumes (TermPlaced v new id) (spot ∷ r) rest
continuing_read {v} {one} {two} {three} {new} {id} {a} {b} {c} {w} {k} {p} {q} {t} {spot} {place} {r2 = r2} {r7 = r7} K L added there opening source comma observer second name third body closing =
    let stays : (i : TermId) (xs : List Spot) → TermPlaced v three i xs → TermPlaced v new i xs = term_keeps v three new added.kept.trees in
    let behind : List Spot = observer.front ++ (second.at ∷ place ∷ third.at ∷ body.front) in
    let parts : Consumes (λ ts. ts ≡ behind) r2 r7 = record {
      front = behind;
      split = rw (observer.split, second.split, name.split, third.split, body.split, append_assoc observer.front (second.at ∷ place ∷ third.at ∷ body.front) r7) refl;
      holds = refl;
    } in
    behind_opening opening (in_brackets_read source comma parts closing (λ comma closing xs ts x same.
    subst (λ (ts : List Spot). TermPlaced v new id (spot ∷ around opening.at xs comma ts closing)) (sym same)
    (parted (λ zs. TermPlaced v new id (spot ∷ around opening.at xs comma (observer.front ++ (second.at ∷ place ∷ third.at ∷ zs)) closing)) body.holds (λ leads ps zs placed z.
    continuing_placed opening.at comma second.at third.at leads closing (term_stands three new id _ t spot added) (stays a xs (term_keeps v two three L a xs (term_keeps v one two K a xs x)))
    (stays b observer.front (term_keeps v two three L b observer.front observer.holds)) (pattern_stands new q p ps there placed) (stays c zs z)))))

-- ## Collections

-- what stands of a collection that was read, once it is shared
pub shared_placed : {v : Version} {p : Program} {c : CollExpr} {tokens rest : List Spot} (answer : Result (Rc CollExpr Global) Stop) → IfOk answer (λ r. r.value ≡ c) → Consumes (CollectionPlaced v p c) tokens rest
    → IfOk answer (λ r. Consumes (CollectionPlaced v p r.value) tokens rest)
shared_placed {v} {p} {c} {tokens} {rest} (Ok r) is placed = subst (λ (x : CollExpr). Consumes (CollectionPlaced v p x) tokens rest) (sym is) placed
shared_placed (Err e) is placed = tt

-- `empty`, and types behind it
pub empty_read : {v : Version} {p : Program} {k : KeyType} {u : Kind} {at : Spot} (d : ℕ) (tokens middle rest : List PlacedToken) → parse_keys v (toks tokens) ≡ got (key_kind_of k) (toks middle)
    → parse_inner_type d v (toks middle) 0 (toks middle) ≡ got u (toks rest) → BehindSome (places tokens) (places middle) → BehindSome (places middle) (places rest)
    → Consumes (CollectionPlaced v p (collections.Empty k u at)) (at ∷ places tokens) (places rest)
empty_read {v} {p} {k} {u} {at} d tokens middle rest keys values a b =
    let key : TookKeys v (toks tokens) (key_kind_of k) (toks middle) = keys_takes v (toks tokens) (key_kind_of k) (toks middle) keys in
    let took : TookType v d 0 (toks middle) u (toks rest) = inner_type_takes v d (toks middle) 0 (toks middle) u (toks rest) values in
    let both : BehindSome (places tokens) (places rest) = some_more a b in
    let spelled : toks tokens ≡ (spell_keys v (key_kind_of k) ++ spell_type v u) ++ toks rest =
    key.spelled ∙ ap (λ ts. spell_keys v (key_kind_of k) ++ ts) took.spelled ∙ sym (append_assoc (spell_keys v (key_kind_of k)) (spell_type v u) (toks rest)) in
    record {
      front = at ∷ both.front;
      split = ap (λ r. at ∷ r) both.split;
      holds = empty_placed (ap suc (front_counted tokens rest both.front (spell_keys v (key_kind_of k) ++ spell_type v u) both.split spelled));
    }

-- `use`, and a name behind it
pub used_read : {v : Version} {old new : Program} {c : CollExpr} {n : Name} {place at : Spot} {r rest : List Spot} → AddsUsed old new c n place at → NamePlaced place r rest → Consumes (CollectionPlaced v new c) (at ∷ r) rest
used_read {v} {old} {new} {c} {n} {place} {at} added name = record {
  front = at ∷ place ∷ [];
  split = ap (λ ts. at ∷ ts) name.split;
  holds = subst (λ (x : CollExpr). CollectionPlaced v new x (at ∷ place ∷ [])) (sym added.is) used_placed;
}

-- a collection, an expression and a term in brackets
pub added_read : {v : Version} {one two three : Program} {a : _} {c : CollExpr} {e : ExprId} {t : TermId} {at : Spot} {r r0 r1 r2 r3 r4 r5 rest : List Spot} → ExtendsTrees one two → ExtendsTrees two three
    → BehindOne r r0 → Consumes (CollectionPlaced v one c) r0 r1 → BehindOne r1 r2 → Consumes (ExpressionPlaced v two e) r2 r3 → BehindOne r3 r4 → Consumes (TermPlaced v three t) r4 r5 → BehindOne r5 rest
    → Consumes (CollectionPlaced v three (collections.Added' a c e t at)) (at ∷ r) rest
added_read {v} {one} {two} {three} {a} {c} {e} {t} {at} {r2 = r2} {r5 = r5} K L opening others comma key second member closing =
    let behind : List Spot = key.front ++ (second.at ∷ member.front) in
    let parts : Consumes (λ ts. ts ≡ behind) r2 r5 = record {
      front = behind;
      split = rw (key.split, second.split, member.split, append_assoc key.front (second.at ∷ member.front) r5) refl;
      holds = refl;
    } in
    behind_opening opening (in_brackets_read others comma parts closing (λ comma closing xs ts x same.
    subst (λ (ts : List Spot). CollectionPlaced v three (collections.Added' a c e t at) (at ∷ around opening.at xs comma ts closing)) (sym same)
    (added_placed opening.at comma second.at closing (collection_keeps v two three L c xs (collection_keeps v one two K c xs x)) (expression_keeps v two three L e key.front key.holds) member.holds)))

-- a collection and an expression in brackets
pub dropped_read : {v : Version} {one two : Program} {a : _} {c : CollExpr} {e : ExprId} {at : Spot} {r r0 r1 r2 r3 rest : List Spot} → ExtendsTrees one two → BehindOne r r0 → Consumes (CollectionPlaced v one c) r0 r1 → BehindOne r1 r2
    → Consumes (ExpressionPlaced v two e) r2 r3 → BehindOne r3 rest → Consumes (CollectionPlaced v two (collections.Dropped' a c e at)) (at ∷ r) rest
dropped_read {v} {one} {two} {a} {c} {e} {at} K opening others comma key closing =
    behind_opening opening (in_brackets_read others comma key closing (λ comma closing xs ys p q. dropped_placed opening.at comma closing (collection_keeps v one two K c xs p) q))

-- a collection and a function in brackets
pub kept_read : {v : Version} {one two : Program} {a : _} {c : CollExpr} {f : FunctionId} {at : Spot} {r r0 r1 r2 r3 rest : List Spot} → ExtendsTrees one two → BehindOne r r0 → Consumes (CollectionPlaced v one c) r0 r1 → BehindOne r1 r2
    → Consumes (FunctionPlaced v two f) r2 r3 → BehindOne r3 rest → Consumes (CollectionPlaced v two (collections.Kept' a c f at)) (at ∷ r) rest
kept_read {v} {one} {two} {a} {c} {f} {at} K opening others comma function closing =
    behind_opening opening (in_brackets_read others comma function closing (λ comma closing xs ys p q. kept_placed opening.at comma closing (collection_keeps v one two K c xs p) q))

-- an expression, and a collection behind each of two words
pub chosen_read : {v : Version} {one two three : Program} {a b : _} {e : ExprId} {c x : CollExpr} {at : Spot} {r r1 r2 r3 r4 rest : List Spot} → ExtendsTrees one two → ExtendsTrees two three → Consumes (ExpressionPlaced v one e) r r1 → BehindOne r1 r2
    → Consumes (CollectionPlaced v two c) r2 r3 → BehindOne r3 r4 → Consumes (CollectionPlaced v three x) r4 rest → Consumes (CollectionPlaced v three (collections.Chosen' e a c b x at)) (at ∷ r) rest
chosen_read {v} {one} {two} {three} {a} {b} {e} {c} {x} {at} {rest = rest} K L condition then_word first else_word second = record {
  front = at ∷ (condition.front ++ (then_word.at ∷ (first.front ++ (else_word.at ∷ second.front))));
  split = rw (
    condition.split,
    then_word.split,
    first.split,
    else_word.split,
    second.split,
    append_assoc condition.front (then_word.at ∷ (first.front ++ (else_word.at ∷ second.front))) rest,
    append_assoc first.front (else_word.at ∷ second.front) rest,
  ) refl;
  holds = chosen_placed then_word.at else_word.at (expression_keeps v two three L e condition.front (expression_keeps v one two K e condition.front condition.holds)) (collection_keeps v two three L c first.front first.holds) second.holds;
}

-- a collection that was put among those of the program
pub members_read : {v : Version} {mid new : Program} {m : CollectionId} {c : CollExpr} {tokens rest : List Spot} → AddsCollection mid new m c → Consumes (CollectionPlaced v mid c) tokens rest → Consumes (MembersPlaced v new m) tokens rest
members_read {v} {mid} {new} {m} {c} added placed = record {
  front = placed.front;
  split = placed.split;
  holds = record { held = added.within; placed = subst (λ (x : CollExpr). CollectionPlaced v new x placed.front) (sym added.is) (collection_keeps v mid new (unchanged_keeps mid new added.same).trees c placed.front placed.holds) };
}

-- a collection behind a word
pub gathered_read : {v : Version} {mid new : Program} {id : TermId} {i : CollectionId} {t : Term} {spot : Spot} {r0 rest : List Spot} → AddsTerm mid new id (nodes.Gathered i) t spot → Consumes (MembersPlaced v mid i) r0 rest → Consumes (TermPlaced v new id) (spot ∷ r0) rest
gathered_read {v} {mid} {new} {id} {i} {t} {spot} added members =
    behind_first members (λ xs m. let n : MembersPlaced v new i xs = members_keep v mid new added.kept.trees i xs m in gathered_placed (term_stands mid new id _ t spot added) n.held n.placed)

-- a collection, a term, a name, a pattern and another term in brackets
pub releasing_read : {v : Version} {one two three new : Program} {id b c : TermId} {m : CollectionId} {w : Observation} {k : NameId} {p : PlacedPattern} {q : PatternId} {t : Term} {spot place : Spot} {r r0 r1 r2 r3 r4 r5 r6 r7 rest : List Spot} → ExtendsTrees one two → ExtendsTrees two three
    → AddsTerm three new id (nodes.Releasing (record { shown = w; members = m; observer = b; name = k; place = place; pattern = q; body = c })) t spot → ProgramHoldsPattern new q × (placed_pattern new q ≡ p) → BehindOne r r0 → Consumes (MembersPlaced v one m) r0 r1 → BehindOne r1 r2 → Consumes (TermPlaced v two b) r2 r3 → BehindOne r3 r4
    → NamePlaced place r4 r5 → BehindOne r5 r6 → Consumes (Parted (PatternPlaced p) (TermPlaced v three c)) r6 r7 → BehindOne r7 rest → Consumes (TermPlaced v new id) (spot ∷ r) rest
releasing_read {v} {one} {two} {three} {new} {id} {b} {c} {m} {w} {k} {p} {q} {t} {spot} {place} {r2 = r2} {r7 = r7} K L added there opening members comma observer second name third body closing =
    let stays : (i : TermId) (xs : List Spot) → TermPlaced v three i xs → TermPlaced v new i xs = term_keeps v three new added.kept.trees in
    let behind : List Spot = observer.front ++ (second.at ∷ place ∷ third.at ∷ body.front) in
    let parts : Consumes (λ ts. ts ≡ behind) r2 r7 = record {
      front = behind;
      split = rw (observer.split, second.split, name.split, third.split, body.split, append_assoc observer.front (second.at ∷ place ∷ third.at ∷ body.front) r7) refl;
      holds = refl;
    } in
    behind_opening opening (in_brackets_read members comma parts closing (λ comma closing xs ts x same.
    let source : MembersPlaced v new m xs = members_keep v three new added.kept.trees m xs (members_keep v two three L m xs (members_keep v one two K m xs x)) in
    subst (λ (ts : List Spot). TermPlaced v new id (spot ∷ around opening.at xs comma ts closing)) (sym same)
    (parted (λ zs. TermPlaced v new id (spot ∷ around opening.at xs comma (observer.front ++ (second.at ∷ place ∷ third.at ∷ zs)) closing)) body.holds (λ leads ps zs placed z.
    releasing_placed opening.at comma second.at third.at leads closing (term_stands three new id _ t spot added) source.held source.placed
    (stays b observer.front (term_keeps v two three L b observer.front observer.holds)) (pattern_stands new q p ps there placed) (stays c zs z)))))

-- a collection, a name, a pattern and another collection in brackets
pub editing_read : {v : Version} {one two new : Program} {id : TermId} {m u : CollectionId} {w : Observation} {k : NameId} {p : PlacedPattern} {q : PatternId} {t : Term} {spot place : Spot} {r r0 r1 r2 r3 r4 r5 rest : List Spot} → ExtendsTrees one two
    → AddsTerm two new id (nodes.Editing (record { shown = w; members = m; name = k; place = place; pattern = q; edit = u })) t spot → ProgramHoldsPattern new q × (placed_pattern new q ≡ p) → BehindOne r r0 → Consumes (MembersPlaced v one m) r0 r1 → BehindOne r1 r2
    → NamePlaced place r2 r3 → BehindOne r3 r4 → Consumes (Parted (PatternPlaced p) (MembersPlaced v two u)) r4 r5 → BehindOne r5 rest → Consumes (TermPlaced v new id) (spot ∷ r) rest
editing_read {v} {one} {two} {new} {id} {m} {u} {w} {k} {p} {q} {t} {spot} {place} {r2 = r2} {r5 = r5} K added there opening members comma name second edit closing =
    let behind : List Spot = place ∷ second.at ∷ edit.front in
    let parts : Consumes (λ ts. ts ≡ behind) r2 r5 = record { front = behind; split = rw (name.split, second.split, edit.split) refl; holds = refl } in
    behind_opening opening (in_brackets_read members comma parts closing (λ comma closing xs ts x same.
    let source : MembersPlaced v new m xs = members_keep v two new added.kept.trees m xs (members_keep v one two K m xs x) in
    subst (λ (ts : List Spot). TermPlaced v new id (spot ∷ around opening.at xs comma ts closing)) (sym same)
    (parted (λ zs. TermPlaced v new id (spot ∷ around opening.at xs comma (place ∷ second.at ∷ zs) closing)) edit.holds (λ leads ps ys placed y.
    let edited : MembersPlaced v new u ys = members_keep v two new added.kept.trees u ys y in
    editing_placed opening.at comma second.at leads closing (term_stands two new id _ t spot added) source.held source.placed (pattern_stands new q p ps there placed) edited.held edited.placed))))

-- a name, and arguments in brackets behind it
pub call_read : {v : Version} {mid new : Program} {id : TermId} {g : NameId} {a : ArgumentsId} {bs : List Argument} {t : Term} {spot : Spot} {r r1 rest : List Spot} → AddsTerm mid new id (nodes.Call g a) t spot → HoldsArguments new a × (argument_nodes new a ≡ bs)
    → BehindOne r r1 → Consumes (ArgumentsPlaced v mid bs) r1 rest → Consumes (TermPlaced v new id) (spot ∷ r) rest
call_read {v} {mid} {new} {id} {g} {a} {bs} {t} {spot} added there opening actuals = record {
  front = spot ∷ opening.at ∷ actuals.front;
  split = rw (opening.split, actuals.split) refl;
  holds = call_placed opening.at (term_stands mid new id _ t spot added)
      (subst (λ (cs : List Argument). ArgumentsPlaced v new cs actuals.front) (sym there.1) (arguments_keep v mid new added.kept.trees bs actuals.front actuals.holds));
}

-- two terms joined
pub joined_read : {v : Version} {one two new : Program} {id a b : TermId} {j : Join} {t : Term} {spot : Spot} {r0 r1 r2 r3 rest : List Spot} → ExtendsTrees one two → AddsTerm two new id (nodes.Joined j a b) t spot
    → Consumes (TermPlaced v one a) r0 r1 → BehindOne r1 r2 → Consumes (TermPlaced v two b) r2 r3 → BehindOne r3 rest → Consumes (TermPlaced v new id) (spot ∷ r0) rest
joined_read {v} {one} {two} {new} {id} {a} {b} {j} {t} {spot} k added first between second closing =
    in_brackets_read first between second closing (λ between closing xs ys p q.
    joined_placed between closing (term_stands two new id _ t spot added) (term_keeps v two new added.kept.trees a xs (term_keeps v one two k a xs p)) (term_keeps v two new added.kept.trees b ys q))

pub never_read : {v : Version} {old new : Program} {id : TermId} {n : ConstantId} {t : Kind} {spot : Spot} (d : ℕ) (tokens rest : List PlacedToken) → AddsTerm old new id (nodes.Primitive (primitives.Never n)) (primitive (never t)) spot
    → parse_inner_type d v (toks tokens) 0 (toks tokens) ≡ got t (toks rest) → BehindSome (places tokens) (places rest) → Consumes (TermPlaced v new id) (spot ∷ places tokens) (places rest)
never_read {v} {old} {new} {id} {n} {t} {spot} d tokens rest a is b =
    let took : TookType v d 0 (toks tokens) t (toks rest) = inner_type_takes v d (toks tokens) 0 (toks tokens) t (toks rest) is in
    record {
      front = spot ∷ b.front;
      split = ap (λ r. spot ∷ r) b.split;
      holds = never_placed (term_stands old new id _ _ spot a)
          (ap suc (front_counted tokens rest b.front (spell_type v t) b.split took.spelled) ∙ ap (λ (e : Term). length (spell_term v e)) (sym a.is));
    }

pub signature_counted : (v : Version) (tokens rest : List PlacedToken) (s : Kind × Kind) → parse_signature v (toks tokens) ≡ got s (toks rest) → (b : BehindSome (places tokens) (places rest))
    → length b.front ≡ length (symbol symbols.Colon ∷ (spell_type v s.0 ++ (symbol symbols.Leads ∷ (spell_type v s.1 ++ (symbol symbols.Equals ∷ [])))))
signature_counted v tokens rest s is b =
    let took : TookSignature v (toks tokens) s (toks rest) = signature_takes v (toks tokens) s (toks rest) is in
    front_counted tokens rest b.front (symbol symbols.Colon ∷ (spell_type v s.0 ++ (symbol symbols.Leads ∷ (spell_type v s.1 ++ (symbol symbols.Equals ∷ []))))) b.split took.spelled

-- a name, and behind it what it stands for
pub parameter_read : (v : Version) (tokens rest : List PlacedToken) (q : PlacedParameter) {r0 r1 : List Spot} → parse_parameter v (toks tokens) ≡ got (binding_of q) (toks rest)
    → NamePlaced q.spot (places tokens) r0 → BehindOne r0 r1 → BehindSome r1 (places rest) → Consumes (ParameterPlaced v q) (places tokens) (places rest)
parameter_read v tokens rest q is name colon kind =
    let split : places tokens ≡ (q.spot ∷ colon.at ∷ kind.front) ++ places rest = rw (name.split, colon.split, kind.split) refl in
    record {
      front = q.spot ∷ colon.at ∷ kind.front;
      split = split;
      holds = record {
        behind = colon.at ∷ kind.front;
        split = refl;
        counted = front_counted tokens rest (q.spot ∷ colon.at ∷ kind.front) (spell_parameter v (binding_of q)) split (parameter_takes v (toks tokens) (binding_of q) (toks rest) is).spelled;
      };
    }

-- the closing bracket alone
pub no_parameters_placed_behind : (v : Version) {tokens rest : List Spot} → BehindOne tokens rest → Consumes (ParametersPlaced v []) tokens rest
no_parameters_placed_behind v closing = record { front = closing.at ∷ []; split = closing.split; holds = no_parameters_placed closing.at }

some_parameters_so : (v : Version) (qs : List PlacedParameter) (xs : List Spot) → qs ≢ [] → EachParameterPlaced v qs xs → ParametersPlaced v qs xs
some_parameters_so v [] xs some each = absurd (some refl)
some_parameters_so v (q ∷ qs) xs some each = some_parameters_placed each

pub some_parameters_placed_behind : (v : Version) (qs : List PlacedParameter) {tokens rest : List Spot} → qs ≢ [] → Consumes (EachParameterPlaced v qs) tokens rest → Consumes (ParametersPlaced v qs) tokens rest
some_parameters_placed_behind v qs some c = record { front = c.front; split = c.split; holds = some_parameters_so v qs c.front some c.holds }

pub each_placed : (v : Version) (tokens rest : List Spot) (answer : Result (Vec PlacedParameter Global) Stop) → IfOk answer (λ qs. qs.items ≢ [])
    → IfOk answer (λ qs. Consumes (EachParameterPlaced v qs.items) tokens rest) → IfOk answer (λ qs. Consumes (ParametersPlaced v qs.items) tokens rest)
each_placed v tokens rest (Ok qs) some placed = some_parameters_placed_behind v qs.items some placed
each_placed v tokens rest (Err e) some placed = tt

pub no_arguments_placed_behind : (v : Version) (p : Program) {tokens rest : List Spot} → BehindOne tokens rest → Consumes (ArgumentsPlaced v p []) tokens rest
no_arguments_placed_behind v p closing = record { front = closing.at ∷ []; split = closing.split; holds = no_arguments_placed closing.at }

some_arguments_so : (v : Version) (p : Program) (bs : List Argument) (xs : List Spot) → bs ≢ [] → EachArgumentPlaced v p bs xs → ArgumentsPlaced v p bs xs
some_arguments_so v p [] xs some each = absurd (some refl)
some_arguments_so v p (b ∷ bs) xs some each = some_arguments_placed each

pub some_arguments_placed_behind : (v : Version) (p : Program) (bs : List Argument) {tokens rest : List Spot} → bs ≢ [] → Consumes (EachArgumentPlaced v p bs) tokens rest → Consumes (ArgumentsPlaced v p bs) tokens rest
some_arguments_placed_behind v p bs some c = record { front = c.front; split = c.split; holds = some_arguments_so v p bs c.front some c.holds }

pub each_argument_placed : (v : Version) (p : Program) (tokens rest : List Spot) (answer : Result (Vec Argument Global) Stop) → IfOk answer (λ bs. bs.items ≢ [])
    → IfOk answer (λ bs. Consumes (EachArgumentPlaced v p bs.items) tokens rest) → IfOk answer (λ bs. Consumes (ArgumentsPlaced v p bs.items) tokens rest)
each_argument_placed v p tokens rest (Ok bs) some placed = some_arguments_placed_behind v p bs.items some placed
each_argument_placed v p tokens rest (Err e) some placed = tt

-- an expression, a term behind `sf`, or a collection behind `col`
pub value_read : {v : Version} {p : Program} {e : ExprId} {tokens rest : List Spot} → Consumes (ExpressionPlaced v p e) tokens rest → Consumes (ArgumentPlaced v p (arguments.Value e)) tokens rest
value_read c = record { front = c.front; split = c.split; holds = value_argument_placed c.holds }

pub process_read : {v : Version} {p : Program} {t : TermId} {tokens r0 rest : List Spot} → BehindOne tokens r0 → Consumes (TermPlaced v p t) r0 rest → Consumes (ArgumentPlaced v p (arguments.Process t)) tokens rest
process_read word c = record { front = word.at ∷ c.front; split = rw (word.split, c.split) refl; holds = process_argument_placed word.at c.holds }

pub collection_read : {v : Version} {p : Program} {m : CollectionId} {tokens r0 rest : List Spot} → BehindOne tokens r0 → Consumes (MembersPlaced v p m) r0 rest → Consumes (ArgumentPlaced v p (arguments.Collection m)) tokens rest
collection_read word c = record { front = word.at ∷ c.front; split = rw (word.split, c.split) refl; holds = collection_argument_placed word.at c.holds.held c.holds.placed }

-- the parts of a template, one behind the other
pub template_read : {v : Version} {old mid new : Program} {h : Header} {r0 r1 r2 r3 rest : List Spot} → ExtendsProgram old mid → AddsTemplate mid new h → HeadingPlaced v h.spot h.parameters r0 r1
    → (s : BehindSome r1 r2) → length s.front ≡ length (spell_signature v (term_template new h)) → Consumes (TermPlaced v mid h.body) r2 r3 → BehindOne r3 rest → PlacesTemplate v old new r0 rest
template_read {v} {old} {mid} {new} {h} {r0} {r1} {r2} {r3} {rest} kept added heading signature typed body end = record {
  header = h;
  headers = added.headers ∙ ap (λ (hs : List Header). hs ++ h ∷ []) kept.headers;
  kept = keeps_trees_trans old mid new kept.trees added.kept;
  placed = record {
    front = heading.word ∷ h.spot ∷ heading.opening ∷ (heading.listed ++ (signature.front ++ (body.front ++ (end.at ∷ []))));
    split = rw (
      heading.split,
      signature.split,
      body.split,
      end.split,
      append_assoc heading.listed (signature.front ++ (body.front ++ (end.at ∷ []))) rest,
      append_assoc signature.front (body.front ++ (end.at ∷ [])) rest,
      append_assoc body.front (end.at ∷ []) rest,
    ) refl;
    holds = record {
      word = heading.word;
      opening = heading.opening;
      listed = heading.listed;
      signature = signature.front;
      body = body.front;
      end = end.at;
      split = refl;
      parameters = heading.parameters;
      typed = typed;
      placed = term_keeps v mid new added.kept h.body body.front body.holds;
    };
  };
}

-- the places of tokens, as the code has them and as the bytes have them
places_same : (bytes : List ℕ) (found : List PlacedToken) (ls : List Located) → map seen found ≡ map (shown bytes) ls → places found ≡ map (λ (l : Located). offset_place bytes l.offset) ls
places_same bytes [] [] same = refl
places_same bytes [] (l ∷ ls) same = cc
places_same bytes (p ∷ found) [] same = cc
places_same bytes (p ∷ found) (l ∷ ls) same =
    let one : seen p ≡ shown bytes l = cc in
    let others : map seen found ≡ map (shown bytes) ls = cc in
    ap₂ (λ (t : Spot) (ts : List Spot). t ∷ ts) (ap (λ (x : Tok × Spot). x.1) one) (places_same bytes found ls others)

pub placed_in : (bytes : List ℕ) (found : List PlacedToken) (v : Version) (p : Program) → AreTokensOf bytes found → IsSpelled v (toks found) p → NetworkPlaced v p (places found) → IsPlacedIn bytes p
placed_in bytes found v p a s n = record {
  text = record { version = v; located = a.located; cut = a.cut; spelled = sym (toks_same bytes found a.located a.shows) ∙ s.spelled; limited = s.limited };
  placed = subst (NetworkPlaced v p) (places_same bytes found a.located a.shows) n;
}

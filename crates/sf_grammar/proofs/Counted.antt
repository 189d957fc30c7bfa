-- What is placed has as many places as the tokens that spell it.
use Rattle.std.proofs.Common.{◌≡◌, suc, ◌+◌, true, false, List, [], ◌∷◌, ◌++◌, length, map, refl, ap, arith}
use Rattle.std.proofs.lemmas.List.{length-append}
use Rattle.sf_operator.specs.declared.operator.Unary.{Unary}
use Rattle.sf_operator.specs.declared.operator.Operator.{Operator}
use Rattle.sf_expr.specs.declared.exprs.ExprId.{ExprId}
use Rattle.sf_expr.specs.declared.exprs.NameId.{NameId}
use Rattle.sf_expr.specs.declared.exprs.FunctionId.{FunctionId}
use Rattle.sf_expr.specs.declared.exprs.Mapped.{Mapped}
use Rattle.sf_expr.specs.declared.exprs.Folded.{Folded}
use Rattle.sf_expr.specs.declared.exprs.ExprNode.TheVariants as expressions
use Rattle.sf_expr.specs.Patterns.{PlacedPattern, pattern_of}
use Rattle.sf_expr.specs.Expressions.{variable, literal, unit_literal, truth_literal, int_literal, paired, applied, operation, conditional, mapped, folded, called}
use Rattle.sf_expr.specs.Arena.{name_at}
use Rattle.sf_expr.proofs.Entered
use Rattle.sf_expr.proofs.Typed.{is_unit, is_truth, is_int, is_name, is_pair, is_applied, is_operation, is_conditional, is_mapped, is_folded, is_called}
use Rattle.sf_term.specs.declared.node.TermId.{TermId}
use Rattle.sf_term.specs.declared.node.Argument.{Argument}
use Rattle.sf_term.specs.declared.node.Argument.TheVariants as argument_forms
use Rattle.sf_term.specs.declared.program.Program.{Program}
use Rattle.sf_term.specs.Parameters.{PlacedParameter, parameters_of}
use Rattle.sf_term.specs.Headers.{Header}
use Rattle.sf_term.specs.declared.collection.CollExpr.{CollExpr}
use Rattle.sf_term.specs.Arena.{collection_node, collection_of, collection_tree, program_expressions, program_expression, expression_node_at, placed_pattern, argument_nodes, arguments_of, program_function, tree, term_template}
use Rattle.sf_term.proofs.Extended.{node_builds}
use Rattle.sf_lex.specs.declared.word.Keyword.TheVariants as words
use Rattle.sf_lex.specs.declared.symbol.Symbol.TheVariants as symbols
use Rattle.sf_refusal.specs.declared.spot.Spot.{Spot}
use Rattle.sf_lex.specs.Tokens.{Tok, keyword, name, symbol}
use Rattle.sf_grammar.specs.declared.ty.Version.{Version}
use Rattle.sf_grammar.specs.Spelling.{value_word, in_brackets, operator_token, join_symbol, spell_mapping, spell_pattern, spell_expression, spell_function, spell_further, spell_listed, spell_term, spell_collection, spell_arguments, spell_parameter, spell_signature, spell_template}
use Rattle.sf_grammar.specs.Placing.{CollectionPlaced, gathered_placed, releasing_placed, editing_placed, empty_placed, used_placed, added_placed, dropped_placed, kept_placed, chosen_placed, collection_argument_placed, around, PatternPlaced, unnamed_placed, name_placed, both_placed, ExpressionPlaced, unit_placed, truth_placed, number_placed, constant_placed, variable_placed, pair_placed, prefixed_placed, one_in_brackets_placed, operation_placed, two_in_brackets_placed, conditional_placed, let_placed, one_and_function_placed, two_and_function_placed, called_placed, FunctionPlaced, function_placed, TermPlaced, bare_placed, never_placed, with_value_placed, initialized_placed, timed_placed, selected_placed, arrow_placed, accumulated_placed, joined_placed, sided_placed, headed_placed, transformed_placed, switching_placed, named_placed, continuing_placed, call_placed, ArgumentsPlaced, no_arguments_placed, some_arguments_placed, EachArgumentPlaced, no_argument_placed, argument_placed, ArgumentPlaced, value_argument_placed, process_argument_placed, EachParameterPlaced, no_parameter_placed, parameter_placed, ParametersPlaced, no_parameters_placed, some_parameters_placed, TemplatePlaced}
use Rattle.sf_grammar.proofs.Words.{named_alone}

around_counted : (xs ys : List Spot) (us vs : List Tok) (opening between closing : Spot) (t : Tok) → length xs ≡ length us → length ys ≡ length vs → length (around opening xs between ys closing) ≡ length (in_brackets us t vs)
around_counted xs ys us vs opening between closing t one two =
    omega (arith, length-append xs (between ∷ (ys ++ (closing ∷ []))), length-append ys (closing ∷ []), length-append us (t ∷ (vs ++ (symbol symbols.Close ∷ []))), length-append vs (symbol symbols.Close ∷ []))

pattern_counted : (q : PlacedPattern) (xs : List Spot) → PatternPlaced q xs → length xs ≡ length (spell_pattern (pattern_of q))
pattern_counted q xs unnamed_placed = refl
pattern_counted q xs name_placed = refl
pattern_counted q xs (both_placed {p = a} {q = b} {xs = us} {ys = vs} opening comma closing one two) =
    around_counted us vs (spell_pattern (pattern_of a)) (spell_pattern (pattern_of b)) opening comma closing (symbol symbols.Comma) (pattern_counted a us one) (pattern_counted b vs two)

number_is : (p : Program) (e : ExprId) (z : _) → expression_node_at p e ≡ expressions.Int z → program_expression p e ≡ literal (int_literal z)
unfolding program_expressions program_expression expression_node_at
number_is p e z is = is_int (Entered.node_builds (program_expressions p) e _ is)

unit_is : (p : Program) (e : ExprId) → expression_node_at p e ≡ expressions.Unit → program_expression p e ≡ literal unit_literal
unfolding program_expressions program_expression expression_node_at
unit_is p e is = is_unit (Entered.node_builds (program_expressions p) e _ is)

truth_is : (p : Program) (e : ExprId) (b : _) → expression_node_at p e ≡ expressions.Truth b → program_expression p e ≡ literal (truth_literal b)
unfolding program_expressions program_expression expression_node_at
truth_is p e b is = is_truth (Entered.node_builds (program_expressions p) e _ is)

variable_is : (p : Program) (e : ExprId) (n : NameId) → expression_node_at p e ≡ expressions.Name n → program_expression p e ≡ variable (name_at (program_expressions p) n)
unfolding program_expressions program_expression expression_node_at
variable_is p e n is = is_name (Entered.node_builds (program_expressions p) e _ is)

pair_is : (p : Program) (e a b : ExprId) → expression_node_at p e ≡ expressions.Pair a b → program_expression p e ≡ paired (program_expression p a) (program_expression p b)
unfolding program_expressions program_expression expression_node_at
pair_is p e a b is = is_pair (Entered.node_builds (program_expressions p) e _ is)

operation_is : (p : Program) (e a b : ExprId) (o : Operator) → expression_node_at p e ≡ expressions.Operation a o b → program_expression p e ≡ operation (program_expression p a) o (program_expression p b)
unfolding program_expressions program_expression expression_node_at
operation_is p e a b o is = is_operation (Entered.node_builds (program_expressions p) e _ is)

applied_is : (p : Program) (e a : ExprId) (o : Unary) → expression_node_at p e ≡ expressions.Applied o a → program_expression p e ≡ applied o (program_expression p a)
unfolding program_expressions program_expression expression_node_at
applied_is p e a o is = is_applied (Entered.node_builds (program_expressions p) e _ is)

conditional_is : (p : Program) (e a b c : ExprId) → expression_node_at p e ≡ expressions.Conditional a b c → program_expression p e ≡ conditional (program_expression p a) (program_expression p b) (program_expression p c)
unfolding program_expressions program_expression expression_node_at
conditional_is p e a b c is = is_conditional (Entered.node_builds (program_expressions p) e _ is)

mapped_is : (p : Program) (e : ExprId) (n : Mapped) → expression_node_at p e ≡ expressions.Mapped n → program_expression p e ≡ mapped (program_expression p n.part) n.mapping (pattern_of (placed_pattern p n.pattern)) (program_expression p n.body)
unfolding program_expressions program_expression expression_node_at placed_pattern
mapped_is p e n is = is_mapped (Entered.node_builds (program_expressions p) e _ is)

folded_is : (p : Program) (e : ExprId) (n : Folded) → expression_node_at p e ≡ expressions.Folded n
    → program_expression p e ≡ folded (program_expression p n.first) n.folding (program_expression p n.second) (pattern_of (placed_pattern p n.pattern)) (program_expression p n.body)
unfolding program_expressions program_expression expression_node_at placed_pattern
folded_is p e n is = is_folded (Entered.node_builds (program_expressions p) e _ is)

called_is : (p : Program) (e a : ExprId) (g : NameId) (s : Spot) → expression_node_at p e ≡ expressions.Called g s a → program_expression p e ≡ called (name_at (program_expressions p) g) (program_expression p a)
unfolding program_expressions program_expression expression_node_at
called_is p e a g s is = is_called (Entered.node_builds (program_expressions p) e _ is)

-- a part with a place or a token in front of each other
between_counted : (xs ys : List Spot) (us vs : List Tok) (between : Spot) (t : Tok) → length xs ≡ length us → length ys ≡ length vs → length (xs ++ (between ∷ ys)) ≡ length (us ++ (t ∷ vs))
between_counted xs ys us vs between t one two = omega (arith, length-append xs (between ∷ ys), length-append us (t ∷ vs))

pub expression_counted : (v : Version) (p : Program) (e : ExprId) (xs : List Spot) → ExpressionPlaced v p e xs → length xs ≡ length (spell_expression v (program_expression p e))
expression_counted v p e xs (number_placed {z = z} s) = rw (number_is p e z s.node) refl
expression_counted v p e xs (unit_placed closing s) = rw (unit_is p e s.node) refl
expression_counted v p e xs (truth_placed {b = true} s) = rw (truth_is p e true s.node) refl
expression_counted v p e xs (truth_placed {b = false} s) = rw (truth_is p e false s.node) refl
expression_counted v p e xs (constant_placed s counted) = counted
expression_counted v p e xs (variable_placed {n = n} s) = rw (variable_is p e n s.node) refl
expression_counted v p e xs (pair_placed {a = a} {b = b} {xs = us} {ys = vs} {opening = opening} comma closing s one two) =
    rw (pair_is p e a b s.node) (around_counted us vs (spell_expression v (program_expression p a)) (spell_expression v (program_expression p b)) opening comma closing (symbol symbols.Comma) (expression_counted v p a us one) (expression_counted v p b vs two))
expression_counted v p e xs (prefixed_placed {a = a} {o = o} {xs = us} brackets s part) = rw (applied_is p e a o s.node, brackets) (ap suc (expression_counted v p a us part))
expression_counted v p e xs (one_in_brackets_placed {a = a} {o = o} {xs = us} opening closing brackets s part) =
    rw (applied_is p e a o s.node, brackets) (ap (λ n. suc (suc n)) (between_counted us [] (spell_expression v (program_expression p a)) [] closing (symbol symbols.Close) (expression_counted v p a us part) refl))
expression_counted v p e xs (operation_placed {a = a} {b = b} {o = o} {xs = us} {ys = vs} {opening = opening} operator closing between s one two) =
    rw (operation_is p e a b o s.node, between) (around_counted us vs (spell_expression v (program_expression p a)) (spell_expression v (program_expression p b)) opening operator closing (operator_token o) (expression_counted v p a us one) (expression_counted v p b vs two))
expression_counted v p e xs (two_in_brackets_placed {a = a} {b = b} {o = o} {xs = us} {ys = vs} opening comma closing between s one two) =
    rw (operation_is p e a b o s.node, between)
    (ap suc (around_counted us vs (spell_expression v (program_expression p a)) (spell_expression v (program_expression p b)) opening comma closing (symbol symbols.Comma) (expression_counted v p a us one) (expression_counted v p b vs two)))
expression_counted v p e xs (conditional_placed {a = a} {b = b} {c = c} {xs = us} {ys = vs} {zs = ws} then_at else_at s one two three) =
    let second : List Tok = spell_expression v (program_expression p b) in
    let third : List Tok = spell_expression v (program_expression p c) in
    rw (conditional_is p e a b c s.node)
    (ap suc (between_counted us (vs ++ (else_at ∷ ws)) (spell_expression v (program_expression p a)) (second ++ (keyword words.Else ∷ third)) then_at (keyword words.Then) (expression_counted v p a us one)
    (between_counted vs ws second third else_at (keyword words.Else) (expression_counted v p b vs two) (expression_counted v p c ws three))))
expression_counted v p e xs (let_placed {a = a} {b = b} {q = q} {ps = ps} {xs = us} {ys = vs} equals in_at s pattern one two) =
    let value : List Tok = spell_expression v (program_expression p a) in
    let body : List Tok = spell_expression v (program_expression p b) in
    rw (mapped_is p e _ s.node)
    (ap suc (between_counted ps (us ++ (in_at ∷ vs)) (spell_pattern (pattern_of (placed_pattern p q))) (value ++ (keyword words.In ∷ body)) equals (symbol symbols.Equals) (pattern_counted (placed_pattern p q) ps pattern.placed)
    (between_counted us vs value body in_at (keyword words.In) (expression_counted v p a us one) (expression_counted v p b vs two))))
expression_counted v p e xs (one_and_function_placed {n = n} {xs = us} {ps = ps} {ys = vs} opening comma leads closing brackets s one pattern two) =
    let names : List Tok = spell_pattern (pattern_of (placed_pattern p n.pattern)) in
    let body : List Tok = spell_expression v (program_expression p n.body) in
    rw (mapped_is p e n s.node, brackets)
    (ap suc (around_counted us (ps ++ (leads ∷ vs)) (spell_expression v (program_expression p n.part)) (spell_mapping names body) opening comma closing (symbol symbols.Comma) (expression_counted v p n.part us one)
    (between_counted ps vs names body leads (symbol symbols.MapsTo) (pattern_counted (placed_pattern p n.pattern) ps pattern.placed) (expression_counted v p n.body vs two))))
expression_counted v p e xs (two_and_function_placed {n = n} {xs = us} {ys = vs} {ps = ps} {zs = ws} opening comma second leads closing s one two pattern three) =
    let names : List Tok = spell_pattern (pattern_of (placed_pattern p n.pattern)) in
    let value : List Tok = spell_expression v (program_expression p n.second) in
    let body : List Tok = spell_expression v (program_expression p n.body) in
    rw (folded_is p e n s.node)
    (ap suc (around_counted us (vs ++ (second ∷ (ps ++ (leads ∷ ws)))) (spell_expression v (program_expression p n.first)) (value ++ (symbol symbols.Comma ∷ spell_mapping names body)) opening comma closing (symbol symbols.Comma)
    (expression_counted v p n.first us one) (between_counted vs (ps ++ (leads ∷ ws)) value (spell_mapping names body) second (symbol symbols.Comma) (expression_counted v p n.second vs two)
    (between_counted ps ws names body leads (symbol symbols.MapsTo) (pattern_counted (placed_pattern p n.pattern) ps pattern.placed) (expression_counted v p n.body ws three)))))
expression_counted v p e xs (called_placed {a = a} {g = g} {xs = us} {place = place} opening closing s part) =
    rw (called_is p e a g place s.node)
    (ap (λ n. suc (suc (suc n))) (between_counted us [] (spell_expression v (program_expression p a)) [] closing (symbol symbols.Close) (expression_counted v p a us part) refl))

function_counted : (v : Version) (p : Program) (f : FunctionId) (xs : List Spot) → FunctionPlaced v p f xs → length xs ≡ length (spell_function v (program_function p f))
function_counted v p f xs (function_placed {xs = us} {ys = vs} leads held pattern body) =
    let one = pattern_counted _ us pattern in
    let two = expression_counted v p _ vs body in
    omega (arith, length-append {A = Spot}, length-append {A = Tok}, one, two)

-- the tokens of an argument
abbrev argument_tokens : Version → Program → Argument → List Tok
argument_tokens v p (argument_forms.Value e) = spell_expression v (program_expression p e)
argument_tokens v p (argument_forms.Process t) = keyword words.SignalFunction ∷ spell_term v (tree p t)
argument_tokens v p (argument_forms.Collection i) = keyword words.Collection ∷ spell_collection v (collection_tree p i)

-- further arguments, one by one
further_one : (v : Version) (p : Program) (a : Argument) (bs : List Argument)
    → length (spell_further (spell_arguments v (arguments_of p (a ∷ bs)))) ≡ suc (length (argument_tokens v p a) + length (spell_further (spell_arguments v (arguments_of p bs))))
further_one v p (argument_forms.Value e) bs = ap suc (length-append (spell_expression v (program_expression p e)) (spell_further (spell_arguments v (arguments_of p bs))))
further_one v p (argument_forms.Process t) bs = omega (arith, length-append (spell_term v (tree p t)) (spell_further (spell_arguments v (arguments_of p bs))))
further_one v p (argument_forms.Collection i) bs = omega (arith, length-append (spell_collection v (collection_tree p i)) (spell_further (spell_arguments v (arguments_of p bs))))

-- the first of further arguments stands behind a comma
listed_one : (v : Version) (p : Program) (a : Argument) (bs : List Argument)
    → length (spell_further (spell_arguments v (arguments_of p (a ∷ bs)))) ≡ suc (length (spell_listed (spell_arguments v (arguments_of p (a ∷ bs)))))
listed_one v p (argument_forms.Value e) bs = refl
listed_one v p (argument_forms.Process t) bs = refl
listed_one v p (argument_forms.Collection i) bs = refl

mutual
  pub term_counted : (v : Version) (p : Program) (t : TermId) (xs : List Spot) → TermPlaced v p t xs → length xs ≡ length (spell_term v (tree p t))
  term_counted v p t xs (bare_placed s) = rw (node_builds p t _ s.node) refl
  term_counted v p t xs (never_placed s counted) = counted
  term_counted v p t xs (with_value_placed {e = e} {xs = us} behind s value) = rw (node_builds p t _ s.node, behind) (omega (arith, expression_counted v p e us value))
  term_counted v p t xs (initialized_placed {k = k} {e = e} {xs = us} opening comma word closing front s value) =
      rw (node_builds p t _ s.node, front)
      (ap suc (around_counted us (word ∷ []) (spell_expression v (program_expression p e)) (keyword (value_word k) ∷ []) opening comma closing (symbol symbols.Comma) (expression_counted v p e us value) refl))
  term_counted v p t xs (timed_placed {e = e} {xs = us} time s value) = rw (node_builds p t _ s.node) (omega (arith, expression_counted v p e us value))
  term_counted v p t xs (selected_placed number s) = rw (node_builds p t _ s.node) refl
  term_counted v p t xs (arrow_placed {f = f} {xs = us} s function) = rw (node_builds p t _ s.node) (omega (arith, function_counted v p f us function))
  term_counted v p t xs (accumulated_placed {e = e} {f = f} {xs = us} {ys = vs} opening comma closing s value function) =
      rw (node_builds p t _ s.node)
      (ap suc (around_counted us vs (spell_expression v (program_expression p e)) (spell_function v (program_function p f)) opening comma closing (symbol symbols.Comma) (expression_counted v p e us value) (function_counted v p f vs function)))
  term_counted v p t xs (joined_placed {a = a} {b = b} {j = j} {xs = us} {ys = vs} {opening = opening} between closing s one two) =
      rw (node_builds p t _ s.node) (around_counted us vs (spell_term v (tree p a)) (spell_term v (tree p b)) opening between closing (symbol (join_symbol j)) (term_counted v p a us one) (term_counted v p b vs two))
  term_counted v p t xs (sided_placed {a = a} {xs = us} s part) = rw (node_builds p t _ s.node) (omega (arith, term_counted v p a us part))
  term_counted v p t xs (headed_placed {a = a} {e = e} {xs = us} {ys = vs} opening comma closing s value part) =
      rw (node_builds p t _ s.node)
      (ap suc (around_counted us vs (spell_expression v (program_expression p e)) (spell_term v (tree p a)) opening comma closing (symbol symbols.Comma) (expression_counted v p e us value) (term_counted v p a vs part)))
  term_counted v p t xs (transformed_placed {a = a} {f = f} {xs = us} {ys = vs} opening comma closing s function part) =
      rw (node_builds p t _ s.node)
      (ap suc (around_counted us vs (spell_function v (program_function p f)) (spell_term v (tree p a)) opening comma closing (symbol symbols.Comma) (function_counted v p f us function) (term_counted v p a vs part)))
  term_counted v p t xs (switching_placed {n = n} {xs = us} {ps = ps} {ys = vs} opening comma leads closing s one pattern two) =
      let names : List Tok = spell_pattern (pattern_of (placed_pattern p n.pattern)) in
      let body : List Tok = spell_term v (tree p n.body) in
      rw (node_builds p t _ s.node)
      (ap suc (around_counted us (ps ++ (leads ∷ vs)) (spell_term v (tree p n.source)) (spell_mapping names body) opening comma closing (symbol symbols.Comma) (term_counted v p n.source us one)
      (between_counted ps vs names body leads (symbol symbols.MapsTo) (pattern_counted (placed_pattern p n.pattern) ps pattern.placed) (term_counted v p n.body vs two))))
  term_counted v p t xs (named_placed {w = w} {k = k} s) = rw (node_builds p t _ s.node, (named_alone v w (name_at (program_expressions p) k)).spelled) refl
  term_counted v p t xs (call_placed {a = a} {xs = us} opening s arguments) =
      rw (node_builds p t _ s.node) (ap (λ n. suc (suc n)) (arguments_counted v p (argument_nodes p a) us arguments))
  term_counted v p t xs (continuing_placed {n = n} {xs = us} {ys = vs} {ps = ps} {zs = zs} opening comma second third leads closing s one two pattern three) =
      let names : List Tok = spell_pattern (pattern_of (placed_pattern p n.pattern)) in
      let body : List Tok = spell_term v (tree p n.body) in
      let known : List Tok = name (name_at (program_expressions p) n.name) ∷ symbol symbols.Comma ∷ spell_mapping names body in
      let mapping = between_counted ps zs names body leads (symbol symbols.MapsTo) (pattern_counted (placed_pattern p n.pattern) ps pattern.placed) (term_counted v p n.body zs three) in
      rw (node_builds p t _ s.node)
      (ap suc (around_counted us (vs ++ (second ∷ n.place ∷ third ∷ (ps ++ (leads ∷ zs)))) (spell_term v (tree p n.source)) (spell_term v (tree p n.observer) ++ (symbol symbols.Comma ∷ known)) opening comma closing (symbol symbols.Comma) (term_counted v p n.source us one)
      (between_counted vs (n.place ∷ third ∷ (ps ++ (leads ∷ zs))) (spell_term v (tree p n.observer)) known second (symbol symbols.Comma) (term_counted v p n.observer vs two) (ap suc (ap suc mapping)))))
  term_counted v p t xs (gathered_placed {i = i} {xs = us} s held members) = rw (node_builds p t _ s.node) (ap suc (members_counted v p (collection_node p i) us members))
  term_counted v p t xs (releasing_placed {n = n} {xs = us} {ys = vs} {ps = ps} {zs = zs} opening comma second third leads closing s held members observer pattern three) =
      let names : List Tok = spell_pattern (pattern_of (placed_pattern p n.pattern)) in
      let body : List Tok = spell_term v (tree p n.body) in
      let known : List Tok = name (name_at (program_expressions p) n.name) ∷ symbol symbols.Comma ∷ spell_mapping names body in
      let mapping = between_counted ps zs names body leads (symbol symbols.MapsTo) (pattern_counted (placed_pattern p n.pattern) ps pattern.placed) (term_counted v p n.body zs three) in
      rw (node_builds p t _ s.node)
      (ap suc (around_counted us (vs ++ (second ∷ n.place ∷ third ∷ (ps ++ (leads ∷ zs)))) (spell_collection v (collection_tree p n.members)) (spell_term v (tree p n.observer) ++ (symbol symbols.Comma ∷ known)) opening comma closing (symbol symbols.Comma) (members_counted v p (collection_node p n.members) us members)
      (between_counted vs (n.place ∷ third ∷ (ps ++ (leads ∷ zs))) (spell_term v (tree p n.observer)) known second (symbol symbols.Comma) (term_counted v p n.observer vs observer) (ap suc (ap suc mapping)))))
  term_counted v p t xs (editing_placed {n = n} {xs = us} {ps = ps} {ys = vs} opening comma second leads closing s held members pattern there edit) =
      let names : List Tok = spell_pattern (pattern_of (placed_pattern p n.pattern)) in
      let edited : List Tok = spell_collection v (collection_tree p n.edit) in
      let mapping = between_counted ps vs names edited leads (symbol symbols.MapsTo) (pattern_counted (placed_pattern p n.pattern) ps pattern.placed) (members_counted v p (collection_node p n.edit) vs edit) in
      rw (node_builds p t _ s.node)
      (ap suc (around_counted us (n.place ∷ second ∷ (ps ++ (leads ∷ vs))) (spell_collection v (collection_tree p n.members)) (name (name_at (program_expressions p) n.name) ∷ symbol symbols.Comma ∷ spell_mapping names edited) opening comma closing (symbol symbols.Comma) (members_counted v p (collection_node p n.members) us members) (ap suc (ap suc mapping))))

  members_counted : (v : Version) (p : Program) (c : CollExpr) (xs : List Spot) → CollectionPlaced v p c xs → length xs ≡ length (spell_collection v (collection_of p c))
  members_counted v p c xs (empty_placed counted) = counted
  members_counted v p c xs used_placed = refl
  members_counted v p c xs (added_placed {c = d} {e = e} {t = t} {xs = us} {ys = vs} {zs = ws} opening comma second closing members key term) =
      ap suc (around_counted us (vs ++ (second ∷ ws)) (spell_collection v (collection_of p d)) (spell_expression v (program_expression p e) ++ (symbol symbols.Comma ∷ spell_term v (tree p t))) opening comma closing (symbol symbols.Comma) (members_counted v p d us members)
      (between_counted vs ws (spell_expression v (program_expression p e)) (spell_term v (tree p t)) second (symbol symbols.Comma) (expression_counted v p e vs key) (term_counted v p t ws term)))
  members_counted v p c xs (dropped_placed {c = d} {e = e} {xs = us} {ys = vs} opening comma closing members key) =
      ap suc (around_counted us vs (spell_collection v (collection_of p d)) (spell_expression v (program_expression p e)) opening comma closing (symbol symbols.Comma) (members_counted v p d us members) (expression_counted v p e vs key))
  members_counted v p c xs (kept_placed {c = d} {f = f} {xs = us} {ys = vs} opening comma closing members function) =
      ap suc (around_counted us vs (spell_collection v (collection_of p d)) (spell_function v (program_function p f)) opening comma closing (symbol symbols.Comma) (members_counted v p d us members) (function_counted v p f vs function))
  members_counted v p c xs (chosen_placed {e = e} {c = d} {d = f} {xs = us} {ys = vs} {zs = ws} then_at else_at condition one other) =
      ap suc (between_counted us (vs ++ (else_at ∷ ws)) (spell_expression v (program_expression p e)) (spell_collection v (collection_of p d) ++ (keyword words.Else ∷ spell_collection v (collection_of p f))) then_at (keyword words.Then) (expression_counted v p e us condition)
      (between_counted vs ws (spell_collection v (collection_of p d)) (spell_collection v (collection_of p f)) else_at (keyword words.Else) (members_counted v p d vs one) (members_counted v p f ws other)))

  arguments_counted : (v : Version) (p : Program) (bs : List Argument) (xs : List Spot) → ArgumentsPlaced v p bs xs → length xs ≡ length (spell_listed (spell_arguments v (arguments_of p bs)))
  arguments_counted v p bs xs (no_arguments_placed closing) = refl
  arguments_counted v p bs xs (some_arguments_placed {a = a} {bs = others} each) = omega (arith, each_argument_counted v p (a ∷ others) xs each, listed_one v p a others)

  each_argument_counted : (v : Version) (p : Program) (bs : List Argument) (xs : List Spot) → EachArgumentPlaced v p bs xs → length xs + 1 ≡ length (spell_further (spell_arguments v (arguments_of p bs)))
  each_argument_counted v p bs xs no_argument_placed = refl
  each_argument_counted v p bs xs (argument_placed {a = a} {bs = others} {xs = us} {ys = vs} separator one rest) =
      omega (arith, length-append us (separator ∷ vs), argument_counted v p a us one, each_argument_counted v p others vs rest, further_one v p a others)

  argument_counted : (v : Version) (p : Program) (a : Argument) (xs : List Spot) → ArgumentPlaced v p a xs → length xs ≡ length (argument_tokens v p a)
  argument_counted v p a xs (value_argument_placed {e = e} value) = expression_counted v p e xs value
  argument_counted v p a xs (process_argument_placed {t = t} {xs = us} word process) = ap suc (term_counted v p t us process)
  argument_counted v p a xs (collection_argument_placed {i = i} {xs = us} word held members) = ap suc (members_counted v p (collection_node p i) us members)

each_parameter_counted : (v : Version) (qs : List PlacedParameter) (xs : List Spot) → EachParameterPlaced v qs xs → length xs + 1 ≡ length (spell_further (map (spell_parameter v) (parameters_of qs)))
each_parameter_counted v qs xs no_parameter_placed = refl
each_parameter_counted v qs xs (parameter_placed {q = q} {qs = others} {xs = us} {ys = vs} separator one rest) =
    omega (arith, length-append us (separator ∷ vs), one.counted, each_parameter_counted v others vs rest, length-append (spell_parameter v (q.name, q.kind)) (spell_further (map (spell_parameter v) (parameters_of others))))

parameters_counted : (v : Version) (qs : List PlacedParameter) (xs : List Spot) → ParametersPlaced v qs xs → length xs ≡ length (spell_listed (map (spell_parameter v) (parameters_of qs)))
parameters_counted v qs xs (no_parameters_placed closing) = refl
parameters_counted v qs xs (some_parameters_placed {q = q} {qs = others} each) = omega (arith, each_parameter_counted v (q ∷ others) xs each)

pub template_counted : (v : Version) (p : Program) (h : Header) (xs : List Spot) → TemplatePlaced v p h xs → length xs ≡ length (spell_template v (term_template p h))
template_counted v p h xs t =
    let t' = term_template p h in
    let parameters : List Tok = spell_listed (map (spell_parameter v) (parameters_of h.parameters)) in
    let ending : List Tok = spell_term v (tree p h.body) ++ (symbol symbols.Semicolon ∷ []) in
    omega (
      arith,
      ap length t.split,
      t.typed,
      parameters_counted v h.parameters t.listed t.parameters,
      term_counted v p h.body t.body t.placed,
      length-append t.listed (t.signature ++ (t.body ++ (t.end ∷ []))),
      length-append t.signature (t.body ++ (t.end ∷ [])),
      length-append t.body (t.end ∷ []),
      length-append parameters (spell_signature v t' ++ ending),
      length-append (spell_signature v t') ending,
      length-append (spell_term v (tree p h.body)) (symbol symbols.Semicolon ∷ []),
    )

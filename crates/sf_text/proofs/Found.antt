-- What was read into a program before more terms are built of it.
use Rattle.std.proofs.Common.{◌≡◌, ℕ, suc, false, ◌+◌, ◌<◌, ◌≤◌, List, length, refl, sym, ◌∙◌, ap, subst, arith, ℤ, ◌∷◌, Result, Ok, Err, IfOk, IfErr}
use Rattle.std.specs.declared.alloc.Global.{Global}
use Rattle.std.specs.declared.rc.Rc.{Rc}
use Rattle.sf_value.specs.Values.{Name, Kind}
use Rattle.sf_expr.specs.declared.exprs.ExprId.{ExprId}
use Rattle.sf_expr.specs.declared.exprs.FunctionId.{FunctionId}
use Rattle.sf_expr.specs.Expressions.{Pattern, pattern_depth, Expression, size, Function, function_size}
use Rattle.sf_expr.specs.Expressions
use Rattle.sf_term.specs.declared.form.Bare.{Bare}
use Rattle.sf_term.specs.declared.form.WithValue.{WithValue}
use Rattle.sf_term.specs.declared.form.WithValue.TheVariants as values
use Rattle.sf_term.specs.declared.form.Timing.{Timing}
use Rattle.sf_term.specs.declared.form.Selection.{Selection}
use Rattle.sf_term.specs.declared.form.Accumulation.{Accumulation}
use Rattle.sf_term.specs.declared.form.Join.{Join}
use Rattle.sf_term.specs.declared.form.Side.{Side}
use Rattle.sf_term.specs.declared.form.Heading.{Heading}
use Rattle.sf_term.specs.declared.form.Observation.{Observation}
use Rattle.sf_term.specs.declared.form.Switching.{Switching}
use Rattle.sf_term.specs.declared.form.Naming.{Naming}
use Rattle.sf_term.specs.declared.collection.CollectionId.{CollectionId}
use Rattle.sf_term.specs.declared.collection.CollExpr.{CollExpr}
use Rattle.sf_term.specs.declared.collection.CollExpr.TheVariants as collections
use Rattle.sf_term.specs.declared.node.TermId.{TermId}
use Rattle.sf_term.specs.declared.node.Node.{Node}
use Rattle.sf_term.specs.declared.node.Argument.{Argument}
use Rattle.sf_term.specs.declared.node.Argument.TheVariants as arguments
use Rattle.sf_term.specs.declared.program.Program.{Program}
use Rattle.sf_term.specs.declared.refusal.BuildRefusal.{BuildRefusal}
use Rattle.sf_term.specs.Trees.{terms_with_value, Term, primitive, bare, never, with_value, timed, selected, arrow, accumulated, named_term, joined, sided, transformed, switching, continuing, gathered, releasing, editing, Collection, reference, call, no_arguments, term_depth, collection_depth, terms_in, terms_collected, expressions_in, expressions_collected}
use Rattle.sf_term.specs.Trees as forms
use Rattle.sf_term.specs.Names.{HasNames}
use Rattle.sf_term.specs.Building.{BuildsTerm}
use Rattle.sf_term.specs.Parameters.{NameKind}
use Rattle.sf_term.specs.Arena.{HoldsMembers, HoldsWhole, collection_of, collection_tree, AddsCollection, AddsUsed, tree, arguments_of, term_of, term_node_at, program_function, term_count, expression_count, ExtendsProgram, AddsTerm, program_expression}
use Rattle.sf_term.proofs.Extended.{few_program_expressions, keeps_trans, unchanged_keeps, collection_kept, collection_at_kept}
use Rattle.sf_value.specs.KindView.{key_kind_of}
use Rattle.sf_value.specs.declared.ty.KeyType.{KeyType}
use Rattle.sf_refusal.specs.declared.spot.Spot.{Spot}
use Rattle.sf_lex.specs.declared.symbol.Symbol.TheVariants as symbols
use Rattle.sf_lex.specs.declared.word.Keyword.TheVariants as words
use Rattle.sf_lex.specs.Tokens.{Tok}
use Rattle.sf_lex.specs.Tokens
use Rattle.sf_grammar.specs.declared.ty.Version.{Version}
use Rattle.sf_grammar.specs.declared.ty.Version.TheVariants as versions
use Rattle.sf_text.specs.declared.parts.stop.Stop.{Stop}
use Rattle.sf_text.specs.declared.parts.stop.Stop.TheVariants.{Memory}
use Rattle.sf_grammar.specs.Spelling.{stands_initially, head_makes}
use Rattle.sf_grammar.specs.Reading.{◌and_then◌, parse_number, parse_never, parse_timed, parse_selected, Read, got, Counts, counted_term, counts_with_expression, counts_with_function, parse_symbol, parse_inner_type, parse_pattern, parse_expression, parse_function, parse_value, parse_arrow, parse_accumulated, parse_sided, parse_headed, parse_transformed, parse_body, parse_switching, parse_name, parse_named, parse_continuing, parse_listed, parse_arguments, parse_call, parse_name_kind, parse_parameter, term_read, parse_join, parse_joined, parse_term, parse_keyword, parse_keys, parse_collection, parse_empty, parse_used, parse_added, parse_dropped, parse_kept, parse_chosen, parse_gathered, parse_releasing, parse_edit, parse_editing, parse_argument, counts_with_collection, actual_value, actual_process, actual_collection, no_word, process_word, collection_word, argument_word, behind_first}
use Rattle.sf_text.specs.Parsing.Answers.{StopsReading, FoundExpression, FoundFunction, counts_of, stop_for, built_as}
use Rattle.sf_text.specs.Answers.{FoundTerm, ReadsTermInto, FoundCollection, ReadsCollectionInto, FoundMembers, FoundEdit, FoundBody, FoundArgument, FoundArguments}
use Rattle.sf_grammar.proofs.Words.{IsLone, named_alone}
use Rattle.sf_grammar.proofs.Takes.{HeadMakes, with_pre, stays_headed, head_view, TookFunction, Took, TookBody, TookListed, TookCollection, function_takes, body_takes, arguments_take, term_takes, parts_taken, pattern_takes, TookPattern}
use Rattle.sf_grammar.proofs.Parts.{Same, bind_got, got_same}
use Rattle.sf_text.specs.Consuming.{headed_node}
use Rattle.sf_text.proofs.Placed.{headed_makes}
use Rattle.sf_text.proofs.Parsing.Found.{refused_as_read, read_within, expression_taken, behind_expression}

-- a term whose parts were read, before it is added to the program
pub record Ready (old mid : Program) (built : Term) (start rest : List Tok) (read : Read Term) : Type 0 where
  pub term : Term
  pub is : read ≡ term_read (counts_of old) term start rest
  pub same : built ≡ term
  pub shallow : term_depth term ≤ 64
  pub terms : term_count mid + 1 ≡ term_count old + terms_in term
  pub expressions : expression_count mid ≡ expression_count old + expressions_in term

-- a term whose parts were read was added to the program, which had room for it
pub term_found : {old mid new : Program} {id : TermId} {node : Node} {built : Term} {spot : Spot} {start rest : List Tok} {read : Read Term}
    → Ready old mid built start rest read → ExtendsProgram old mid → term_count mid < 100000 → AddsTerm mid new id node built spot → FoundTerm old new id rest read
term_found {old} {mid} {new} {start = start} {rest = rest} ready kept room added = record {
  term = ready.term;
  is = ready.is ∙ read_within (term_count old + terms_in ready.term) ready.term start rest (omega (arith, room, ready.terms));
  held = added.within;
  tree = added.is ∙ ready.same;
  kept = keeps_trans old mid new kept added.kept;
  terms = added.term_counted ∙ ready.terms;
  expressions = added.expression_counted ∙ ready.expressions;
}

-- a term whose parts were read was given to the program
pub term_built : {old mid : Program} {built : Term} {start rest : List Tok} {read : Read Term} {Named : Type 0} (new : Program) (node : Node) (spot : Spot) (left : ℕ) (added : Result TermId BuildRefusal) (answer : Result TermId Stop)
    → Ready old mid built start rest read → ExtendsProgram old mid → length start ≡ left → answer ≡ built_as left added → BuildsTerm mid new added node built spot Named → Named → ReadsTermInto old new rest answer read
term_built {old = old} {rest = rest} {read = read} new node spot left (Ok id) answer ready kept counted is builds named =
    subst (λ (a : Result TermId Stop). ReadsTermInto old new rest a read) (sym is) (term_found ready kept builds.refused.room.0 builds.ok)
term_built {old = old} {mid = mid} {built = built} {start = start} {rest = rest} {read = read} new node spot left (Err refusal) answer ready kept counted is builds named =
    let deep : term_depth built ≡ term_depth ready.term = ap term_depth ready.same in
    subst (λ (a : Result TermId Stop). ReadsTermInto old new rest a read) (sym is)
    (refused_as_read (term_count mid) (term_depth built) (term_count old + terms_in ready.term) ready.term start left rest read refusal counted ready.is builds.refused.due (λ full. omega (arith, full, ready.terms)) (omega (arith, ready.shallow)) named)

-- a primitive without constants
pub bare_ready : {old : Program} (k : Bare) (start rest : List Tok) → Ready old old (primitive (bare k)) start rest (term_read (counts_of old) (primitive (bare k)) start rest)
bare_ready k start rest = record { term = primitive (bare k); is = refl; same = refl; shallow = omega arith; terms = omega arith; expressions = omega arith }

term_taken : (v : Version) (old new : Program) (id : TermId) (rest tokens : List Tok) (d : ℕ) → (f : FoundTerm old new id rest (parse_term d v (counts_of old) tokens)) → Took v d (counts_of old) tokens f.term rest
term_taken v old new id rest tokens d f = term_takes v d (counts_of old) tokens f.term rest (few_program_expressions old) f.is

behind_term : (old mid : Program) (f : Term) → term_count mid ≡ term_count old + terms_in f → expression_count mid ≡ expression_count old + expressions_in f → counts_of mid ≡ counted_term (counts_of old) f
behind_term old mid f terms expressions = rw (terms, expressions) refl

-- a value that stands behind its word makes one term with it
one_term : (k : WithValue) → stands_initially k ≡ false → terms_with_value k ≡ 1
one_term values.InitializedPre behind = absurd cc
one_term _ behind = refl

-- a primitive with a value
pub value_ready : (v : Version) {old mid : Program} {start rest : List Tok} {e : ExprId} {k : WithValue} (d : ℕ) (tokens : List Tok) → d ≤ 63 → stands_initially k ≡ false → FoundExpression old mid e rest (parse_expression d v (counts_of old) tokens)
    → Ready old mid (primitive (with_value k (program_expression mid e))) start rest (parse_value d v (counts_of old) k start tokens)
unfolding parse_value
value_ready v {old} {mid} {start} {rest} {e} {k} d tokens small behind f =
    let took = expression_taken v old mid e rest tokens d f in
    record {
      term = primitive (with_value k f.value);
      is = rw f.is refl;
      same = ap (λ (i : Expression). primitive (with_value k i)) f.tree;
      shallow = omega (arith, took.shallow);
      terms = omega (arith, f.terms, one_term k behind);
      expressions = omega (arith, f.expressions);
    }

-- `never`
pub never_ready : (v : Version) {old : Program} {start rest : List Tok} {u : Kind} (d : ℕ) (tokens : List Tok) → d ≤ 63 → parse_inner_type d v tokens 0 tokens ≡ got u rest
    → Ready old old (primitive (never u)) start rest (parse_never d v (counts_of old) start tokens)
unfolding parse_never
never_ready v {u = u} d tokens small is = record { term = primitive (never u); is = rw is refl; same = refl; shallow = omega arith; terms = omega arith; expressions = omega arith }

-- a primitive with a time and a value
pub timed_ready : (v : Version) {old mid : Program} {start r0 rest : List Tok} {q n : ℤ} {e : ExprId} {k : Timing} (d : ℕ) (tokens : List Tok) → d ≤ 63 → parse_number tokens ≡ got q r0 → n ≡ q
    → FoundExpression old mid e rest (parse_expression d v (counts_of old) r0)
    → Ready old mid (primitive (timed k n (program_expression mid e))) start rest (parse_timed d v (counts_of old) k start tokens)
unfolding parse_timed
timed_ready v {old} {mid} {start} {r0} {rest} {q} {n} {e} {k} d tokens small time number f =
    let took = expression_taken v old mid e rest r0 d f in
    record {
      term = primitive (timed k q f.value);
      is = rw (time, f.is) refl;
      same = ap (λ (z : ℤ). primitive (timed k z (program_expression mid e))) number ∙ ap (λ (i : Expression). primitive (timed k q i)) f.tree;
      shallow = omega (arith, took.shallow);
      terms = omega (arith, f.terms);
      expressions = omega (arith, f.expressions);
    }

-- a primitive with a number of events
pub selected_ready : {old : Program} {start rest : List Tok} {n m : ℤ} {k : Selection} (tokens : List Tok) → parse_number tokens ≡ got n rest → m ≡ n
    → Ready old old (primitive (selected k m)) start rest (parse_selected (counts_of old) k start tokens)
unfolding parse_selected
selected_ready {n = n} {k = k} tokens counted number =
    record { term = primitive (selected k n); is = rw counted refl; same = ap (λ (z : ℤ). primitive (selected k z)) number; shallow = omega arith; terms = omega arith; expressions = omega arith }

-- a function as a primitive
pub arrow_ready : (v : Version) {old mid : Program} {start rest : List Tok} {g : FunctionId} (d : ℕ) (tokens : List Tok) → d ≤ 63 → FoundFunction old mid g rest (parse_function d v (counts_of old) tokens)
    → Ready old mid (primitive (arrow (program_function mid g))) start rest (parse_arrow d v (counts_of old) start tokens)
unfolding parse_arrow
arrow_ready v {old} {mid} {start} {rest} {g} d tokens small f =
    let took : TookFunction v d (counts_of old) tokens f.function rest = function_takes v d (counts_of old) tokens f.function rest f.is in
    record {
      term = primitive (arrow f.function);
      is = rw f.is refl;
      same = ap (λ h. primitive (arrow h)) f.meaning;
      shallow = omega (arith, took.shallow);
      terms = omega (arith, f.terms);
      expressions = omega (arith, f.expressions);
    }

-- a primitive with a value and a function
pub accumulated_ready : (v : Version) {old one two : Program} {start r0 r1 r2 r3 rest : List Tok} {e : ExprId} {g : FunctionId} {k : Accumulation} (d : ℕ) (tokens : List Tok) → d ≤ 63 → parse_symbol symbols.Open tokens ≡ got tt r0
    → FoundExpression old one e r1 (parse_expression d v (counts_of old) r0) → parse_symbol symbols.Comma r1 ≡ got tt r2 → FoundFunction one two g r3 (parse_function d v (counts_of one) r2) → parse_symbol symbols.Close r3 ≡ got tt rest
    → Ready old two (primitive (accumulated k (program_expression two e) (program_function two g))) start rest (parse_accumulated d v (counts_of old) k start tokens)
unfolding parse_accumulated
accumulated_ready v {old} {one} {two} {start} {r0} {r1} {r2} {r3} {rest} {e} {g} {k} d tokens small opening f comma h closing =
    let second : parse_function d v (counts_with_expression (counts_of old) f.value) r2 ≡ got h.function r3 =
    subst (λ (c : Counts). parse_function d v c r2 ≡ got h.function r3) (behind_expression old one f.value f.terms f.expressions) h.is in
    let first_same : program_expression two e ≡ f.value = h.kept.trees.values e f.held ∙ f.tree in
    let took_f = expression_taken v old one e r1 r0 d f in
    let took_h : TookFunction v d (counts_of one) r2 h.function r3 = function_takes v d (counts_of one) r2 h.function r3 h.is in
    record {
      term = primitive (accumulated k f.value h.function);
      is = rw (opening, f.is, comma, second, closing) refl;
      same = rw (first_same, h.meaning) refl;
      shallow = omega (arith, took_f.shallow, took_h.shallow);
      terms = omega (arith, f.terms, h.terms);
      expressions = omega (arith, f.expressions, h.expressions);
    }

-- a term on one part of a pair
pub sided_ready : (v : Version) {old mid : Program} {start rest : List Tok} {a : TermId} {s : Side} (d : ℕ) (tokens : List Tok) → d ≤ 63 → FoundTerm old mid a rest (parse_term d v (counts_of old) tokens)
    → Ready old mid (sided s (tree mid a)) start rest (parse_sided (parse_term d v) (counts_of old) s start tokens)
unfolding parse_sided
sided_ready v {old} {mid} {start} {rest} {a} {s} d tokens small f =
    let took = term_taken v old mid a rest tokens d f in
    record {
      term = sided s f.term;
      is = rw f.is refl;
      same = ap (sided s) f.tree;
      shallow = omega (arith, took.shallow);
      terms = omega (arith, f.terms);
      expressions = omega (arith, f.expressions);
    }

-- what a head makes: how deep it is, and how many terms and expressions it is made of
record MadeSo (d : ℕ) (e : Expression) (f t : Term) : Type 0 where
  pub shallow : Expressions.depth e ≤ d → term_depth f ≤ d → term_depth t ≤ suc d
  pub terms : terms_in t ≡ suc (terms_in f)
  pub expressions : expressions_in t ≡ size e + expressions_in f

made_so : (d : ℕ) {h : Heading} {e : Expression} {f t : Term} → HeadMakes h e f t → MadeSo d e f t
made_so d with_pre = record { shallow = λ p q. omega (arith, p); terms = refl; expressions = omega arith }
made_so d (stays_headed k) = record { shallow = λ p q. omega (arith, p, q); terms = refl; expressions = refl }

-- a term with an expression at its head, or what that is with `pre`
pub headed_ready : (v : Version) {old one two : Program} {start r0 r1 r2 r3 rest : List Tok} {e : ExprId} {a : TermId} (h : Heading) {n : Node} (d : ℕ) (tokens : List Tok) → d ≤ 63 → n ≡ headed_node h e a (term_node_at two a) → parse_symbol symbols.Open tokens ≡ got tt r0
    → FoundExpression old one e r1 (parse_expression d v (counts_of old) r0) → parse_symbol symbols.Comma r1 ≡ got tt r2 → FoundTerm one two a r3 (parse_term d v (counts_of one) r2) → parse_symbol symbols.Close r3 ≡ got tt rest
    → Ready old two (term_of two n) start rest (parse_headed d v (parse_term d v) (counts_of old) h start tokens)
unfolding parse_headed
headed_ready v {old} {one} {two} {start} {r0} {r1} {r2} {r3} {rest} {e} {a} h d tokens small of_head opening f comma g closing =
    let second : parse_term d v (counts_with_expression (counts_of old) f.value) r2 ≡ got g.term r3 =
    subst (λ (c : Counts). parse_term d v c r2 ≡ got g.term r3) (behind_expression old one f.value f.terms f.expressions) g.is in
    let first_same : program_expression two e ≡ f.value = g.kept.trees.values e f.held ∙ f.tree in
    let took_f = expression_taken v old one e r1 r0 d f in
    let took_g = term_taken v one two a r3 r2 d g in
    let made = made_so d (head_view h f.value g.term) in
    record {
      term = head_makes h f.value g.term;
      is = rw (opening, f.is, comma, second, closing) refl;
      same = ap (term_of two) of_head ∙ headed_makes two h e a ∙ ap (λ (i : Expression). head_makes h i (tree two a)) first_same ∙ ap (head_makes h f.value) g.tree;
      shallow = omega (arith, small, made.shallow took_f.shallow took_g.shallow);
      terms = omega (arith, f.terms, g.terms, made.terms);
      expressions = omega (arith, f.expressions, g.expressions, made.expressions);
    }

behind_function : (old mid : Program) (h : Function) → term_count mid ≡ term_count old → expression_count mid ≡ expression_count old + function_size h → counts_of mid ≡ counts_with_function (counts_of old) h
behind_function old mid h terms expressions = rw (terms, expressions) refl

-- a term with a function at its head
pub transformed_ready : (v : Version) {old one two : Program} {start r0 r1 r2 r3 rest : List Tok} {g : FunctionId} {a : TermId} (d : ℕ) (tokens : List Tok) → d ≤ 63 → parse_symbol symbols.Open tokens ≡ got tt r0
    → FoundFunction old one g r1 (parse_function d v (counts_of old) r0) → parse_symbol symbols.Comma r1 ≡ got tt r2 → FoundTerm one two a r3 (parse_term d v (counts_of one) r2) → parse_symbol symbols.Close r3 ≡ got tt rest
    → Ready old two (transformed (program_function two g) (tree two a)) start rest (parse_transformed d v (parse_term d v) (counts_of old) start tokens)
unfolding parse_transformed
transformed_ready v {old} {one} {two} {start} {r0} {r1} {r2} {r3} {rest} {g} {a} d tokens small opening h comma f closing =
    let second : parse_term d v (counts_with_function (counts_of old) h.function) r2 ≡ got f.term r3 =
    subst (λ (c : Counts). parse_term d v c r2 ≡ got f.term r3) (behind_function old one h.function h.terms h.expressions) f.is in
    let first_same : program_function two g ≡ h.function = f.kept.trees.meanings g h.held ∙ h.meaning in
    let took_h : TookFunction v d (counts_of old) r0 h.function r1 = function_takes v d (counts_of old) r0 h.function r1 h.is in
    let took_f = term_taken v one two a r3 r2 d f in
    record {
      term = transformed h.function f.term;
      is = rw (opening, h.is, comma, second, closing) refl;
      same = rw (first_same, f.tree) refl;
      shallow = omega (arith, took_h.shallow, took_f.shallow);
      terms = omega (arith, h.terms, f.terms);
      expressions = omega (arith, h.expressions, f.expressions);
    }

-- the body of a switch
pub body_found : (v : Version) {old new : Program} {r1 r2 rest : List Tok} {p : Pattern} {b : TermId} (d : ℕ) (tokens : List Tok) → parse_pattern d tokens ≡ got p r1 → parse_symbol symbols.MapsTo r1 ≡ got tt r2 → HasNames p
    → FoundTerm old new b rest (parse_term d v (counts_of old) r2) → FoundBody old new p b rest (parse_body d (parse_term d v) (counts_of old) tokens)
body_found v d tokens pattern leads names f =
    record { term = f.term; is = rw (pattern, leads, f.is) refl; names = names; held = f.held; tree = f.tree; kept = f.kept; terms = f.terms; expressions = f.expressions }

body_taken : (v : Version) (old new : Program) (p : Pattern) (id : TermId) (rest tokens : List Tok) (d : ℕ) → (f : FoundBody old new p id rest (parse_body d (parse_term d v) (counts_of old) tokens)) → TookBody v d (counts_of old) tokens (p, f.term) rest
body_taken v old new p id rest tokens d f = body_takes v d (counts_of old) tokens (p, f.term) rest (term_takes v d) (few_program_expressions old) f.is

-- a term that gives way to another inside a pattern
pub switching_ready : (v : Version) {old one two : Program} {start r0 r1 r2 r3 rest : List Tok} {a b : TermId} {p : Pattern} {w : Switching} (d : ℕ) (tokens : List Tok) → d ≤ 63 → parse_symbol symbols.Open tokens ≡ got tt r0
    → FoundTerm old one a r1 (parse_term d v (counts_of old) r0) → parse_symbol symbols.Comma r1 ≡ got tt r2 → FoundBody one two p b r3 (parse_body d (parse_term d v) (counts_of one) r2) → parse_symbol symbols.Close r3 ≡ got tt rest
    → Ready old two (switching w (tree two a) p (tree two b)) start rest (parse_switching d (parse_term d v) (counts_of old) w start tokens)
unfolding parse_switching
switching_ready v {old} {one} {two} {start} {r0} {r1} {r2} {r3} {rest} {a} {b} {p} {w} d tokens small opening f comma g closing =
    let second : parse_body d (parse_term d v) (counted_term (counts_of old) f.term) r2 ≡ got (p, g.term) r3 =
    subst (λ (c : Counts). parse_body d (parse_term d v) c r2 ≡ got (p, g.term) r3) (behind_term old one f.term f.terms f.expressions) g.is in
    let first_same : tree two a ≡ f.term = g.kept.trees.trees a f.held ∙ f.tree in
    let took_f = term_taken v old one a r1 r0 d f in
    let took_g = body_taken v one two p b r3 r2 d g in
    record {
      term = switching w f.term p g.term;
      is = rw (opening, f.is, comma, second, closing) refl;
      same = rw (first_same, g.tree) refl;
      shallow = omega (arith, took_f.shallow, took_g.pattern, took_g.shallow);
      terms = omega (arith, f.terms, g.terms);
      expressions = omega (arith, f.expressions, g.expressions);
    }

-- a form that is a name alone
pub named_ready : {old : Program} (w : Naming) {start rest : List Tok} {k n : Name} (tokens : List Tok) → parse_name tokens ≡ got k rest → n ≡ k → Ready old old (named_term w n) start rest (parse_named w (counts_of old) start tokens)
unfolding parse_named
named_ready w {k = k} tokens named bytes =
    let lone : IsLone versions.One w k = named_alone versions.One w k in
    record { term = named_term w k; is = rw named refl; same = ap (named_term w) bytes; shallow = omega (arith, lone.depth); terms = omega (arith, lone.terms); expressions = omega (arith, lone.expressions) }

-- a term that gives way to another, which knows it by a name
pub continuing_ready : (v : Version) {old one two three : Program} {start r0 r1 r2 r3 r4 r5 r6 r7 rest : List Tok} {a b c : TermId} {k n : Name} {p : Pattern} {w : Observation} (d : ℕ) (tokens : List Tok) → d ≤ 63 → parse_symbol symbols.Open tokens ≡ got tt r0
    → FoundTerm old one a r1 (parse_term d v (counts_of old) r0) → parse_symbol symbols.Comma r1 ≡ got tt r2 → FoundTerm one two b r3 (parse_term d v (counts_of one) r2) → parse_symbol symbols.Comma r3 ≡ got tt r4
    → parse_name r4 ≡ got k r5 → parse_symbol symbols.Comma r5 ≡ got tt r6 → FoundBody two three p c r7 (parse_body d (parse_term d v) (counts_of two) r6) → parse_symbol symbols.Close r7 ≡ got tt rest → n ≡ k
    → Ready old three (continuing w (tree three a) (tree three b) n p (tree three c)) start rest (parse_continuing d (parse_term d v) (counts_of old) w start tokens)
unfolding parse_continuing
continuing_ready v {old} {one} {two} {three} {start} {r0} {r1} {r2} {r3} {r4} {r5} {r6} {r7} {rest} {a} {b} {c} {k} {n} {p} {w} d tokens small opening f comma g second named third h closing bytes =
    let behind_one = behind_term old one f.term f.terms f.expressions in
    let at_g : parse_term d v (counted_term (counts_of old) f.term) r2 ≡ got g.term r3 = subst (λ (c : Counts). parse_term d v c r2 ≡ got g.term r3) behind_one g.is in
    let behind_two : counts_of two ≡ counted_term (counted_term (counts_of old) f.term) g.term = behind_term one two g.term g.terms g.expressions ∙ ap (λ (c : Counts). counted_term c g.term) behind_one in
    let at_h : parse_body d (parse_term d v) (counted_term (counted_term (counts_of old) f.term) g.term) r6 ≡ got (p, h.term) r7 = subst (λ (c : Counts). parse_body d (parse_term d v) c r6 ≡ got (p, h.term) r7) behind_two h.is in
    let first_same : tree three a ≡ f.term = h.kept.trees.trees a (g.kept.trees.terms a f.held) ∙ (g.kept.trees.trees a f.held ∙ f.tree) in
    let second_same : tree three b ≡ g.term = h.kept.trees.trees b g.held ∙ g.tree in
    let took_f = term_taken v old one a r1 r0 d f in
    let took_g = term_taken v one two b r3 r2 d g in
    let took_h = body_taken v two three p c r7 r6 d h in
    record {
      term = continuing w f.term g.term k p h.term;
      is = rw (opening, f.is, comma, at_g, second, named, third, at_h, closing) refl;
      same = rw (first_same, second_same, bytes, h.tree) refl;
      shallow = omega (arith, took_f.shallow, took_g.shallow, took_h.pattern, took_h.shallow);
      terms = omega (arith, f.terms, g.terms, h.terms);
      expressions = omega (arith, f.expressions, g.expressions, h.expressions);
    }

-- a call of a template
pub call_ready : (v : Version) {old mid : Program} {r1 rest : List Tok} {bs : List Argument} {n : Name} (d : ℕ) (g : Name) (r0 : List Tok) → d ≤ 63 → parse_symbol symbols.Open r0 ≡ got tt r1
    → FoundArguments old mid bs rest (parse_listed no_arguments (λ ts. parse_arguments (suc (length ts)) d v (parse_term d v) (parse_collection d v) (counts_of old) ts) r1) → n ≡ g
    → Ready old mid (reference (call n (arguments_of mid bs))) (Tokens.name g ∷ r0) rest (parse_call d v (parse_term d v) (parse_collection d v) (counts_of old) (Tokens.name g ∷ r0))
unfolding parse_call
call_ready v {old} {mid} {r1} {rest} {bs} {n} d g r0 small opening f bytes =
    let took : TookListed v d (counts_of old) r1 f.value rest = arguments_take v d (counts_of old) r1 f.value rest (parts_taken v d) (few_program_expressions old) f.is in
    record {
      term = reference (call g f.value);
      is = rw (opening, f.is) refl;
      same = rw (bytes, f.same) refl;
      shallow = omega (arith, took.shallow);
      terms = omega (arith, f.terms);
      expressions = f.expressions;
    }

-- two terms joined
pub joined_ready : (v : Version) {old one two : Program} {start r1 r2 r3 rest : List Tok} {a b : TermId} {j : Join} (d : ℕ) (tokens : List Tok) → d ≤ 63 → FoundTerm old one a r1 (parse_term d v (counts_of old) tokens)
    → parse_join r1 ≡ got j r2 → FoundTerm one two b r3 (parse_term d v (counts_of one) r2) → parse_symbol symbols.Close r3 ≡ got tt rest
    → Ready old two (joined j (tree two a) (tree two b)) start rest (parse_joined (parse_term d v) (counts_of old) start tokens)
unfolding parse_joined
joined_ready v {old} {one} {two} {start} {r1} {r2} {r3} {rest} {a} {b} {j} d tokens small f joining g closing =
    let second : parse_term d v (counted_term (counts_of old) f.term) r2 ≡ got g.term r3 =
    subst (λ (c : Counts). parse_term d v c r2 ≡ got g.term r3) (behind_term old one f.term f.terms f.expressions) g.is in
    let first_same : tree two a ≡ f.term = g.kept.trees.trees a f.held ∙ f.tree in
    let took_f = term_taken v old one a r1 tokens d f in
    let took_g = term_taken v one two b r3 r2 d g in
    record {
      term = joined j f.term g.term;
      is = rw (f.is, joining, second, closing) refl;
      same = rw (first_same, g.tree) refl;
      shallow = omega (arith, took_f.shallow, took_g.shallow);
      terms = omega (arith, f.terms, g.terms);
      expressions = omega (arith, f.expressions, g.expressions);
    }

-- a parameter
pub parameter_found : (v : Version) {r0 r1 rest : List Tok} {x n : Name} {k : NameKind} (tokens : List Tok) → parse_name tokens ≡ got x r0 → parse_symbol symbols.Colon r0 ≡ got tt r1 → parse_name_kind v r1 ≡ got k rest → n ≡ x
    → parse_parameter v tokens ≡ got (n, k) rest
unfolding parse_parameter
parameter_found v tokens name colon kind bytes = rw (name, colon, kind, bytes) refl

-- ## Collections

collection_taken : (v : Version) (old : Program) (i : Collection) (rest tokens : List Tok) (d : ℕ) → parse_collection d v (counts_of old) tokens ≡ got i rest → TookCollection v d (counts_of old) tokens i rest
collection_taken v old i rest tokens d is = (parts_taken v d).members (counts_of old) tokens i rest (few_program_expressions old) is

behind_collection : (old mid : Program) (i : Collection) → term_count mid ≡ term_count old + terms_collected i → expression_count mid ≡ expression_count old + expressions_collected i → counts_of mid ≡ counts_with_collection (counts_of old) i
behind_collection old mid i terms expressions = rw (terms, expressions) refl

-- a collection that was read, where more was read behind it
record CollectionStays (two : Program) (c : CollExpr) (i : Collection) : Type 0 where
  pub made : collection_of two c ≡ i
  pub held : HoldsMembers two c

collection_stays : {one two : Program} {c : CollExpr} {i : Collection} → ExtendsProgram one two → HoldsMembers one c → collection_of one c ≡ i → CollectionStays two c i
collection_stays {one} {two} {c} {i} k held made = let stays = collection_kept one two c k.trees held in record { made = stays.0 ∙ made; held = stays.1 }

-- the same of one that is among the collections of the program
record MembersStay (two : Program) (m : CollectionId) (i : Collection) : Type 0 where
  pub made : collection_tree two m ≡ i
  pub held : HoldsWhole two m

members_stay : {one two : Program} {m : CollectionId} {i : Collection} → ExtendsProgram one two → HoldsWhole one m → collection_tree one m ≡ i → MembersStay two m i
members_stay {one} {two} {m} {i} k held made = let stays = collection_at_kept one two m k.trees held in record { made = stays.0 ∙ made; held = stays.1 }

-- a collection that was read, once it is shared
pub collection_shared : {old new : Program} {rest : List Tok} {read : Read Collection} {c : CollExpr} (answer : Result (Rc CollExpr Global) Stop) → IfOk answer (λ r. r.value ≡ c) → IfErr answer (λ e. e ≡ Memory)
    → FoundCollection old new c rest read → ReadsCollectionInto old new rest answer read
collection_shared {old} {new} {rest} {read} (Ok r) is want found = subst (λ (x : CollExpr). FoundCollection old new x rest read) (sym is) found
collection_shared {read = read} (Err e) is want found = subst (λ (e : Stop). StopsReading e read) (sym want) tt

-- `empty`
pub empty_found : (v : Version) {p : Program} {r0 rest : List Tok} {k : KeyType} {u : Kind} {at : Spot} (d : ℕ) (tokens : List Tok) → ExtendsProgram p p → parse_keys v tokens ≡ got (key_kind_of k) r0 → parse_inner_type d v r0 0 r0 ≡ got u rest
    → FoundCollection p p (collections.Empty k u at) rest (parse_empty d v tokens)
unfolding parse_empty
empty_found v {k = k} {u = u} d tokens self keys values = record { members = forms.without_members (key_kind_of k) u; is = rw (keys, values) refl; held = tt; made = refl; kept = self; terms = omega arith; expressions = omega arith }

-- `use`
pub used_found : {old new : Program} {rest : List Tok} {c : CollExpr} {k n : Name} {place at : Spot} (tokens : List Tok) → parse_name tokens ≡ got k rest → n ≡ k → AddsUsed old new c n place at → FoundCollection old new c rest (parse_used tokens)
unfolding parse_used
used_found {old} {new} {k = k} tokens named bytes added = record {
  members = forms.used k;
  is = rw named refl;
  held = added.whole;
  made = added.made ∙ ap forms.used bytes;
  kept = unchanged_keeps old new added.same;
  terms = omega (arith, added.same.term_counted);
  expressions = omega (arith, added.same.expression_counted);
}

-- `add`
pub added_found : (v : Version) {old one two three : Program} {r0 r1 r2 r3 r4 r5 rest : List Tok} {a : _} {c : CollExpr} {e : ExprId} {t : TermId} {at : Spot} (d : ℕ) (tokens : List Tok) → parse_symbol symbols.Open tokens ≡ got tt r0
    → FoundCollection old one c r1 (parse_collection d v (counts_of old) r0) → parse_symbol symbols.Comma r1 ≡ got tt r2 → FoundExpression one two e r3 (parse_expression d v (counts_of one) r2) → parse_symbol symbols.Comma r3 ≡ got tt r4
    → FoundTerm two three t r5 (parse_term d v (counts_of two) r4) → parse_symbol symbols.Close r5 ≡ got tt rest
    → FoundCollection old three (collections.Added' a c e t at) rest (parse_added d v (parse_term d v) (parse_collection d v) (counts_of old) tokens)
unfolding parse_added
added_found v {old} {one} {two} {three} {r0} {r1} {r2} {r3} {r4} {r5} {rest} {a} {c} {e} {t} {at} d tokens opening i comma f second g closing =
    let behind_one = behind_collection old one i.members i.terms i.expressions in
    let at_f : parse_expression d v (counts_with_collection (counts_of old) i.members) r2 ≡ got f.value r3 = subst (λ (c : Counts). parse_expression d v c r2 ≡ got f.value r3) behind_one f.is in
    let behind_two : counts_of two ≡ counts_with_expression (counts_with_collection (counts_of old) i.members) f.value = behind_expression one two f.value f.terms f.expressions ∙ ap (λ (c : Counts). counts_with_expression c f.value) behind_one in
    let at_g : parse_term d v (counts_with_expression (counts_with_collection (counts_of old) i.members) f.value) r4 ≡ got g.term r5 = subst (λ (c : Counts). parse_term d v c r4 ≡ got g.term r5) behind_two g.is in
    let kept_two : ExtendsProgram one three = keeps_trans one two three f.kept g.kept in
    let stays : CollectionStays three c i.members = collection_stays kept_two i.held i.made in
    let key_same : program_expression three e ≡ f.value = g.kept.trees.values e f.held ∙ f.tree in
    record {
      members = forms.added i.members f.value g.term;
      is = rw (opening, i.is, comma, at_f, second, at_g, closing) refl;
      held = (stays.held, g.kept.trees.expressions e f.held, g.held);
      made = rw (stays.made, key_same, g.tree) refl;
      kept = keeps_trans old one three i.kept kept_two;
      terms = omega (arith, i.terms, f.terms, g.terms);
      expressions = omega (arith, i.expressions, f.expressions, g.expressions);
    }

-- `drop`
pub dropped_found : (v : Version) {old one two : Program} {r0 r1 r2 r3 rest : List Tok} {a : _} {c : CollExpr} {e : ExprId} {at : Spot} (d : ℕ) (tokens : List Tok) → parse_symbol symbols.Open tokens ≡ got tt r0
    → FoundCollection old one c r1 (parse_collection d v (counts_of old) r0) → parse_symbol symbols.Comma r1 ≡ got tt r2 → FoundExpression one two e r3 (parse_expression d v (counts_of one) r2) → parse_symbol symbols.Close r3 ≡ got tt rest
    → FoundCollection old two (collections.Dropped' a c e at) rest (parse_dropped d v (parse_collection d v) (counts_of old) tokens)
unfolding parse_dropped
dropped_found v {old} {one} {two} {r0} {r1} {r2} {r3} {rest} {a} {c} {e} {at} d tokens opening i comma f closing =
    let at_f : parse_expression d v (counts_with_collection (counts_of old) i.members) r2 ≡ got f.value r3 =
    subst (λ (c : Counts). parse_expression d v c r2 ≡ got f.value r3) (behind_collection old one i.members i.terms i.expressions) f.is in
    let stays : CollectionStays two c i.members = collection_stays f.kept i.held i.made in
    record {
      members = forms.dropped i.members f.value;
      is = rw (opening, i.is, comma, at_f, closing) refl;
      held = (stays.held, f.held);
      made = rw (stays.made, f.tree) refl;
      kept = keeps_trans old one two i.kept f.kept;
      terms = omega (arith, i.terms, f.terms);
      expressions = omega (arith, i.expressions, f.expressions);
    }

-- `keep`
pub kept_found : (v : Version) {old one two : Program} {r0 r1 r2 r3 rest : List Tok} {a : _} {c : CollExpr} {g : FunctionId} {at : Spot} (d : ℕ) (tokens : List Tok) → parse_symbol symbols.Open tokens ≡ got tt r0
    → FoundCollection old one c r1 (parse_collection d v (counts_of old) r0) → parse_symbol symbols.Comma r1 ≡ got tt r2 → FoundFunction one two g r3 (parse_function d v (counts_of one) r2) → parse_symbol symbols.Close r3 ≡ got tt rest
    → FoundCollection old two (collections.Kept' a c g at) rest (parse_kept d v (parse_collection d v) (counts_of old) tokens)
unfolding parse_kept
kept_found v {old} {one} {two} {r0} {r1} {r2} {r3} {rest} {a} {c} {g} {at} d tokens opening i comma h closing =
    let at_h : parse_function d v (counts_with_collection (counts_of old) i.members) r2 ≡ got h.function r3 =
    subst (λ (c : Counts). parse_function d v c r2 ≡ got h.function r3) (behind_collection old one i.members i.terms i.expressions) h.is in
    let stays : CollectionStays two c i.members = collection_stays h.kept i.held i.made in
    record {
      members = forms.kept i.members h.function;
      is = rw (opening, i.is, comma, at_h, closing) refl;
      held = (stays.held, h.held);
      made = rw (stays.made, h.meaning) refl;
      kept = keeps_trans old one two i.kept h.kept;
      terms = omega (arith, i.terms, h.terms);
      expressions = omega (arith, i.expressions, h.expressions);
    }

-- `if`
pub chosen_found : (v : Version) {old one two three : Program} {r1 r2 r3 r4 rest : List Tok} {a b : _} {c x : CollExpr} {e : ExprId} {at : Spot} (d : ℕ) (tokens : List Tok)
    → FoundExpression old one e r1 (parse_expression d v (counts_of old) tokens) → parse_keyword words.Then r1 ≡ got tt r2 → FoundCollection one two c r3 (parse_collection d v (counts_of one) r2) → parse_keyword words.Else r3 ≡ got tt r4
    → FoundCollection two three x rest (parse_collection d v (counts_of two) r4) → FoundCollection old three (collections.Chosen' e a c b x at) rest (parse_chosen d v (parse_collection d v) (counts_of old) tokens)
unfolding parse_chosen
chosen_found v {old} {one} {two} {three} {r1} {r2} {r3} {r4} {rest} {a} {b} {c} {x} {e} {at} d tokens f then_word i else_word j =
    let behind_one = behind_expression old one f.value f.terms f.expressions in
    let at_i : parse_collection d v (counts_with_expression (counts_of old) f.value) r2 ≡ got i.members r3 = subst (λ (c : Counts). parse_collection d v c r2 ≡ got i.members r3) behind_one i.is in
    let behind_two : counts_of two ≡ counts_with_collection (counts_with_expression (counts_of old) f.value) i.members = behind_collection one two i.members i.terms i.expressions ∙ ap (λ (c : Counts). counts_with_collection c i.members) behind_one in
    let at_j : parse_collection d v (counts_with_collection (counts_with_expression (counts_of old) f.value) i.members) r4 ≡ got j.members rest = subst (λ (c : Counts). parse_collection d v c r4 ≡ got j.members rest) behind_two j.is in
    let kept_two : ExtendsProgram one three = keeps_trans one two three i.kept j.kept in
    let stays : CollectionStays three c i.members = collection_stays j.kept i.held i.made in
    let condition_same : program_expression three e ≡ f.value = kept_two.trees.values e f.held ∙ f.tree in
    record {
      members = forms.chosen f.value i.members j.members;
      is = rw (f.is, then_word, at_i, else_word, at_j) refl;
      held = (kept_two.trees.expressions e f.held, stays.held, j.held);
      made = rw (condition_same, stays.made, j.made) refl;
      kept = keeps_trans old one three f.kept kept_two;
      terms = omega (arith, f.terms, i.terms, j.terms);
      expressions = omega (arith, f.expressions, i.expressions, j.expressions);
    }

-- a collection that was read is put among those of the program
pub members_found : {old mid new : Program} {m : CollectionId} {c : CollExpr} {rest : List Tok} {read : Read Collection} → FoundCollection old mid c rest read → AddsCollection mid new m c → FoundMembers old new m rest read
members_found {old} {mid} {new} {m} {c} f added = record {
  members = f.members;
  is = f.is;
  held = (added.within, subst (λ (x : CollExpr). HoldsMembers new x) (sym added.is) added.whole);
  made = ap (collection_of new) added.is ∙ (added.made ∙ f.made);
  kept = keeps_trans old mid new f.kept (unchanged_keeps mid new added.same);
  terms = added.same.term_counted ∙ f.terms;
  expressions = added.same.expression_counted ∙ f.expressions;
}

-- a collection that was read is not too deep
pub members_shallow : (v : Version) {old mid : Program} {c : CollExpr} {rest : List Tok} (d : ℕ) (tokens : List Tok) → d ≤ 63 → FoundCollection old mid c rest (parse_collection d v (counts_of old) tokens) → collection_depth (collection_of mid c) ≤ 64
members_shallow v {old} {mid} {c} {rest} d tokens small f =
    let took = collection_taken v old f.members rest tokens d f.is in
    let is : collection_depth (collection_of mid c) ≡ collection_depth f.members = ap collection_depth f.made in
    omega (arith, took.shallow)

-- the members of a collection
pub gathered_ready : (v : Version) {old mid : Program} {start rest : List Tok} {m : CollectionId} (d : ℕ) (tokens : List Tok) → d ≤ 63 → FoundMembers old mid m rest (parse_collection d v (counts_of old) tokens)
    → Ready old mid (gathered (collection_tree mid m)) start rest (parse_gathered (parse_collection d v) (counts_of old) start tokens)
unfolding parse_gathered
gathered_ready v {old} {mid} {start} {rest} {m} d tokens small f =
    let took = collection_taken v old f.members rest tokens d f.is in
    record {
      term = gathered f.members;
      is = rw f.is refl;
      same = ap gathered f.made;
      shallow = omega (arith, took.shallow);
      terms = omega (arith, f.terms);
      expressions = omega (arith, f.expressions);
    }

-- members that give way to a term, which knows them by a name
pub releasing_ready : (v : Version) {old one two three : Program} {start r0 r1 r2 r3 r4 r5 r6 r7 rest : List Tok} {m : CollectionId} {b c : TermId} {k n : Name} {p : Pattern} {w : Observation} (d : ℕ) (tokens : List Tok) → d ≤ 63 → parse_symbol symbols.Open tokens ≡ got tt r0
    → FoundMembers old one m r1 (parse_collection d v (counts_of old) r0) → parse_symbol symbols.Comma r1 ≡ got tt r2 → FoundTerm one two b r3 (parse_term d v (counts_of one) r2) → parse_symbol symbols.Comma r3 ≡ got tt r4
    → parse_name r4 ≡ got k r5 → parse_symbol symbols.Comma r5 ≡ got tt r6 → FoundBody two three p c r7 (parse_body d (parse_term d v) (counts_of two) r6) → parse_symbol symbols.Close r7 ≡ got tt rest → n ≡ k
    → Ready old three (releasing w (collection_tree three m) (tree three b) n p (tree three c)) start rest (parse_releasing d (parse_term d v) (parse_collection d v) (counts_of old) w start tokens)
unfolding parse_releasing
releasing_ready v {old} {one} {two} {three} {start} {r0} {r1} {r2} {r3} {r4} {r5} {r6} {r7} {rest} {m} {b} {c} {k} {n} {p} {w} d tokens small opening f comma g second named third h closing bytes =
    let behind_one = behind_collection old one f.members f.terms f.expressions in
    let at_g : parse_term d v (counts_with_collection (counts_of old) f.members) r2 ≡ got g.term r3 = subst (λ (c : Counts). parse_term d v c r2 ≡ got g.term r3) behind_one g.is in
    let behind_two : counts_of two ≡ counted_term (counts_with_collection (counts_of old) f.members) g.term = behind_term one two g.term g.terms g.expressions ∙ ap (λ (c : Counts). counted_term c g.term) behind_one in
    let at_h : parse_body d (parse_term d v) (counted_term (counts_with_collection (counts_of old) f.members) g.term) r6 ≡ got (p, h.term) r7 = subst (λ (c : Counts). parse_body d (parse_term d v) c r6 ≡ got (p, h.term) r7) behind_two h.is in
    let stays : MembersStay three m f.members = members_stay (keeps_trans one two three g.kept h.kept) f.held f.made in
    let second_same : tree three b ≡ g.term = h.kept.trees.trees b g.held ∙ g.tree in
    let took_f = collection_taken v old f.members r1 r0 d f.is in
    let took_g = term_taken v one two b r3 r2 d g in
    let took_h = body_taken v two three p c r7 r6 d h in
    record {
      term = releasing w f.members g.term k p h.term;
      is = rw (opening, f.is, comma, at_g, second, named, third, at_h, closing) refl;
      same = rw (stays.made, second_same, bytes, h.tree) refl;
      shallow = omega (arith, took_f.shallow, took_g.shallow, took_h.pattern, took_h.shallow);
      terms = omega (arith, f.terms, g.terms, h.terms);
      expressions = omega (arith, f.expressions, g.expressions, h.expressions);
    }

-- an edit
pub edit_found : (v : Version) {old new : Program} {r1 r2 rest : List Tok} {p : Pattern} {m : CollectionId} (d : ℕ) (tokens : List Tok) → parse_pattern d tokens ≡ got p r1 → parse_symbol symbols.MapsTo r1 ≡ got tt r2 → HasNames p
    → FoundMembers old new m rest (parse_collection d v (counts_of old) r2) → FoundEdit old new p m rest (parse_edit d (parse_collection d v) (counts_of old) tokens)
edit_found v d tokens pattern leads names f =
    record { members = f.members; is = rw (pattern, leads, f.is) refl; names = names; held = f.held; made = f.made; kept = f.kept; terms = f.terms; expressions = f.expressions }

-- an edit that was read is not too deep
record EditShallow (d : ℕ) (b : Pattern × Collection) : Type 0 where
  pub pattern : pattern_depth b.0 ≤ d
  pub shallow : collection_depth b.1 ≤ d

edit_taken : (v : Version) (d : ℕ) (old : Program) (tokens : List Tok) (b : Pattern × Collection) (rest : List Tok) → parse_edit d (parse_collection d v) (counts_of old) tokens ≡ got b rest → EditShallow d b
edit_taken v d old tokens b rest is =
    bind_got (λ p r. parse_symbol symbols.MapsTo r and_then λ _ r. parse_collection d v (counts_of old) r and_then λ i r. got (p, i) r) (parse_pattern d tokens) b rest is (λ p r1 at_p is_p.
    bind_got (λ _ r. parse_collection d v (counts_of old) r and_then λ i r. got (p, i) r) (parse_symbol symbols.MapsTo r1) b rest is_p (λ m r2 at_m is_m.
    bind_got (λ i r. got (p, i) r) (parse_collection d v (counts_of old) r2) b rest is_m (λ i r3 at_i is_i.
    let one : TookPattern d tokens p r1 = pattern_takes d tokens p r1 at_p in
    let two : TookCollection v d (counts_of old) r2 i r3 = collection_taken v old i r3 r2 d at_i in
    let same : Same (p, i) b r3 rest = got_same (p, i) b r3 rest is_i in
    subst (λ (b : Pattern × Collection). EditShallow d b) same.value (record { pattern = one.shallow; shallow = two.shallow }))))

-- members that are edited
pub editing_ready : (v : Version) {old one two : Program} {start r0 r1 r2 r3 r4 r5 rest : List Tok} {m u : CollectionId} {k n : Name} {p : Pattern} {w : Observation} (d : ℕ) (tokens : List Tok) → d ≤ 63 → parse_symbol symbols.Open tokens ≡ got tt r0
    → FoundMembers old one m r1 (parse_collection d v (counts_of old) r0) → parse_symbol symbols.Comma r1 ≡ got tt r2 → parse_name r2 ≡ got k r3 → parse_symbol symbols.Comma r3 ≡ got tt r4
    → FoundEdit one two p u r5 (parse_edit d (parse_collection d v) (counts_of one) r4) → parse_symbol symbols.Close r5 ≡ got tt rest → n ≡ k
    → Ready old two (editing w (collection_tree two m) n p (collection_tree two u)) start rest (parse_editing d (parse_collection d v) (counts_of old) w start tokens)
unfolding parse_editing
editing_ready v {old} {one} {two} {start} {r0} {r1} {r2} {r3} {r4} {r5} {rest} {m} {u} {k} {n} {p} {w} d tokens small opening f comma named second g closing bytes =
    let at_g : parse_edit d (parse_collection d v) (counts_with_collection (counts_of old) f.members) r4 ≡ got (p, g.members) r5 =
    subst (λ (c : Counts). parse_edit d (parse_collection d v) c r4 ≡ got (p, g.members) r5) (behind_collection old one f.members f.terms f.expressions) g.is in
    let stays : MembersStay two m f.members = members_stay g.kept f.held f.made in
    let took_f = collection_taken v old f.members r1 r0 d f.is in
    let took_g : EditShallow d (p, g.members) = edit_taken v d one r4 (p, g.members) r5 g.is in
    record {
      term = editing w f.members k p g.members;
      is = rw (opening, f.is, comma, named, second, at_g, closing) refl;
      same = rw (stays.made, bytes, g.made) refl;
      shallow = omega (arith, took_f.shallow, took_g.pattern, took_g.shallow);
      terms = omega (arith, f.terms, g.terms);
      expressions = omega (arith, f.expressions, g.expressions);
    }

-- an argument: a value, a process behind `sf`, or a collection behind `col`
pub value_found : (v : Version) {old new : Program} {rest : List Tok} {e : ExprId} (d : ℕ) (tokens : List Tok) → argument_word tokens ≡ no_word → FoundExpression old new e rest (parse_expression d v (counts_of old) tokens)
    → FoundArgument old new (arguments.Value e) rest (parse_argument d v (parse_term d v) (parse_collection d v) (counts_of old) tokens)
unfolding parse_argument
value_found v d tokens word f = record { value = actual_value f.value; is = rw (word, f.is) refl; held = f.held; same = ap actual_value f.tree; kept = f.kept; terms = omega (arith, f.terms); expressions = omega (arith, f.expressions) }

pub process_found : (v : Version) {old new : Program} {r0 rest : List Tok} {t : TermId} (d : ℕ) (tokens : List Tok) → argument_word tokens ≡ process_word → behind_first tokens ≡ r0 → FoundTerm old new t rest (parse_term d v (counts_of old) r0)
    → FoundArgument old new (arguments.Process t) rest (parse_argument d v (parse_term d v) (parse_collection d v) (counts_of old) tokens)
unfolding parse_argument
process_found v d tokens word behind f = record { value = actual_process f.term; is = rw (word, behind, f.is) refl; held = f.held; same = ap actual_process f.tree; kept = f.kept; terms = omega (arith, f.terms); expressions = omega (arith, f.expressions) }

pub collection_found : (v : Version) {old new : Program} {r0 rest : List Tok} {m : CollectionId} (d : ℕ) (tokens : List Tok) → argument_word tokens ≡ collection_word → behind_first tokens ≡ r0 → FoundMembers old new m rest (parse_collection d v (counts_of old) r0)
    → FoundArgument old new (arguments.Collection m) rest (parse_argument d v (parse_term d v) (parse_collection d v) (counts_of old) tokens)
unfolding parse_argument
collection_found v d tokens word behind f = record { value = actual_collection f.members; is = rw (word, behind, f.is) refl; held = f.held; same = ap actual_collection f.made; kept = f.kept; terms = omega (arith, f.terms); expressions = omega (arith, f.expressions) }

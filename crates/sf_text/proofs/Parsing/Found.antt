-- What was read into a program before more is built of it.
use Rattle.std.proofs.Common.{◌≡◌, ℕ, ◌+◌, ◌<◌, ◌≤◌, inl, inr, nat_le, Bool, pos, List, length, if◌then◌else◌, refl, sym, ◌∙◌, ap, subst, arith, Result, Ok, Err, IfOk, OnOk}
use Rattle.std.proofs.lemmas.Bool.Decides.{leb_tells}
use Rattle.std.proofs.lemmas.List.{length-replicate}
use Rattle.std.proofs.Math.ListN.{replicate}
use Rattle.sf_value.specs.Values.{Name, Kind, nodes}
use Rattle.sf_value.specs.declared.ty.TyRefusal.{TyRefusal}
use Rattle.sf_value.specs.declared.ty.TyRefusal.TheVariants as type_refusals
use Rattle.sf_operator.specs.declared.operator.Unary.{Unary}
use Rattle.sf_operator.specs.declared.operator.Operator.{Operator}
use Rattle.sf_operator.specs.declared.operator.Mapping.{Mapping}
use Rattle.sf_operator.specs.declared.operator.Mapping.TheVariants as mappings
use Rattle.sf_operator.specs.declared.operator.Folding.{Folding}
use Rattle.sf_expr.specs.declared.exprs.ExprId.{ExprId}
use Rattle.sf_expr.specs.declared.exprs.ExprNode.{ExprNode}
use Rattle.sf_expr.specs.Expressions.{Literal, Pattern, Expression, variable, literal, none_literal, paired, applied, operation, conditional, mapped, folded, called, size, function, function_depth}
use Rattle.sf_expr.specs.Expressions
use Rattle.sf_term.specs.declared.program.Program.{Program}
use Rattle.sf_term.specs.declared.refusal.BuildRefusal.{BuildRefusal}
use Rattle.sf_term.specs.declared.refusal.BuildRefusal.TheVariants as refusals
use Rattle.sf_term.specs.Names.{HasNames}
use Rattle.sf_term.specs.Building.{IsDue, BuildsExpression}
use Rattle.sf_term.specs.Arena.{term_count, expression_count, ExtendsTrees, ExtendsProgram, AddsExpression, program_expression}
use Rattle.sf_term.proofs.Extended.{few_program_expressions, keeps_trans}
use Rattle.sf_refusal.specs.declared.spot.Spot.{Spot}
use Rattle.sf_lex.specs.declared.symbol.Symbol.TheVariants as symbols
use Rattle.sf_lex.specs.declared.word.Keyword.TheVariants as words
use Rattle.sf_lex.specs.Tokens.{Tok, number}
use Rattle.sf_grammar.specs.declared.ty.Version.{Version}
use Rattle.sf_grammar.specs.declared.head.Link.{Link}
use Rattle.sf_grammar.specs.declared.head.Link.TheVariants as links
use Rattle.sf_refusal.specs.declared.rule.Rule.TheVariants.{TooMany}
use Rattle.sf_text.specs.declared.parts.stop.Stop.{Stop}
use Rattle.sf_grammar.specs.Reading.{Read, got, stop, Counts, counts_with_expression, parse_symbol, parse_keyword, parse_name, parse_inner_type, parse_none, parse_pattern, parse_link, linked, parse_linked, parse_prefixed, parse_one_in_brackets, parse_two_in_brackets, parse_conditional, parse_mapping, parse_let, parse_one_and_function, parse_two_and_function, parse_called, parse_expression, expression_read, parse_function}
use Rattle.sf_text.specs.Parsing.Answers.{StopsReading, FoundExpression, FoundMapping, ReadsInto, counts_of, stop_for, built_as, stop_for_type}
use Rattle.sf_grammar.proofs.Takes.{TookType, TookPattern, TookExpression, TookFunction, inner_type_takes, pattern_takes, expression_takes, function_takes}

-- a program keeps what is in it
keeps_trees_self : (p : Program) → ExtendsTrees p p
keeps_trees_self p = record {
  terms = λ t h. h;
  nodes = λ t h. refl;
  trees = λ t h. refl;
  spots = λ t h. refl;
  expressions = λ e h. h;
  value_nodes = λ e h. refl;
  values = λ e h. refl;
  value_spots = λ e h. refl;
  functions = λ f h. h;
  patterns = λ f h. refl;
  bodies = λ f h. refl;
  meanings = λ f h. refl;
  holds_patterns = λ q h. h;
  placed = λ q h. refl;
  holds_names = λ n h. h;
  names = λ n h. refl;
  holds_arguments = λ a h. h;
  arguments = λ a h. refl;
  holds_collections = λ c h. h;
  collections = λ c h. refl;
}

pub keeps_self : (p : Program) → ExtendsProgram p p
keeps_self p = record { trees = keeps_trees_self p; headers = refl; templates = refl; spots = refl }

past : {A : Type 0} (n : ℕ) (a : A) (start rest : List Tok) → 100000 < n → (if nat_le n 100000 then got a rest else stop TooMany start) ≡ stop TooMany start
past n a start rest h = elim (leb_tells n 100000) [ inl p ↦ absurd (omega arith) | inr p ↦ ap (λ (b : Bool). if b then got a rest else stop TooMany start) p.0 ]

-- a program refused what is one too many, as reading does
pub refused_as_read : {A Named : Type 0} (count depth n : ℕ) (a : A) (start : List Tok) (left : ℕ) (rest : List Tok) (read : Read A) (refusal : BuildRefusal) → length start ≡ left → read ≡ (if nat_le n 100000 then got a rest else stop TooMany start)
    → IsDue count depth Named refusal → (100000 ≤ count → 100000 < n) → depth ≤ 64 → Named → StopsReading (stop_for refusal left) read
refused_as_read count depth n a start left rest read refusals.TooMany counted is due many shallow named = record { at = start; is = is ∙ past n a start rest (many due); counted = sym counted }
refused_as_read count depth n a start left rest read refusals.TooDeep counted is due many shallow named = absurd (omega (arith, due.1))
refused_as_read count depth n a start left rest read refusals.BadName counted is due many shallow named = absurd (due.2 named)
refused_as_read count depth n a start left rest read refusals.Memory counted is due many shallow named = tt

-- a program takes what counts as nothing, if it is not too deep and its names are names
pub refused_for_memory : {A Named : Type 0} (depth : ℕ) (read : Read A) (refusal : BuildRefusal) (left : ℕ) → IsDue 0 depth Named refusal → depth ≤ 64 → Named → StopsReading (stop_for refusal left) read
refused_for_memory depth read refusals.TooMany left due shallow named = absurd (omega (arith, due))
refused_for_memory depth read refusals.TooDeep left due shallow named = absurd (omega (arith, due.1))
refused_for_memory depth read refusals.BadName left due shallow named = absurd (due.2 named)
refused_for_memory depth read refusals.Memory left due shallow named = tt

-- an expression whose parts were read, before it is added to the program
pub record ReadyExpression (old mid : Program) (built : Expression) (start rest : List Tok) (read : Read Expression) : Type 0 where
  pub value : Expression
  pub is : read ≡ expression_read (counts_of old) value start rest
  pub same : built ≡ value
  pub shallow : Expressions.depth value ≤ 64
  pub expressions : expression_count mid + 1 ≡ expression_count old + size value

pub read_within : {A : Type 0} (n : ℕ) (a : A) (start rest : List Tok) → n ≤ 100000 → (if nat_le n 100000 then got a rest else stop TooMany start) ≡ got a rest
read_within n a start rest h = elim (leb_tells n 100000) [ inl p ↦ ap (λ (b : Bool). if b then got a rest else stop TooMany start) p.0 | inr p ↦ absurd (omega arith) ]

-- an expression whose parts were read was added to the program
pub expression_found : {old mid new : Program} {id : ExprId} {node : ExprNode} {built : Expression} {spot : Spot} {start rest : List Tok} {read : Read Expression}
    → ReadyExpression old mid built start rest read → ExtendsProgram old mid → term_count mid ≡ term_count old → AddsExpression mid new id node built spot → FoundExpression old new id rest read
expression_found {old} {mid} {new} {start = start} {rest = rest} ready kept terms added = record {
  value = ready.value;
  is = ready.is ∙ read_within (expression_count old + size ready.value) ready.value start rest (omega (arith, few_program_expressions new, ready.expressions, added.expression_counted));
  held = added.within;
  tree = added.is ∙ ready.same;
  kept = keeps_trans old mid new kept added.kept;
  terms = added.term_counted ∙ terms;
  expressions = added.expression_counted ∙ ready.expressions;
}

-- an expression whose parts were read was given to the program
pub expression_built : {old mid : Program} {built : Expression} {start rest : List Tok} {read : Read Expression} {Named : Type 0} (new : Program) (node : ExprNode) (spot : Spot) (left : ℕ) (added : Result ExprId BuildRefusal) (answer : Result ExprId Stop)
    → ReadyExpression old mid built start rest read → ExtendsProgram old mid → term_count mid ≡ term_count old → length start ≡ left → answer ≡ built_as left added → BuildsExpression mid new added node built spot Named → Named → ReadsInto old new rest answer read
expression_built {old = old} {rest = rest} {read = read} new node spot left (Ok id) answer ready kept terms counted is builds named =
    subst (λ (a : Result ExprId Stop). ReadsInto old new rest a read) (sym is) (expression_found ready kept terms builds.ok)
expression_built {old = old} {mid = mid} {built = built} {start = start} {rest = rest} {read = read} new node spot left (Err refusal) answer ready kept terms counted is builds named =
    let deep : Expressions.depth built ≡ Expressions.depth ready.value = ap Expressions.depth ready.same in
    subst (λ (a : Result ExprId Stop). ReadsInto old new rest a read) (sym is)
    (refused_as_read (expression_count mid) (Expressions.depth built) (expression_count old + size ready.value) ready.value start left rest read refusal counted ready.is builds.refused.due (λ full. omega (arith, full, ready.expressions)) (omega (arith, ready.shallow)) named)

-- what holds of what a program took holds of what is answered
pub if_built : {X : Type 0} (P Q : X → Type 0) (left : ℕ) (added : Result X BuildRefusal) (answer : Result X Stop) → answer ≡ built_as left added → IfOk added P → ((x : X) → P x → Q x) → IfOk answer Q
if_built P Q left (Ok x) answer is ok f = subst (λ a. IfOk a Q) (sym is) (f x ok)
if_built P Q left (Err refusal) answer is ok f = subst (λ a. IfOk a Q) (sym is) tt

pub if_built_on : {X : Type 0} (P Q : X → Type 0) (S : Type 0) (left : ℕ) (added : Result X BuildRefusal) (answer : Result X Stop) → answer ≡ built_as left added → IfOk added P → OnOk added S → ((x : X) → P x → S → Q x) → IfOk answer Q
if_built_on P Q S left (Ok x) answer is ok there f = subst (λ a. IfOk a Q) (sym is) (f x ok there)
if_built_on P Q S left (Err refusal) answer is ok there f = subst (λ a. IfOk a Q) (sym is) tt

-- a name that was read
pub variable_ready : {old : Program} {n g : Name} (start rest : List Tok) → n ≡ g → ReadyExpression old old (variable n) start rest (expression_read (counts_of old) (variable g) start rest)
variable_ready {g = g} start rest same = record { value = variable g; is = refl; same = ap variable same; shallow = omega arith; expressions = refl }

-- a literal that was read as this one
pub literal_ready_as : {old : Program} {l m : Literal} (start rest : List Tok) → l ≡ m → ReadyExpression old old (literal l) start rest (expression_read (counts_of old) (literal m) start rest)
literal_ready_as {m = m} start rest same = record { value = literal m; is = refl; same = ap literal same; shallow = omega arith; expressions = refl }

-- no event, behind its type
pub none_ready : (v : Version) {old : Program} {start rest : List Tok} {l : Literal} {t : Kind} (d : ℕ) (tokens : List Tok) → parse_inner_type d v tokens 0 tokens ≡ got t rest → l ≡ none_literal t
    → ReadyExpression old old (literal l) start rest (parse_none d v (counts_of old) start tokens)
unfolding parse_none
none_ready v {t = t} d tokens is same = record { value = literal (none_literal t); is = rw is refl; same = ap literal same; shallow = omega arith; expressions = refl }

pub literal_ready : {old : Program} (l : Literal) (start rest : List Tok) → ReadyExpression old old (literal l) start rest (expression_read (counts_of old) (literal l) start rest)
literal_ready l start rest = record { value = literal l; is = refl; same = refl; shallow = omega arith; expressions = refl }

pub expression_taken : (v : Version) (old new : Program) (id : ExprId) (rest tokens : List Tok) (d : ℕ) → (f : FoundExpression old new id rest (parse_expression d v (counts_of old) tokens)) → TookExpression v d (counts_of old) tokens f.value rest
expression_taken v old new id rest tokens d f = expression_takes v d (counts_of old) tokens f.value rest f.is

pub behind_expression : (old mid : Program) (e : Expression) → term_count mid ≡ term_count old → expression_count mid ≡ expression_count old + size e → counts_of mid ≡ counts_with_expression (counts_of old) e
behind_expression old mid e terms expressions = rw (terms, expressions) refl

-- a part of an expression was read into the program, which had so many before
record Part (v : Version) (d : ℕ) (c : Counts) (new : Program) (id : ExprId) (tokens rest : List Tok) (value : Expression) : Type 0 where
  pub is : parse_expression d v c tokens ≡ got value rest
  pub same : program_expression new id ≡ value
  pub shallow : Expressions.depth value ≤ d
  pub expressions : expression_count new ≡ c.expressions + size value
  pub counted : counts_of new ≡ counts_with_expression c value

part : (v : Version) {old new : Program} {id : ExprId} {rest : List Tok} (d : ℕ) (c : Counts) (tokens : List Tok) → counts_of old ≡ c
    → (f : FoundExpression old new id rest (parse_expression d v (counts_of old) tokens)) → Part v d c new id tokens rest f.value
part v {old} {new} {id} {rest} d c tokens same f =
    let took = expression_taken v old new id rest tokens d f in
    subst (λ (c : Counts). Part v d c new id tokens rest f.value) same (record {
      is = f.is;
      same = f.tree;
      shallow = took.shallow;
      expressions = f.expressions;
      counted = behind_expression old new f.value f.terms f.expressions;
    })

-- an operator on one expression
applied_ready : (v : Version) {old mid : Program} {start rest r : List Tok} {a : ExprId} {read : Read Expression} (d : ℕ) (tokens : List Tok) (o : Unary) → d ≤ 63 → (f : FoundExpression old mid a r (parse_expression d v (counts_of old) tokens))
    → read ≡ expression_read (counts_of old) (applied o f.value) start rest → ReadyExpression old mid (applied o (program_expression mid a)) start rest read
applied_ready v {old} {mid} {start} {rest} {r} {a} {read} d tokens o small f is =
    let one = part v d (counts_of old) tokens refl f in
    record { value = applied o f.value; is = is; same = ap (applied o) one.same; shallow = omega (arith, one.shallow); expressions = omega (arith, one.expressions) }

pub prefixed_ready : (v : Version) {old mid : Program} {start rest : List Tok} {a : ExprId} {o : Unary} (d : ℕ) (tokens : List Tok) → d ≤ 63 → FoundExpression old mid a rest (parse_expression d v (counts_of old) tokens)
    → ReadyExpression old mid (applied o (program_expression mid a)) start rest (parse_prefixed (parse_expression d v) (counts_of old) o start tokens)
unfolding parse_prefixed
prefixed_ready v {o = o} d tokens small f = applied_ready v d tokens o small f (rw f.is refl)

pub one_in_brackets_ready : (v : Version) {old mid : Program} {start r0 r1 rest : List Tok} {a : ExprId} {o : Unary} (d : ℕ) (tokens : List Tok) → d ≤ 63 → parse_symbol symbols.Open tokens ≡ got tt r0
    → FoundExpression old mid a r1 (parse_expression d v (counts_of old) r0) → parse_symbol symbols.Close r1 ≡ got tt rest
    → ReadyExpression old mid (applied o (program_expression mid a)) start rest (parse_one_in_brackets (parse_expression d v) (counts_of old) o start tokens)
unfolding parse_one_in_brackets
one_in_brackets_ready v {r0 = r0} {o = o} d tokens small opening f closing = applied_ready v d r0 o small f (rw (opening, f.is, closing) refl)

-- two expressions were read, one behind the other
record Two (v : Version) (d : ℕ) (c : Counts) (new : Program) (a b : ExprId) (r2 r3 : List Tok) (x y : Expression) : Type 0 where
  pub second : parse_expression d v (counts_with_expression c x) r2 ≡ got y r3
  pub first_same : program_expression new a ≡ x
  pub second_same : program_expression new b ≡ y
  pub first_shallow : Expressions.depth x ≤ d
  pub second_shallow : Expressions.depth y ≤ d
  pub expressions : expression_count new ≡ c.expressions + size x + size y
  pub counted : counts_of new ≡ counts_with_expression (counts_with_expression c x) y

two_parts : (v : Version) {old one two : Program} {r1 r3 : List Tok} {a b : ExprId} (d : ℕ) (tokens r2 : List Tok) → (f : FoundExpression old one a r1 (parse_expression d v (counts_of old) tokens))
    → (g : FoundExpression one two b r3 (parse_expression d v (counts_of one) r2)) → Two v d (counts_of old) two a b r2 r3 f.value g.value
two_parts v {old} {one} {two} {r1} {r3} {a} {b} d tokens r2 f g =
    let first = part v d (counts_of old) tokens refl f in
    let second = part v d (counts_with_expression (counts_of old) f.value) r2 first.counted g in
    record {
      second = second.is;
      first_same = g.kept.trees.values a f.held ∙ first.same;
      second_same = second.same;
      first_shallow = first.shallow;
      second_shallow = second.shallow;
      expressions = second.expressions;
      counted = second.counted;
    }

-- two expressions, of which one is made
two_ready : (v : Version) {old one two : Program} {start r1 r3 rest : List Tok} {a b : ExprId} {read : Read Expression} (d : ℕ) (tokens r2 : List Tok) (l : Link) → d ≤ 63
    → (f : FoundExpression old one a r1 (parse_expression d v (counts_of old) tokens)) → (g : FoundExpression one two b r3 (parse_expression d v (counts_of one) r2))
    → read ≡ expression_read (counts_of old) (linked l f.value g.value) start rest → ReadyExpression old two (linked l (program_expression two a) (program_expression two b)) start rest read
two_ready v {old} {one} {two} {start} {r1} {r3} {rest} {a} {b} {read} d tokens r2 l small f g is =
    let parts = two_parts v d tokens r2 f g in
    of_link l is parts.first_same parts.second_same parts.first_shallow parts.second_shallow parts.expressions
  where
    of_link : (l : Link) → read ≡ expression_read (counts_of old) (linked l f.value g.value) start rest → program_expression two a ≡ f.value → program_expression two b ≡ g.value
        → Expressions.depth f.value ≤ d → Expressions.depth g.value ≤ d → expression_count two ≡ expression_count old + size f.value + size g.value
        → ReadyExpression old two (linked l (program_expression two a) (program_expression two b)) start rest read
    of_link links.Pair is first second shallow other expressions =
        record { value = paired f.value g.value; is = is; same = rw (first, second) refl; shallow = omega (arith, shallow, other); expressions = omega (arith, expressions) }
    of_link (links.Operation o) is first second shallow other expressions =
        record { value = operation f.value o g.value; is = is; same = rw (first, second) refl; shallow = omega (arith, shallow, other); expressions = omega (arith, expressions) }

-- two expressions in brackets
pub linked_ready : (v : Version) {old one two : Program} {start r1 r2 r3 rest : List Tok} {a b : ExprId} {l : Link} (d : ℕ) (tokens : List Tok) → d ≤ 63 → FoundExpression old one a r1 (parse_expression d v (counts_of old) tokens)
    → parse_link r1 ≡ got l r2 → FoundExpression one two b r3 (parse_expression d v (counts_of one) r2) → parse_symbol symbols.Close r3 ≡ got tt rest
    → ReadyExpression old two (linked l (program_expression two a) (program_expression two b)) start rest (parse_linked (parse_expression d v) (counts_of old) start tokens)
unfolding parse_linked
linked_ready v {r2 = r2} {l = l} d tokens small f linking g closing =
    let parts = two_parts v d tokens r2 f g in two_ready v d tokens r2 l small f g (rw (f.is, linking, parts.second, closing) refl)

pub two_in_brackets_ready : (v : Version) {old one two : Program} {start r0 r1 r2 r3 rest : List Tok} {a b : ExprId} {o : Operator} (d : ℕ) (tokens : List Tok) → d ≤ 63 → parse_symbol symbols.Open tokens ≡ got tt r0
    → FoundExpression old one a r1 (parse_expression d v (counts_of old) r0) → parse_symbol symbols.Comma r1 ≡ got tt r2 → FoundExpression one two b r3 (parse_expression d v (counts_of one) r2)
    → parse_symbol symbols.Close r3 ≡ got tt rest → ReadyExpression old two (operation (program_expression two a) o (program_expression two b)) start rest (parse_two_in_brackets (parse_expression d v) (counts_of old) o start tokens)
unfolding parse_two_in_brackets
two_in_brackets_ready v {r0 = r0} {r2 = r2} {o = o} d tokens small opening f comma g closing =
    let parts = two_parts v d r0 r2 f g in two_ready v d r0 r2 (links.Operation o) small f g (rw (opening, f.is, comma, parts.second, closing) refl)

-- one of two expressions by a condition
pub conditional_ready : (v : Version) {old one two three : Program} {start r1 r2 r3 r4 rest : List Tok} {a b c : ExprId} (d : ℕ) (tokens : List Tok) → d ≤ 63 → FoundExpression old one a r1 (parse_expression d v (counts_of old) tokens)
    → parse_keyword words.Then r1 ≡ got tt r2 → FoundExpression one two b r3 (parse_expression d v (counts_of one) r2) → parse_keyword words.Else r3 ≡ got tt r4
    → FoundExpression two three c rest (parse_expression d v (counts_of two) r4)
    → ReadyExpression old three (conditional (program_expression three a) (program_expression three b) (program_expression three c)) start rest (parse_conditional (parse_expression d v) (counts_of old) start tokens)
unfolding parse_conditional
conditional_ready v {old} {three = three} {r2 = r2} {r4 = r4} {a = a} {b = b} d tokens small f then_word g else_word h =
    let parts = two_parts v d tokens r2 f g in
    let third = part v d (counts_with_expression (counts_with_expression (counts_of old) f.value) g.value) r4 parts.counted h in
    let first_same : program_expression three a ≡ f.value = h.kept.trees.values a (g.kept.trees.expressions a f.held) ∙ parts.first_same in
    let second_same : program_expression three b ≡ g.value = h.kept.trees.values b g.held ∙ parts.second_same in
    record {
      value = conditional f.value g.value h.value;
      is = rw (f.is, then_word, parts.second, else_word, third.is) refl;
      same = rw (first_same, second_same, third.same) refl;
      shallow = omega (arith, parts.first_shallow, parts.second_shallow, third.shallow);
      expressions = omega (arith, third.expressions);
    }

-- the pattern of a function and its expression
pub mapping_found : (v : Version) {old new : Program} {id : ExprId} {p : Pattern} {r0 r1 rest : List Tok} (d : ℕ) (tokens : List Tok) → parse_pattern d tokens ≡ got p r0 → parse_symbol symbols.MapsTo r0 ≡ got tt r1 → HasNames p
    → FoundExpression old new id rest (parse_expression d v (counts_of old) r1) → FoundMapping old new p id rest (parse_mapping d (parse_expression d v) (counts_of old) tokens)
mapping_found v d tokens pattern leads names f = record {
  value = f.value;
  is = rw (pattern, leads, f.is) refl;
  names = names;
  held = f.held;
  tree = f.tree;
  kept = f.kept;
  terms = f.terms;
  expressions = f.expressions;
}

-- the pattern and the expression of a function were read, the expression into the program, which had so many before
record MappingPart (v : Version) (d : ℕ) (c : Counts) (new : Program) (id : ExprId) (tokens rest : List Tok) (p : Pattern) (value : Expression) : Type 0 where
  pub is : parse_mapping d (parse_expression d v) c tokens ≡ got (function p value) rest
  pub same : program_expression new id ≡ value
  pub shallow : function_depth (function p value) ≤ d
  pub expressions : expression_count new ≡ c.expressions + size value

mapping_part : (v : Version) {old new : Program} {id : ExprId} {p : Pattern} {rest : List Tok} (d : ℕ) (c : Counts) (tokens : List Tok) → counts_of old ≡ c
    → (f : FoundMapping old new p id rest (parse_mapping d (parse_expression d v) (counts_of old) tokens)) → MappingPart v d c new id tokens rest p f.value
unfolding parse_function
mapping_part v {old} {new} {id} {p} {rest} d c tokens same f =
    let took : TookFunction v d (counts_of old) tokens (function p f.value) rest = function_takes v d (counts_of old) tokens (function p f.value) rest f.is in
    subst (λ (c : Counts). MappingPart v d c new id tokens rest p f.value) same (record { is = f.is; same = f.tree; shallow = took.shallow; expressions = f.expressions })

-- an expression with names for a value
pub let_ready : (v : Version) {old one two : Program} {start r0 r1 r2 r3 rest : List Tok} {a b : ExprId} {p : Pattern} (d : ℕ) (tokens : List Tok) → d ≤ 63 → parse_pattern d tokens ≡ got p r0
    → parse_symbol symbols.Equals r0 ≡ got tt r1 → FoundExpression old one a r2 (parse_expression d v (counts_of old) r1) → parse_keyword words.In r2 ≡ got tt r3
    → FoundExpression one two b rest (parse_expression d v (counts_of one) r3)
    → ReadyExpression old two (mapped (program_expression two a) mappings.Let p (program_expression two b)) start rest (parse_let d (parse_expression d v) (counts_of old) start tokens)
unfolding parse_let
let_ready v {r0 = r0} {r1 = r1} {r3 = r3} {p = p} d tokens small pattern equals f in_word g =
    let parts = two_parts v d r1 r3 f g in
    let took : TookPattern d tokens p r0 = pattern_takes d tokens p r0 pattern in
    record {
      value = mapped f.value mappings.Let p g.value;
      is = rw (pattern, equals, f.is, in_word, parts.second) refl;
      same = rw (parts.first_same, parts.second_same) refl;
      shallow = omega (arith, parts.first_shallow, took.shallow, parts.second_shallow);
      expressions = omega (arith, parts.expressions);
    }

-- an expression and a function in brackets
pub one_and_function_ready : (v : Version) {old one two : Program} {start r0 r1 r2 r3 rest : List Tok} {a b : ExprId} {p : Pattern} {m : Mapping} (d : ℕ) (tokens : List Tok) → d ≤ 63 → parse_symbol symbols.Open tokens ≡ got tt r0
    → FoundExpression old one a r1 (parse_expression d v (counts_of old) r0) → parse_symbol symbols.Comma r1 ≡ got tt r2
    → FoundMapping one two p b r3 (parse_mapping d (parse_expression d v) (counts_of one) r2) → parse_symbol symbols.Close r3 ≡ got tt rest
    → ReadyExpression old two (mapped (program_expression two a) m p (program_expression two b)) start rest (parse_one_and_function d (parse_expression d v) (counts_of old) m start tokens)
unfolding parse_one_and_function
one_and_function_ready v {old} {r0 = r0} {r2 = r2} {a = a} {p = p} {m = m} d tokens small opening f comma g closing =
    let first = part v d (counts_of old) r0 refl f in
    let second = mapping_part v d (counts_with_expression (counts_of old) f.value) r2 first.counted g in
    record {
      value = mapped f.value m p g.value;
      is = rw (opening, f.is, comma, second.is, closing) refl;
      same = rw (g.kept.trees.values a f.held, first.same, second.same) refl;
      shallow = omega (arith, first.shallow, second.shallow);
      expressions = omega (arith, second.expressions);
    }

-- two expressions and a function in brackets
pub two_and_function_ready : (v : Version) {old one two three : Program} {start r0 r1 r2 r3 r4 r5 rest : List Tok} {a b c : ExprId} {p : Pattern} {o : Folding} (d : ℕ) (tokens : List Tok) → d ≤ 63
    → parse_symbol symbols.Open tokens ≡ got tt r0 → FoundExpression old one a r1 (parse_expression d v (counts_of old) r0) → parse_symbol symbols.Comma r1 ≡ got tt r2
    → FoundExpression one two b r3 (parse_expression d v (counts_of one) r2) → parse_symbol symbols.Comma r3 ≡ got tt r4
    → FoundMapping two three p c r5 (parse_mapping d (parse_expression d v) (counts_of two) r4) → parse_symbol symbols.Close r5 ≡ got tt rest
    → ReadyExpression old three (folded (program_expression three a) o (program_expression three b) p (program_expression three c)) start rest (parse_two_and_function d (parse_expression d v) (counts_of old) o start tokens)
unfolding parse_two_and_function
two_and_function_ready v {old} {three = three} {r0 = r0} {r2 = r2} {r4 = r4} {a = a} {b = b} {p = p} {o = o} d tokens small opening f comma g second_comma h closing =
    let parts = two_parts v d r0 r2 f g in
    let third = mapping_part v d (counts_with_expression (counts_with_expression (counts_of old) f.value) g.value) r4 parts.counted h in
    let first_same : program_expression three a ≡ f.value = h.kept.trees.values a (g.kept.trees.expressions a f.held) ∙ parts.first_same in
    let second_same : program_expression three b ≡ g.value = h.kept.trees.values b g.held ∙ parts.second_same in
    record {
      value = folded f.value o g.value p h.value;
      is = rw (opening, f.is, comma, parts.second, second_comma, third.is, closing) refl;
      same = rw (first_same, second_same, third.same) refl;
      shallow = omega (arith, parts.first_shallow, parts.second_shallow, third.shallow);
      expressions = omega (arith, third.expressions);
    }

-- a call of a stored function
pub called_ready : (v : Version) {old mid : Program} {start r0 r1 r2 rest : List Tok} {a : ExprId} {g n : Name} (d : ℕ) (tokens : List Tok) → d ≤ 63 → parse_name tokens ≡ got g r0 → parse_symbol symbols.Open r0 ≡ got tt r1
    → FoundExpression old mid a r2 (parse_expression d v (counts_of old) r1) → parse_symbol symbols.Close r2 ≡ got tt rest → n ≡ g
    → ReadyExpression old mid (called n (program_expression mid a)) start rest (parse_called (parse_expression d v) (counts_of old) start tokens)
unfolding parse_called
called_ready v {old} {r1 = r1} {g = g} d tokens small named opening f closing bytes =
    let one = part v d (counts_of old) r1 refl f in
    record {
      value = called g f.value;
      is = rw (named, opening, f.is, closing) refl;
      same = rw (bytes, one.same) refl;
      shallow = omega (arith, one.shallow);
      expressions = omega (arith, one.expressions);
    }

pub function_shallow : (v : Version) {old new : Program} {rest : List Tok} {b : ExprId} {p : Pattern} (d : ℕ) (tokens : List Tok) → d ≤ 63
    → FoundMapping old new p b rest (parse_mapping d (parse_expression d v) (counts_of old) tokens) → function_depth (function p (program_expression new b)) ≤ 64
function_shallow v {old} {new} {b = b} d tokens small f =
    let took = mapping_part v d (counts_of old) tokens refl f in
    let same : Expressions.depth (program_expression new b) ≡ Expressions.depth f.value = ap Expressions.depth f.tree in
    omega (arith, took.shallow)

-- a type of at most 256 is made, but for want of memory
pub type_refused : (read : Read Kind) (refusal : TyRefusal) (left count : ℕ) (e : Stop) → e ≡ stop_for_type refusal left → count ≤ 256 → (refusal ≡ type_refusals.TypeTooLarge → 256 < count) → StopsReading e read
type_refused read type_refusals.TypeTooLarge left count e is few large = let too : 256 < count = large refl in absurd (omega arith)
type_refused read type_refusals.Memory left count e is few large = subst (λ (e : Stop). StopsReading e read) (sym is) tt

pub few_first : (v : Version) {rest : List Tok} {t : Kind} (d : ℕ) (start : List Tok) (met : ℕ) (tokens : List Tok) → parse_inner_type d v start met tokens ≡ got t rest → met + nodes t ≤ 256
few_first v {rest} {t} d start met tokens is = let took : TookType v d met tokens t rest = inner_type_takes v d start met tokens t rest is in took.few

-- a type that was read within some of so many tokens has room there
pub few_within : (v : Version) {rest : List Tok} {t : Kind} (d : ℕ) (start met : ℕ) (tokens : List Tok) → ((whole : List Tok) → length whole ≡ start → parse_inner_type d v whole met tokens ≡ got t rest) → met + nodes t ≤ 256
few_within v d start met tokens read = few_first v d (replicate start (number (pos 0))) met tokens (read (replicate start (number (pos 0))) (length-replicate start (number (pos 0))))

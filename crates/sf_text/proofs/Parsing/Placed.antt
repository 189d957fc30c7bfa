-- What was read stays where it stands, and what is built of it stands at its first token.
use Rattle.std.proofs.Common.{◌≡◌, ℕ, suc, true, false, List, [], ◌∷◌, ◌++◌, length, Result, Ok, Err, refl, sym, ◌∙◌, ap, append_assoc, subst, arith}
use Rattle.std.specs.Prelude.{IfOk}
use Rattle.std.proofs.lemmas.List.{length-append, length-map}
use Rattle.sf_refusal.specs.declared.spot.Spot.{Spot}
use Rattle.sf_operator.specs.declared.operator.Unary.{Unary}
use Rattle.sf_operator.specs.declared.operator.Operator.{Operator}
use Rattle.sf_operator.specs.declared.operator.Mapping.{Mapping}
use Rattle.sf_operator.specs.declared.operator.Mapping.TheVariants as mappings
use Rattle.sf_operator.specs.declared.operator.Folding.{Folding}
use Rattle.sf_expr.specs.declared.exprs.ExprId.{ExprId}
use Rattle.sf_expr.specs.declared.exprs.NameId.{NameId}
use Rattle.sf_expr.specs.declared.exprs.ConstantId.{ConstantId}
use Rattle.sf_expr.specs.declared.exprs.FunctionId.{FunctionId}
use Rattle.sf_expr.specs.declared.exprs.PatternId.{PatternId}
use Rattle.sf_expr.specs.declared.exprs.ExprNode.{ExprNode}
use Rattle.sf_expr.specs.declared.exprs.ExprNode.TheVariants as expressions
use Rattle.sf_expr.specs.Patterns.{PlacedPattern}
use Rattle.sf_expr.specs.Expressions.{Literal, Expression, literal, text_literal, none_literal}
use Rattle.sf_term.specs.declared.program.Program.{Program}
use Rattle.sf_term.specs.Arena.{ExtendsTrees, ProgramHoldsPattern, placed_pattern, AddsExpression, AddsProgramFunction, function_body_at}
use Rattle.sf_value.specs.Values.{Kind}
use Rattle.sf_lex.specs.Tokens.{Tok}
use Rattle.sf_grammar.specs.declared.ty.Version.{Version}
use Rattle.sf_grammar.specs.Spelling.{takes_brackets, stands_between, maps_in_brackets, spell_type, spell_expression}
use Rattle.sf_grammar.specs.Reading.{got, parse_inner_type, parse_link}
use Rattle.sf_text.specs.Parsing.Answers.{toks}
use Rattle.sf_grammar.proofs.Takes.{TookLink, link_at_takes, TookType, inner_type_takes}
use Rattle.sf_lex.specs.declared.token.PlacedToken.{PlacedToken}
use Rattle.sf_grammar.specs.declared.head.Link.{Link}
use Rattle.sf_grammar.specs.declared.head.Link.TheVariants as links
use Rattle.sf_grammar.specs.Placing.{around, PatternPlaced, PatternStands, ExpressionStands, ExpressionPlaced, unit_placed, truth_placed, number_placed, constant_placed, variable_placed, pair_placed, prefixed_placed, one_in_brackets_placed, operation_placed, two_in_brackets_placed, conditional_placed, let_placed, one_and_function_placed, two_and_function_placed, called_placed, FunctionPlaced, function_placed}
use Rattle.sf_text.specs.Parsing.Consuming.{places, BehindOne, BehindSome, NamePlaced, Parted, Consumes, linked_node}

expression_stays : (old new : Program) → ExtendsTrees old new → (id : ExprId) (n : ExprNode) (at : Spot) → ExpressionStands old id n at → ExpressionStands new id n at
expression_stays old new k id n at s = record { held = k.expressions id s.held; node = k.value_nodes id s.held ∙ s.node; spot = k.value_spots id s.held ∙ s.spot }

pub pattern_stays : (old new : Program) → ExtendsTrees old new → (q : PatternId) (xs : List Spot) → PatternStands old q xs → PatternStands new q xs
pattern_stays old new k q xs s = record { held = k.holds_patterns q s.held; placed = subst (λ (p : PlacedPattern). PatternPlaced p xs) (sym (k.placed q s.held)) s.placed }

pub expression_keeps : (v : Version) (old new : Program) → ExtendsTrees old new → (id : ExprId) (xs : List Spot) → ExpressionPlaced v old id xs → ExpressionPlaced v new id xs
expression_keeps v old new k id xs (number_placed s) = number_placed (expression_stays old new k _ _ _ s)
expression_keeps v old new k id xs (unit_placed closing s) = unit_placed closing (expression_stays old new k _ _ _ s)
expression_keeps v old new k id xs (truth_placed s) = truth_placed (expression_stays old new k _ _ _ s)
expression_keeps v old new k id xs (constant_placed s counted) =
    constant_placed (expression_stays old new k _ _ _ s) (counted ∙ ap (λ (e : Expression). length (spell_expression v e)) (sym (k.values id s.held)))
expression_keeps v old new k id xs (variable_placed s) = variable_placed (expression_stays old new k _ _ _ s)
expression_keeps v old new k id xs (pair_placed comma closing s one two) =
    pair_placed comma closing (expression_stays old new k _ _ _ s) (expression_keeps v old new k _ _ one) (expression_keeps v old new k _ _ two)
expression_keeps v old new k id xs (prefixed_placed takes s part) = prefixed_placed takes (expression_stays old new k _ _ _ s) (expression_keeps v old new k _ _ part)
expression_keeps v old new k id xs (one_in_brackets_placed opening closing takes s part) =
    one_in_brackets_placed opening closing takes (expression_stays old new k _ _ _ s) (expression_keeps v old new k _ _ part)
expression_keeps v old new k id xs (operation_placed operator closing between s one two) =
    operation_placed operator closing between (expression_stays old new k _ _ _ s) (expression_keeps v old new k _ _ one) (expression_keeps v old new k _ _ two)
expression_keeps v old new k id xs (two_in_brackets_placed opening comma closing between s one two) =
    two_in_brackets_placed opening comma closing between (expression_stays old new k _ _ _ s) (expression_keeps v old new k _ _ one) (expression_keeps v old new k _ _ two)
expression_keeps v old new k id xs (conditional_placed between second s condition one two) =
    conditional_placed between second (expression_stays old new k _ _ _ s) (expression_keeps v old new k _ _ condition) (expression_keeps v old new k _ _ one) (expression_keeps v old new k _ _ two)
expression_keeps v old new k id xs (let_placed equals in_at s pattern value body) =
    let_placed equals in_at (expression_stays old new k _ _ _ s) (pattern_stays old new k _ _ pattern) (expression_keeps v old new k _ _ value) (expression_keeps v old new k _ _ body)
expression_keeps v old new k id xs (one_and_function_placed opening comma leads closing brackets s value pattern body) =
    one_and_function_placed opening comma leads closing brackets (expression_stays old new k _ _ _ s) (expression_keeps v old new k _ _ value) (pattern_stays old new k _ _ pattern) (expression_keeps v old new k _ _ body)
expression_keeps v old new k id xs (two_and_function_placed opening comma second leads closing s one two pattern body) =
    two_and_function_placed opening comma second leads closing (expression_stays old new k _ _ _ s) (expression_keeps v old new k _ _ one) (expression_keeps v old new k _ _ two) (pattern_stays old new k _ _ pattern) (expression_keeps v old new k _ _ body)
expression_keeps v old new k id xs (called_placed opening closing s part) = called_placed opening closing (expression_stays old new k _ _ _ s) (expression_keeps v old new k _ _ part)

pub function_keeps : (v : Version) (old new : Program) → ExtendsTrees old new → (f : FunctionId) (xs : List Spot) → FunctionPlaced v old f xs → FunctionPlaced v new f xs
function_keeps v old new k f xs (function_placed {f = g} {xs = front} {ys = behind} leads held pattern body) =
    function_placed leads (k.functions g held) (subst (λ (q : PlacedPattern). PatternPlaced q front) (sym (k.patterns g held)) pattern)
    (subst (λ (b : ExprId). ExpressionPlaced v new b behind) (sym (k.bodies g held)) (expression_keeps v old new k (function_body_at old g) behind body))

if_ok_map : {A E : Type 0} (P Q : A → Type 0) (r : Result A E) → ((x : A) → P x → Q x) → IfOk r P → IfOk r Q
if_ok_map P Q (Ok x) f h = f x h
if_ok_map P Q (Err e) f h = tt

-- one token of which something holds
pub first_alone : {P : List Spot → Type 0} {tokens rest : List Spot} {at : Spot} → tokens ≡ at ∷ rest → P (at ∷ []) → Consumes P tokens rest
first_alone {at = at} split h = record { front = at ∷ []; split = split; holds = h }

-- tokens behind a first one
pub behind_first : {P Q : List Spot → Type 0} {at : Spot} {tokens rest : List Spot} → Consumes P tokens rest → ((xs : List Spot) → P xs → Q (at ∷ xs)) → Consumes Q (at ∷ tokens) rest
behind_first {P} {Q} {at} c f = record { front = at ∷ c.front; split = ap (λ ts. at ∷ ts) c.split; holds = f c.front c.holds }

around_split : (at : Spot) (xs ys rest : List Spot) (m closing : Spot) → at ∷ (xs ++ (m ∷ (ys ++ (closing ∷ rest)))) ≡ around at xs m ys closing ++ rest
around_split at xs ys rest m closing = rw (append_assoc xs (m ∷ (ys ++ (closing ∷ []))) rest, append_assoc ys (closing ∷ []) rest) refl

-- two parts in brackets
pub in_brackets_read : {P Q R : List Spot → Type 0} {opening : Spot} {r0 r1 r2 r3 rest : List Spot} → Consumes P r0 r1 → BehindOne r1 r2 → Consumes Q r2 r3 → BehindOne r3 rest
    → ((between closing : Spot) (xs ys : List Spot) → P xs → Q ys → R (around opening xs between ys closing)) → Consumes R (opening ∷ r0) rest
in_brackets_read {P} {Q} {R} {opening} {r0} {r1} {r2} {r3} {rest} one between two closing f = record {
  front = around opening one.front between.at two.front closing.at;
  split = rw (one.split, between.split, two.split, closing.split) (around_split opening one.front two.front rest between.at closing.at);
  holds = f between.at closing.at one.front two.front one.holds two.holds;
}

-- what stands in brackets behind a word
pub behind_opening : {P : List Spot → Type 0} {spot : Spot} {r r0 rest : List Spot} (opening : BehindOne r r0) → Consumes (λ ys. P (spot ∷ ys)) (opening.at ∷ r0) rest → Consumes P (spot ∷ r) rest
behind_opening {P} {spot} opening inside = record { front = spot ∷ inside.front; split = ap (λ ts. spot ∷ ts) (opening.split ∙ inside.split); holds = inside.holds }

expression_stands : (old new : Program) (id : ExprId) (n : ExprNode) (e : Expression) (spot : Spot) → AddsExpression old new id n e spot → ExpressionStands new id n spot
expression_stands old new id n e spot a = record { held = a.within; node = a.node; spot = a.spotted }

pub number_read : {v : Version} {old new : Program} {id : ExprId} {z : _} {e : Expression} {spot : Spot} (rest : List Spot) → AddsExpression old new id (expressions.Int z) e spot → Consumes (ExpressionPlaced v new id) (spot ∷ rest) rest
number_read {v} {old} {new} {id} {z} {e} {spot} rest a = record { front = spot ∷ []; split = refl; holds = number_placed (expression_stands old new id _ e spot a) }

pub variable_read : {v : Version} {old new : Program} {id : ExprId} {n : NameId} {e : Expression} {spot : Spot} (rest : List Spot) → AddsExpression old new id (expressions.Name n) e spot → Consumes (ExpressionPlaced v new id) (spot ∷ rest) rest
variable_read {v} {old} {new} {id} {n} {e} {spot} rest a = record { front = spot ∷ []; split = refl; holds = variable_placed (expression_stands old new id _ e spot a) }

pub unit_read : {v : Version} {old new : Program} {id : ExprId} {e : Expression} {opening : Spot} (closing : Spot) (rest : List Spot) → AddsExpression old new id expressions.Unit e opening → Consumes (ExpressionPlaced v new id) (opening ∷ closing ∷ rest) rest
unit_read {v} {old} {new} {id} {e} {opening} closing rest a = record { front = opening ∷ closing ∷ []; split = refl; holds = unit_placed closing (expression_stands old new id _ e opening a) }

pub truth_read : {v : Version} {old new : Program} {id : ExprId} {b : _} {e : Expression} {spot : Spot} (rest : List Spot) → AddsExpression old new id (expressions.Truth b) e spot → Consumes (ExpressionPlaced v new id) (spot ∷ rest) rest
truth_read {v} {old} {new} {id} {b} {e} {spot} rest a = record { front = spot ∷ []; split = refl; holds = truth_placed (expression_stands old new id _ e spot a) }

pub text_read : {v : Version} {old new : Program} {id : ExprId} {n : ConstantId} {l : Literal} {s : List ℕ} {spot : Spot} (rest : List Spot) → l ≡ text_literal s → AddsExpression old new id (expressions.Constant n) (literal l) spot → Consumes (ExpressionPlaced v new id) (spot ∷ rest) rest
text_read {v} {old} {new} {id} {n} {l} {s} {spot} rest is a =
    record { front = spot ∷ []; split = refl; holds = constant_placed (expression_stands old new id _ _ spot a) (ap (λ (e : Expression). length (spell_expression v e)) (sym (a.is ∙ ap literal is))) }

-- what was read is read in a program that keeps it
abbrev stays_read : {v : Version} {old new : Program} {id : ExprId} {r rest : List Spot} → ExtendsTrees old new → Consumes (ExpressionPlaced v old id) r rest → Consumes (ExpressionPlaced v new id) r rest
stays_read {v} {old} {new} {id} k c = record { front = c.front; split = c.split; holds = expression_keeps v old new k id c.front c.holds }

-- an operator on one expression
pub prefixed_read : {v : Version} {mid new : Program} {a id : ExprId} {o : Unary} {e : Expression} {spot : Spot} {r0 rest : List Spot} → takes_brackets o ≡ false → AddsExpression mid new id (expressions.Applied o a) e spot
    → Consumes (ExpressionPlaced v mid a) r0 rest → Consumes (ExpressionPlaced v new id) (spot ∷ r0) rest
prefixed_read {v} {mid} {new} {a} {id} {o} {e} {spot} takes added part =
    behind_first (stays_read added.kept.trees part) (λ xs p. prefixed_placed takes (expression_stands mid new id _ e spot added) p)

pub one_in_brackets_read : {v : Version} {mid new : Program} {a id : ExprId} {o : Unary} {e : Expression} {spot : Spot} {r0 r1 r2 rest : List Spot} → takes_brackets o ≡ true → AddsExpression mid new id (expressions.Applied o a) e spot
    → BehindOne r0 r1 → Consumes (ExpressionPlaced v mid a) r1 r2 → BehindOne r2 rest → Consumes (ExpressionPlaced v new id) (spot ∷ r0) rest
one_in_brackets_read {v} {mid} {new} {a} {id} {o} {e} {spot} {r0} {r1} {r2} {rest} takes added opening part closing =
    let inside : Consumes (ExpressionPlaced v new a) r1 r2 = stays_read added.kept.trees part in record {
      front = spot ∷ opening.at ∷ (part.front ++ (closing.at ∷ []));
      split = rw (opening.split, part.split, closing.split, append_assoc part.front (closing.at ∷ []) rest) refl;
      holds = one_in_brackets_placed opening.at closing.at takes (expression_stands mid new id _ e spot added) inside.holds;
    }

-- two expressions in brackets
pub linked_read : {v : Version} {one two new : Program} {a b id : ExprId} {e : Expression} {spot : Spot} {r0 r1 r2 r3 rest : List Spot} (l : Link) (t1 t2 : List Tok) → ExtendsTrees one two → AddsExpression two new id (linked_node l a b) e spot
    → Consumes (ExpressionPlaced v one a) r0 r1 → parse_link t1 ≡ got l t2 → BehindOne r1 r2 → Consumes (ExpressionPlaced v two b) r2 r3 → BehindOne r3 rest → Consumes (ExpressionPlaced v new id) (spot ∷ r0) rest
linked_read {v} {one} {two} {new} {a} {b} {id} {e} {spot} links.Pair t1 t2 k added first linking between second closing =
    in_brackets_read (stays_read added.kept.trees (stays_read k first)) between (stays_read added.kept.trees second) closing (λ comma closing xs ys p q.
    pair_placed comma closing (expression_stands two new id _ e spot added) p q)
linked_read {v} {one} {two} {new} {a} {b} {id} {e} {spot} (links.Operation o) t1 t2 k added first linking between second closing =
    let link : TookLink t1 (links.Operation o) t2 = link_at_takes t1 (links.Operation o) t2 linking in
    in_brackets_read (stays_read added.kept.trees (stays_read k first)) between (stays_read added.kept.trees second) closing (λ operator closing xs ys p q.
    operation_placed operator closing link.between (expression_stands two new id _ e spot added) p q)

pub two_in_brackets_read : {v : Version} {one two new : Program} {a b id : ExprId} {o : Operator} {e : Expression} {spot : Spot} {r r0 r1 r2 r3 rest : List Spot} → stands_between o ≡ false → ExtendsTrees one two
    → AddsExpression two new id (expressions.Operation a o b) e spot → BehindOne r r0 → Consumes (ExpressionPlaced v one a) r0 r1 → BehindOne r1 r2 → Consumes (ExpressionPlaced v two b) r2 r3 → BehindOne r3 rest
    → Consumes (ExpressionPlaced v new id) (spot ∷ r) rest
two_in_brackets_read {v} {one} {two} {new} {a} {b} {id} {o} {e} {spot} {r} {r0} {r1} {r2} {r3} {rest} front k added opening first between second closing =
    behind_opening opening (in_brackets_read (stays_read added.kept.trees (stays_read k first)) between (stays_read added.kept.trees second) closing (λ comma closing xs ys p q.
    two_in_brackets_placed opening.at comma closing front (expression_stands two new id _ e spot added) p q))

-- two parts with a token between them
pub parted_read : {P Q : List Spot → Type 0} {r0 r1 r2 rest : List Spot} → Consumes P r0 r1 → BehindOne r1 r2 → Consumes Q r2 rest → Consumes (Parted P Q) r0 rest
parted_read {rest = rest} one between two = record {
  front = one.front ++ (between.at ∷ two.front);
  split = rw (one.split, between.split, two.split, append_assoc one.front (between.at ∷ two.front) rest) refl;
  holds = record { first = one.front; between = between.at; second = two.front; split = refl; first_holds = one.holds; second_holds = two.holds };
}

-- what holds of the places of such parts
pub parted : {P Q : List Spot → Type 0} {xs : List Spot} (R : List Spot → Type 0) → Parted P Q xs → ((at : Spot) (ys zs : List Spot) → P ys → Q zs → R (ys ++ (at ∷ zs))) → R xs
parted R m f = subst R (sym m.split) (f m.between m.first m.second m.first_holds m.second_holds)

-- one of two expressions by a condition
pub conditional_read : {v : Version} {one two three new : Program} {a b c id : ExprId} {e : Expression} {spot : Spot} {r0 r1 r2 r3 r4 rest : List Spot} → ExtendsTrees one two → ExtendsTrees two three
    → AddsExpression three new id (expressions.Conditional a b c) e spot → Consumes (ExpressionPlaced v one a) r0 r1 → BehindOne r1 r2 → Consumes (ExpressionPlaced v two b) r2 r3 → BehindOne r3 r4
    → Consumes (ExpressionPlaced v three c) r4 rest → Consumes (ExpressionPlaced v new id) (spot ∷ r0) rest
conditional_read {v} {one} {two} {three} {new} {a} {b} {c} {id} {e} {spot} k l added condition then_word first else_word second =
    behind_first (parted_read (stays_read added.kept.trees (stays_read l (stays_read k condition))) then_word (parted_read (stays_read added.kept.trees (stays_read l first)) else_word (stays_read added.kept.trees second))) (λ xs m.
    parted (λ xs. ExpressionPlaced v new id (spot ∷ xs)) m (λ at xs ys p n.
    parted (λ ys. ExpressionPlaced v new id (spot ∷ (xs ++ (at ∷ ys)))) n (λ other ys zs q r.
    conditional_placed at other (expression_stands three new id _ e spot added) p q r)))

-- a pattern that was put beside the functions
pub pattern_stands : (new : Program) (q : PatternId) (p : PlacedPattern) (xs : List Spot) → ProgramHoldsPattern new q × (placed_pattern new q ≡ p) → PatternPlaced p xs → PatternStands new q xs
pattern_stands new q p xs there placed = record { held = there.0; placed = subst (λ (p : PlacedPattern). PatternPlaced p xs) (sym there.1) placed }

-- an expression with names for a value
pub let_read : {v : Version} {one two new : Program} {a b id : ExprId} {p : PlacedPattern} {q : PatternId} {e : Expression} {spot : Spot} {r0 r1 r2 r3 r4 rest : List Spot} → ExtendsTrees one two
    → AddsExpression two new id (expressions.Mapped (record { part = a; mapping = mappings.Let; pattern = q; body = b })) e spot → ProgramHoldsPattern new q × (placed_pattern new q ≡ p) → Consumes (PatternPlaced p) r0 r1 → BehindOne r1 r2 → Consumes (ExpressionPlaced v one a) r2 r3
    → BehindOne r3 r4 → Consumes (ExpressionPlaced v two b) r4 rest → Consumes (ExpressionPlaced v new id) (spot ∷ r0) rest
let_read {v} {one} {two} {new} {a} {b} {id} {p} {q} {e} {spot} k added there pattern equals value in_word body =
    behind_first (parted_read pattern equals (parted_read (stays_read added.kept.trees (stays_read k value)) in_word (stays_read added.kept.trees body))) (λ xs m.
    parted (λ xs. ExpressionPlaced v new id (spot ∷ xs)) m (λ at ps xs placed n.
    parted (λ xs. ExpressionPlaced v new id (spot ∷ (ps ++ (at ∷ xs)))) n (λ other xs ys x y.
    let_placed at other (expression_stands two new id _ e spot added) (pattern_stands new q p ps there placed) x y)))

-- an expression and a function in brackets
pub one_and_function_read : {v : Version} {one two new : Program} {a b id : ExprId} {m : Mapping} {p : PlacedPattern} {q : PatternId} {e : Expression} {spot : Spot} {r r0 r1 r2 r3 rest : List Spot} → maps_in_brackets m ≡ true
    → ExtendsTrees one two → AddsExpression two new id (expressions.Mapped (record { part = a; mapping = m; pattern = q; body = b })) e spot → ProgramHoldsPattern new q × (placed_pattern new q ≡ p) → BehindOne r r0 → Consumes (ExpressionPlaced v one a) r0 r1 → BehindOne r1 r2
    → Consumes (Parted (PatternPlaced p) (ExpressionPlaced v two b)) r2 r3 → BehindOne r3 rest → Consumes (ExpressionPlaced v new id) (spot ∷ r) rest
one_and_function_read {v} {one} {two} {new} {a} {b} {id} {m} {p} {q} {e} {spot} brackets k added there opening value comma function closing =
    behind_opening opening (in_brackets_read (stays_read added.kept.trees (stays_read k value)) comma function closing (λ comma closing xs zs x n.
    parted (λ zs. ExpressionPlaced v new id (spot ∷ around opening.at xs comma zs closing)) n (λ leads ps ys placed y.
    one_and_function_placed opening.at comma leads closing brackets (expression_stands two new id _ e spot added) x (pattern_stands new q p ps there placed) (expression_keeps v two new added.kept.trees b ys y))))

-- two expressions and a function in brackets
pub two_and_function_read : {v : Version} {one two three new : Program} {a b c id : ExprId} {o : Folding} {p : PlacedPattern} {q : PatternId} {e : Expression} {spot : Spot} {r r0 r1 r2 r3 r4 r5 rest : List Spot} → ExtendsTrees one two → ExtendsTrees two three
    → AddsExpression three new id (expressions.Folded (record { first = a; folding = o; second = b; pattern = q; body = c })) e spot → ProgramHoldsPattern new q × (placed_pattern new q ≡ p) → BehindOne r r0 → Consumes (ExpressionPlaced v one a) r0 r1 → BehindOne r1 r2
    → Consumes (ExpressionPlaced v two b) r2 r3 → BehindOne r3 r4 → Consumes (Parted (PatternPlaced p) (ExpressionPlaced v three c)) r4 r5 → BehindOne r5 rest → Consumes (ExpressionPlaced v new id) (spot ∷ r) rest
two_and_function_read {v} {one} {two} {three} {new} {a} {b} {c} {id} {o} {p} {q} {e} {spot} k l added there opening first comma second other function closing =
    behind_opening opening (in_brackets_read (stays_read added.kept.trees (stays_read l (stays_read k first))) comma (parted_read (stays_read added.kept.trees (stays_read l second)) other function) closing (λ comma closing xs ts x n.
    parted (λ ts. ExpressionPlaced v new id (spot ∷ around opening.at xs comma ts closing)) n (λ other ys ts y n.
    parted (λ ts. ExpressionPlaced v new id (spot ∷ around opening.at xs comma (ys ++ (other ∷ ts)) closing)) n (λ leads ps zs placed z.
    two_and_function_placed opening.at comma other leads closing (expression_stands three new id _ e spot added) x y (pattern_stands new q p ps there placed) (expression_keeps v three new added.kept.trees c zs z)))))

-- a call of a stored function
pub called_read : {v : Version} {mid new : Program} {a id : ExprId} {g : NameId} {e : Expression} {spot place : Spot} {r r0 r1 r2 rest : List Spot} → AddsExpression mid new id (expressions.Called g place a) e spot
    → NamePlaced place r r0 → BehindOne r0 r1 → Consumes (ExpressionPlaced v mid a) r1 r2 → BehindOne r2 rest → Consumes (ExpressionPlaced v new id) (spot ∷ r) rest
called_read {v} {mid} {new} {a} {id} {g} {e} {spot} {place} {r} {r0} {r1} {r2} {rest} added name opening part closing =
    let inside : Consumes (ExpressionPlaced v new a) r1 r2 = stays_read added.kept.trees part in record {
      front = spot ∷ place ∷ opening.at ∷ (part.front ++ (closing.at ∷ []));
      split = rw (name.split, opening.split, part.split, closing.split, append_assoc part.front (closing.at ∷ []) rest) refl;
      holds = called_placed opening.at closing.at (expression_stands mid new id _ e spot added) inside.holds;
    }

-- a pattern and an expression
pub function_read : {v : Version} {mid new : Program} {f : FunctionId} {q : PlacedPattern} {b : ExprId} {r0 rest : List Spot} → AddsProgramFunction mid new f q b
    → Consumes (Parted (PatternPlaced q) (ExpressionPlaced v mid b)) r0 rest → Consumes (FunctionPlaced v new f) r0 rest
function_read {v} {mid} {new} {f} {q} {b} added parts = record {
  front = parts.front;
  split = parts.split;
  holds = parted (FunctionPlaced v new f) parts.holds (λ leads xs ys pattern body.
      function_placed leads added.within (subst (λ (p : PlacedPattern). PatternPlaced p xs) (sym added.pattern) pattern)
      (subst (λ (x : ExprId). ExpressionPlaced v new x ys) (sym added.body) (expression_keeps v mid new added.kept.trees b ys body)));
}

-- tokens behind tokens
pub some_more : {r s t : List Spot} → BehindSome r s → BehindSome s t → BehindSome r t
some_more {t = t} a b = record { front = a.front ++ b.front; split = a.split ∙ ap (λ r. a.front ++ r) b.split ∙ sym (append_assoc a.front b.front t); holds = tt }

pub some_of_one : {r s : List Spot} → BehindOne r s → BehindSome r s
some_of_one a = record { front = a.at ∷ []; split = a.split; holds = tt }

-- what was read behind tokens
pub from_some : {X E : Type 0} {tokens rest : List Spot} (r : Result X E) (behind : List Spot) → BehindSome tokens rest → IfOk r (λ _. BehindSome rest behind) → IfOk r (λ _. BehindSome tokens behind)
from_some {tokens = tokens} {rest = rest} r behind front = if_ok_map (λ _. BehindSome rest behind) (λ _. BehindSome tokens behind) r (λ _. some_more front)

-- as many tokens were read as spell what was read
pub front_counted : (tokens rest : List PlacedToken) (front : List Spot) (spelled : List Tok) → places tokens ≡ front ++ places rest → toks tokens ≡ spelled ++ toks rest → length front ≡ length spelled
front_counted tokens rest front spelled a b =
    let p : length (places tokens) ≡ length tokens = simp length-map in
    let q : length (places rest) ≡ length rest = simp length-map in
    let r : length (toks tokens) ≡ length tokens = simp length-map in
    let s : length (toks rest) ≡ length rest = simp length-map in
    omega (arith, ap length a, ap length b, length-append front (places rest), length-append spelled (toks rest))

pub none_event_read : {v : Version} {old new : Program} {id : ExprId} {n : ConstantId} {l : Literal} {t : Kind} {spot : Spot} (d : ℕ) (tokens rest : List PlacedToken) → l ≡ none_literal t → AddsExpression old new id (expressions.Constant n) (literal l) spot
    → parse_inner_type d v (toks tokens) 0 (toks tokens) ≡ got t (toks rest) → BehindSome (places tokens) (places rest) → Consumes (ExpressionPlaced v new id) (spot ∷ places tokens) (places rest)
none_event_read {v} {old} {new} {id} {n} {l} {t} {spot} d tokens rest same a is b =
    let took : TookType v d 0 (toks tokens) t (toks rest) = inner_type_takes v d (toks tokens) 0 (toks tokens) t (toks rest) is in
    record {
      front = spot ∷ b.front;
      split = ap (λ r. spot ∷ r) b.split;
      holds = constant_placed (expression_stands old new id _ _ spot a)
          (ap suc (front_counted tokens rest b.front (spell_type v t) b.split took.spelled) ∙ ap (λ (e : Expression). length (spell_expression v e)) (sym (a.is ∙ ap literal same)));
    }

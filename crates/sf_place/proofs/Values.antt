-- The readers of expressions and functions, and what they read.
use Rattle.std.proofs.Common.{◌≡◌, ℕ, zero, suc, ◌+◌, Bool, true, false, List, [], ◌∷◌, ◌++◌, Option, Some, None, is_some, refl, sym, ◌∙◌, ap, subst, append_assoc}
use Rattle.sf_operator.specs.declared.operator.Unary.{Unary}
use Rattle.sf_operator.specs.declared.operator.Operator.{Operator}
use Rattle.sf_operator.specs.declared.operator.Mapping.{Mapping}
use Rattle.sf_operator.specs.declared.operator.Mapping.TheVariants as mappings
use Rattle.sf_operator.specs.declared.operator.Folding.{Folding}
use Rattle.sf_expr.specs.Expressions.{Pattern, unit_literal, truth_literal, int_literal, text_literal, none_literal, Expression, variable, literal, paired, applied, operation, conditional, mapped, folded, called, size, Function, function}
use Rattle.sf_lex.specs.declared.word.Keyword.{Keyword}
use Rattle.sf_lex.specs.declared.word.Keyword.TheVariants as words
use Rattle.sf_lex.specs.declared.symbol.Symbol.TheVariants as symbols
use Rattle.sf_lex.specs.Tokens.{Tok, keyword, name, number, text, symbol}
use Rattle.sf_grammar.specs.declared.ty.Version.{Version}
use Rattle.sf_grammar.specs.declared.head.ExpressionHead.{ExpressionHead}
use Rattle.sf_grammar.specs.declared.head.ExpressionHead.TheVariants as expression_heads
use Rattle.sf_grammar.specs.declared.head.Link.{Link}
use Rattle.sf_grammar.specs.declared.head.Link.TheVariants as links
use Rattle.sf_grammar.specs.Spelling.{in_brackets, spell_operand, spell_operands, spell_pattern, spell_type, spell_expression, spell_function, spell_mapping, spell_mapped_so, unary_word, takes_brackets, operator_token, stands_between, mapping_word, maps_in_brackets, folding_word}
use Rattle.sf_grammar.specs.Reading.{Read, Counts, counts_with_expression, expression_read, linked, parse_linked, behind_close, bracketed_from, parse_none, expression_head, parse_prefixed, parse_one_in_brackets, parse_two_in_brackets, parse_conditional, parse_mapping, parse_let, mapped_by, folded_by, parse_one_and_function, parse_two_and_function, parse_called, parse_worded_expression, parse_expression_form, begins_expression, parse_expression, parse_function}
use Rattle.sf_grammar.proofs.Words.{LinksBetween, BeginsWith, expression_head_takes, link_token, close_takes, unary_head, unary_again, IsInFront, operator_again, folding_again, no_close}
use Rattle.sf_place.specs.Places.{ExpressionInTexts, FunctionInTexts}
use Rattle.sf_place.proofs.Spells.{plain_one, Exists, TakesAt, Fine, Reads, Anything, Only, Both, bind, Ends, end_fine, finish, got_ends, counted_ends, nothing, takes_as, reads_as, behind_token, refused, token_takes, end_takes, Begins, begins_with, deep_reads}
use Rattle.sf_place.proofs.Pieces.{fine_as, keyword_reads, symbol_reads, NameText, name_reads, LinkText, link_reads, Parts, parts_read, parts_are, Comma, comma, Open, opening, Close, closing, MapsTo, maps_to, TypeText, whole_type_reads, PatternText, pattern_reads}

pub record ExpressionText (v : Version) (xs : List Tok) : Type 0 where
  pub value : Expression
  pub spelled : xs ≡ spell_expression v value
  pub stands : ExpressionInTexts v value

pub record FunctionText (v : Version) (xs : List Tok) : Type 0 where
  pub value : Function
  pub spelled : xs ≡ spell_function v value
  pub stands : FunctionInTexts v value

some_expression : Expression
some_expression = literal (truth_literal true)

pub expression_exists : (v : Version) → Exists (ExpressionText v)
unfolding some_expression
expression_exists v = record { tokens = keyword words.True ∷ []; are = record { value = some_expression; spelled = refl; stands = tt }; plain = plain_one (keyword words.True) tt }

abbrev pub ExpressionsRead : Version → (Counts → List Tok → Read Expression) → Type 0
ExpressionsRead v part = (c : Counts) → Reads Anything (ExpressionText v) (part c)

expression_ends : (c : Counts) (e : Expression) (start : List Tok) → Ends (expression_read c e start)
expression_ends c e start = counted_ends e (c.expressions + size e) start

abbrev Word : Keyword → List Tok → Type 0
Word k = Only (keyword k ∷ [])

-- the tokens of a function: a pattern, and a body behind it
abbrev Mapped : Version → List Tok → Type 0
Mapped v = Both PatternText (Both MapsTo (ExpressionText v))

function_into : (v : Version) (xs : List Tok) → Mapped v xs → FunctionText v xs
function_into v xs are = record { value = function are.first.value are.second.second.value; spelled = cc; stands = are.second.second.stands }

function_are : (v : Version) (p : Pattern) (e : Expression) → ExpressionInTexts v e → Mapped v (spell_mapping (spell_pattern p) (spell_expression v e))
function_are v p e stands = record {
  one = spell_pattern p;
  two = symbol symbols.MapsTo ∷ spell_expression v e;
  split = refl;
  first = record { value = p; spelled = refl };
  second = record { one = symbol symbols.MapsTo ∷ []; two = spell_expression v e; split = refl; first = record { is = refl }; second = record { value = e; spelled = refl; stands = stands } };
}

function_back : (v : Version) (f : Function) (xs : List Tok) → xs ≡ spell_function v f → FunctionInTexts v f → Mapped v xs
function_back v (function p e) xs spelled stands = subst (λ (xs : List Tok). Mapped v xs) (sym spelled) (function_are v p e stands)

pub mapping_reads : (d : ℕ) (v : Version) (part : Counts → List Tok → Read Expression) (c : Counts) → ExpressionsRead v part → Reads Anything (FunctionText v) (parse_mapping d part c)
mapping_reads d v part c l =
    reads_as (function_into v) (λ xs are. function_back v are.value xs are.spelled are.stands) (bind (pattern_reads d) (λ p. bind maps_to (λ u. finish (l c) (λ e. got_ends (function p e)))))

-- ## Forms

linked_reads : (v : Version) (part : Counts → List Tok → Read Expression) (c : Counts) (start : List Tok) → ExpressionsRead v part → Reads Anything (Parts (ExpressionText v) LinkText (ExpressionText v)) (parse_linked part c start)
unfolding parse_linked
linked_reads v part c start l = parts_read (l c) link_reads (λ e. l (counts_with_expression c e)) (λ e k f. expression_ends c (linked k e f) start)

-- what stands behind an opening bracket
data BracketText (v : Version) (xs : List Tok) : Type 0 where
  closes : Close xs → BracketText v xs
  links_two : Parts (ExpressionText v) LinkText (ExpressionText v) xs → BracketText v xs

bracketed_takes : (v : Version) (part : Counts → List Tok → Read Expression) (c : Counts) (start tokens : List Tok) (o : Option (List Tok)) → behind_close tokens ≡ o → ExpressionsRead v part
    → TakesAt (BracketText v) (bracketed_from part c o start tokens) tokens
bracketed_takes v part c start tokens (Some rest) found l =
    let e : Ends (expression_read c (literal unit_literal) start) = expression_ends c (literal unit_literal) start in
    subst (λ (ts : List Tok). TakesAt (BracketText v) (expression_read c (literal unit_literal) start rest) ts) (sym (close_takes tokens rest found))
    (takes_as (λ xs only. closes only) (end_takes {k = λ (u : Unit {0}). expression_read c (literal unit_literal) start} (token_takes (symbol symbols.Close) (tt {0}) rest) (λ u. e)))
bracketed_takes v part c start tokens None found l = takes_as (λ xs are. links_two are) ((linked_reads v part c start l).takes tokens)

bracketed_fine : (v : Version) (part : Counts → List Tok → Read Expression) (c : Counts) (start xs more : List Tok) → BracketText v xs → ExpressionsRead v part → Fine more (bracketed_from part c (behind_close (xs ++ more)) start (xs ++ more))
bracketed_fine v part c start xs more (closes only) l =
    subst (λ (u : List Tok). Fine more (bracketed_from part c (behind_close (u ++ more)) start (u ++ more))) (sym only.is) (end_fine ((expression_ends c (literal unit_literal) start).ends more))
bracketed_fine v part c start xs more (links_two are) l =
    let behind : List Tok = are.two ++ more in
    let front : xs ++ more ≡ spell_expression v are.first.value ++ behind = ap (λ u. u ++ more) (are.split ∙ ap (λ u. u ++ are.two) are.first.spelled) ∙ append_assoc (spell_expression v are.first.value) are.two more in
    let open_ : behind_close (xs ++ more) ≡ None = ap behind_close front ∙ no_close v are.first.value behind in
    subst (λ o. Fine more (bracketed_from part c o start (xs ++ more))) (sym open_) ((linked_reads v part c start l).fine xs more are tt)

-- the tokens of an expression behind its word
abbrev ExpressionTail : Version → ExpressionHead → List Tok → Type 0
ExpressionTail v (expression_heads.Truth b) = Only []
ExpressionTail v expression_heads.NoEvent = TypeText v
ExpressionTail v (expression_heads.Prefixed o) = ExpressionText v
ExpressionTail v (expression_heads.OneInBrackets o) = Both Open (Both (ExpressionText v) Close)
ExpressionTail v (expression_heads.TwoInBrackets o) = Both Open (Parts (ExpressionText v) Comma (ExpressionText v))
ExpressionTail v expression_heads.Conditional = Both (ExpressionText v) (Both (Word words.Then) (Both (ExpressionText v) (Both (Word words.Else) (ExpressionText v))))
ExpressionTail v expression_heads.Let = Both PatternText (Both (Only (symbol symbols.Equals ∷ [])) (Both (ExpressionText v) (Both (Word words.In) (ExpressionText v))))
ExpressionTail v (expression_heads.OneAndFunction m) = Both Open (Parts (ExpressionText v) Comma (FunctionText v))
ExpressionTail v (expression_heads.TwoAndFunction o) = Both Open (Both (ExpressionText v) (Both Comma (Parts (ExpressionText v) Comma (FunctionText v))))
ExpressionTail v expression_heads.Called = Both NameText (Both Open (Both (ExpressionText v) Close))

worded_reads : (d : ℕ) (v : Version) (part : Counts → List Tok → Read Expression) (c : Counts) (h : ExpressionHead) (start : List Tok) → ExpressionsRead v part
    → Reads Anything (ExpressionTail v h) (parse_worded_expression d v part c (Some h) start)
unfolding parse_none parse_prefixed parse_one_in_brackets parse_two_in_brackets parse_conditional parse_let parse_one_and_function parse_two_and_function parse_called
worded_reads d v part c (expression_heads.Truth b) start l = nothing (expression_ends c (literal (truth_literal b)) start)
worded_reads d v part c expression_heads.NoEvent start l = finish (whole_type_reads d v) (λ t. expression_ends c (literal (none_literal t)) start)
worded_reads d v part c (expression_heads.Prefixed o) start l = finish (l c) (λ e. expression_ends c (applied o e) start)
worded_reads d v part c (expression_heads.OneInBrackets o) start l = bind opening (λ _. bind (l c) (λ e. finish closing (λ _. expression_ends c (applied o e) start)))
worded_reads d v part c (expression_heads.TwoInBrackets o) start l =
    bind opening (λ _. parts_read (l c) comma (λ e. l (counts_with_expression c e)) (λ e _ f. expression_ends c (operation e o f) start))
worded_reads d v part c expression_heads.Conditional start l =
    bind (l c) (λ e. bind (keyword_reads words.Then (λ more. refl)) (λ _. bind (l (counts_with_expression c e)) (λ f. bind (keyword_reads words.Else (λ more. refl)) (λ _.
    finish (l (counts_with_expression (counts_with_expression c e) f)) (λ g. expression_ends c (conditional e f g) start)))))
worded_reads d v part c expression_heads.Let start l =
    bind (pattern_reads d) (λ p. bind (symbol_reads symbols.Equals (λ more. refl)) (λ _. bind (l c) (λ e. bind (keyword_reads words.In (λ more. refl)) (λ _.
    finish (l (counts_with_expression c e)) (λ f. expression_ends c (mapped e mappings.Let p f) start)))))
worded_reads d v part c (expression_heads.OneAndFunction m) start l =
    bind opening (λ _. parts_read (l c) comma (λ e. mapping_reads d v part (counts_with_expression c e) l) (λ e _ f. expression_ends c (mapped_by e m f) start))
worded_reads d v part c (expression_heads.TwoAndFunction o) start l =
    bind opening (λ _. bind (l c) (λ e. bind comma (λ _.
    parts_read (l (counts_with_expression c e)) comma (λ f. mapping_reads d v part (counts_with_expression (counts_with_expression c e) f) l) (λ f _ g. expression_ends c (folded_by e o f g) start))))
worded_reads d v part c expression_heads.Called start l =
    bind name_reads (λ g. bind opening (λ _. bind (l c) (λ e. finish closing (λ _. expression_ends c (called g e) start))))

-- ## What is read is an expression

mapped_into : (v : Version) (m : Mapping) (e : Expression) (f : Function) (k : Keyword) (ys : List Tok) → (k ≡ mapping_word m) × (maps_in_brackets m ≡ true)
    → ys ≡ in_brackets (spell_expression v e) (symbol symbols.Comma) (spell_function v f) → ExpressionInTexts v e → FunctionInTexts v f → ExpressionText v (keyword k ∷ ys)
mapped_into v m e (function p f) k ys begins split one two = record { value = mapped e m p f; spelled = rw (begins.0, begins.1) (ap (λ r. keyword (mapping_word m) ∷ r) split); stands = (one, two) }

folded_into : (v : Version) (o : Folding) (e f : Expression) (g : Function) (k : Keyword) (ys : List Tok) → k ≡ folding_word o
    → ys ≡ in_brackets (spell_expression v e) (symbol symbols.Comma) (spell_expression v f ++ (symbol symbols.Comma ∷ spell_function v g)) → ExpressionInTexts v e → ExpressionInTexts v f → FunctionInTexts v g → ExpressionText v (keyword k ∷ ys)
folded_into v o e f (function p g) k ys begins split one two three = record { value = folded e o f p g; spelled = rw begins (ap (λ r. keyword (folding_word o) ∷ r) split); stands = (one, two, three) }

worded_into : (v : Version) (h : ExpressionHead) (k : Keyword) (ys : List Tok) → BeginsWith h k → ExpressionTail v h ys → ExpressionText v (keyword k ∷ ys)
worded_into v (expression_heads.Truth true) k ys begins tail = record { value = literal (truth_literal true); spelled = cc; stands = tt }
worded_into v (expression_heads.Truth false) k ys begins tail = record { value = literal (truth_literal false); spelled = cc; stands = tt }
worded_into v expression_heads.NoEvent k ys begins tail = record { value = literal (none_literal tail.value); spelled = cc; stands = tail.stands }
worded_into v (expression_heads.Prefixed o) k ys begins tail = record { value = applied o tail.value; spelled = rw (begins.0, begins.1, tail.spelled) refl; stands = tail.stands }
worded_into v (expression_heads.OneInBrackets o) k ys begins tail =
    let split : ys ≡ symbol symbols.Open ∷ (spell_expression v tail.second.first.value ++ (symbol symbols.Close ∷ [])) = cc in
    record { value = applied o tail.second.first.value; spelled = rw (begins.0, begins.1, split) refl; stands = tail.second.first.stands }
worded_into v (expression_heads.TwoInBrackets o) k ys begins tail =
    let split : ys ≡ in_brackets (spell_expression v tail.second.first.value) (symbol symbols.Comma) (spell_expression v tail.second.second.second.first.value) = cc in
    record {
      value = operation tail.second.first.value o tail.second.second.second.first.value;
      spelled = rw (begins.1, ← begins.0) (ap (λ r. keyword k ∷ r) split);
      stands = (tail.second.first.stands, tail.second.second.second.first.stands);
    }
worded_into v expression_heads.Conditional k ys begins tail = record {
  value = conditional tail.first.value tail.second.second.first.value tail.second.second.second.second.value;
  spelled = cc;
  stands = (tail.first.stands, tail.second.second.first.stands, tail.second.second.second.second.stands);
}
worded_into v expression_heads.Let k ys begins tail = record {
  value = mapped tail.second.second.first.value mappings.Let tail.first.value tail.second.second.second.second.value;
  spelled = cc;
  stands = (tail.second.second.first.stands, tail.second.second.second.second.stands);
}
worded_into v (expression_heads.OneAndFunction m) k ys begins tail =
    mapped_into v m tail.second.first.value tail.second.second.second.first.value k ys begins (cc) tail.second.first.stands tail.second.second.second.first.stands
worded_into v (expression_heads.TwoAndFunction o) k ys begins tail =
    let one : List Tok = spell_expression v tail.second.first.value in
    let two : List Tok = spell_expression v tail.second.second.second.first.value in
    let three : List Tok = spell_function v tail.second.second.second.second.second.first.value in
    let split : ys ≡ symbol symbols.Open ∷ (one ++ (symbol symbols.Comma ∷ (two ++ (symbol symbols.Comma ∷ (three ++ (symbol symbols.Close ∷ [])))))) = cc in
    folded_into v o tail.second.first.value tail.second.second.second.first.value tail.second.second.second.second.second.first.value k ys begins
    (split ∙ ap (λ r. symbol symbols.Open ∷ (one ++ (symbol symbols.Comma ∷ r))) (sym (append_assoc two (symbol symbols.Comma ∷ three) (symbol symbols.Close ∷ []))))
    tail.second.first.stands tail.second.second.second.first.stands tail.second.second.second.second.second.first.stands
worded_into v expression_heads.Called k ys begins tail = record { value = called tail.first.value tail.second.second.first.value; spelled = cc; stands = tail.second.second.first.stands }

link_into : (v : Version) (l : Link) (e f : Expression) (ys : List Tok) → ys ≡ spell_expression v e ++ (link_token l ∷ (spell_expression v f ++ (symbol symbols.Close ∷ []))) → LinksBetween l
    → ExpressionInTexts v e → ExpressionInTexts v f → ExpressionText v (symbol symbols.Open ∷ ys)
link_into v links.Pair e f ys split between one two = record { value = paired e f; spelled = ap (λ r. symbol symbols.Open ∷ r) split; stands = (one, two) }
link_into v (links.Operation o) e f ys split between one two = record { value = operation e o f; spelled = rw between (ap (λ r. symbol symbols.Open ∷ r) split); stands = (one, two) }

-- what stands in brackets
bracketed_into : (v : Version) (ys : List Tok) → BracketText v ys → ExpressionText v (symbol symbols.Open ∷ ys)
bracketed_into v ys (closes only) = record { value = literal unit_literal; spelled = cc; stands = tt }
bracketed_into v ys (links_two are) =
    link_into v are.second.first.value are.first.value are.second.second.first.value ys (cc) are.second.first.between are.first.stands are.second.second.first.stands

-- a form that is a token alone
alone_takes : (v : Version) (c : Counts) (t : Tok) (e : Expression) (u : List Tok) → t ∷ [] ≡ spell_expression v e → ExpressionInTexts v e → TakesAt (ExpressionText v) (expression_read c e (t ∷ u) u) (t ∷ u)
alone_takes v c t e u spelled stands =
    takes_as (λ xs only. record { value = e; spelled = only.is ∙ spelled; stands = stands })
    (end_takes {k = λ (x : Unit {0}). expression_read c e (t ∷ u)} (token_takes t (tt {0}) u) (λ x. expression_ends c e (t ∷ u)))

worded_takes : (d : ℕ) (v : Version) (part : Counts → List Tok → Read Expression) (c : Counts) (h : Option ExpressionHead) (k : Keyword) (u : List Tok) → expression_head k ≡ h → ExpressionsRead v part
    → TakesAt (ExpressionText v) (parse_worded_expression d v part c h (keyword k ∷ u) u) (keyword k ∷ u)
worded_takes d v part c (Some h) k u found l = behind_token (keyword k) (λ ys tail. worded_into v h k ys (expression_head_takes k h found) tail) ((worded_reads d v part c h (keyword k ∷ u) l).takes u)
worded_takes d v part c None k u found l = refused (keyword k ∷ u) (expression_exists v)

expression_form_takes : (d : ℕ) (v : Version) (part : Counts → List Tok → Read Expression) (c : Counts) (tokens : List Tok) → ExpressionsRead v part → TakesAt (ExpressionText v) (parse_expression_form d v part c tokens) tokens
expression_form_takes d v part c (name n ∷ u) l = alone_takes v c (name n) (variable n) u refl tt
expression_form_takes d v part c (number z ∷ u) l = alone_takes v c (number z) (literal (int_literal z)) u refl tt
expression_form_takes d v part c (text s ∷ u) l = alone_takes v c (text s) (literal (text_literal s)) u refl tt
expression_form_takes d v part c (keyword k ∷ u) l = worded_takes d v part c (expression_head k) k u refl l
expression_form_takes d v part c (symbol symbols.Open ∷ u) l = behind_token (symbol symbols.Open) (bracketed_into v) (bracketed_takes v part c (symbol symbols.Open ∷ u) u (behind_close u) refl l)
expression_form_takes d v part c tokens l = refused tokens (expression_exists v)

-- ## No expression is refused for a token

worded_fine : (d : ℕ) (v : Version) (part : Counts → List Tok → Read Expression) (c : Counts) (h : ExpressionHead) (k : Keyword) (ys more : List Tok) → expression_head k ≡ Some h → ExpressionTail v h ys → ExpressionsRead v part
    → Fine more (parse_expression_form d v part c (keyword k ∷ (ys ++ more)))
worded_fine d v part c h k ys more found tail l =
    subst (λ o. Fine more (parse_worded_expression d v part c o (keyword k ∷ (ys ++ more)) (ys ++ more))) (sym found) ((worded_reads d v part c h (keyword k ∷ (ys ++ more)) l).fine ys more tail tt)

value_is : (v : Version) (e : Expression) → ExpressionInTexts v e → ExpressionText v (spell_expression v e)
value_is v e stands = record { value = e; spelled = refl; stands = stands }

-- an expression in brackets
bracket_is : (v : Version) (e : Expression) → ExpressionInTexts v e → Both Open (Both (ExpressionText v) Close) (spell_operand true (spell_expression v e))
bracket_is v e stands = record {
  one = symbol symbols.Open ∷ [];
  two = spell_expression v e ++ (symbol symbols.Close ∷ []);
  split = refl;
  first = record { is = refl };
  second = record { one = spell_expression v e; two = symbol symbols.Close ∷ []; split = refl; first = value_is v e stands; second = record { is = refl } };
}

-- what follows a token
pub behind_one : {M : List Tok → Type 0} (t : Tok) (ys : List Tok) → M ys → Both (Only (t ∷ [])) M (t ∷ ys)
behind_one t ys m = record { one = t ∷ []; two = ys; split = refl; first = record { is = refl }; second = m }

-- one kind of tokens behind another
pub behind : {L M : List Tok → Type 0} (xs ys : List Tok) → L xs → M ys → Both L M (xs ++ ys)
behind xs ys l m = record { one = xs; two = ys; split = refl; first = l; second = m }

applied_fine : (d : ℕ) (v : Version) (part : Counts → List Tok → Read Expression) (c : Counts) (o : Unary) (e : Expression) (brackets : Bool) (more : List Tok) → takes_brackets o ≡ brackets → ExpressionInTexts v e → ExpressionsRead v part
    → Fine more (parse_expression_form d v part c (keyword (unary_word o) ∷ (spell_operand brackets (spell_expression v e) ++ more)))
applied_fine d v part c o e false more is stands l = worded_fine d v part c (expression_heads.Prefixed o) (unary_word o) (spell_expression v e) more (unary_again o ∙ ap (λ b. Some (unary_head b o)) is) (value_is v e stands) l
applied_fine d v part c o e true more is stands l =
    worded_fine d v part c (expression_heads.OneInBrackets o) (unary_word o) (spell_operand true (spell_expression v e)) more (unary_again o ∙ ap (λ b. Some (unary_head b o)) is) (bracket_is v e stands) l

operation_fine : (d : ℕ) (v : Version) (part : Counts → List Tok → Read Expression) (c : Counts) (e : Expression) (o : Operator) (f : Expression) (between : Bool) (more : List Tok) → stands_between o ≡ between
    → ExpressionInTexts v e → ExpressionInTexts v f → ExpressionsRead v part → Fine more (parse_expression_form d v part c (spell_operands between (operator_token o) (spell_expression v e) (spell_expression v f) ++ more))
operation_fine d v part c e o f true more is one two l =
    let ys : List Tok = spell_expression v e ++ (operator_token o ∷ (spell_expression v f ++ (symbol symbols.Close ∷ []))) in
    bracketed_fine v part c (symbol symbols.Open ∷ (ys ++ more)) ys more
    (links_two (parts_are (spell_expression v e) (operator_token o) (spell_expression v f) (value_is v e one) (record { value = links.Operation o; spelled = refl; between = is }) (value_is v f two))) l
operation_fine d v part c e o f false more is one two l =
    let front : IsInFront o = operator_again o is in
    let ys : List Tok = in_brackets (spell_expression v e) (symbol symbols.Comma) (spell_expression v f) in
    subst (λ (t : Tok). Fine more (parse_expression_form d v part c (t ∷ (ys ++ more)))) (sym front.token)
    (worded_fine d v part c (expression_heads.TwoInBrackets o) front.word ys more front.head
    (behind_one (symbol symbols.Open) (spell_expression v e ++ (symbol symbols.Comma ∷ (spell_expression v f ++ (symbol symbols.Close ∷ []))))
    (parts_are (spell_expression v e) (symbol symbols.Comma) (spell_expression v f) (value_is v e one) (record { is = refl }) (value_is v f two))) l)

function_is : (v : Version) (p : Pattern) (e : Expression) → ExpressionInTexts v e → FunctionText v (spell_mapping (spell_pattern p) (spell_expression v e))
function_is v p e stands = record { value = function p e; spelled = refl; stands = stands }

-- a value and a function in brackets
value_and_function : (v : Version) (e : Expression) (p : Pattern) (f : Expression) → ExpressionInTexts v e → ExpressionInTexts v f
    → Both Open (Parts (ExpressionText v) Comma (FunctionText v)) (in_brackets (spell_expression v e) (symbol symbols.Comma) (spell_mapping (spell_pattern p) (spell_expression v f)))
value_and_function v e p f one two =
    behind_one (symbol symbols.Open) (spell_expression v e ++ (symbol symbols.Comma ∷ (spell_mapping (spell_pattern p) (spell_expression v f) ++ (symbol symbols.Close ∷ []))))
    (parts_are (spell_expression v e) (symbol symbols.Comma) (spell_mapping (spell_pattern p) (spell_expression v f)) (value_is v e one) (record { is = refl }) (function_is v p f two))

-- two values and a function in brackets
values_and_function : (v : Version) (e f : Expression) (p : Pattern) (g : Expression) → ExpressionInTexts v e → ExpressionInTexts v f → ExpressionInTexts v g
    → Both Open (Both (ExpressionText v) (Both Comma (Parts (ExpressionText v) Comma (FunctionText v))))
    (in_brackets (spell_expression v e) (symbol symbols.Comma) (spell_expression v f ++ (symbol symbols.Comma ∷ spell_mapping (spell_pattern p) (spell_expression v g))))
values_and_function v e f p g one two three =
    let last : List Tok = spell_mapping (spell_pattern p) (spell_expression v g) in
    let inside : List Tok = spell_expression v f ++ (symbol symbols.Comma ∷ (last ++ (symbol symbols.Close ∷ []))) in
    subst (λ (r : List Tok). Both Open (Both (ExpressionText v) (Both Comma (Parts (ExpressionText v) Comma (FunctionText v)))) (symbol symbols.Open ∷ (spell_expression v e ++ (symbol symbols.Comma ∷ r))))
    (sym (append_assoc (spell_expression v f) (symbol symbols.Comma ∷ last) (symbol symbols.Close ∷ [])))
    (behind_one (symbol symbols.Open) (spell_expression v e ++ (symbol symbols.Comma ∷ inside)) (behind (spell_expression v e) (symbol symbols.Comma ∷ inside) (value_is v e one)
    (behind_one (symbol symbols.Comma) inside (parts_are (spell_expression v f) (symbol symbols.Comma) last (value_is v f two) (record { is = refl }) (function_is v p g three)))))

expression_form_fine : (d : ℕ) (v : Version) (part : Counts → List Tok → Read Expression) (c : Counts) (e : Expression) (more : List Tok) → ExpressionInTexts v e → ExpressionsRead v part
    → Fine more (parse_expression_form d v part c (spell_expression v e ++ more))
expression_form_fine d v part c (variable n) more stands l = end_fine ((expression_ends c (variable n) (name n ∷ more)).ends more)
expression_form_fine d v part c (literal unit_literal) more stands l = bracketed_fine v part c (symbol symbols.Open ∷ symbol symbols.Close ∷ more) (symbol symbols.Close ∷ []) more (closes (record { is = refl })) l
expression_form_fine d v part c (literal (truth_literal true)) more stands l = worded_fine d v part c (expression_heads.Truth true) words.True [] more refl (record { is = refl }) l
expression_form_fine d v part c (literal (truth_literal false)) more stands l = worded_fine d v part c (expression_heads.Truth false) words.False [] more refl (record { is = refl }) l
expression_form_fine d v part c (literal (int_literal z)) more stands l = end_fine ((expression_ends c (literal (int_literal z)) (number z ∷ more)).ends more)
expression_form_fine d v part c (literal (text_literal s)) more stands l = end_fine ((expression_ends c (literal (text_literal s)) (text s ∷ more)).ends more)
expression_form_fine d v part c (literal (none_literal t)) more stands l = worded_fine d v part c expression_heads.NoEvent words.NoEvent (spell_type v t) more refl (record { value = t; spelled = refl; stands = stands }) l
expression_form_fine d v part c (paired e f) more stands l =
    let ys : List Tok = spell_expression v e ++ (symbol symbols.Comma ∷ (spell_expression v f ++ (symbol symbols.Close ∷ []))) in
    bracketed_fine v part c (symbol symbols.Open ∷ (ys ++ more)) ys more
    (links_two (parts_are (spell_expression v e) (symbol symbols.Comma) (spell_expression v f) (value_is v e stands.0) (record { value = links.Pair; spelled = refl; between = tt }) (value_is v f stands.1))) l
expression_form_fine d v part c (applied o e) more stands l = applied_fine d v part c o e (takes_brackets o) more refl stands l
expression_form_fine d v part c (operation e o f) more stands l = operation_fine d v part c e o f (stands_between o) more refl stands.0 stands.1 l
expression_form_fine d v part c (conditional e f g) more stands l =
    let last : List Tok = keyword words.Else ∷ spell_expression v g in
    let middle : List Tok = spell_expression v f ++ last in
    worded_fine d v part c expression_heads.Conditional words.If (spell_expression v e ++ (keyword words.Then ∷ middle)) more refl
    (behind (spell_expression v e) (keyword words.Then ∷ middle) (value_is v e stands.0) (behind_one (keyword words.Then) middle
    (behind (spell_expression v f) last (value_is v f stands.1) (behind_one (keyword words.Else) (spell_expression v g) (value_is v g stands.2))))) l
expression_form_fine d v part c (mapped e mappings.Let p f) more stands l =
    let last : List Tok = keyword words.In ∷ spell_expression v f in
    let middle : List Tok = spell_expression v e ++ last in
    worded_fine d v part c expression_heads.Let words.Let (spell_pattern p ++ (symbol symbols.Equals ∷ middle)) more refl
    (behind (spell_pattern p) (symbol symbols.Equals ∷ middle) (record { value = p; spelled = refl }) (behind_one (symbol symbols.Equals) middle
    (behind (spell_expression v e) last (value_is v e stands.0) (behind_one (keyword words.In) (spell_expression v f) (value_is v f stands.1))))) l
expression_form_fine d v part c (mapped e mappings.Filter p f) more stands l =
    worded_fine d v part c (expression_heads.OneAndFunction mappings.Filter) words.FilterE (in_brackets (spell_expression v e) (symbol symbols.Comma) (spell_mapping (spell_pattern p) (spell_expression v f))) more refl (value_and_function v e p f stands.0 stands.1) l
expression_form_fine d v part c (mapped e mappings.Map p f) more stands l =
    worded_fine d v part c (expression_heads.OneAndFunction mappings.Map) words.MapE (in_brackets (spell_expression v e) (symbol symbols.Comma) (spell_mapping (spell_pattern p) (spell_expression v f))) more refl (value_and_function v e p f stands.0 stands.1) l
expression_form_fine d v part c (folded e o f p g) more stands l =
    worded_fine d v part c (expression_heads.TwoAndFunction o) (folding_word o) (in_brackets (spell_expression v e) (symbol symbols.Comma) (spell_expression v f ++ (symbol symbols.Comma ∷ spell_mapping (spell_pattern p) (spell_expression v g)))) more (folding_again o)
    (values_and_function v e f p g stands.0 stands.1 stands.2) l
expression_form_fine d v part c (called g e) more stands l =
    worded_fine d v part c expression_heads.Called words.Call (name g ∷ spell_operand true (spell_expression v e)) more refl
    (behind (name g ∷ []) (spell_operand true (spell_expression v e)) (record { value = g; spelled = refl }) (bracket_is v e stands)) l

operands_begin : (o : Operator) (xs ys : List Tok) (between : Bool) → stands_between o ≡ between → Begins begins_expression (spell_operands between (operator_token o) xs ys)
operands_begin o xs ys true is = begins_with (symbol symbols.Open) (xs ++ (operator_token o ∷ (ys ++ (symbol symbols.Close ∷ [])))) refl
operands_begin o xs ys false is =
    let front : IsInFront o = operator_again o is in
    begins_with (operator_token o) (in_brackets xs (symbol symbols.Comma) ys) (ap begins_expression front.token ∙ ap (λ (o : Option ExpressionHead). is_some o) front.head)

expression_begins : (v : Version) (e : Expression) → Begins begins_expression (spell_expression v e)
expression_begins v (variable n) = begins_with (name n) [] refl
expression_begins v (literal unit_literal) = begins_with (symbol symbols.Open) (symbol symbols.Close ∷ []) refl
expression_begins v (literal (truth_literal true)) = begins_with (keyword words.True) [] refl
expression_begins v (literal (truth_literal false)) = begins_with (keyword words.False) [] refl
expression_begins v (literal (int_literal z)) = begins_with (number z) [] refl
expression_begins v (literal (text_literal s)) = begins_with (text s) [] refl
expression_begins v (literal (none_literal t)) = begins_with (keyword words.NoEvent) (spell_type v t) refl
expression_begins v (paired e f) = begins_with (symbol symbols.Open) (spell_expression v e ++ (symbol symbols.Comma ∷ (spell_expression v f ++ (symbol symbols.Close ∷ [])))) refl
expression_begins v (applied o e) = begins_with (keyword (unary_word o)) (spell_operand (takes_brackets o) (spell_expression v e)) (ap (λ (o : Option ExpressionHead). is_some o) (unary_again o))
expression_begins v (operation e o f) = operands_begin o (spell_expression v e) (spell_expression v f) (stands_between o) refl
expression_begins v (conditional e f g) = begins_with (keyword words.If) (spell_expression v e ++ (keyword words.Then ∷ (spell_expression v f ++ (keyword words.Else ∷ spell_expression v g)))) refl
expression_begins v (mapped e mappings.Let p f) = begins_with (keyword words.Let) (spell_mapped_so false (spell_expression v e) (spell_pattern p) (spell_expression v f)) refl
expression_begins v (mapped e mappings.Filter p f) = begins_with (keyword words.FilterE) (spell_mapped_so true (spell_expression v e) (spell_pattern p) (spell_expression v f)) refl
expression_begins v (mapped e mappings.Map p f) = begins_with (keyword words.MapE) (spell_mapped_so true (spell_expression v e) (spell_pattern p) (spell_expression v f)) refl
expression_begins v (folded e o f p g) =
    begins_with (keyword (folding_word o)) (in_brackets (spell_expression v e) (symbol symbols.Comma) (spell_expression v f ++ (symbol symbols.Comma ∷ spell_mapping (spell_pattern p) (spell_expression v g)))) (ap (λ (o : Option ExpressionHead). is_some o) (folding_again o))
expression_begins v (called g e) = begins_with (keyword words.Call) (name g ∷ spell_operand true (spell_expression v e)) refl

pub expression_reads : (d : ℕ) (v : Version) → ExpressionsRead v (parse_expression d v)
unfolding parse_expression
expression_reads zero v c = deep_reads begins_expression some_expression (expression_exists v) (λ xs are. subst (λ (xs : List Tok). Begins begins_expression xs) (sym are.spelled) (expression_begins v are.value))
expression_reads (suc d) v c = record {
  value = some_expression;
  some = expression_exists v;
  takes = λ tokens. expression_form_takes d v (parse_expression d v) c tokens (expression_reads d v);
  fine = λ xs more are g. fine_as (parse_expression_form d v (parse_expression d v) c) xs (spell_expression v are.value) are.spelled (expression_form_fine d v (parse_expression d v) c are.value more are.stands (expression_reads d v));
}

pub function_reads : (d : ℕ) (v : Version) (c : Counts) → Reads Anything (FunctionText v) (parse_function d v c)
unfolding parse_function
function_reads d v c = mapping_reads d v (parse_expression d v) c (expression_reads d v)

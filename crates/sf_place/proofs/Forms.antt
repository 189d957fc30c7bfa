-- The readers of terms and collections, and what they read.
use Rattle.std.proofs.Common.{◌≡◌, ℕ, zero, suc, ◌+◌, ◌≤◌, List, [], ◌∷◌, ◌++◌, length, Option, Some, None, refl, sym, ◌∙◌, ap, subst, append_assoc, arith}
use Rattle.std.specs.Prelude.{codes}
use Rattle.std.proofs.lemmas.List.{length-append}
use Rattle.std.proofs.lemmas.List.Elements.{All-append}
use Rattle.sf_expr.specs.Expressions.{Expression, Function}
use Rattle.sf_term.specs.declared.form.Bare.TheVariants as bares
use Rattle.sf_term.specs.declared.form.Join.{Join}
use Rattle.sf_term.specs.declared.form.Join.TheVariants as joins
use Rattle.sf_term.specs.Trees.{Term, primitive, reference, bare, Collection, without_members, used, added, dropped, kept, chosen, call, Arguments, no_arguments, value_argument, process_argument, collection_argument, closed_argument, terms_in}
use Rattle.sf_lex.specs.declared.word.Keyword.{Keyword}
use Rattle.sf_lex.specs.declared.word.Keyword.TheVariants as words
use Rattle.sf_lex.specs.declared.symbol.Symbol.{Symbol}
use Rattle.sf_lex.specs.declared.symbol.Symbol.TheVariants as symbols
use Rattle.sf_lex.specs.Tokens.{Tok, keyword, name, number, text, symbol}
use Rattle.sf_grammar.specs.declared.ty.Version.{Version}
use Rattle.sf_grammar.specs.declared.head.CollectionHead.{CollectionHead}
use Rattle.sf_grammar.specs.declared.head.CollectionHead.TheVariants as collection_heads
use Rattle.sf_grammar.specs.Spelling.{in_brackets, spell_keys, spell_type, spell_expression, spell_function, spell_term, spell_collection, spell_arguments, spell_listed, spell_further, join_symbol}
use Rattle.sf_grammar.specs.Reading.{Read, got, ◌and_then◌, Counts, counts_with_expression, counts_with_collection, behind_close, parse_further, parse_listed, listed_read, parse_name, parse_symbol, term_read, join_of, parse_body, collection_head, parse_empty, parse_used, parse_added, parse_dropped, parse_kept, parse_chosen, parse_behind_collection_head, parse_collection_form, begins_collection, parse_edit, Actual, actual_value, actual_process, actual_collection, leading_actual, counts_with_actual, ArgumentWord, no_word, process_word, collection_word, argument_word, behind_first, argument_from, parse_argument, parse_arguments, parse_call, join_read, parse_join}
use Rattle.sf_grammar.proofs.Words.{join_again, join_takes, close_takes, process_word_takes, collection_word_takes, no_close, no_argument_word, collection_token, collection_takes}
use Rattle.sf_grammar.proofs.Parts.{spell_actual, further_long}
use Rattle.sf_place.specs.Places.{IsPlain, ExpressionInTexts, FunctionInTexts, TermInTexts, CollectionInTexts, ArgumentsInTexts}
use Rattle.sf_place.proofs.Spells.{plain_one, plain_more, Exists, TakesAt, Fine, fine_got, then_fine, Reads, Anything, Only, Both, bind, Ends, finish, got_ends, counted_ends, takes_as, behind_token, refused, token_takes, then_takes, end_takes, Begins, begins_with}
use Rattle.sf_place.proofs.Pieces.{fine_as, keyword_reads, NameText, name_reads, Parts, parts_read, parts_are, Comma, comma, Open, opening, MapsTo, maps_to, KeysText, keys_read, TypeText, whole_type_reads, PatternText, pattern_reads}
use Rattle.sf_place.proofs.Values.{ExpressionText, FunctionText, expression_reads, function_reads, behind_one, behind}

pub record TermText (v : Version) (xs : List Tok) : Type 0 where
  pub value : Term
  pub spelled : xs ≡ spell_term v value
  pub stands : TermInTexts v value

pub record CollectionText (v : Version) (xs : List Tok) : Type 0 where
  pub value : Collection
  pub spelled : xs ≡ spell_collection v value
  pub stands : CollectionInTexts v value

pub some_term : Term
some_term = primitive (bare bares.Identity)

pub some_collection : Collection
some_collection = used (codes "a")

pub term_exists : (v : Version) → Exists (TermText v)
unfolding some_term
term_exists v = record { tokens = keyword words.Identity ∷ []; are = record { value = some_term; spelled = refl; stands = tt }; plain = plain_one (keyword words.Identity) tt }

pub collection_exists : (v : Version) → Exists (CollectionText v)
unfolding some_collection
collection_exists v = record { tokens = keyword words.Use ∷ name (codes "a") ∷ []; are = record { value = some_collection; spelled = refl; stands = tt }; plain = plain_more (keyword words.Use) (name (codes "a") ∷ []) tt (plain_one (name (codes "a")) refl) }

abbrev pub TermsRead : Version → (Counts → List Tok → Read Term) → Type 0
TermsRead v part = (c : Counts) → Reads Anything (TermText v) (part c)

abbrev pub MembersRead : Version → (Counts → List Tok → Read Collection) → Type 0
MembersRead v members = (c : Counts) → Reads Anything (CollectionText v) (members c)

pub term_ends : (c : Counts) (t : Term) (start : List Tok) → Ends (term_read c t start)
term_ends c t start = counted_ends t (c.terms + terms_in t) start

abbrev Word : Keyword → List Tok → Type 0
Word k = Only (keyword k ∷ [])

-- the symbol between two terms
pub record JoinText (xs : List Tok) : Type 0 where
  pub value : Join
  pub spelled : xs ≡ symbol (join_symbol value) ∷ []

join_exists : Exists JoinText
join_exists = record { tokens = symbol symbols.InSequence ∷ []; are = record { value = joins.InSequence; spelled = refl }; plain = plain_one (symbol symbols.InSequence) tt }

join_if : (s : Symbol) (u : List Tok) (o : Option Join) → join_of s ≡ o → TakesAt JoinText (join_read o s u) (symbol s ∷ u)
join_if s u (Some j) found = takes_as (λ xs only. record { value = j; spelled = only.is ∙ ap (λ s. symbol s ∷ []) (join_takes s j found) }) (token_takes (symbol s) j u)
join_if s u None found = refused (symbol s ∷ u) join_exists

join_at : (tokens : List Tok) → TakesAt JoinText (parse_join tokens) tokens
join_at [] = refused [] join_exists
join_at (symbol s ∷ u) = join_if s u (join_of s) refl
join_at (keyword k ∷ u) = refused (keyword k ∷ u) join_exists
join_at (name n ∷ u) = refused (name n ∷ u) join_exists
join_at (number z ∷ u) = refused (number z ∷ u) join_exists
join_at (text s ∷ u) = refused (text s ∷ u) join_exists

pub join_reads : Reads Anything JoinText parse_join
join_reads = record {
  value = joins.InSequence;
  some = join_exists;
  takes = join_at;
  fine = λ xs more are g. fine_as parse_join xs (symbol (join_symbol are.value) ∷ []) are.spelled
      (subst (λ o. Fine more (join_read o (join_symbol are.value) more)) (sym (join_again are.value)) (fine_got are.value));
}

-- a pattern and what it stands in front of
abbrev pub Mapped : (List Tok → Type 0) → List Tok → Type 0
Mapped L = Both PatternText (Both MapsTo L)

pub body_reads : (d : ℕ) (v : Version) (part : Counts → List Tok → Read Term) (c : Counts) → TermsRead v part → Reads Anything (Mapped (TermText v)) (parse_body d part c)
body_reads d v part c l = bind (pattern_reads d) (λ p. bind maps_to (λ _. finish (l c) (λ f. got_ends (p, f))))

pub edit_reads : (d : ℕ) (v : Version) (members : Counts → List Tok → Read Collection) (c : Counts) → MembersRead v members → Reads Anything (Mapped (CollectionText v)) (parse_edit d members c)
edit_reads d v members c m = bind (pattern_reads d) (λ p. bind maps_to (λ _. finish (m c) (λ i. got_ends (p, i))))

-- the tokens of a collection behind its first
abbrev CollectionTail : Version → CollectionHead → List Tok → Type 0
CollectionTail v collection_heads.Empty = Both (KeysText v) (TypeText v)
CollectionTail v collection_heads.Used = NameText
CollectionTail v collection_heads.Added = Both Open (Both (CollectionText v) (Both Comma (Parts (ExpressionText v) Comma (TermText v))))
CollectionTail v collection_heads.Dropped = Both Open (Parts (CollectionText v) Comma (ExpressionText v))
CollectionTail v collection_heads.Kept = Both Open (Parts (CollectionText v) Comma (FunctionText v))
CollectionTail v collection_heads.Chosen = Both (ExpressionText v) (Both (Word words.Then) (Both (CollectionText v) (Both (Word words.Else) (CollectionText v))))

collection_head_reads : (d : ℕ) (v : Version) (part : Counts → List Tok → Read Term) (members : Counts → List Tok → Read Collection) (c : Counts) (h : CollectionHead) (start : List Tok) → TermsRead v part → MembersRead v members
    → Reads Anything (CollectionTail v h) (parse_behind_collection_head d v part members c (Some h) start)
unfolding parse_empty parse_used parse_added parse_dropped parse_kept parse_chosen
collection_head_reads d v part members c collection_heads.Empty start l m = bind (keys_read v) (λ k. finish (whole_type_reads d v) (λ t. got_ends (without_members k t)))
collection_head_reads d v part members c collection_heads.Used start l m = finish name_reads (λ k. got_ends (used k))
collection_head_reads d v part members c collection_heads.Added start l m =
    bind opening (λ _. bind (m c) (λ i. bind comma (λ _.
    parts_read (expression_reads d v (counts_with_collection c i)) comma (λ e. l (counts_with_expression (counts_with_collection c i) e)) (λ e _ t. got_ends (added i e t)))))
collection_head_reads d v part members c collection_heads.Dropped start l m = bind opening (λ _. parts_read (m c) comma (λ i. expression_reads d v (counts_with_collection c i)) (λ i _ e. got_ends (dropped i e)))
collection_head_reads d v part members c collection_heads.Kept start l m = bind opening (λ _. parts_read (m c) comma (λ i. function_reads d v (counts_with_collection c i)) (λ i _ f. got_ends (kept i f)))
collection_head_reads d v part members c collection_heads.Chosen start l m =
    bind (expression_reads d v c) (λ e. bind (keyword_reads words.Then (λ more. refl)) (λ _. bind (m (counts_with_expression c e)) (λ i. bind (keyword_reads words.Else (λ more. refl)) (λ _.
    finish (m (counts_with_collection (counts_with_expression c e) i)) (λ j. got_ends (chosen e i j))))))

collection_into : (v : Version) (h : CollectionHead) (ys : List Tok) → CollectionTail v h ys → CollectionText v (collection_token h ∷ ys)
collection_into v collection_heads.Empty ys tail = record { value = without_members tail.first.value tail.second.value; spelled = cc; stands = (tail.first.stands, tail.second.stands) }
collection_into v collection_heads.Used ys tail = record { value = used tail.value; spelled = cc; stands = tt }
collection_into v collection_heads.Added ys tail =
    let i : Collection = tail.second.first.value in
    let e : Expression = tail.second.second.second.first.value in
    let t : Term = tail.second.second.second.second.second.first.value in
    let split : ys ≡ symbol symbols.Open ∷ (spell_collection v i ++ (symbol symbols.Comma ∷ (spell_expression v e ++ (symbol symbols.Comma ∷ (spell_term v t ++ (symbol symbols.Close ∷ [])))))) = cc in
    record {
      value = added i e t;
      spelled = ap (λ r. keyword words.Add ∷ r) (split ∙ ap (λ r. symbol symbols.Open ∷ (spell_collection v i ++ (symbol symbols.Comma ∷ r))) (sym (append_assoc (spell_expression v e) (symbol symbols.Comma ∷ spell_term v t) (symbol symbols.Close ∷ []))));
      stands = (tail.second.first.stands, tail.second.second.second.first.stands, tail.second.second.second.second.second.first.stands);
    }
collection_into v collection_heads.Dropped ys tail =
    record { value = dropped tail.second.first.value tail.second.second.second.first.value; spelled = cc; stands = (tail.second.first.stands, tail.second.second.second.first.stands) }
collection_into v collection_heads.Kept ys tail =
    record { value = kept tail.second.first.value tail.second.second.second.first.value; spelled = cc; stands = (tail.second.first.stands, tail.second.second.second.first.stands) }
collection_into v collection_heads.Chosen ys tail = record {
  value = chosen tail.first.value tail.second.second.first.value tail.second.second.second.second.value;
  spelled = cc;
  stands = (tail.first.stands, tail.second.second.first.stands, tail.second.second.second.second.stands);
}

collection_from_takes : (d : ℕ) (v : Version) (part : Counts → List Tok → Read Term) (members : Counts → List Tok → Read Collection) (c : Counts) (o : Option CollectionHead) (t : Tok) (u : List Tok) → collection_head t ≡ o
    → TermsRead v part → MembersRead v members → TakesAt (CollectionText v) (parse_behind_collection_head d v part members c o (t ∷ u) u) (t ∷ u)
collection_from_takes d v part members c (Some h) t u found l m =
    behind_token t (λ ys tail. subst (λ (t : Tok). CollectionText v (t ∷ ys)) (sym (collection_takes t h found)) (collection_into v h ys tail)) ((collection_head_reads d v part members c h (t ∷ u) l m).takes u)
collection_from_takes d v part members c None t u found l m = refused (t ∷ u) (collection_exists v)

pub collection_form_takes : (d : ℕ) (v : Version) (part : Counts → List Tok → Read Term) (members : Counts → List Tok → Read Collection) (c : Counts) (tokens : List Tok) → TermsRead v part → MembersRead v members
    → TakesAt (CollectionText v) (parse_collection_form d v part members c tokens) tokens
collection_form_takes d v part members c [] l m = refused [] (collection_exists v)
collection_form_takes d v part members c (t ∷ u) l m = collection_from_takes d v part members c (collection_head t) t u refl l m

-- ## What stands in texts

pub value_is : (v : Version) (e : Expression) → ExpressionInTexts v e → ExpressionText v (spell_expression v e)
value_is v e stands = record { value = e; spelled = refl; stands = stands }

pub function_is : (v : Version) (f : Function) → FunctionInTexts v f → FunctionText v (spell_function v f)
function_is v f stands = record { value = f; spelled = refl; stands = stands }

pub term_is : (v : Version) (t : Term) → TermInTexts v t → TermText v (spell_term v t)
term_is v t stands = record { value = t; spelled = refl; stands = stands }

pub members_are : (v : Version) (i : Collection) → CollectionInTexts v i → CollectionText v (spell_collection v i)
members_are v i stands = record { value = i; spelled = refl; stands = stands }

-- two parts in brackets
pub two_are : {L M : List Tok → Type 0} (xs ys : List Tok) → L xs → M ys → Both Open (Parts L Comma M) (in_brackets xs (symbol symbols.Comma) ys)
two_are xs ys l m = behind_one (symbol symbols.Open) (xs ++ (symbol symbols.Comma ∷ (ys ++ (symbol symbols.Close ∷ [])))) (parts_are xs (symbol symbols.Comma) ys l (record { is = refl }) m)

-- a part and two others in brackets
pub three_are : {L M N : List Tok → Type 0} (xs ys zs : List Tok) → L xs → M ys → N zs → Both Open (Both L (Both Comma (Parts M Comma N))) (in_brackets xs (symbol symbols.Comma) (ys ++ (symbol symbols.Comma ∷ zs)))
three_are {L} {M} {N} xs ys zs l m n =
    let inside : List Tok = ys ++ (symbol symbols.Comma ∷ (zs ++ (symbol symbols.Close ∷ []))) in
    subst (λ (r : List Tok). Both Open (Both L (Both Comma (Parts M Comma N))) (symbol symbols.Open ∷ (xs ++ (symbol symbols.Comma ∷ r)))) (sym (append_assoc ys (symbol symbols.Comma ∷ zs) (symbol symbols.Close ∷ [])))
    (behind_one (symbol symbols.Open) (xs ++ (symbol symbols.Comma ∷ inside)) (behind xs (symbol symbols.Comma ∷ inside) l (behind_one (symbol symbols.Comma) inside (parts_are ys (symbol symbols.Comma) zs m (record { is = refl }) n))))

collection_tail_fine : (d : ℕ) (v : Version) (part : Counts → List Tok → Read Term) (members : Counts → List Tok → Read Collection) (c : Counts) (h : CollectionHead) (ys more : List Tok) → CollectionTail v h ys → TermsRead v part → MembersRead v members
    → Fine more (parse_behind_collection_head d v part members c (Some h) (collection_token h ∷ (ys ++ more)) (ys ++ more))
collection_tail_fine d v part members c h ys more tail l m = (collection_head_reads d v part members c h (collection_token h ∷ (ys ++ more)) l m).fine ys more tail tt

pub collection_form_fine : (d : ℕ) (v : Version) (part : Counts → List Tok → Read Term) (members : Counts → List Tok → Read Collection) (c : Counts) (i : Collection) (more : List Tok) → CollectionInTexts v i → TermsRead v part → MembersRead v members
    → Fine more (parse_collection_form d v part members c (spell_collection v i ++ more))
collection_form_fine d v part members c (without_members k t) more stands l m =
    collection_tail_fine d v part members c collection_heads.Empty (spell_keys v k ++ spell_type v t) more
    (behind (spell_keys v k) (spell_type v t) (record { value = k; spelled = refl; stands = stands.0 }) (record { value = t; spelled = refl; stands = stands.1 })) l m
collection_form_fine d v part members c (used x) more stands l m = collection_tail_fine d v part members c collection_heads.Used (name x ∷ []) more (record { value = x; spelled = refl }) l m
collection_form_fine d v part members c (added i e t) more stands l m =
    collection_tail_fine d v part members c collection_heads.Added (in_brackets (spell_collection v i) (symbol symbols.Comma) (spell_expression v e ++ (symbol symbols.Comma ∷ spell_term v t))) more
    (three_are (spell_collection v i) (spell_expression v e) (spell_term v t) (members_are v i stands.0) (value_is v e stands.1) (term_is v t stands.2)) l m
collection_form_fine d v part members c (dropped i e) more stands l m =
    collection_tail_fine d v part members c collection_heads.Dropped (in_brackets (spell_collection v i) (symbol symbols.Comma) (spell_expression v e)) more
    (two_are (spell_collection v i) (spell_expression v e) (members_are v i stands.0) (value_is v e stands.1)) l m
collection_form_fine d v part members c (kept i f) more stands l m =
    collection_tail_fine d v part members c collection_heads.Kept (in_brackets (spell_collection v i) (symbol symbols.Comma) (spell_function v f)) more
    (two_are (spell_collection v i) (spell_function v f) (members_are v i stands.0) (function_is v f stands.1)) l m
collection_form_fine d v part members c (chosen e i j) more stands l m =
    let last : List Tok = keyword words.Else ∷ spell_collection v j in
    let middle : List Tok = spell_collection v i ++ last in
    collection_tail_fine d v part members c collection_heads.Chosen (spell_expression v e ++ (keyword words.Then ∷ middle)) more
    (behind (spell_expression v e) (keyword words.Then ∷ middle) (value_is v e stands.0) (behind_one (keyword words.Then) middle
    (behind (spell_collection v i) last (members_are v i stands.1) (behind_one (keyword words.Else) (spell_collection v j) (members_are v j stands.2))))) l m

pub collection_begins : (v : Version) (i : Collection) → Begins begins_collection (spell_collection v i)
collection_begins v (without_members k t) = begins_with (keyword words.Empty) (spell_keys v k ++ spell_type v t) refl
collection_begins v (used x) = begins_with (keyword words.Use) (name x ∷ []) refl
collection_begins v (added i e t) = begins_with (keyword words.Add) (in_brackets (spell_collection v i) (symbol symbols.Comma) (spell_expression v e ++ (symbol symbols.Comma ∷ spell_term v t))) refl
collection_begins v (dropped i e) = begins_with (keyword words.Drop) (in_brackets (spell_collection v i) (symbol symbols.Comma) (spell_expression v e)) refl
collection_begins v (kept i f) = begins_with (keyword words.Keep) (in_brackets (spell_collection v i) (symbol symbols.Comma) (spell_function v f)) refl
collection_begins v (chosen e i j) = begins_with (keyword words.If) (spell_expression v e ++ (keyword words.Then ∷ (spell_collection v i ++ (keyword words.Else ∷ spell_collection v j)))) refl

-- ## Arguments

record ActualText (v : Version) (xs : List Tok) : Type 0 where
  pub value : Actual
  pub spelled : xs ≡ spell_actual v value
  pub stands : ArgumentsInTexts v (leading_actual value no_arguments)

actual_exists : (v : Version) → Exists (ActualText v)
actual_exists v =
    let e : Exists (TermText v) = term_exists v in
    record { tokens = keyword words.SignalFunction ∷ e.tokens; are = record { value = actual_process e.are.value; spelled = ap (λ r. keyword words.SignalFunction ∷ r) e.are.spelled; stands = (e.are.stands, tt) }; plain = plain_more (keyword words.SignalFunction) e.tokens tt e.plain }

argument_takes : (d : ℕ) (v : Version) (part : Counts → List Tok → Read Term) (members : Counts → List Tok → Read Collection) (c : Counts) (w : ArgumentWord) (tokens : List Tok) → argument_word tokens ≡ w → TermsRead v part → MembersRead v members
    → TakesAt (ActualText v) (argument_from d v part members c w tokens) tokens
argument_takes d v part members c no_word tokens found l m =
    takes_as (λ xs are. record { value = actual_value are.value; spelled = are.spelled; stands = (are.stands, tt) }) (end_takes ((expression_reads d v c).takes tokens) (λ e. got_ends (actual_value e)))
argument_takes d v part members c process_word tokens found l m =
    subst (λ (ts : List Tok). TakesAt (ActualText v) (argument_from d v part members c process_word tokens) ts) (sym (process_word_takes tokens found))
    (behind_token (keyword words.SignalFunction) (λ ys are. record { value = actual_process are.value; spelled = ap (λ r. keyword words.SignalFunction ∷ r) are.spelled; stands = (are.stands, tt) })
    (end_takes ((l c).takes (behind_first tokens)) (λ t. got_ends (actual_process t))))
argument_takes d v part members c collection_word tokens found l m =
    subst (λ (ts : List Tok). TakesAt (ActualText v) (argument_from d v part members c collection_word tokens) ts) (sym (collection_word_takes tokens found))
    (behind_token (keyword words.Collection) (λ ys are. record { value = actual_collection are.value; spelled = ap (λ r. keyword words.Collection ∷ r) are.spelled; stands = (are.stands, tt) })
    (end_takes ((m c).takes (behind_first tokens)) (λ i. got_ends (actual_collection i))))

argument_fine : (d : ℕ) (v : Version) (part : Counts → List Tok → Read Term) (members : Counts → List Tok → Read Collection) (c : Counts) (a : Actual) (more : List Tok) → ArgumentsInTexts v (leading_actual a no_arguments) → TermsRead v part → MembersRead v members
    → Fine more (argument_from d v part members c (argument_word (spell_actual v a ++ more)) (spell_actual v a ++ more))
argument_fine d v part members c (actual_value e) more stands l m =
    subst (λ w. Fine more (argument_from d v part members c w (spell_expression v e ++ more))) (sym (no_argument_word v e more))
    (then_fine (λ e rest. got (actual_value e) rest) ((expression_reads d v c).fine (spell_expression v e) more (value_is v e stands.0) tt) (λ e. fine_got (actual_value e)))
argument_fine d v part members c (actual_process t) more stands l m = then_fine (λ t rest. got (actual_process t) rest) ((l c).fine (spell_term v t) more (term_is v t stands.0) tt) (λ t. fine_got (actual_process t))
argument_fine d v part members c (actual_collection i) more stands l m = then_fine (λ i rest. got (actual_collection i) rest) ((m c).fine (spell_collection v i) more (members_are v i stands.0) tt) (λ i. fine_got (actual_collection i))

argument_reads : (d : ℕ) (v : Version) (part : Counts → List Tok → Read Term) (members : Counts → List Tok → Read Collection) (c : Counts) → TermsRead v part → MembersRead v members → Reads Anything (ActualText v) (parse_argument d v part members c)
unfolding parse_argument
argument_reads d v part members c l m = record {
  value = actual_process some_term;
  some = actual_exists v;
  takes = λ tokens. argument_takes d v part members c (argument_word tokens) tokens refl l m;
  fine = λ xs more are g. fine_as (parse_argument d v part members c) xs (spell_actual v are.value) are.spelled (argument_fine d v part members c are.value more are.stands l m);
}

-- arguments and the closing bracket behind them
pub record ArgumentsText (v : Version) (xs : List Tok) : Type 0 where
  pub value : Arguments
  pub spelled : xs ≡ spell_listed (spell_arguments v value)
  pub stands : ArgumentsInTexts v value

-- what stands behind an argument
record FurtherText (v : Version) (xs : List Tok) : Type 0 where
  pub value : Arguments
  pub spelled : xs ≡ spell_further (spell_arguments v value)
  pub stands : ArgumentsInTexts v value

-- arguments, of which there is one at least
record AnyText (v : Version) (xs : List Tok) : Type 0 where
  pub value : Arguments
  pub spelled : xs ≡ spell_listed (spell_arguments v value)
  pub further : spell_further (spell_arguments v value) ≡ symbol symbols.Comma ∷ spell_listed (spell_arguments v value)
  pub stands : ArgumentsInTexts v value

further_exists : (v : Version) → Exists (FurtherText v)
further_exists v = record { tokens = symbol symbols.Close ∷ []; are = record { value = no_arguments; spelled = refl; stands = tt }; plain = plain_one (symbol symbols.Close) tt }

any_from : (v : Version) (a : Actual) (vs : Arguments) (xs : List Tok) → xs ≡ spell_actual v a ++ spell_further (spell_arguments v vs) → ArgumentsInTexts v (leading_actual a no_arguments) → ArgumentsInTexts v vs → AnyText v xs
any_from v (actual_value e) vs xs split one others = record { value = value_argument e vs; spelled = split; further = refl; stands = (one.0, others) }
any_from v (actual_process t) vs xs split one others = record { value = process_argument t vs; spelled = split; further = refl; stands = (one.0, others) }
any_from v (actual_collection i) vs xs split one others = record { value = collection_argument i vs; spelled = split; further = refl; stands = (one.0, others) }

any_into : (v : Version) (xs : List Tok) → Both (ActualText v) (FurtherText v) xs → AnyText v xs
any_into v xs are = any_from v are.first.value are.second.value xs (cc) are.first.stands are.second.stands

any_exists : (v : Version) → Exists (AnyText v)
any_exists v =
    let one : Exists (ActualText v) = actual_exists v in
    let others : Exists (FurtherText v) = further_exists v in
    record { tokens = one.tokens ++ others.tokens; are = any_into v (one.tokens ++ others.tokens) (behind one.tokens others.tokens one.are others.are); plain = All-append IsPlain one.tokens others.tokens one.plain others.plain }

further_takes : (v : Version) (parts : List Tok → Read Arguments) (tokens : List Tok) → ((u : List Tok) → TakesAt (AnyText v) (parts u) u) → TakesAt (FurtherText v) (parse_further no_arguments parts tokens) tokens
further_takes v parts (symbol symbols.Comma ∷ u) l =
    behind_token (symbol symbols.Comma) (λ ys are. record { value = are.value; spelled = ap (λ r. symbol symbols.Comma ∷ r) are.spelled ∙ sym are.further; stands = are.stands }) (l u)
further_takes v parts (symbol symbols.Close ∷ u) l = takes_as (λ xs only. record { value = no_arguments; spelled = only.is; stands = tt }) (token_takes (symbol symbols.Close) no_arguments u)
further_takes v parts tokens l = refused tokens (further_exists v)

arguments_take : (n d : ℕ) (v : Version) (part : Counts → List Tok → Read Term) (members : Counts → List Tok → Read Collection) (c : Counts) (tokens : List Tok) → TermsRead v part → MembersRead v members
    → TakesAt (AnyText v) (parse_arguments n d v part members c tokens) tokens
unfolding parse_arguments
arguments_take zero d v part members c tokens l m = refused tokens (any_exists v)
arguments_take (suc n) d v part members c tokens l m =
    takes_as (any_into v) (then_takes ((argument_reads d v part members c l m).takes tokens) (λ a rest.
    end_takes (further_takes v (parse_arguments n d v part members (counts_with_actual c a)) rest (λ u. arguments_take n d v part members (counts_with_actual c a) u l m)) (λ vs. got_ends (leading_actual a vs))) (further_exists v))

-- an argument in front of others
step_fine : (n d : ℕ) (v : Version) (part : Counts → List Tok → Read Term) (members : Counts → List Tok → Read Collection) (c : Counts) (a : Actual) (ys more : List Tok) → ArgumentsInTexts v (leading_actual a no_arguments) → TermsRead v part → MembersRead v members
    → ((c : Counts) → Fine more (parse_further no_arguments (parse_arguments n d v part members c) (ys ++ more))) → Fine more (parse_arguments (suc n) d v part members c ((spell_actual v a ++ ys) ++ more))
unfolding parse_arguments
step_fine n d v part members c a ys more stands l m others =
    let whole : Actual → List Tok → Read Arguments = λ a rest. parse_further no_arguments (parse_arguments n d v part members (counts_with_actual c a)) rest and_then λ vs rest. got (leading_actual a vs) rest in
    subst (λ (u : List Tok). Fine more (parse_argument d v part members c u and_then whole)) (sym (append_assoc (spell_actual v a) ys more))
    (then_fine whole ((argument_reads d v part members c l m).fine (spell_actual v a) (ys ++ more) (record { value = a; spelled = refl; stands = stands }) tt) (λ b.
    then_fine (λ vs rest. got (leading_actual b vs) rest) (others (counts_with_actual c b)) (λ vs. fine_got (leading_actual b vs))))

further_fine : (vs : Arguments) (n d : ℕ) (v : Version) (part : Counts → List Tok → Read Term) (members : Counts → List Tok → Read Collection) (c : Counts) (more : List Tok) → length (spell_arguments v vs) ≤ n → ArgumentsInTexts v vs
    → TermsRead v part → MembersRead v members → Fine more (parse_further no_arguments (parse_arguments n d v part members c) (spell_further (spell_arguments v vs) ++ more))
further_fine no_arguments n d v part members c more enough stands l m = fine_got no_arguments
further_fine (value_argument e vs) zero d v part members c more enough stands l m = absurd (omega arith)
further_fine (process_argument t vs) zero d v part members c more enough stands l m = absurd (omega arith)
further_fine (collection_argument i vs) zero d v part members c more enough stands l m = absurd (omega arith)
further_fine (value_argument e vs) (suc n) d v part members c more enough stands l m =
    step_fine n d v part members c (actual_value e) (spell_further (spell_arguments v vs)) more (stands.0, tt) l m (λ c. further_fine vs n d v part members c more (omega arith) stands.1 l m)
further_fine (process_argument t vs) (suc n) d v part members c more enough stands l m =
    step_fine n d v part members c (actual_process t) (spell_further (spell_arguments v vs)) more (stands.0, tt) l m (λ c. further_fine vs n d v part members c more (omega arith) stands.1 l m)
further_fine (collection_argument i vs) (suc n) d v part members c more enough stands l m =
    step_fine n d v part members c (actual_collection i) (spell_further (spell_arguments v vs)) more (stands.0, tt) l m (λ c. further_fine vs n d v part members c more (omega arith) stands.1 l m)
further_fine (closed_argument t vs) n d v part members c more enough stands l m = absurd stands

listed_takes : (v : Version) (parts : List Tok → Read Arguments) (o : Option (List Tok)) (tokens : List Tok) → behind_close tokens ≡ o → ((u : List Tok) → TakesAt (AnyText v) (parts u) u)
    → TakesAt (ArgumentsText v) (listed_read no_arguments parts o tokens) tokens
listed_takes v parts (Some rest) tokens found l =
    subst (λ (ts : List Tok). TakesAt (ArgumentsText v) (got no_arguments rest) ts) (sym (close_takes tokens rest found))
    (takes_as (λ xs only. record { value = no_arguments; spelled = only.is; stands = tt }) (token_takes (symbol symbols.Close) no_arguments rest))
listed_takes v parts None tokens found l = takes_as (λ xs are. record { value = are.value; spelled = are.spelled; stands = are.stands }) (l tokens)

abbrev listed_arguments : ℕ → Version → (Counts → List Tok → Read Term) → (Counts → List Tok → Read Collection) → Counts → List Tok → Read Arguments
listed_arguments d v part members c tokens = parse_listed no_arguments (λ tokens. parse_arguments (suc (length tokens)) d v part members c tokens) tokens

-- there are more tokens than arguments behind the first
long_enough : (xs more : List Tok) (ys : List (List Tok)) → length ys ≤ length ((xs ++ spell_further ys) ++ more)
long_enough xs more ys = omega (arith, further_long ys, length-append xs (spell_further ys), length-append (xs ++ spell_further ys) more)

listed_fine : (d : ℕ) (v : Version) (part : Counts → List Tok → Read Term) (members : Counts → List Tok → Read Collection) (c : Counts) (vs : Arguments) (more : List Tok) → ArgumentsInTexts v vs → TermsRead v part → MembersRead v members
    → Fine more (listed_arguments d v part members c (spell_listed (spell_arguments v vs) ++ more))
listed_fine d v part members c no_arguments more stands l m = fine_got no_arguments
listed_fine d v part members c (value_argument e vs) more stands l m =
    let further : List Tok = spell_further (spell_arguments v vs) in
    let tokens : List Tok = (spell_expression v e ++ further) ++ more in
    subst (λ o. Fine more (listed_read no_arguments (λ tokens. parse_arguments (suc (length tokens)) d v part members c tokens) o tokens))
    (sym (ap behind_close (append_assoc (spell_expression v e) further more) ∙ no_close v e (further ++ more)))
    (step_fine (length tokens) d v part members c (actual_value e) further more (stands.0, tt) l m (λ c. further_fine vs (length tokens) d v part members c more (long_enough (spell_expression v e) more (spell_arguments v vs)) stands.1 l m))
listed_fine d v part members c (process_argument t vs) more stands l m =
    let further : List Tok = spell_further (spell_arguments v vs) in
    let one : List Tok = keyword words.SignalFunction ∷ spell_term v t in
    let n : ℕ = length ((one ++ further) ++ more) in
    step_fine n d v part members c (actual_process t) further more (stands.0, tt) l m (λ c. further_fine vs n d v part members c more (long_enough one more (spell_arguments v vs)) stands.1 l m)
listed_fine d v part members c (collection_argument i vs) more stands l m =
    let further : List Tok = spell_further (spell_arguments v vs) in
    let one : List Tok = keyword words.Collection ∷ spell_collection v i in
    let n : ℕ = length ((one ++ further) ++ more) in
    step_fine n d v part members c (actual_collection i) further more (stands.0, tt) l m (λ c. further_fine vs n d v part members c more (long_enough one more (spell_arguments v vs)) stands.1 l m)
listed_fine d v part members c (closed_argument t vs) more stands l m = absurd stands

listed_reads : (d : ℕ) (v : Version) (part : Counts → List Tok → Read Term) (members : Counts → List Tok → Read Collection) (c : Counts) → TermsRead v part → MembersRead v members → Reads Anything (ArgumentsText v) (listed_arguments d v part members c)
listed_reads d v part members c l m = record {
  value = no_arguments;
  some = record { tokens = symbol symbols.Close ∷ []; are = record { value = no_arguments; spelled = refl; stands = tt }; plain = plain_one (symbol symbols.Close) tt };
  takes = λ tokens. listed_takes v (λ tokens. parse_arguments (suc (length tokens)) d v part members c tokens) (behind_close tokens) tokens refl (λ u. arguments_take (suc (length u)) d v part members c u l m);
  fine = λ xs more are g. fine_as (listed_arguments d v part members c) xs (spell_listed (spell_arguments v are.value)) are.spelled (listed_fine d v part members c are.value more are.stands l m);
}

-- the tokens of a call
abbrev pub CallText : Version → List Tok → Type 0
CallText v = Both NameText (Both Open (ArgumentsText v))

call_from : ℕ → Version → (Counts → List Tok → Read Term) → (Counts → List Tok → Read Collection) → Counts → List Tok → List Tok → Read Term
call_from d v part members c start tokens =
    parse_name tokens and_then λ g rest.
    parse_symbol symbols.Open rest and_then λ _ rest.
    listed_arguments d v part members c rest and_then λ vs rest.
    term_read c (reference (call g vs)) start rest

call_from_reads : (d : ℕ) (v : Version) (part : Counts → List Tok → Read Term) (members : Counts → List Tok → Read Collection) (c : Counts) (start : List Tok) → TermsRead v part → MembersRead v members → Reads Anything (CallText v) (call_from d v part members c start)
unfolding call_from
call_from_reads d v part members c start l m = bind name_reads (λ g. bind opening (λ _. finish (listed_reads d v part members c l m) (λ vs. term_ends c (reference (call g vs)) start)))

pub call_reads : (d : ℕ) (v : Version) (part : Counts → List Tok → Read Term) (members : Counts → List Tok → Read Collection) (c : Counts) → TermsRead v part → MembersRead v members → Reads Anything (CallText v) (parse_call d v part members c)
unfolding parse_call call_from
call_reads d v part members c l m = record {
  value = some_term;
  some = (call_from_reads d v part members c [] l m).some;
  takes = λ tokens. (call_from_reads d v part members c tokens l m).takes tokens;
  fine = λ xs more are g. (call_from_reads d v part members c (xs ++ more) l m).fine xs more are g;
}

pub call_into : (v : Version) (xs : List Tok) → CallText v xs → TermText v xs
call_into v xs are = record { value = reference (call are.first.value are.second.second.value); spelled = cc; stands = are.second.second.stands }

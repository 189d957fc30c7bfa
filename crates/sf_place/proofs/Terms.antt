-- The readers of terms, and what they read.
use Rattle.std.proofs.Common.{◌≡◌, ℕ, zero, suc, Bool, true, false, List, [], ◌∷◌, ◌++◌, Option, Some, None, is_some, if◌then◌else◌, refl, sym, ◌∙◌, ap, subst, append_assoc}
use Rattle.sf_value.specs.Values.{Name}
use Rattle.sf_expr.specs.Expressions.{Pattern, Expression}
use Rattle.sf_term.specs.declared.form.Bare.TheVariants as bares
use Rattle.sf_term.specs.declared.form.WithValue.{WithValue}
use Rattle.sf_term.specs.declared.form.WithValue.TheVariants as values
use Rattle.sf_term.specs.declared.form.Heading.{Heading}
use Rattle.sf_term.specs.declared.form.Heading.TheVariants as headings
use Rattle.sf_term.specs.declared.form.Start.{Start}
use Rattle.sf_term.specs.declared.form.Start.TheVariants as starts
use Rattle.sf_term.specs.declared.form.Naming.{Naming}
use Rattle.sf_term.specs.declared.form.Naming.TheVariants as namings
use Rattle.sf_term.specs.Trees.{Term, primitive, reference, joined, sided, headed, transformed, switching, continuing, gathered, releasing, editing, staged, bare, probe, never, with_value, timed, selected, arrow, accumulated, fused, Collection, started, call, named_term}
use Rattle.sf_lex.specs.declared.word.Keyword.TheVariants as words
use Rattle.sf_lex.specs.declared.symbol.Symbol.TheVariants as symbols
use Rattle.sf_lex.specs.Tokens.{Tok, keyword, name, number, symbol}
use Rattle.sf_grammar.specs.declared.ty.Version.{Version}
use Rattle.sf_grammar.specs.declared.head.Head.{Head}
use Rattle.sf_grammar.specs.declared.head.Head.TheVariants as heads
use Rattle.sf_grammar.specs.Spelling.{in_brackets, spell_type, spell_pattern, spell_expression, spell_function, spell_mapping, spell_term, spell_collection, spell_arguments, spell_listed, bare_word, value_word, stands_initially, timing_word, selection_word, accumulation_word, join_symbol, side_word, heading_token, switching_word, continuing_word, releasing_word, editing_word, naming_token, head_makes}
use Rattle.sf_grammar.specs.Reading.{Read, Counts, counted_term, counts_with_expression, counts_with_function, counts_with_collection, head_of, begins_fresh, tokens_head, parse_value, parse_never, parse_timed, parse_selected, parse_arrow, parse_accumulated, parse_sided, parse_headed, parse_transformed, parse_switching, parse_named, parse_collection_form, begins_collection, parse_gathered, parse_releasing, parse_editing, parse_continuing, parse_joined, parse_behind_head, parse_form, begins_term, parse_shallow, parse_term, parse_collection}
use Rattle.sf_grammar.proofs.Words.{head_token, HasKeyword, BeginsSo, head_again, HasOwnToken, IsHeadToken, head_takes, heading_begins, start_again, IsFresh, fresh_takes, IsLone, named_alone}
use Rattle.sf_grammar.proofs.Takes.{HeadMakes, with_pre, stays_headed, head_view}
use Rattle.sf_place.specs.Places.{ExpressionInTexts, TermInTexts}
use Rattle.sf_place.proofs.Spells.{TakesAt, Fine, Reads, Anything, Only, Both, bind, finish, nothing, takes_as, behind_token, refused, Begins, begins_with, deep_reads}
use Rattle.sf_place.proofs.Pieces.{fine_as, NameText, name_reads, NumberText, number_reads, Parts, parts_read, parts_are, Comma, comma, Open, opening, TypeText, whole_type_reads}
use Rattle.sf_place.proofs.Values.{ExpressionText, FunctionText, expression_reads, function_reads, behind_one, behind}
use Rattle.sf_place.proofs.Forms.{TermText, CollectionText, some_term, some_collection, term_exists, collection_exists, TermsRead, MembersRead, term_ends, JoinText, join_reads, Mapped, body_reads, edit_reads, collection_form_takes, collection_form_fine, collection_begins, value_is, function_is, term_is, members_are, two_are, call_reads, call_into}

-- the tokens of a form behind its first; those of a call are read with it
abbrev TermTail : Version → Head → List Tok → Type 0
TermTail v (heads.Bare b) = Only []
TermTail v (heads.WithValue k) = ExpressionText v
TermTail v (heads.Timed k) = Both NumberText (ExpressionText v)
TermTail v (heads.Selected k) = NumberText
TermTail v heads.Never = TypeText v
TermTail v heads.Arrow = FunctionText v
TermTail v (heads.Accumulated k) = Both Open (Parts (ExpressionText v) Comma (FunctionText v))
TermTail v heads.Joined = Parts (TermText v) JoinText (TermText v)
TermTail v (heads.Sided s) = TermText v
TermTail v (heads.Headed h) = Both Open (Parts (ExpressionText v) Comma (TermText v))
TermTail v heads.Transformed = Both Open (Parts (FunctionText v) Comma (TermText v))
TermTail v (heads.Switching w) = Both Open (Parts (TermText v) Comma (Mapped (TermText v)))
TermTail v (heads.Named w) = NameText
TermTail v (heads.Continuation w) = Both Open (Both (TermText v) (Both Comma (Both (TermText v) (Both Comma (Parts NameText Comma (Mapped (TermText v)))))))
TermTail v heads.Call = Only []
TermTail v heads.Gathered = CollectionText v
TermTail v (heads.Releasing w) = Both Open (Both (CollectionText v) (Both Comma (Both (TermText v) (Both Comma (Parts NameText Comma (Mapped (TermText v)))))))
TermTail v (heads.Editing w) = Both Open (Both (CollectionText v) (Both Comma (Parts NameText Comma (Mapped (CollectionText v)))))

head_reads : (d : ℕ) (v : Version) (part : Counts → List Tok → Read Term) (members : Counts → List Tok → Read Collection) (c : Counts) (h : Head) (start : List Tok) → HasOwnToken h → TermsRead v part → MembersRead v members
    → Reads Anything (TermTail v h) (parse_behind_head d v part members c (Some h) start)
unfolding parse_value parse_timed parse_selected parse_never parse_arrow parse_accumulated parse_joined parse_sided parse_headed parse_transformed parse_switching parse_named parse_continuing parse_gathered parse_releasing parse_editing
head_reads d v part members c (heads.Bare b) start own l m = nothing (term_ends c (primitive (bare b)) start)
head_reads d v part members c (heads.WithValue k) start own l m = finish (expression_reads d v c) (λ e. term_ends c (primitive (with_value k e)) start)
head_reads d v part members c (heads.Timed k) start own l m = bind number_reads (λ q. finish (expression_reads d v c) (λ e. term_ends c (primitive (timed k q e)) start))
head_reads d v part members c (heads.Selected k) start own l m = finish number_reads (λ n. term_ends c (primitive (selected k n)) start)
head_reads d v part members c heads.Never start own l m = finish (whole_type_reads d v) (λ t. term_ends c (primitive (never t)) start)
head_reads d v part members c heads.Arrow start own l m = finish (function_reads d v c) (λ f. term_ends c (primitive (arrow f)) start)
head_reads d v part members c (heads.Accumulated k) start own l m =
    bind opening (λ _. parts_read (expression_reads d v c) comma (λ e. function_reads d v (counts_with_expression c e)) (λ e _ f. term_ends c (primitive (accumulated k e f)) start))
head_reads d v part members c heads.Joined start own l m = parts_read (l c) join_reads (λ f. l (counted_term c f)) (λ f j g. term_ends c (joined j f g) start)
head_reads d v part members c (heads.Sided s) start own l m = finish (l c) (λ f. term_ends c (sided s f) start)
head_reads d v part members c (heads.Headed h) start own l m =
    bind opening (λ _. parts_read (expression_reads d v c) comma (λ e. l (counts_with_expression c e)) (λ e _ f. term_ends c (head_makes h e f) start))
head_reads d v part members c heads.Transformed start own l m =
    bind opening (λ _. parts_read (function_reads d v c) comma (λ h. l (counts_with_function c h)) (λ h _ f. term_ends c (transformed h f) start))
head_reads d v part members c (heads.Switching w) start own l m =
    bind opening (λ _. parts_read (l c) comma (λ f. body_reads d v part (counted_term c f) l) (λ f _ b. term_ends c (switching w f b.0 b.1) start))
head_reads d v part members c (heads.Named w) start own l m = finish name_reads (λ k. term_ends c (named_term w k) start)
head_reads d v part members c (heads.Continuation w) start own l m =
    bind opening (λ _. bind (l c) (λ f. bind comma (λ _. bind (l (counted_term c f)) (λ g. bind comma (λ _.
    parts_read name_reads comma (λ _. body_reads d v part (counted_term (counted_term c f) g) l) (λ k _ b. term_ends c (continuing w f g k b.0 b.1) start))))))
head_reads d v part members c heads.Call start own l m = absurd own
head_reads d v part members c heads.Gathered start own l m = finish (m c) (λ i. term_ends c (gathered i) start)
head_reads d v part members c (heads.Releasing w) start own l m =
    bind opening (λ _. bind (m c) (λ i. bind comma (λ _. bind (l (counts_with_collection c i)) (λ q. bind comma (λ _.
    parts_read name_reads comma (λ _. body_reads d v part (counted_term (counts_with_collection c i) q) l) (λ k _ b. term_ends c (releasing w i q k b.0 b.1) start))))))
head_reads d v part members c (heads.Editing w) start own l m =
    bind opening (λ _. bind (m c) (λ i. bind comma (λ _.
    parts_read name_reads comma (λ _. edit_reads d v members (counts_with_collection c i) m) (λ k _ b. term_ends c (editing w i k b.0 b.1) start))))

-- ## What is read is a term

headed_into : (v : Version) {h : Heading} {e : Expression} {f t : Term} {xs : List Tok} → HeadMakes h e f t → xs ≡ heading_token h ∷ in_brackets (spell_expression v e) (symbol symbols.Comma) (spell_term v f)
    → ExpressionInTexts v e → TermInTexts v f → TermText v xs
headed_into v {e = e} with_pre spelled one two = record { value = primitive (with_value values.InitializedPre e); spelled = spelled; stands = one }
headed_into v {h = h} {e = e} {f = f} (stays_headed k) spelled one two = record { value = headed h e f; spelled = spelled; stands = (k, one, two) }

-- a form that is a name alone, which begins with a keyword
naming_stands : (v : Version) (w : Naming) (k : Name) → HasKeyword w → TermInTexts v (named_term w k)
naming_stands v (namings.Process starts.Run) k begins = tt
naming_stands v (namings.Process starts.Fresh) k begins = absurd begins
naming_stands v namings.Probe k begins = tt

-- a name, and a mapping behind it, behind another part
mapping_behind : (xs ys ms : List Tok) (k : Name) → symbol symbols.Open ∷ (xs ++ (symbol symbols.Comma ∷ (ys ++ (symbol symbols.Comma ∷ name k ∷ symbol symbols.Comma ∷ (ms ++ (symbol symbols.Close ∷ []))))))
    ≡ in_brackets xs (symbol symbols.Comma) (ys ++ (symbol symbols.Comma ∷ name k ∷ symbol symbols.Comma ∷ ms))
mapping_behind xs ys ms k = ap (λ r. symbol symbols.Open ∷ (xs ++ (symbol symbols.Comma ∷ r))) (sym (append_assoc ys (symbol symbols.Comma ∷ name k ∷ symbol symbols.Comma ∷ ms) (symbol symbols.Close ∷ [])))

term_into : (v : Version) (h : Head) (ys : List Tok) → HasOwnToken h → BeginsSo h → TermTail v h ys → TermText v (head_token h ∷ ys)
term_into v (heads.Bare b) ys own begins tail = record { value = primitive (bare b); spelled = cc; stands = tt }
term_into v (heads.WithValue k) ys own begins tail = record { value = primitive (with_value k tail.value); spelled = rw (begins, tail.spelled) refl; stands = tail.stands }
term_into v (heads.Timed k) ys own begins tail = record { value = primitive (timed k tail.first.value tail.second.value); spelled = cc; stands = tail.second.stands }
term_into v (heads.Selected k) ys own begins tail = record { value = primitive (selected k tail.value); spelled = cc; stands = tt }
term_into v heads.Never ys own begins tail = record { value = primitive (never tail.value); spelled = cc; stands = tail.stands }
term_into v heads.Arrow ys own begins tail = record { value = primitive (arrow tail.value); spelled = cc; stands = tail.stands }
term_into v (heads.Accumulated k) ys own begins tail =
    record { value = primitive (accumulated k tail.second.first.value tail.second.second.second.first.value); spelled = cc; stands = (tail.second.first.stands, tail.second.second.second.first.stands) }
term_into v heads.Joined ys own begins tail =
    record { value = joined tail.second.first.value tail.first.value tail.second.second.first.value; spelled = cc; stands = (tail.first.stands, tail.second.second.first.stands) }
term_into v (heads.Sided s) ys own begins tail = record { value = sided s tail.value; spelled = cc; stands = tail.stands }
term_into v (heads.Headed h) ys own begins tail =
    headed_into v (head_view h tail.second.first.value tail.second.second.second.first.value) (cc) tail.second.first.stands tail.second.second.second.first.stands
term_into v heads.Transformed ys own begins tail =
    record { value = transformed tail.second.first.value tail.second.second.second.first.value; spelled = cc; stands = (tail.second.first.stands, tail.second.second.second.first.stands) }
term_into v (heads.Switching w) ys own begins tail =
    let body = tail.second.second.second.first in
    record { value = switching w tail.second.first.value body.first.value body.second.second.value; spelled = cc; stands = (tail.second.first.stands, body.second.second.stands) }
term_into v (heads.Named w) ys own begins tail =
    let lone : IsLone v w tail.value = named_alone v w tail.value in
    record { value = named_term w tail.value; spelled = ap (λ r. naming_token w ∷ r) tail.spelled ∙ sym lone.spelled; stands = naming_stands v w tail.value begins }
term_into v (heads.Continuation w) ys own begins tail =
    let f : Term = tail.second.first.value in
    let g : Term = tail.second.second.second.first.value in
    let inside = tail.second.second.second.second.second in
    let k : Name = inside.first.value in
    let body = inside.second.second.first in
    let mapping : List Tok = spell_mapping (spell_pattern body.first.value) (spell_term v body.second.second.value) in
    let split : ys ≡ symbol symbols.Open ∷ (spell_term v f ++ (symbol symbols.Comma ∷ (spell_term v g ++ (symbol symbols.Comma ∷ name k ∷ symbol symbols.Comma ∷ (mapping ++ (symbol symbols.Close ∷ [])))))) = cc in
    record {
      value = continuing w f g k body.first.value body.second.second.value;
      spelled = ap (λ r. keyword (continuing_word w) ∷ r) (split ∙ mapping_behind (spell_term v f) (spell_term v g) mapping k);
      stands = (tail.second.first.stands, tail.second.second.second.first.stands, body.second.second.stands);
    }
term_into v heads.Call ys own begins tail = absurd own
term_into v heads.Gathered ys own begins tail = record { value = gathered tail.value; spelled = cc; stands = tail.stands }
term_into v (heads.Releasing w) ys own begins tail =
    let i : Collection = tail.second.first.value in
    let g : Term = tail.second.second.second.first.value in
    let inside = tail.second.second.second.second.second in
    let k : Name = inside.first.value in
    let body = inside.second.second.first in
    let mapping : List Tok = spell_mapping (spell_pattern body.first.value) (spell_term v body.second.second.value) in
    let split : ys ≡ symbol symbols.Open ∷ (spell_collection v i ++ (symbol symbols.Comma ∷ (spell_term v g ++ (symbol symbols.Comma ∷ name k ∷ symbol symbols.Comma ∷ (mapping ++ (symbol symbols.Close ∷ [])))))) = cc in
    record {
      value = releasing w i g k body.first.value body.second.second.value;
      spelled = ap (λ r. keyword (releasing_word w) ∷ r) (split ∙ mapping_behind (spell_collection v i) (spell_term v g) mapping k);
      stands = (tail.second.first.stands, tail.second.second.second.first.stands, body.second.second.stands);
    }
term_into v (heads.Editing w) ys own begins tail =
    let inside = tail.second.second.second in
    let body = inside.second.second.first in
    record { value = editing w tail.second.first.value inside.first.value body.first.value body.second.second.value; spelled = cc; stands = (tail.second.first.stands, body.second.second.stands) }

-- a form with its own first token, or a call
data HeadIs : Head → Type 0 where
  a_call : HeadIs heads.Call
  its_own : {h : Head} → HasOwnToken h → HeadIs h

head_is : (h : Head) → HeadIs h
head_is heads.Call = a_call
head_is _ = its_own tt

own_takes : (d : ℕ) (v : Version) (part : Counts → List Tok → Read Term) (members : Counts → List Tok → Read Collection) (c : Counts) (h : Head) (t : Tok) (u : List Tok) → HeadIs h → head_of t ≡ Some h → TermsRead v part → MembersRead v members
    → TakesAt (TermText v) (parse_behind_head d v part members c (Some h) (t ∷ u) u) (t ∷ u)
own_takes d v part members c _ t u a_call found l m = takes_as (call_into v) ((call_reads d v part members c l m).takes (t ∷ u))
own_takes d v part members c h t u (its_own own) found l m =
    let is : IsHeadToken t h = head_takes t h own found in
    behind_token t (λ ys tail. subst (λ (t : Tok). TermText v (t ∷ ys)) (sym is.token) (term_into v h ys own is.begins tail)) ((head_reads d v part members c h (t ∷ u) own l m).takes u)

token_takes_term : (d : ℕ) (v : Version) (part : Counts → List Tok → Read Term) (members : Counts → List Tok → Read Collection) (c : Counts) (o : Option Head) (t : Tok) (u : List Tok) → head_of t ≡ o → TermsRead v part → MembersRead v members
    → TakesAt (TermText v) (parse_behind_head d v part members c o (t ∷ u) u) (t ∷ u)
token_takes_term d v part members c (Some h) t u found l m = own_takes d v part members c h t u (head_is h) found l m
token_takes_term d v part members c None t u found l m = refused (t ∷ u) (term_exists v)

fresh_if : (d : ℕ) (v : Version) (part : Counts → List Tok → Read Term) (members : Counts → List Tok → Read Collection) (c : Counts) (fresh : Bool) (t : Tok) (u : List Tok) → begins_fresh v (t ∷ u) ≡ fresh → TermsRead v part → MembersRead v members
    → TakesAt (TermText v) (parse_behind_head d v part members c (if fresh then Some (heads.Named (namings.Process starts.Fresh)) else head_of t) (t ∷ u) u) (t ∷ u)
fresh_if d v part members c true t u is l m =
    let begins : IsFresh v t = fresh_takes v t u is in
    behind_token t (λ ys are. record { value = reference (started starts.Fresh are.value); spelled = rw (begins.token, are.spelled) refl; stands = begins.written })
    ((head_reads d v part members c (heads.Named (namings.Process starts.Fresh)) (t ∷ u) tt l m).takes u)
fresh_if d v part members c false t u is l m = token_takes_term d v part members c (head_of t) t u refl l m

form_takes : (d : ℕ) (v : Version) (part : Counts → List Tok → Read Term) (members : Counts → List Tok → Read Collection) (c : Counts) (tokens : List Tok) → TermsRead v part → MembersRead v members
    → TakesAt (TermText v) (parse_form d v part members c tokens) tokens
form_takes d v part members c [] l m = refused [] (term_exists v)
form_takes d v part members c (t ∷ u) l m = fresh_if d v part members c (begins_fresh v (t ∷ u)) t u refl l m

-- ## No term is refused for a token

head_fine : (d : ℕ) (v : Version) (part : Counts → List Tok → Read Term) (members : Counts → List Tok → Read Collection) (c : Counts) (h : Head) (t : Tok) (ys more : List Tok) → tokens_head v (t ∷ (ys ++ more)) ≡ Some h → HasOwnToken h → TermTail v h ys
    → TermsRead v part → MembersRead v members → Fine more (parse_form d v part members c (t ∷ (ys ++ more)))
head_fine d v part members c h t ys more found own tail l m =
    subst (λ o. Fine more (parse_behind_head d v part members c o (t ∷ (ys ++ more)) (ys ++ more))) (sym found) ((head_reads d v part members c h (t ∷ (ys ++ more)) own l m).fine ys more tail tt)

mapped_are : {L : List Tok → Type 0} (p : Pattern) (xs : List Tok) → L xs → Mapped L (spell_mapping (spell_pattern p) xs)
mapped_are p xs l = behind (spell_pattern p) (symbol symbols.MapsTo ∷ xs) (record { value = p; spelled = refl }) (behind_one (symbol symbols.MapsTo) xs l)

-- a name and what is mapped, in brackets behind a part and another
named_are : {L M N : List Tok → Type 0} (xs ys ms : List Tok) (k : Name) → L xs → M ys → N ms
    → Both Open (Both L (Both Comma (Both M (Both Comma (Parts NameText Comma N))))) (in_brackets xs (symbol symbols.Comma) (ys ++ (symbol symbols.Comma ∷ name k ∷ symbol symbols.Comma ∷ ms)))
named_are {L} {M} {N} xs ys ms k l m n =
    let inside : List Tok = name k ∷ symbol symbols.Comma ∷ (ms ++ (symbol symbols.Close ∷ [])) in
    let others : List Tok = ys ++ (symbol symbols.Comma ∷ inside) in
    subst (λ (r : List Tok). Both Open (Both L (Both Comma (Both M (Both Comma (Parts NameText Comma N))))) r) (mapping_behind xs ys ms k)
    (behind_one (symbol symbols.Open) (xs ++ (symbol symbols.Comma ∷ others)) (behind xs (symbol symbols.Comma ∷ others) l (behind_one (symbol symbols.Comma) others
    (behind ys (symbol symbols.Comma ∷ inside) m (behind_one (symbol symbols.Comma) inside (parts_are (name k ∷ []) (symbol symbols.Comma) ms (record { value = k; spelled = refl }) (record { is = refl }) n))))))

-- the same behind one part
edited_are : {L N : List Tok → Type 0} (xs ms : List Tok) (k : Name) → L xs → N ms → Both Open (Both L (Both Comma (Parts NameText Comma N))) (in_brackets xs (symbol symbols.Comma) (name k ∷ symbol symbols.Comma ∷ ms))
edited_are xs ms k l n =
    let inside : List Tok = name k ∷ symbol symbols.Comma ∷ (ms ++ (symbol symbols.Close ∷ [])) in
    behind_one (symbol symbols.Open) (xs ++ (symbol symbols.Comma ∷ inside)) (behind xs (symbol symbols.Comma ∷ inside) l (behind_one (symbol symbols.Comma) inside
    (parts_are (name k ∷ []) (symbol symbols.Comma) ms (record { value = k; spelled = refl }) (record { is = refl }) n)))

value_fine : (d : ℕ) (v : Version) (part : Counts → List Tok → Read Term) (members : Counts → List Tok → Read Collection) (c : Counts) (k : WithValue) (e : Expression) (more : List Tok) → stands_initially k ≡ false → ExpressionInTexts v e
    → TermsRead v part → MembersRead v members → Fine more (parse_form d v part members c (keyword (value_word k) ∷ (spell_expression v e ++ more)))
value_fine d v part members c k e more is stands l m = head_fine d v part members c (heads.WithValue k) (keyword (value_word k)) (spell_expression v e) more (head_again (heads.WithValue k) is) tt (value_is v e stands) l m

form_fine : (d : ℕ) (v : Version) (part : Counts → List Tok → Read Term) (members : Counts → List Tok → Read Collection) (c : Counts) (t : Term) (more : List Tok) → TermInTexts v t → TermsRead v part → MembersRead v members
    → Fine more (parse_form d v part members c (spell_term v t ++ more))
form_fine d v part members c (primitive (bare b)) more stands l m = head_fine d v part members c (heads.Bare b) (keyword (bare_word b)) [] more (head_again (heads.Bare b) tt) tt (record { is = refl }) l m
form_fine d v part members c (primitive (probe k)) more stands l m = head_fine d v part members c (heads.Named namings.Probe) (keyword words.Probe) (name k ∷ []) more refl tt (record { value = k; spelled = refl }) l m
form_fine d v part members c (primitive (never t)) more stands l m = head_fine d v part members c heads.Never (keyword words.Never) (spell_type v t) more refl tt (record { value = t; spelled = refl; stands = stands }) l m
form_fine d v part members c (primitive (with_value values.InitializedPre e)) more stands l m =
    head_fine d v part members c (heads.Headed headings.Initialized) (symbol symbols.Initially) (in_brackets (spell_expression v e) (symbol symbols.Comma) (keyword words.Pre ∷ [])) more refl tt
    (two_are (spell_expression v e) (keyword words.Pre ∷ []) (value_is v e stands) (term_is v (primitive (bare bares.Pre)) tt)) l m
form_fine d v part members c (primitive (with_value values.Constant e)) more stands l m = value_fine d v part members c values.Constant e more refl stands l m
form_fine d v part members c (primitive (with_value values.Initially e)) more stands l m = value_fine d v part members c values.Initially e more refl stands l m
form_fine d v part members c (primitive (with_value values.InitialPre e)) more stands l m = value_fine d v part members c values.InitialPre e more refl stands l m
form_fine d v part members c (primitive (with_value values.Now e)) more stands l m = value_fine d v part members c values.Now e more refl stands l m
form_fine d v part members c (primitive (with_value values.InitialEdge e)) more stands l m = value_fine d v part members c values.InitialEdge e more refl stands l m
form_fine d v part members c (primitive (with_value values.EdgeTag e)) more stands l m = value_fine d v part members c values.EdgeTag e more refl stands l m
form_fine d v part members c (primitive (with_value values.Hold e)) more stands l m = value_fine d v part members c values.Hold e more refl stands l m
form_fine d v part members c (primitive (with_value values.DelayedHold e)) more stands l m = value_fine d v part members c values.DelayedHold e more refl stands l m
form_fine d v part members c (primitive (timed k q e)) more stands l m =
    head_fine d v part members c (heads.Timed k) (keyword (timing_word k)) (number q ∷ spell_expression v e) more (head_again (heads.Timed k) tt) tt
    (behind (number q ∷ []) (spell_expression v e) (record { value = q; spelled = refl }) (value_is v e stands)) l m
form_fine d v part members c (primitive (selected k n)) more stands l m =
    head_fine d v part members c (heads.Selected k) (keyword (selection_word k)) (number n ∷ []) more (head_again (heads.Selected k) tt) tt (record { value = n; spelled = refl }) l m
form_fine d v part members c (primitive (arrow f)) more stands l m = head_fine d v part members c heads.Arrow (keyword words.Arr) (spell_function v f) more refl tt (function_is v f stands) l m
form_fine d v part members c (primitive (accumulated k e f)) more stands l m =
    head_fine d v part members c (heads.Accumulated k) (keyword (accumulation_word k)) (in_brackets (spell_expression v e) (symbol symbols.Comma) (spell_function v f)) more (head_again (heads.Accumulated k) tt) tt
    (two_are (spell_expression v e) (spell_function v f) (value_is v e stands.0) (function_is v f stands.1)) l m
form_fine d v part members c (primitive (fused f)) more stands l m = absurd stands
form_fine d v part members c (reference (started w k)) more stands l m =
    head_fine d v part members c (heads.Named (namings.Process w)) (naming_token (namings.Process w)) (name k ∷ []) more (start_again v w k more stands) tt (record { value = k; spelled = refl }) l m
form_fine d v part members c (reference (call g vs)) more stands l m =
    let inside : List Tok = spell_listed (spell_arguments v vs) in
    (call_reads d v part members c l m).fine (name g ∷ symbol symbols.Open ∷ inside) more
    (behind (name g ∷ []) (symbol symbols.Open ∷ inside) (record { value = g; spelled = refl }) (behind_one (symbol symbols.Open) inside (record { value = vs; spelled = refl; stands = stands }))) tt
form_fine d v part members c (joined j f g) more stands l m =
    head_fine d v part members c heads.Joined (symbol symbols.Open) (spell_term v f ++ (symbol (join_symbol j) ∷ (spell_term v g ++ (symbol symbols.Close ∷ [])))) more refl tt
    (parts_are (spell_term v f) (symbol (join_symbol j)) (spell_term v g) (term_is v f stands.0) (record { value = j; spelled = refl }) (term_is v g stands.1)) l m
form_fine d v part members c (sided s f) more stands l m = head_fine d v part members c (heads.Sided s) (keyword (side_word s)) (spell_term v f) more (head_again (heads.Sided s) tt) tt (term_is v f stands) l m
form_fine d v part members c (headed h e f) more stands l m =
    let ys : List Tok = in_brackets (spell_expression v e) (symbol symbols.Comma) (spell_term v f) in
    head_fine d v part members c (heads.Headed h) (heading_token h) ys more (heading_begins v h (ys ++ more)) tt (two_are (spell_expression v e) (spell_term v f) (value_is v e stands.1) (term_is v f stands.2)) l m
form_fine d v part members c (transformed h f) more stands l m =
    head_fine d v part members c heads.Transformed (symbol symbols.MapsFirstInput) (in_brackets (spell_function v h) (symbol symbols.Comma) (spell_term v f)) more refl tt
    (two_are (spell_function v h) (spell_term v f) (function_is v h stands.0) (term_is v f stands.1)) l m
form_fine d v part members c (switching w f p g) more stands l m =
    let body : List Tok = spell_mapping (spell_pattern p) (spell_term v g) in
    head_fine d v part members c (heads.Switching w) (keyword (switching_word w)) (in_brackets (spell_term v f) (symbol symbols.Comma) body) more (head_again (heads.Switching w) tt) tt
    (two_are (spell_term v f) body (term_is v f stands.0) (mapped_are p (spell_term v g) (term_is v g stands.1))) l m
form_fine d v part members c (continuing w f g k p u) more stands l m =
    let body : List Tok = spell_mapping (spell_pattern p) (spell_term v u) in
    head_fine d v part members c (heads.Continuation w) (keyword (continuing_word w)) (in_brackets (spell_term v f) (symbol symbols.Comma) (spell_term v g ++ (symbol symbols.Comma ∷ name k ∷ symbol symbols.Comma ∷ body))) more (head_again (heads.Continuation w) tt) tt
    (named_are (spell_term v f) (spell_term v g) body k (term_is v f stands.0) (term_is v g stands.1) (mapped_are p (spell_term v u) (term_is v u stands.2))) l m
form_fine d v part members c (gathered i) more stands l m = head_fine d v part members c heads.Gathered (keyword words.ParB) (spell_collection v i) more refl tt (members_are v i stands) l m
form_fine d v part members c (releasing w i g k p u) more stands l m =
    let body : List Tok = spell_mapping (spell_pattern p) (spell_term v u) in
    head_fine d v part members c (heads.Releasing w) (keyword (releasing_word w)) (in_brackets (spell_collection v i) (symbol symbols.Comma) (spell_term v g ++ (symbol symbols.Comma ∷ name k ∷ symbol symbols.Comma ∷ body))) more (head_again (heads.Releasing w) tt) tt
    (named_are (spell_collection v i) (spell_term v g) body k (members_are v i stands.0) (term_is v g stands.1) (mapped_are p (spell_term v u) (term_is v u stands.2))) l m
form_fine d v part members c (editing w i k p u) more stands l m =
    let body : List Tok = spell_mapping (spell_pattern p) (spell_collection v u) in
    head_fine d v part members c (heads.Editing w) (keyword (editing_word w)) (in_brackets (spell_collection v i) (symbol symbols.Comma) (name k ∷ symbol symbols.Comma ∷ body)) more (head_again (heads.Editing w) tt) tt
    (edited_are (spell_collection v i) body k (members_are v i stands.0) (mapped_are p (spell_collection v u) (members_are v u stands.1))) l m
form_fine d v part members c (staged x f g) more stands l m = absurd stands

-- a token begins a form
abbrev starts_form : Option Head → Bool
starts_form o = is_some o

heading_starts : (h : Heading) (xs : List Tok) → Begins begins_term (heading_token h ∷ xs)
heading_starts headings.LoopPre xs = begins_with (keyword words.LoopPre) xs refl
heading_starts headings.Initialized xs = begins_with (symbol symbols.Initially) xs refl
heading_starts headings.Replaced xs = begins_with (symbol symbols.OnFirstInput) xs refl
heading_starts headings.Followed xs = begins_with (keyword words.Fby) xs refl

start_starts : (w : Start) (xs : List Tok) → Begins begins_term (naming_token (namings.Process w) ∷ xs)
start_starts starts.Run xs = begins_with (keyword words.Run) xs refl
start_starts starts.Fresh xs = begins_with (naming_token (namings.Process starts.Fresh)) xs refl

term_begins : (v : Version) (t : Term) → TermInTexts v t → Begins begins_term (spell_term v t)
term_begins v (primitive (bare b)) stands = begins_with (keyword (bare_word b)) [] (ap starts_form (head_again (heads.Bare b) tt))
term_begins v (primitive (probe k)) stands = begins_with (keyword words.Probe) (name k ∷ []) refl
term_begins v (primitive (never t)) stands = begins_with (keyword words.Never) (spell_type v t) refl
term_begins v (primitive (with_value values.InitializedPre e)) stands = begins_with (symbol symbols.Initially) (in_brackets (spell_expression v e) (symbol symbols.Comma) (keyword words.Pre ∷ [])) refl
term_begins v (primitive (with_value values.Constant e)) stands = begins_with (keyword words.Constant) (spell_expression v e) refl
term_begins v (primitive (with_value values.Initially e)) stands = begins_with (keyword words.Initially) (spell_expression v e) refl
term_begins v (primitive (with_value values.InitialPre e)) stands = begins_with (keyword words.IPre) (spell_expression v e) refl
term_begins v (primitive (with_value values.Now e)) stands = begins_with (keyword words.Now) (spell_expression v e) refl
term_begins v (primitive (with_value values.InitialEdge e)) stands = begins_with (keyword words.IEdge) (spell_expression v e) refl
term_begins v (primitive (with_value values.EdgeTag e)) stands = begins_with (keyword words.EdgeTag) (spell_expression v e) refl
term_begins v (primitive (with_value values.Hold e)) stands = begins_with (keyword words.Hold) (spell_expression v e) refl
term_begins v (primitive (with_value values.DelayedHold e)) stands = begins_with (keyword words.DHold) (spell_expression v e) refl
term_begins v (primitive (timed k q e)) stands = begins_with (keyword (timing_word k)) (number q ∷ spell_expression v e) (ap starts_form (head_again (heads.Timed k) tt))
term_begins v (primitive (selected k n)) stands = begins_with (keyword (selection_word k)) (number n ∷ []) (ap starts_form (head_again (heads.Selected k) tt))
term_begins v (primitive (arrow f)) stands = begins_with (keyword words.Arr) (spell_function v f) refl
term_begins v (primitive (accumulated k e f)) stands = begins_with (keyword (accumulation_word k)) (in_brackets (spell_expression v e) (symbol symbols.Comma) (spell_function v f)) (ap starts_form (head_again (heads.Accumulated k) tt))
term_begins v (primitive (fused f)) stands = absurd stands
term_begins v (reference (started w k)) stands = start_starts w (name k ∷ [])
term_begins v (reference (call g vs)) stands = begins_with (name g) (symbol symbols.Open ∷ spell_listed (spell_arguments v vs)) refl
term_begins v (joined j f g) stands = begins_with (symbol symbols.Open) (spell_term v f ++ (symbol (join_symbol j) ∷ (spell_term v g ++ (symbol symbols.Close ∷ [])))) refl
term_begins v (sided s f) stands = begins_with (keyword (side_word s)) (spell_term v f) (ap starts_form (head_again (heads.Sided s) tt))
term_begins v (headed h e f) stands = heading_starts h (in_brackets (spell_expression v e) (symbol symbols.Comma) (spell_term v f))
term_begins v (transformed h f) stands = begins_with (symbol symbols.MapsFirstInput) (in_brackets (spell_function v h) (symbol symbols.Comma) (spell_term v f)) refl
term_begins v (switching w f p g) stands =
    begins_with (keyword (switching_word w)) (in_brackets (spell_term v f) (symbol symbols.Comma) (spell_mapping (spell_pattern p) (spell_term v g))) (ap starts_form (head_again (heads.Switching w) tt))
term_begins v (continuing w f g k p u) stands =
    begins_with (keyword (continuing_word w)) (in_brackets (spell_term v f) (symbol symbols.Comma) (spell_term v g ++ (symbol symbols.Comma ∷ name k ∷ symbol symbols.Comma ∷ spell_mapping (spell_pattern p) (spell_term v u)))) (ap starts_form (head_again (heads.Continuation w) tt))
term_begins v (gathered i) stands = begins_with (keyword words.ParB) (spell_collection v i) refl
term_begins v (releasing w i g k p u) stands =
    begins_with (keyword (releasing_word w)) (in_brackets (spell_collection v i) (symbol symbols.Comma) (spell_term v g ++ (symbol symbols.Comma ∷ name k ∷ symbol symbols.Comma ∷ spell_mapping (spell_pattern p) (spell_term v u)))) (ap starts_form (head_again (heads.Releasing w) tt))
term_begins v (editing w i k p u) stands =
    begins_with (keyword (editing_word w)) (in_brackets (spell_collection v i) (symbol symbols.Comma) (name k ∷ symbol symbols.Comma ∷ spell_mapping (spell_pattern p) (spell_collection v u))) (ap starts_form (head_again (heads.Editing w) tt))
term_begins v (staged x f g) stands = absurd stands

record PartsRead (d : ℕ) (v : Version) : Type 0 where
  term : TermsRead v (parse_term d v)
  members : MembersRead v (parse_collection d v)

shallow_reads : (d : ℕ) (v : Version) → PartsRead d v
unfolding parse_shallow
shallow_reads zero v = record {
  term = λ c. deep_reads begins_term some_term (term_exists v) (λ xs are. subst (λ (xs : List Tok). Begins begins_term xs) (sym are.spelled) (term_begins v are.value are.stands));
  members = λ c. deep_reads begins_collection some_collection (collection_exists v) (λ xs are. subst (λ (xs : List Tok). Begins begins_collection xs) (sym are.spelled) (collection_begins v are.value));
}
shallow_reads (suc d) v =
    let l : PartsRead d v = shallow_reads d v in
    record {
      term = λ c. record {
        value = some_term;
        some = term_exists v;
        takes = λ tokens. form_takes d v (parse_term d v) (parse_collection d v) c tokens l.term l.members;
        fine = λ xs more are g. fine_as (parse_form d v (parse_term d v) (parse_collection d v) c) xs (spell_term v are.value) are.spelled (form_fine d v (parse_term d v) (parse_collection d v) c are.value more are.stands l.term l.members);
      };
      members = λ c. record {
        value = some_collection;
        some = collection_exists v;
        takes = λ tokens. collection_form_takes d v (parse_term d v) (parse_collection d v) c tokens l.term l.members;
        fine = λ xs more are g. fine_as (parse_collection_form d v (parse_term d v) (parse_collection d v) c) xs (spell_collection v are.value) are.spelled
            (collection_form_fine d v (parse_term d v) (parse_collection d v) c are.value more are.stands l.term l.members);
      };
    }

pub term_reads : (d : ℕ) (v : Version) (c : Counts) → Reads Anything (TermText v) (parse_term d v c)
term_reads d v c = (shallow_reads d v).term c

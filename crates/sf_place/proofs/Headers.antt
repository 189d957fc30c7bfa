-- The readers of templates, and what they read.
use Rattle.std.proofs.Common.{◌≡◌, ℕ, zero, suc, ◌≤◌, List, [], ◌∷◌, ◌++◌, length, map, Option, Some, None, refl, sym, ◌∙◌, ap, subst, append_assoc, arith}
use Rattle.std.specs.List.{All}
use Rattle.std.proofs.lemmas.List.{append-nil, length-append, length-map}
use Rattle.std.proofs.lemmas.List.Elements.{All-append, All-cons, All-head, All-nil, All-tail}
use Rattle.sf_value.specs.Values.{Name, KeyKind, int_keys, text_keys, Kind}
use Rattle.sf_term.specs.Parameters.{NameKind, Bindings, collection}
use Rattle.sf_term.specs.Parameters as parameter_kinds
use Rattle.sf_term.specs.Trees.{Template}
use Rattle.sf_lex.specs.declared.word.Keyword.TheVariants as words
use Rattle.sf_lex.specs.declared.symbol.Symbol.TheVariants as symbols
use Rattle.sf_lex.specs.Tokens.{Tok, keyword, name, symbol}
use Rattle.sf_grammar.specs.declared.ty.Version.{Version}
use Rattle.sf_grammar.specs.declared.ty.Version.TheVariants as versions
use Rattle.sf_grammar.specs.Spelling.{spell_keys, spell_type, spell_term, spell_further, spell_listed, spell_key_kind, spell_name_kind, spell_parameter, spell_heading, spell_signature, spell_template, WritesKeys}
use Rattle.sf_grammar.specs.Reading.{Read, got, ◌and_then◌, Counts, parse_symbol, parse_type, parse_opening, behind_close, behind_leads, behind_list, parse_further, listed_read, parse_listed, parameter_kind_from, parse_key_kind, parse_collection_kind, parse_kind_from, parse_name_kind, parse_parameter, parse_parameters, parse_heading, parse_signature, template_of, parse_template}
use Rattle.sf_grammar.proofs.Words.{close_takes, leads_takes, list_takes, no_list}
use Rattle.sf_grammar.proofs.Parts.{no_leads, further_long}
use Rattle.sf_place.specs.Places.{IsPlain, NameKindInTexts, TemplateInTexts}
use Rattle.sf_place.proofs.Spells.{plain_none, plain_one, Exists, TakesAt, Fine, fine_got, then_fine, Reads, Anything, Only, Both, bind, finish, got_ends, nothing, takes_as, reads_as, behind_token, refused, token_takes, then_takes, end_takes}
use Rattle.sf_place.proofs.Pieces.{fine_as, keyword_reads, symbol_reads, NameText, name_reads, VersionText, version_reads, Open, opening, KeysText, keys_read, TypeText, type_exists, type_reads}
use Rattle.sf_place.proofs.Values.{behind_one, behind}
use Rattle.sf_place.proofs.Forms.{TermText}
use Rattle.sf_place.proofs.Terms.{term_reads}

abbrev Colon : List Tok → Type 0
Colon = Only (symbol symbols.Colon ∷ [])

colon : {F : List Tok → Type 0} → Reads F Colon (parse_symbol symbols.Colon)
colon = symbol_reads symbols.Colon (λ more. refl)

abbrev Leads : List Tok → Type 0
Leads = Only (symbol symbols.Leads ∷ [])

leads : {F : List Tok → Type 0} → Reads F Leads (parse_symbol symbols.Leads)
leads = symbol_reads symbols.Leads (λ more. refl)

abbrev Semicolon : List Tok → Type 0
Semicolon = Only (symbol symbols.Semicolon ∷ [])

semicolon : {F : List Tok → Type 0} → Reads F Semicolon (parse_symbol symbols.Semicolon)
semicolon = symbol_reads symbols.Semicolon (λ more. refl)

-- no process leads on here
abbrev NoLeads : List Tok → Type 0
NoLeads tokens = behind_leads tokens ≡ None

-- ## Parameters

record KeyKindText (v : Version) (xs : List Tok) : Type 0 where
  pub value : KeyKind
  pub spelled : xs ≡ spell_key_kind v value
  pub stands : WritesKeys v value

key_kind_back : (k : KeyKind) (xs : List Tok) → xs ≡ spell_key_kind versions.Two k → Both (KeysText versions.Two) Colon xs
key_kind_back k xs spelled = record { one = spell_keys versions.Two k; two = symbol symbols.Colon ∷ []; split = spelled; first = record { value = k; spelled = refl; stands = known k }; second = record { is = refl } }
  where
    known : (k : KeyKind) → WritesKeys versions.Two k
    known int_keys = tt
    known text_keys = tt

key_kind_reads : (v : Version) → Reads Anything (KeyKindText v) (parse_key_kind v)
key_kind_reads versions.One = reads_as (λ xs only. record { value = int_keys; spelled = only.is; stands = tt }) (λ xs are. record { is = are.spelled }) (nothing (got_ends int_keys))
key_kind_reads versions.Two =
    reads_as (λ xs are. record { value = are.first.value; spelled = cc; stands = are.first.stands }) (λ xs are. key_kind_back are.value xs are.spelled)
    (bind (keys_read versions.Two) (λ k. finish colon (λ _. got_ends k)))

-- the tokens of a collection's types behind their first
abbrev CollectionKindText : Version → List Tok → Type 0
CollectionKindText v = Both (KeyKindText v) (Both (TypeText v) (Both Leads (Both (TypeText v) (Only (symbol symbols.CloseBracket ∷ [])))))

collection_kind_reads : (v : Version) → Reads Anything (CollectionKindText v) (parse_collection_kind v)
unfolding parse_collection_kind
collection_kind_reads v =
    bind (key_kind_reads v) (λ k. bind (type_reads v) (λ t. bind leads (λ _. bind (type_reads v) (λ u. finish (symbol_reads symbols.CloseBracket (λ more. refl)) (λ _. got_ends (collection k t u))))))

-- what stands behind the first type of a parameter
data RestText (v : Version) (xs : List Tok) : Type 0 where
  ends : Only [] xs → RestText v xs
  leads_on : Both Leads (TypeText v) xs → RestText v xs

rest_takes : (v : Version) (t : Kind) (o : Option (List Tok)) (tokens : List Tok) → behind_leads tokens ≡ o → TakesAt (RestText v) (parameter_kind_from v t o tokens) tokens
rest_takes v t (Some rest) tokens found =
    subst (λ (ts : List Tok). TakesAt (RestText v) (parse_type v rest and_then λ u rest. got (parameter_kinds.process t u) rest) ts) (sym (leads_takes tokens rest found))
    (behind_token (symbol symbols.Leads) (λ ys are. leads_on (behind_one (symbol symbols.Leads) ys are)) (end_takes ((type_reads {F = Anything} v).takes rest) (λ u. got_ends (parameter_kinds.process t u))))
rest_takes v t None tokens found = takes_as (λ xs only. ends only) ((nothing {F = Anything} (got_ends (parameter_kinds.value t))).takes tokens)

rest_fine : (v : Version) (t : Kind) (xs more : List Tok) → RestText v xs → NoLeads more → Fine more (parameter_kind_from v t (behind_leads (xs ++ more)) (xs ++ more))
rest_fine v t xs more (ends only) free =
    fine_as (λ u. parameter_kind_from v t (behind_leads u) u) xs [] only.is (subst (λ o. Fine more (parameter_kind_from v t o more)) (sym free) (fine_got (parameter_kinds.value t)))
rest_fine v t xs more (leads_on are) free =
    fine_as (λ u. parameter_kind_from v t (behind_leads u) u) xs (symbol symbols.Leads ∷ are.two) (cc)
    (then_fine (λ u rest. got (parameter_kinds.process t u) rest) ((type_reads {F = Anything} v).fine are.two more are.second tt) (λ u. fine_got (parameter_kinds.process t u)))

rest_reads : (v : Version) (t : Kind) → Reads NoLeads (RestText v) (λ u. parameter_kind_from v t (behind_leads u) u)
rest_reads v t = record {
  value = parameter_kinds.value t;
  some = record { tokens = []; are = ends (record { is = refl }); plain = plain_none };
  takes = λ tokens. rest_takes v t (behind_leads tokens) tokens refl;
  fine = rest_fine v t;
}

-- a type, and what stands behind it
inner_reads : (v : Version) → Reads NoLeads (Both (TypeText v) (RestText v)) (λ tokens. parse_type v tokens and_then λ t rest. parameter_kind_from v t (behind_leads rest) rest)
inner_reads v = bind (type_reads v) (rest_reads v)

record NameKindText (v : Version) (xs : List Tok) : Type 0 where
  pub value : NameKind
  pub spelled : xs ≡ spell_name_kind v value
  pub stands : NameKindInTexts v value

name_kind_exists : (v : Version) → Exists (NameKindText v)
name_kind_exists v =
    let t : Exists (TypeText v) = type_exists v in
    record { tokens = t.tokens; are = record { value = parameter_kinds.value t.are.value; spelled = t.are.spelled; stands = t.are.stands }; plain = t.plain }

collection_kind_into : (v : Version) (ys : List Tok) → CollectionKindText v ys → NameKindText v (symbol symbols.OpenBracket ∷ ys)
collection_kind_into v ys are = record {
  value = collection are.first.value are.second.first.value are.second.second.second.first.value;
  spelled = cc;
  stands = (are.first.stands, are.second.first.stands, are.second.second.second.first.stands);
}

inner_from : (v : Version) (t : Kind) (xs one two : List Tok) → xs ≡ one ++ two → one ≡ spell_type v t → TypeText v one → RestText v two → NameKindText v xs
inner_from v t xs one two split _ first (ends only) = record { value = parameter_kinds.value first.value; spelled = split ∙ ap (λ r. one ++ r) only.is ∙ append-nil one ∙ first.spelled; stands = first.stands }
inner_from v t xs one two split _ first (leads_on are) = record { value = parameter_kinds.process first.value are.second.value; spelled = cc; stands = (first.stands, are.second.stands) }

inner_into : (v : Version) (xs : List Tok) → Both (TypeText v) (RestText v) xs → NameKindText v xs
inner_into v xs are = inner_from v are.first.value xs are.one are.two are.split are.first.spelled are.first are.second

name_kind_takes : (v : Version) (o : Option (List Tok)) (tokens : List Tok) → behind_list tokens ≡ o → TakesAt (NameKindText v) (parse_kind_from v o tokens) tokens
name_kind_takes v (Some rest) tokens found =
    subst (λ (ts : List Tok). TakesAt (NameKindText v) (parse_collection_kind v rest) ts) (sym (list_takes tokens rest found)) (behind_token (symbol symbols.OpenBracket) (collection_kind_into v) ((collection_kind_reads v).takes rest))
name_kind_takes v None tokens found = takes_as (inner_into v) ((inner_reads v).takes tokens)

name_kind_fine : (v : Version) (k : NameKind) (more : List Tok) → NameKindInTexts v k → NoLeads more → Fine more (parse_kind_from v (behind_list (spell_name_kind v k ++ more)) (spell_name_kind v k ++ more))
name_kind_fine v (parameter_kinds.value t) more stands free =
    subst (λ o. Fine more (parse_kind_from v o (spell_type v t ++ more))) (sym (no_list v t more))
    ((inner_reads v).fine (spell_type v t) more (record { one = spell_type v t; two = []; split = sym (append-nil (spell_type v t)); first = record { value = t; spelled = refl; stands = stands }; second = ends (record { is = refl }) }) free)
name_kind_fine v (parameter_kinds.process t u) more stands free =
    let two : List Tok = symbol symbols.Leads ∷ spell_type v u in
    subst (λ o. Fine more (parse_kind_from v o ((spell_type v t ++ two) ++ more))) (sym (ap behind_list (append_assoc (spell_type v t) two more) ∙ no_list v t (two ++ more)))
    ((inner_reads v).fine (spell_type v t ++ two) more (behind (spell_type v t) two (record { value = t; spelled = refl; stands = stands.0 })
    (leads_on (behind_one (symbol symbols.Leads) (spell_type v u) (record { value = u; spelled = refl; stands = stands.1 })))) free)
name_kind_fine v (collection k t u) more stands free =
    let last : List Tok = spell_type v u ++ (symbol symbols.CloseBracket ∷ []) in
    let middle : List Tok = spell_type v t ++ (symbol symbols.Leads ∷ last) in
    (collection_kind_reads v).fine (spell_key_kind v k ++ middle) more (behind (spell_key_kind v k) middle (record { value = k; spelled = refl; stands = stands.0 })
    (behind (spell_type v t) (symbol symbols.Leads ∷ last) (record { value = t; spelled = refl; stands = stands.1 }) (behind_one (symbol symbols.Leads) last
    (behind (spell_type v u) (symbol symbols.CloseBracket ∷ []) (record { value = u; spelled = refl; stands = stands.2 }) (record { is = refl }))))) tt

name_kind_reads : (v : Version) → Reads NoLeads (NameKindText v) (parse_name_kind v)
unfolding parse_name_kind
name_kind_reads v = record {
  value = parameter_kinds.value (type_exists v).are.value;
  some = name_kind_exists v;
  takes = λ tokens. name_kind_takes v (behind_list tokens) tokens refl;
  fine = λ xs more are free. fine_as (parse_name_kind v) xs (spell_name_kind v are.value) are.spelled (name_kind_fine v are.value more are.stands free);
}

record ParameterText (v : Version) (xs : List Tok) : Type 0 where
  pub value : Name × NameKind
  pub spelled : xs ≡ spell_parameter v value
  pub stands : NameKindInTexts v value.1

parameter_back : (v : Version) (q : Name × NameKind) (xs : List Tok) → xs ≡ spell_parameter v q → NameKindInTexts v q.1 → Both NameText (Both Colon (NameKindText v)) xs
parameter_back v q xs spelled stands = record {
  one = name q.0 ∷ [];
  two = symbol symbols.Colon ∷ spell_name_kind v q.1;
  split = spelled;
  first = record { value = q.0; spelled = refl };
  second = behind_one (symbol symbols.Colon) (spell_name_kind v q.1) (record { value = q.1; spelled = refl; stands = stands });
}

parameter_reads : (v : Version) → Reads NoLeads (ParameterText v) (parse_parameter v)
unfolding parse_parameter
parameter_reads v =
    reads_as (λ xs are. record { value = (are.first.value, are.second.second.value); spelled = cc; stands = are.second.second.stands }) (λ xs are. parameter_back v are.value xs are.spelled are.stands)
    (bind name_reads (λ x. bind colon (λ _. finish (name_kind_reads v) (λ k. got_ends (x, k)))))

abbrev AllStand : Version → Bindings → Type 0
AllStand v qs = All (λ (q : Name × NameKind). NameKindInTexts v q.1) qs

-- parameters and the closing bracket behind them
pub record ParametersText (v : Version) (xs : List Tok) : Type 0 where
  pub value : Bindings
  pub spelled : xs ≡ spell_listed (map (spell_parameter v) value)
  pub stands : AllStand v value

-- what stands behind a parameter
record FurtherText (v : Version) (xs : List Tok) : Type 0 where
  pub value : Bindings
  pub spelled : xs ≡ spell_further (map (spell_parameter v) value)
  pub stands : AllStand v value

-- parameters, of which there is one at least
record AnyText (v : Version) (xs : List Tok) : Type 0 where
  pub value : Bindings
  pub spelled : xs ≡ spell_listed (map (spell_parameter v) value)
  pub further : spell_further (map (spell_parameter v) value) ≡ symbol symbols.Comma ∷ spell_listed (map (spell_parameter v) value)
  pub stands : AllStand v value

none_stand : (v : Version) → AllStand v []
none_stand v = All-nil (λ (q : Name × NameKind). NameKindInTexts v q.1)

further_exists : (v : Version) → Exists (FurtherText v)
further_exists v = record { tokens = symbol symbols.Close ∷ []; are = record { value = []; spelled = refl; stands = none_stand v }; plain = plain_one (symbol symbols.Close) tt }

any_into : (v : Version) (xs : List Tok) → Both (ParameterText v) (FurtherText v) xs → AnyText v xs
any_into v xs are = record {
  value = are.first.value ∷ are.second.value;
  spelled = cc;
  further = refl;
  stands = All-cons (λ (q : Name × NameKind). NameKindInTexts v q.1) are.first.value are.second.value are.first.stands are.second.stands;
}

any_exists : (v : Version) → Exists (AnyText v)
any_exists v =
    let one : Exists (ParameterText v) = (parameter_reads v).some in
    let others : Exists (FurtherText v) = further_exists v in
    record { tokens = one.tokens ++ others.tokens; are = any_into v (one.tokens ++ others.tokens) (behind one.tokens others.tokens one.are others.are); plain = All-append IsPlain one.tokens others.tokens one.plain others.plain }

further_takes : (v : Version) (parts : List Tok → Read Bindings) (tokens : List Tok) → ((u : List Tok) → TakesAt (AnyText v) (parts u) u) → TakesAt (FurtherText v) (parse_further [] parts tokens) tokens
further_takes v parts (symbol symbols.Comma ∷ u) l =
    behind_token (symbol symbols.Comma) (λ ys are. record { value = are.value; spelled = ap (λ r. symbol symbols.Comma ∷ r) are.spelled ∙ sym are.further; stands = are.stands }) (l u)
further_takes v parts (symbol symbols.Close ∷ u) l = takes_as (λ xs only. record { value = []; spelled = only.is; stands = none_stand v }) (token_takes (symbol symbols.Close) [] u)
further_takes v parts tokens l = refused tokens (further_exists v)

parameters_take : (n : ℕ) (v : Version) (tokens : List Tok) → TakesAt (AnyText v) (parse_parameters n v tokens) tokens
unfolding parse_parameters
parameters_take zero v tokens = refused tokens (any_exists v)
parameters_take (suc n) v tokens =
    takes_as (any_into v) (then_takes ((parameter_reads v).takes tokens) (λ q rest. end_takes (further_takes v (parse_parameters n v) rest (parameters_take n v)) (λ qs. got_ends (q ∷ qs))) (further_exists v))

-- a parameter in front of others
step_fine : (n : ℕ) (v : Version) (q : Name × NameKind) (qs : Bindings) (more : List Tok) → NameKindInTexts v q.1 → Fine more (parse_further [] (parse_parameters n v) (spell_further (map (spell_parameter v) qs) ++ more))
    → Fine more (parse_parameters (suc n) v ((spell_parameter v q ++ spell_further (map (spell_parameter v) qs)) ++ more))
unfolding parse_parameters
step_fine n v q qs more stands others =
    let ys : List Tok = spell_further (map (spell_parameter v) qs) in
    let whole : Name × NameKind → List Tok → Read Bindings = λ q rest. parse_further [] (parse_parameters n v) rest and_then λ qs rest. got (q ∷ qs) rest in
    subst (λ (u : List Tok). Fine more (parse_parameter v u and_then whole)) (sym (append_assoc (spell_parameter v q) ys more))
    (then_fine whole ((parameter_reads v).fine (spell_parameter v q) (ys ++ more) (record { value = q; spelled = refl; stands = stands }) (no_leads (map (spell_parameter v) qs) more)) (λ q.
    then_fine (λ qs rest. got (q ∷ qs) rest) others (λ qs. fine_got (q ∷ qs))))

further_fine : (qs : Bindings) (n : ℕ) (v : Version) (more : List Tok) → length qs ≤ n → AllStand v qs → Fine more (parse_further [] (parse_parameters n v) (spell_further (map (spell_parameter v) qs) ++ more))
further_fine [] n v more enough stands = fine_got []
further_fine (q ∷ qs) zero v more enough stands = absurd (omega arith)
further_fine (q ∷ qs) (suc n) v more enough stands =
    step_fine n v q qs more (All-head (λ (q : Name × NameKind). NameKindInTexts v q.1) q qs stands) (further_fine qs n v more (omega arith) (All-tail (λ (q : Name × NameKind). NameKindInTexts v q.1) q qs stands))

abbrev listed_parameters : Version → List Tok → Read Bindings
listed_parameters v tokens = parse_listed [] (λ tokens. parse_parameters (suc (length tokens)) v tokens) tokens

listed_takes : (v : Version) (o : Option (List Tok)) (tokens : List Tok) → behind_close tokens ≡ o → TakesAt (ParametersText v) (listed_read [] (λ tokens. parse_parameters (suc (length tokens)) v tokens) o tokens) tokens
listed_takes v (Some rest) tokens found =
    subst (λ (ts : List Tok). TakesAt {A = Bindings} (ParametersText v) (got [] rest) ts) (sym (close_takes tokens rest found))
    (takes_as (λ xs only. record { value = []; spelled = only.is; stands = none_stand v }) (token_takes (symbol symbols.Close) [] rest))
listed_takes v None tokens found = takes_as (λ xs are. record { value = are.value; spelled = are.spelled; stands = are.stands }) (parameters_take (suc (length tokens)) v tokens)

-- there are more tokens than parameters behind the first
long_enough : (xs more : List Tok) (ys : List (List Tok)) → length ys ≤ length ((xs ++ spell_further ys) ++ more)
long_enough xs more ys = omega (arith, further_long ys, length-append xs (spell_further ys), length-append (xs ++ spell_further ys) more)

listed_fine : (v : Version) (qs : Bindings) (more : List Tok) → AllStand v qs → Fine more (listed_parameters v (spell_listed (map (spell_parameter v) qs) ++ more))
listed_fine v [] more stands = fine_got []
listed_fine v (q ∷ qs) more stands =
    let n : ℕ = length ((spell_parameter v q ++ spell_further (map (spell_parameter v) qs)) ++ more) in
    let counted : length (map (spell_parameter v) qs) ≡ length qs = simp length-map in
    step_fine n v q qs more (All-head (λ (q : Name × NameKind). NameKindInTexts v q.1) q qs stands)
    (further_fine qs n v more (omega (arith, counted, long_enough (spell_parameter v q) more (map (spell_parameter v) qs))) (All-tail (λ (q : Name × NameKind). NameKindInTexts v q.1) q qs stands))

listed_reads : (v : Version) → Reads Anything (ParametersText v) (listed_parameters v)
listed_reads v = record {
  value = [];
  some = record { tokens = symbol symbols.Close ∷ []; are = record { value = []; spelled = refl; stands = none_stand v }; plain = plain_one (symbol symbols.Close) tt };
  takes = λ tokens. listed_takes v (behind_close tokens) tokens refl;
  fine = λ xs more are g. fine_as (listed_parameters v) xs (spell_listed (map (spell_parameter v) are.value)) are.spelled (listed_fine v are.value more are.stands);
}

-- ## Templates

abbrev HeadingText : Version → List Tok → Type 0
HeadingText v = Both (Only (keyword words.Template ∷ [])) (Both NameText (Both Open (ParametersText v)))

heading_reads : (v : Version) → Reads Anything (HeadingText v) (parse_heading v)
unfolding parse_heading
heading_reads v = bind (keyword_reads words.Template (λ more. refl)) (λ _. bind name_reads (λ n. bind opening (λ _. finish (listed_reads v) (λ qs. got_ends (n, qs)))))

abbrev SignatureText : Version → List Tok → Type 0
SignatureText v = Both Colon (Both (TypeText v) (Both Leads (Both (TypeText v) (Only (symbol symbols.Equals ∷ [])))))

signature_reads : (v : Version) → Reads Anything (SignatureText v) (parse_signature v)
unfolding parse_signature
signature_reads v = bind colon (λ _. bind (type_reads v) (λ input. bind leads (λ _. bind (type_reads v) (λ output. finish (symbol_reads symbols.Equals (λ more. refl)) (λ _. got_ends (input, output))))))

pub record TemplateText (v : Version) (xs : List Tok) : Type 0 where
  pub value : Template
  pub spelled : xs ≡ spell_template v value
  pub stands : TemplateInTexts v value

abbrev WholeText : Version → List Tok → Type 0
WholeText v = Both (HeadingText v) (Both (SignatureText v) (Both (TermText v) Semicolon))

template_into : (v : Version) (xs : List Tok) → WholeText v xs → TemplateText v xs
template_into v xs are =
    let heading : HeadingText v are.one = are.first in
    let signature : SignatureText v are.second.one = are.second.first in
    let body : TermText v are.second.second.one = are.second.second.first in
    let t : Template = record { name = heading.second.first.value; parameters = heading.second.second.second.value; input = signature.second.first.value; output = signature.second.second.second.first.value; body = body.value } in
    let one : are.one ≡ spell_heading v t = cc in
    let two : are.second.one ≡ spell_signature v t = cc in
    record {
      value = t;
      spelled = cc;
      stands = record { parameters = heading.second.second.second.stands; input = signature.second.first.stands; output = signature.second.second.second.first.stands; body = body.stands };
    }

heading_is : (v : Version) (t : Template) → TemplateInTexts v t → HeadingText v (spell_heading v t)
heading_is v t stands =
    let last : List Tok = spell_listed (map (spell_parameter v) t.parameters) in
    behind_one (keyword words.Template) (name t.name ∷ symbol symbols.Open ∷ last) (behind (name t.name ∷ []) (symbol symbols.Open ∷ last) (record { value = t.name; spelled = refl })
    (behind_one (symbol symbols.Open) last (record { value = t.parameters; spelled = refl; stands = stands.parameters })))

signature_is : (v : Version) (t : Template) → TemplateInTexts v t → SignatureText v (spell_signature v t)
signature_is v t stands =
    let last : List Tok = spell_type v t.output ++ (symbol symbols.Equals ∷ []) in
    behind_one (symbol symbols.Colon) (spell_type v t.input ++ (symbol symbols.Leads ∷ last)) (behind (spell_type v t.input) (symbol symbols.Leads ∷ last) (record { value = t.input; spelled = refl; stands = stands.input })
    (behind_one (symbol symbols.Leads) last (behind (spell_type v t.output) (symbol symbols.Equals ∷ []) (record { value = t.output; spelled = refl; stands = stands.output }) (record { is = refl }))))

template_back : (v : Version) (t : Template) → TemplateInTexts v t → WholeText v (spell_template v t)
template_back v t stands =
    let last : List Tok = spell_term v t.body ++ (symbol symbols.Semicolon ∷ []) in
    behind (spell_heading v t) (spell_signature v t ++ last) (heading_is v t stands) (behind (spell_signature v t) last (signature_is v t stands)
    (behind (spell_term v t.body) (symbol symbols.Semicolon ∷ []) (record { value = t.body; spelled = refl; stands = stands.body }) (record { is = refl })))

pub template_reads : (v : Version) (c : Counts) → Reads Anything (TemplateText v) (parse_template v c)
unfolding parse_template
template_reads v c =
    reads_as (template_into v) (λ xs are. subst (λ (xs : List Tok). WholeText v xs) (sym are.spelled) (template_back v are.value are.stands))
    (bind (heading_reads v) (λ h. bind (signature_reads v) (λ s. bind (term_reads 64 v c) (λ t. finish semicolon (λ _. got_ends (template_of h s t))))))

abbrev pub OpeningText : List Tok → Type 0
OpeningText = Both (Only (keyword words.Network ∷ [])) (Both VersionText (Only (symbol symbols.Semicolon ∷ [])))

pub opening_reads : Reads Anything OpeningText parse_opening
unfolding parse_opening
opening_reads = bind (keyword_reads words.Network (λ more. refl)) (λ _. bind version_reads (λ v. finish semicolon (λ _. got_ends v)))

-- The readers of tokens, types and patterns, and what they read.
use Rattle.std.proofs.Common.{◌≡◌, ℕ, zero, suc, ◌+◌, Bool, true, false, ℤ, pos, List, [], ◌∷◌, ◌++◌, Option, Some, None, if◌then◌else◌, refl, sym, ◌∙◌, ap, subst}
use Rattle.std.specs.Prelude.{codes}
use Rattle.std.specs.List.{All}
use Rattle.std.specs.Ordering.{int_eq}
use Rattle.std.proofs.lemmas.Bool.Decides.{Decides-int_eq}
use denote.Enum.Bare.{sameb, same_true}
use Rattle.sf_value.specs.Values.{Name, KeyKind, int_keys, text_keys, Kind, unit_kind, bool_kind, int_kind, text_kind, pair_kind, event_kind, table_kind, nodes}
use Rattle.sf_expr.specs.Expressions.{Pattern, unnamed, named, both}
use Rattle.sf_lex.specs.declared.word.Keyword.{Keyword}
use Rattle.sf_lex.specs.declared.word.Keyword.TheVariants as words
use Rattle.sf_lex.specs.declared.symbol.Symbol.{Symbol}
use Rattle.sf_lex.specs.declared.symbol.Symbol.TheVariants as symbols
use Rattle.sf_lex.specs.contracts.Symbol as symbol_type
use Rattle.sf_lex.specs.contracts.Keyword as keyword_type
use Rattle.sf_lex.specs.Tokens.{Tok, keyword, name, number, text, symbol}
use Rattle.sf_refusal.specs.declared.rule.Rule.TheVariants.{Unexpected, Version as NoVersion}
use Rattle.sf_grammar.specs.declared.ty.Version.{Version}
use Rattle.sf_grammar.specs.declared.ty.Version.TheVariants as versions
use Rattle.sf_grammar.specs.declared.ty.TypeHead.{TypeHead}
use Rattle.sf_grammar.specs.declared.ty.TypeHead.TheVariants as type_heads
use Rattle.sf_grammar.specs.declared.head.Link.{Link}
use Rattle.sf_grammar.specs.declared.head.Link.TheVariants as links
use Rattle.sf_grammar.specs.Spelling.{version_number, spell_keys, spell_type, spell_pattern, WritesKeys, WritesType}
use Rattle.sf_grammar.specs.Reading.{Read, got, stop, parse_symbol, parse_keyword, parse_name, parse_number, parse_version, parse_parts, parse_pair_type, type_head, word_kind, parse_keys, parse_outer_type, parse_headed_type, type_from, parse_type_form, begins_type, parse_inner_type, parse_type, link_of, link_read, parse_link, parse_pattern_pair, parse_pattern_form, begins_pattern, parse_pattern}
use Rattle.sf_grammar.proofs.Words.{type_word, type_token, type_head_takes, IsWordKind, word_kind_is, link_token, LinksBetween, link_again, IsLinkToken, link_takes}
use Rattle.sf_place.specs.Places.{IsPlain}
use Rattle.sf_place.proofs.Spells.{plain_none, plain_one, Exists, TakesAt, Fine, fine_got, Reads, Anything, Only, Both, bind, Ends, finish, got_ends, nothing, takes_as, reads_as, behind_token, refused, faulty, token_takes, Begins, begins_with, deep_reads, met_takes, met_fine}

only_exists : (t : Tok) → IsPlain t → Exists (Only (t ∷ []))
only_exists t plain = record { tokens = t ∷ []; are = record { is = refl }; plain = plain_one t plain }

-- what is read of equal tokens
pub fine_as : {A : Type 0} {more : List Tok} (f : List Tok → Read A) (xs ys : List Tok) → xs ≡ ys → Fine more (f (ys ++ more)) → Fine more (f (xs ++ more))
fine_as {more = more} f xs ys same fine = subst (λ (u : List Tok). Fine more (f (u ++ more))) (sym same) fine

-- ## Tokens

symbol_if : (wanted s : Symbol) (u : List Tok) (test : Bool) → sameb symbol_type.the_type s wanted ≡ test → TakesAt (Only (symbol wanted ∷ [])) (if test then got (tt {0}) u else stop Unexpected (symbol s ∷ u)) (symbol s ∷ u)
symbol_if wanted s u true is = subst (λ (w : Symbol). TakesAt (Only (symbol w ∷ [])) (got (tt {0}) u) (symbol s ∷ u)) (same_true symbol_type.the_type tt s wanted is) (token_takes (symbol s) tt u)
symbol_if wanted s u false is = refused (symbol s ∷ u) (only_exists (symbol wanted) tt)

symbol_at : (wanted : Symbol) (tokens : List Tok) → TakesAt (Only (symbol wanted ∷ [])) (parse_symbol wanted tokens) tokens
symbol_at wanted [] = refused [] (only_exists (symbol wanted) tt)
symbol_at wanted (symbol s ∷ u) = symbol_if wanted s u (sameb symbol_type.the_type s wanted) refl
symbol_at wanted (keyword k ∷ u) = refused (keyword k ∷ u) (only_exists (symbol wanted) tt)
symbol_at wanted (name n ∷ u) = refused (name n ∷ u) (only_exists (symbol wanted) tt)
symbol_at wanted (number z ∷ u) = refused (number z ∷ u) (only_exists (symbol wanted) tt)
symbol_at wanted (text s ∷ u) = refused (text s ∷ u) (only_exists (symbol wanted) tt)

pub symbol_reads : {F : List Tok → Type 0} (wanted : Symbol) → ((more : List Tok) → parse_symbol wanted (symbol wanted ∷ more) ≡ got (tt {0}) more) → Reads F (Only (symbol wanted ∷ [])) (parse_symbol wanted)
symbol_reads wanted again = record {
  value = tt;
  some = only_exists (symbol wanted) tt;
  takes = symbol_at wanted;
  fine = λ xs more only g. fine_as (parse_symbol wanted) xs (symbol wanted ∷ []) only.is (subst (λ r. Fine more r) (sym (again more)) (fine_got (tt {0})));
}

keyword_if : (wanted k : Keyword) (u : List Tok) (test : Bool) → sameb keyword_type.the_type k wanted ≡ test → TakesAt (Only (keyword wanted ∷ [])) (if test then got (tt {0}) u else stop Unexpected (keyword k ∷ u)) (keyword k ∷ u)
keyword_if wanted k u true is = subst (λ (w : Keyword). TakesAt (Only (keyword w ∷ [])) (got (tt {0}) u) (keyword k ∷ u)) (same_true keyword_type.the_type tt k wanted is) (token_takes (keyword k) tt u)
keyword_if wanted k u false is = refused (keyword k ∷ u) (only_exists (keyword wanted) tt)

keyword_at : (wanted : Keyword) (tokens : List Tok) → TakesAt (Only (keyword wanted ∷ [])) (parse_keyword wanted tokens) tokens
keyword_at wanted [] = refused [] (only_exists (keyword wanted) tt)
keyword_at wanted (keyword k ∷ u) = keyword_if wanted k u (sameb keyword_type.the_type k wanted) refl
keyword_at wanted (symbol s ∷ u) = refused (symbol s ∷ u) (only_exists (keyword wanted) tt)
keyword_at wanted (name n ∷ u) = refused (name n ∷ u) (only_exists (keyword wanted) tt)
keyword_at wanted (number z ∷ u) = refused (number z ∷ u) (only_exists (keyword wanted) tt)
keyword_at wanted (text s ∷ u) = refused (text s ∷ u) (only_exists (keyword wanted) tt)

pub keyword_reads : {F : List Tok → Type 0} (wanted : Keyword) → ((more : List Tok) → parse_keyword wanted (keyword wanted ∷ more) ≡ got (tt {0}) more) → Reads F (Only (keyword wanted ∷ [])) (parse_keyword wanted)
keyword_reads wanted again = record {
  value = tt;
  some = only_exists (keyword wanted) tt;
  takes = keyword_at wanted;
  fine = λ xs more only g. fine_as (parse_keyword wanted) xs (keyword wanted ∷ []) only.is (subst (λ r. Fine more r) (sym (again more)) (fine_got (tt {0})));
}

pub record NameText (xs : List Tok) : Type 0 where
  pub value : Name
  pub spelled : xs ≡ name value ∷ []

name_exists : Exists NameText
name_exists = record { tokens = name (codes "a") ∷ []; are = record { value = codes "a"; spelled = refl }; plain = plain_one (name (codes "a")) refl }

name_at : (tokens : List Tok) → TakesAt NameText (parse_name tokens) tokens
name_at (name n ∷ u) = takes_as (λ xs only. record { value = n; spelled = only.is }) (token_takes (name n) n u)
name_at tokens = refused tokens name_exists

pub name_reads : {F : List Tok → Type 0} → Reads F NameText parse_name
name_reads = record {
  value = [];
  some = name_exists;
  takes = name_at;
  fine = λ xs more are g. fine_as parse_name xs (name are.value ∷ []) are.spelled (fine_got are.value);
}

pub record NumberText (xs : List Tok) : Type 0 where
  pub value : ℤ
  pub spelled : xs ≡ number value ∷ []

number_exists : Exists NumberText
number_exists = record { tokens = number (pos 1) ∷ []; are = record { value = pos 1; spelled = refl }; plain = plain_one (number (pos 1)) refl }

number_at : (tokens : List Tok) → TakesAt NumberText (parse_number tokens) tokens
number_at (number z ∷ u) = takes_as (λ xs only. record { value = z; spelled = only.is }) (token_takes (number z) z u)
number_at tokens = refused tokens number_exists

pub number_reads : {F : List Tok → Type 0} → Reads F NumberText parse_number
number_reads = record {
  value = pos 0;
  some = number_exists;
  takes = number_at;
  fine = λ xs more are g. fine_as parse_number xs (number are.value ∷ []) are.spelled (fine_got are.value);
}

pub record VersionText (xs : List Tok) : Type 0 where
  pub value : Version
  pub spelled : xs ≡ number (pos (version_number value)) ∷ []

version_exists : Exists VersionText
version_exists = record { tokens = number (pos 1) ∷ []; are = record { value = versions.One; spelled = refl }; plain = plain_one (number (pos 1)) refl }

version_if : (z : ℤ) (u : List Tok) (one two : Bool) → int_eq z (pos 1) ≡ one → int_eq z (pos 2) ≡ two
    → TakesAt VersionText (if one then got versions.One u else if two then got versions.Two u else stop NoVersion (number z ∷ u)) (number z ∷ u)
version_if z u true two is_one is_two = takes_as (λ xs only. record { value = versions.One; spelled = only.is ∙ ap (λ z. number z ∷ []) ((Decides-int_eq z (pos 1)).0 is_one) }) (token_takes (number z) versions.One u)
version_if z u false true is_one is_two = takes_as (λ xs only. record { value = versions.Two; spelled = only.is ∙ ap (λ z. number z ∷ []) ((Decides-int_eq z (pos 2)).0 is_two) }) (token_takes (number z) versions.Two u)
version_if z u false false is_one is_two = faulty NoVersion (number z ∷ u) (number z ∷ u) (λ same. cc)

pub version_at : (tokens : List Tok) → TakesAt VersionText (parse_version tokens) tokens
version_at (number z ∷ u) = version_if z u (int_eq z (pos 1)) (int_eq z (pos 2)) refl refl
version_at tokens = refused tokens version_exists

version_fine : (v : Version) (more : List Tok) → Fine more (parse_version (number (pos (version_number v)) ∷ more))
version_fine versions.One more = fine_got versions.One
version_fine versions.Two more = fine_got versions.Two

pub version_reads : {F : List Tok → Type 0} → Reads F VersionText parse_version
version_reads = record {
  value = versions.One;
  some = version_exists;
  takes = version_at;
  fine = λ xs more are g. fine_as parse_version xs (number (pos (version_number are.value)) ∷ []) are.spelled (version_fine are.value more);
}

pub record LinkText (xs : List Tok) : Type 0 where
  pub value : Link
  pub spelled : xs ≡ link_token value ∷ []
  pub between : LinksBetween value

link_exists : Exists LinkText
link_exists = record { tokens = symbol symbols.Comma ∷ []; are = record { value = links.Pair; spelled = refl; between = tt }; plain = plain_one (symbol symbols.Comma) tt }

link_if : (t : Tok) (u : List Tok) (o : Option Link) → link_of t ≡ o → TakesAt LinkText (link_read o (t ∷ u) u) (t ∷ u)
link_if t u (Some l) found =
    let link : IsLinkToken t l = link_takes t l found in
    takes_as (λ xs only. record { value = l; spelled = only.is ∙ ap (λ t. t ∷ []) link.token; between = link.between }) (token_takes t l u)
link_if t u None found = refused (t ∷ u) link_exists

link_at : (tokens : List Tok) → TakesAt LinkText (parse_link tokens) tokens
link_at [] = refused [] link_exists
link_at (t ∷ u) = link_if t u (link_of t) refl

link_fine : (l : Link) (more : List Tok) → LinksBetween l → Fine more (parse_link (link_token l ∷ more))
link_fine l more between = subst (λ o. Fine more (link_read o (link_token l ∷ more) more)) (sym (link_again l between)) (fine_got l)

pub link_reads : {F : List Tok → Type 0} → Reads F LinkText parse_link
link_reads = record {
  value = links.Pair;
  some = link_exists;
  takes = link_at;
  fine = λ xs more are g. fine_as parse_link xs (link_token are.value ∷ []) are.spelled (link_fine are.value more are.between);
}

-- two parts in brackets, behind the first one
abbrev pub Parts : (L M N : List Tok → Type 0) → List Tok → Type 0
Parts L M N = Both L (Both M (Both N (Only (symbol symbols.Close ∷ []))))

pub parts_read : {A M' B C : Type 0} {F L M N : List Tok → Type 0} {one : List Tok → Read A} {between : List Tok → Read M'} {two : A → List Tok → Read B} {whole : A → M' → B → List Tok → Read C}
    → Reads Anything L one → Reads Anything M between → ((a : A) → Reads Anything N (two a)) → ((a : A) (m : M') (b : B) → Ends (whole a m b)) → Reads F (Parts L M N) (parse_parts one between two whole)
parts_read l m n e = bind l (λ a. bind m (λ i. bind (n a) (λ b. finish (symbol_reads symbols.Close (λ more. refl)) (λ u. e a i b))))

-- two parts are so in brackets
pub parts_are : {L M N : List Tok → Type 0} (xs : List Tok) (m : Tok) (ys : List Tok) → L xs → M (m ∷ []) → N ys → Parts L M N (xs ++ (m ∷ (ys ++ (symbol symbols.Close ∷ []))))
parts_are xs m ys l k n = record {
  one = xs;
  two = m ∷ (ys ++ (symbol symbols.Close ∷ []));
  split = refl;
  first = l;
  second = record {
    one = m ∷ [];
    two = ys ++ (symbol symbols.Close ∷ []);
    split = refl;
    first = k;
    second = record { one = ys; two = symbol symbols.Close ∷ []; split = refl; first = n; second = record { is = refl } };
  };
}

abbrev pub Comma : List Tok → Type 0
Comma = Only (symbol symbols.Comma ∷ [])

pub comma : {F : List Tok → Type 0} → Reads F Comma (parse_symbol symbols.Comma)
comma = symbol_reads symbols.Comma (λ more. refl)

abbrev pub Open : List Tok → Type 0
Open = Only (symbol symbols.Open ∷ [])

pub opening : {F : List Tok → Type 0} → Reads F Open (parse_symbol symbols.Open)
opening = symbol_reads symbols.Open (λ more. refl)

abbrev pub Close : List Tok → Type 0
Close = Only (symbol symbols.Close ∷ [])

pub closing : {F : List Tok → Type 0} → Reads F Close (parse_symbol symbols.Close)
closing = symbol_reads symbols.Close (λ more. refl)

abbrev pub MapsTo : List Tok → Type 0
MapsTo = Only (symbol symbols.MapsTo ∷ [])

pub maps_to : {F : List Tok → Type 0} → Reads F MapsTo (parse_symbol symbols.MapsTo)
maps_to = symbol_reads symbols.MapsTo (λ more. refl)

-- ## Types

pub record KeysText (v : Version) (xs : List Tok) : Type 0 where
  pub value : KeyKind
  pub spelled : xs ≡ spell_keys v value
  pub stands : WritesKeys v value

int_keys_stand : (v : Version) → WritesKeys v int_keys
int_keys_stand versions.One = tt
int_keys_stand versions.Two = tt

keys_exist : (v : Version) → Exists (KeysText v)
keys_exist v = record { tokens = spell_keys v int_keys; are = record { value = int_keys; spelled = refl; stands = int_keys_stand v }; plain = plain v }
  where
    plain : (v : Version) → All IsPlain (spell_keys v int_keys)
    plain versions.One = plain_none
    plain versions.Two = plain_one (keyword words.Int) tt

keys_at : (tokens : List Tok) → TakesAt (KeysText versions.Two) (parse_keys versions.Two tokens) tokens
keys_at (keyword words.Int ∷ u) = takes_as (λ xs only. record { value = int_keys; spelled = only.is; stands = tt }) (token_takes (keyword words.Int) int_keys u)
keys_at (keyword words.Text ∷ u) = takes_as (λ xs only. record { value = text_keys; spelled = only.is; stands = tt }) (token_takes (keyword words.Text) text_keys u)
keys_at tokens = refused tokens (keys_exist versions.Two)

keys_fine : (k : KeyKind) (more : List Tok) → Fine more (parse_keys versions.Two (spell_keys versions.Two k ++ more))
keys_fine int_keys more = fine_got int_keys
keys_fine text_keys more = fine_got text_keys

pub keys_read : {F : List Tok → Type 0} (v : Version) → Reads F (KeysText v) (parse_keys v)
keys_read versions.One = reads_as (λ xs only. record { value = int_keys; spelled = only.is; stands = tt }) (λ xs are. record { is = are.spelled }) (nothing (got_ends int_keys))
keys_read versions.Two = record {
  value = int_keys;
  some = keys_exist versions.Two;
  takes = keys_at;
  fine = λ xs more are g. fine_as (parse_keys versions.Two) xs (spell_keys versions.Two are.value) are.spelled (keys_fine are.value more);
}

pub record TypeText (v : Version) (xs : List Tok) : Type 0 where
  pub value : Kind
  pub spelled : xs ≡ spell_type v value
  pub stands : WritesType v value

pub type_exists : (v : Version) → Exists (TypeText v)
type_exists v = record { tokens = keyword words.Unit ∷ []; are = record { value = unit_kind; spelled = refl; stands = tt }; plain = plain_one (keyword words.Unit) tt }

abbrev TypesRead : Version → (ℕ → List Tok → Read Kind) → Type 0
TypesRead v part = (met : ℕ) → Reads Anything (TypeText v) (part met)

-- the tokens of a type behind its first
abbrev TypeTail : Version → TypeHead → List Tok → Type 0
TypeTail v (type_heads.Word w) = Only []
TypeTail v type_heads.Event = TypeText v
TypeTail v type_heads.Table = Both (KeysText v) (TypeText v)
TypeTail v type_heads.Pair = Parts (TypeText v) Comma (TypeText v)

outer_type_reads : (v : Version) (part : ℕ → List Tok → Read Kind) (whole : Kind → Kind) (met : ℕ) → TypesRead v part → Reads Anything (TypeText v) (parse_outer_type part whole met)
unfolding parse_outer_type
outer_type_reads v part whole met l = finish (l (met + 1)) (λ t. got_ends (whole t))

pair_type_reads : (v : Version) (part : ℕ → List Tok → Read Kind) (met : ℕ) → TypesRead v part → Reads Anything (Parts (TypeText v) Comma (TypeText v)) (parse_pair_type part met)
unfolding parse_pair_type
pair_type_reads v part met l = parts_read (l (met + 1)) comma (λ t. l (met + 1 + nodes t)) (λ t m u. got_ends (pair_kind t u))

headed_type_reads : (v : Version) (part : ℕ → List Tok → Read Kind) (h : TypeHead) (met : ℕ) → TypesRead v part → Reads Anything (TypeTail v h) (parse_headed_type part v h met)
headed_type_reads v part (type_heads.Word w) met l = nothing (got_ends (word_kind w))
headed_type_reads v part type_heads.Event met l = outer_type_reads v part event_kind met l
headed_type_reads v part type_heads.Table met l = bind (keys_read v) (λ k. outer_type_reads v part (table_kind k) met l)
headed_type_reads v part type_heads.Pair met l = pair_type_reads v part met l

type_into : (v : Version) (h : TypeHead) (ys : List Tok) → TypeTail v h ys → TypeText v (type_token h ∷ ys)
type_into v (type_heads.Word w) ys tail =
    let word : IsWordKind v w = word_kind_is v w in
    record { value = word_kind w; spelled = ap (λ r. keyword (type_word w) ∷ r) tail.is ∙ sym word.spelled; stands = word.known }
type_into v type_heads.Event ys tail = record { value = event_kind tail.value; spelled = ap (λ r. keyword words.Event ∷ r) tail.spelled; stands = tail.stands }
type_into v type_heads.Table ys tail = record { value = table_kind tail.first.value tail.second.value; spelled = cc; stands = (tail.first.stands, tail.second.stands) }
type_into v type_heads.Pair ys tail = record { value = pair_kind tail.first.value tail.second.second.first.value; spelled = cc; stands = (tail.first.stands, tail.second.second.first.stands) }

type_from_takes : (v : Version) (part : ℕ → List Tok → Read Kind) (start : List Tok) (met : ℕ) (h : Option TypeHead) (t : Tok) (u : List Tok) → type_head t ≡ h → TypesRead v part
    → TakesAt (TypeText v) (type_from part v start met h (t ∷ u) u) (t ∷ u)
type_from_takes v part start met (Some h) t u found l =
    met_takes met start (t ∷ u) (behind_token t (λ ys tail. subst (λ (t : Tok). TypeText v (t ∷ ys)) (sym (type_head_takes t h found)) (type_into v h ys tail)) ((headed_type_reads v part h met l).takes u))
type_from_takes v part start met None t u found l = refused (t ∷ u) (type_exists v)

type_form_takes : (v : Version) (part : ℕ → List Tok → Read Kind) (start : List Tok) (met : ℕ) (tokens : List Tok) → TypesRead v part → TakesAt (TypeText v) (parse_type_form part v start met tokens) tokens
type_form_takes v part start met [] l = refused [] (type_exists v)
type_form_takes v part start met (t ∷ u) l = type_from_takes v part start met (type_head t) t u refl l

type_form_fine : (v : Version) (part : ℕ → List Tok → Read Kind) (start : List Tok) (met : ℕ) (k : Kind) (more : List Tok) → TypesRead v part → WritesType v k → Fine more (parse_type_form part v start met (spell_type v k ++ more))
type_form_fine v part start met unit_kind more l stands = met_fine met start (fine_got unit_kind)
type_form_fine v part start met bool_kind more l stands = met_fine met start (fine_got bool_kind)
type_form_fine v part start met int_kind more l stands = met_fine met start (fine_got int_kind)
type_form_fine v part start met text_kind more l stands = met_fine met start (fine_got text_kind)
type_form_fine v part start met (event_kind t) more l stands = met_fine met start ((outer_type_reads v part event_kind met l).fine (spell_type v t) more (record { value = t; spelled = refl; stands = stands }) tt)
type_form_fine v part start met (table_kind k t) more l stands =
    met_fine met start ((headed_type_reads v part type_heads.Table met l).fine (spell_keys v k ++ spell_type v t) more
    (record { one = spell_keys v k; two = spell_type v t; split = refl; first = record { value = k; spelled = refl; stands = stands.0 }; second = record { value = t; spelled = refl; stands = stands.1 } }) tt)
type_form_fine v part start met (pair_kind t u) more l stands =
    met_fine met start ((pair_type_reads v part met l).fine (spell_type v t ++ (symbol symbols.Comma ∷ (spell_type v u ++ (symbol symbols.Close ∷ [])))) more
    (parts_are (spell_type v t) (symbol symbols.Comma) (spell_type v u) (record { value = t; spelled = refl; stands = stands.0 }) (record { is = refl }) (record { value = u; spelled = refl; stands = stands.1 })) tt)

type_begins : (v : Version) (xs : List Tok) → TypeText v xs → Begins begins_type xs
type_begins v xs are = subst (λ (xs : List Tok). Begins begins_type xs) (sym are.spelled) (begins v are.value)
  where
    begins : (v : Version) (k : Kind) → Begins begins_type (spell_type v k)
    begins v unit_kind = begins_with (keyword words.Unit) [] refl
    begins v bool_kind = begins_with (keyword words.Bool) [] refl
    begins v int_kind = begins_with (keyword words.Int) [] refl
    begins v text_kind = begins_with (keyword words.Text) [] refl
    begins v (event_kind t) = begins_with (keyword words.Event) (spell_type v t) refl
    begins v (table_kind k t) = begins_with (keyword words.Table) (spell_keys v k ++ spell_type v t) refl
    begins v (pair_kind t u) = begins_with (symbol symbols.Open) (spell_type v t ++ (symbol symbols.Comma ∷ (spell_type v u ++ (symbol symbols.Close ∷ [])))) refl

pub inner_type_reads : (d : ℕ) (v : Version) (start : List Tok) → TypesRead v (parse_inner_type d v start)
unfolding parse_inner_type
inner_type_reads zero v start met = deep_reads begins_type unit_kind (type_exists v) (type_begins v)
inner_type_reads (suc d) v start met = record {
  value = unit_kind;
  some = type_exists v;
  takes = λ tokens. type_form_takes v (parse_inner_type d v start) start met tokens (inner_type_reads d v start);
  fine = λ xs more are g. fine_as (parse_type_form (parse_inner_type d v start) v start met) xs (spell_type v are.value) are.spelled (type_form_fine v (parse_inner_type d v start) start met are.value more (inner_type_reads d v start) are.stands);
}

-- a whole type, of so much depth at most
pub whole_type_reads : {F : List Tok → Type 0} (d : ℕ) (v : Version) → Reads F (TypeText v) (λ u. parse_inner_type d v u 0 u)
whole_type_reads d v = record {
  value = unit_kind;
  some = type_exists v;
  takes = λ tokens. (inner_type_reads d v tokens 0).takes tokens;
  fine = λ xs more are g. (inner_type_reads d v (xs ++ more) 0).fine xs more are tt;
}

pub type_reads : {F : List Tok → Type 0} (v : Version) → Reads F (TypeText v) (parse_type v)
type_reads v = whole_type_reads 64 v

-- ## Patterns

pub record PatternText (xs : List Tok) : Type 0 where
  pub value : Pattern
  pub spelled : xs ≡ spell_pattern value

pattern_exists : Exists PatternText
pattern_exists = record { tokens = keyword words.Underscore ∷ []; are = record { value = unnamed; spelled = refl }; plain = plain_one (keyword words.Underscore) tt }

pattern_pair_reads : (part : List Tok → Read Pattern) → Reads Anything PatternText part → Reads Anything (Parts PatternText Comma PatternText) (parse_pattern_pair part)
unfolding parse_pattern_pair
pattern_pair_reads part l = parts_read l comma (λ p. l) (λ p m q. got_ends (both p q))

pattern_into : (ys : List Tok) → Parts PatternText Comma PatternText ys → PatternText (symbol symbols.Open ∷ ys)
pattern_into ys tail = record { value = both tail.first.value tail.second.second.first.value; spelled = cc }

pattern_form_takes : (part : List Tok → Read Pattern) (tokens : List Tok) → Reads Anything PatternText part → TakesAt PatternText (parse_pattern_form part tokens) tokens
pattern_form_takes part (keyword words.Underscore ∷ u) l = takes_as (λ xs only. record { value = unnamed; spelled = only.is }) (token_takes (keyword words.Underscore) unnamed u)
pattern_form_takes part (name n ∷ u) l = takes_as (λ xs only. record { value = named n; spelled = only.is }) (token_takes (name n) (named n) u)
pattern_form_takes part (symbol symbols.Open ∷ u) l = behind_token (symbol symbols.Open) pattern_into ((pattern_pair_reads part l).takes u)
pattern_form_takes part tokens l = refused tokens pattern_exists

pattern_form_fine : (part : List Tok → Read Pattern) (p : Pattern) (more : List Tok) → Reads Anything PatternText part → Fine more (parse_pattern_form part (spell_pattern p ++ more))
pattern_form_fine part unnamed more l = fine_got unnamed
pattern_form_fine part (named n) more l = fine_got (named n)
pattern_form_fine part (both p q) more l =
    (pattern_pair_reads part l).fine (spell_pattern p ++ (symbol symbols.Comma ∷ (spell_pattern q ++ (symbol symbols.Close ∷ [])))) more
    (parts_are (spell_pattern p) (symbol symbols.Comma) (spell_pattern q) (record { value = p; spelled = refl }) (record { is = refl }) (record { value = q; spelled = refl })) tt

pattern_begins : (xs : List Tok) → PatternText xs → Begins begins_pattern xs
pattern_begins xs are = subst (λ (xs : List Tok). Begins begins_pattern xs) (sym are.spelled) (begins are.value)
  where
    begins : (p : Pattern) → Begins begins_pattern (spell_pattern p)
    begins unnamed = begins_with (keyword words.Underscore) [] refl
    begins (named n) = begins_with (name n) [] refl
    begins (both p q) = begins_with (symbol symbols.Open) (spell_pattern p ++ (symbol symbols.Comma ∷ (spell_pattern q ++ (symbol symbols.Close ∷ [])))) refl

pub pattern_reads : (d : ℕ) → Reads Anything PatternText (parse_pattern d)
unfolding parse_pattern
pattern_reads zero = deep_reads begins_pattern unnamed pattern_exists pattern_begins
pattern_reads (suc d) = record {
  value = unnamed;
  some = pattern_exists;
  takes = λ tokens. pattern_form_takes (parse_pattern d) tokens (pattern_reads d);
  fine = λ xs more are g. fine_as (parse_pattern_form (parse_pattern d)) xs (spell_pattern are.value) are.spelled (pattern_form_fine (parse_pattern d) are.value more (pattern_reads d));
}

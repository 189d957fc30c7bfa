-- What is read at the front of tokens stands there.
use Rattle.std.proofs.Common.{◌≡◌, ℕ, ◌<◌, ◌≤◌, nat_le, nat_lt, Bool, true, false, ℤ, pos, List, [], ◌∷◌, ◌++◌, length, None, if◌then◌else◌, refl, ap, append_assoc, subst, arith}
use Rattle.std.specs.Ordering.{int_eq}
use denote.Enum.Bare.{sameb, same_true}
use Rattle.sf_value.specs.Values.{Name, Kind}
use Rattle.sf_lex.specs.declared.word.Keyword.{Keyword}
use Rattle.sf_lex.specs.declared.symbol.Symbol.{Symbol}
use Rattle.sf_lex.specs.declared.symbol.Symbol.TheVariants as symbols
use Rattle.sf_lex.specs.contracts.Symbol as symbol_type
use Rattle.sf_lex.specs.contracts.Keyword as keyword_type
use Rattle.sf_lex.specs.Tokens.{Tok, keyword, name, number, text, symbol}
use Rattle.sf_refusal.specs.declared.rule.Rule.{Rule}
use Rattle.sf_refusal.specs.declared.rule.Rule.TheVariants.{Unexpected, TooDeep, Version as NoVersion, WrittenTypeTooLarge, TooMany}
use Rattle.std.proofs.lemmas.Bool.{leb-true, le-leb, ltb-true, lt-ltb}
use Rattle.std.proofs.lemmas.Bool.Decides.{Decides-int_eq}
use Rattle.std.proofs.lemmas.List.{length-append}
use Rattle.sf_value.specs.Values.{KeyKind, int_keys, text_keys}
use Rattle.sf_grammar.specs.declared.ty.Version.{Version}
use Rattle.sf_grammar.specs.declared.ty.Version.TheVariants as versions
use Rattle.sf_lex.specs.declared.word.Keyword.TheVariants as words
use Rattle.sf_grammar.specs.Spelling.{in_brackets, spell_expression, spell_further, spell_term, spell_collection, version_number, spell_keys, WritesKeys}
use Rattle.sf_grammar.specs.Reading.{Read, got, stop, ◌and_then◌, parse_symbol, parse_keyword, parse_name, parse_version, parse_keys, parse_separator, Actual, actual_value, actual_process, actual_collection, behind_leads, too_deep, type_met, parse_parts}

-- what was got, and the tokens behind it
pub record Same {A : Type 0} (a b : A) (r s : List Tok) : Type 0 where
  pub value : a ≡ b
  pub rest : r ≡ s

pub got_same : {A : Type 0} (a b : A) (r s : List Tok) → got a r ≡ got b s → Same a b r s
got_same a b r s e = record { value = cc; rest = cc }

-- what two readings one behind the other got
pub bind_got : {A B P : Type 0} (f : A → List Tok → Read B) (first : Read A) (b : B) (rest : List Tok) → first and_then f ≡ got b rest
    → ((a : A) (behind : List Tok) → first ≡ got a behind → f a behind ≡ got b rest → P) → P
bind_got f (got a behind) b rest e then_p = then_p a behind refl e
bind_got f (stop fault at) b rest e then_p = cc

if_got : {A P : Type 0} (test : Bool) (a b : A) (r s at : List Tok) (fault : Rule) → (if test then got a r else stop fault at) ≡ got b s → (test ≡ true → Same a b r s → P) → P
if_got true a b r s at fault e then_p = then_p refl (got_same a b r s e)
if_got false a b r s at fault e then_p = cc

-- a count within the limit
pub within : {A : Type 0} (n : ℕ) (a : A) (start rest : List Tok) → n ≤ 100000 → (if nat_le n 100000 then got a rest else stop TooMany start) ≡ got a rest
within n a start rest h = ap (λ (b : Bool). if b then got a rest else stop TooMany start) (le-leb n 100000 h)

pub symbol_takes : (wanted : Symbol) (tokens : List Tok) (u : Unit {0}) (rest : List Tok) → parse_symbol wanted tokens ≡ got u rest → tokens ≡ symbol wanted ∷ rest
symbol_takes wanted [] u rest e = cc
symbol_takes wanted (keyword k ∷ tokens) u rest e = cc
symbol_takes wanted (name n ∷ tokens) u rest e = cc
symbol_takes wanted (number z ∷ tokens) u rest e = cc
symbol_takes wanted (text s ∷ tokens) u rest e = cc
symbol_takes wanted (symbol s ∷ tokens) u rest e =
    if_got (sameb symbol_type.the_type s wanted) tt u tokens rest (symbol s ∷ tokens) Unexpected e (λ same is.
    let q : s ≡ wanted = same_true symbol_type.the_type tt s wanted same in let r : tokens ≡ rest = is.rest in cc)

pub keyword_takes : (wanted : Keyword) (tokens : List Tok) (u : Unit {0}) (rest : List Tok) → parse_keyword wanted tokens ≡ got u rest → tokens ≡ keyword wanted ∷ rest
keyword_takes wanted [] u rest e = cc
keyword_takes wanted (symbol s ∷ tokens) u rest e = cc
keyword_takes wanted (name n ∷ tokens) u rest e = cc
keyword_takes wanted (number z ∷ tokens) u rest e = cc
keyword_takes wanted (text s ∷ tokens) u rest e = cc
keyword_takes wanted (keyword k ∷ tokens) u rest e =
    if_got (sameb keyword_type.the_type k wanted) tt u tokens rest (keyword k ∷ tokens) Unexpected e (λ same is.
    let q : k ≡ wanted = same_true keyword_type.the_type tt k wanted same in let r : tokens ≡ rest = is.rest in cc)

pub name_takes : (tokens : List Tok) (n : Name) (rest : List Tok) → parse_name tokens ≡ got n rest → tokens ≡ name n ∷ rest
name_takes (name m ∷ tokens) n rest e = let s = got_same m n tokens rest e in cc
name_takes _ n rest e = cc

version_if : (one two : Bool) (z : ℤ) (tokens rest : List Tok) (v : Version) → int_eq z (pos 1) ≡ one → int_eq z (pos 2) ≡ two
    → (if one then got versions.One tokens else if two then got versions.Two tokens else stop NoVersion (number z ∷ tokens)) ≡ got v rest → number z ∷ tokens ≡ number (pos (version_number v)) ∷ rest
version_if true two z tokens rest v is_one is_two e =
    let q : z ≡ pos 1 = (Decides-int_eq z (pos 1)).0 is_one in let s = got_same versions.One v tokens rest e in rw (q, ← s.value, s.rest) refl
version_if false true z tokens rest v is_one is_two e =
    let q : z ≡ pos 2 = (Decides-int_eq z (pos 2)).0 is_two in let s = got_same versions.Two v tokens rest e in rw (q, ← s.value, s.rest) refl
version_if false false z tokens rest v is_one is_two e = cc

pub version_takes : (tokens : List Tok) (v : Version) (rest : List Tok) → parse_version tokens ≡ got v rest → tokens ≡ number (pos (version_number v)) ∷ rest
version_takes (number z ∷ tokens) v rest e = version_if (int_eq z (pos 1)) (int_eq z (pos 2)) z tokens rest v refl refl e
version_takes _ v rest e = cc

-- what stands of the keys of a table
pub record TookKeys (v : Version) (tokens : List Tok) (k : KeyKind) (rest : List Tok) : Type 0 where
  pub spelled : tokens ≡ spell_keys v k ++ rest
  pub known : WritesKeys v k

took_keys_as : (v : Version) (tokens : List Tok) (j k : KeyKind) (r u : List Tok) → got j r ≡ got k u → TookKeys v tokens j r → TookKeys v tokens k u
took_keys_as v tokens j k r u is took =
    let same = got_same j k r u is in
    subst (λ (k : KeyKind). TookKeys v tokens k u) same.value (subst (λ (r : List Tok). TookKeys v tokens j r) same.rest took)

pub keys_takes : (v : Version) (tokens : List Tok) (k : KeyKind) (rest : List Tok) → parse_keys v tokens ≡ got k rest → TookKeys v tokens k rest
keys_takes versions.One tokens k rest e = took_keys_as versions.One tokens int_keys k tokens rest e (record { spelled = refl; known = tt })
keys_takes versions.Two (keyword words.Int ∷ tokens) k rest e = took_keys_as versions.Two (keyword words.Int ∷ tokens) int_keys k tokens rest e (record { spelled = refl; known = tt })
keys_takes versions.Two (keyword words.Text ∷ tokens) k rest e = took_keys_as versions.Two (keyword words.Text ∷ tokens) text_keys k tokens rest e (record { spelled = refl; known = tt })
keys_takes versions.Two _ k rest e = cc

-- a form was read to its end within the limit
pub within_takes : {A P : Type 0} (n : ℕ) (a b : A) (start r s : List Tok) → (if nat_le n 100000 then got a r else stop TooMany start) ≡ got b s
    → (n ≤ 100000 → Same a b r s → P) → P
within_takes n a b start r s e then_p = if_got (nat_le n 100000) a b r s start TooMany e (λ few is. then_p (leb-true n 100000 few) is)

deep_if : {A P : Type 0} (test : Bool) (at : List Tok) (a : A) (rest : List Tok) → (if test then stop TooDeep at else stop Unexpected at) ≡ got a rest → P
deep_if true at a rest e = cc
deep_if false at a rest e = cc

pub deep_takes : {A P : Type 0} (begins : Tok → Bool) (tokens : List Tok) (a : A) (rest : List Tok) → too_deep begins tokens ≡ got a rest → P
deep_takes begins [] a rest e = cc
deep_takes begins (t ∷ tokens) a rest e = deep_if (begins t) (t ∷ tokens) a rest e

-- a type that is not one too many
pub type_within : (met : ℕ) (start : List Tok) (read : Read Kind) → met < 256 → type_met met start read ≡ read
type_within met start read h = ap (λ (b : Bool). if b then read else stop WrittenTypeTooLarge start) (lt-ltb met 256 h)

met_if : {P : Type 0} (test : Bool) (start : List Tok) (read : Read Kind) (k : Kind) (rest : List Tok) → (if test then read else stop WrittenTypeTooLarge start) ≡ got k rest → (test ≡ true → read ≡ got k rest → P) → P
met_if true start read k rest e then_p = then_p refl e
met_if false start read k rest e then_p = cc

pub met_takes : {P : Type 0} (met : ℕ) (start : List Tok) (read : Read Kind) (k : Kind) (rest : List Tok) → type_met met start read ≡ got k rest → (met < 256 → read ≡ got k rest → P) → P
met_takes met start read k rest e then_p = met_if (nat_lt met 256) start read k rest e (λ few is. then_p (ltb-true met 256 few) is)

-- two parts in brackets behind their first bracket, and what is behind them
pub brackets_behind : (xs ys rest : List Tok) (m : Tok) → (xs ++ (m ∷ (ys ++ (symbol symbols.Close ∷ [])))) ++ rest ≡ xs ++ (m ∷ (ys ++ (symbol symbols.Close ∷ rest)))
brackets_behind xs ys rest m = rw (append_assoc xs (m ∷ (ys ++ (symbol symbols.Close ∷ []))) rest, append_assoc ys (symbol symbols.Close ∷ []) rest) refl

-- three parts with tokens between them, and what is behind them
pub three_behind : (xs ys zs rest : List Tok) (s t : Tok) → (xs ++ (s ∷ (ys ++ (t ∷ zs)))) ++ rest ≡ xs ++ (s ∷ (ys ++ (t ∷ (zs ++ rest))))
three_behind xs ys zs rest s t = rw (append_assoc xs (s ∷ (ys ++ (t ∷ zs))) rest, append_assoc ys (t ∷ zs) rest) refl

-- parts that are read again are the parts of a whole
pub parts_again : {A M B C : Type 0} (one : List Tok → Read A) (between : List Tok → Read M) (two : A → List Tok → Read B) (whole : A → M → B → List Tok → Read C)
    (a : A) (m : M) (b : B) (r1 r2 r3 rest : List Tok) → one r1 ≡ got a r2 → between r2 ≡ got m r3 → two a r3 ≡ got b (symbol symbols.Close ∷ rest)
    → parse_parts one between two whole r1 ≡ whole a m b rest
parts_again one between two whole a m b r1 r2 r3 rest e1 e2 e3 = rw (e1, e2, e3) refl

-- a whole that was got had its parts
pub parts_takes : {A M B C P : Type 0} (one : List Tok → Read A) (between : List Tok → Read M) (two : A → List Tok → Read B) (whole : A → M → B → List Tok → Read C)
    (tokens : List Tok) (c : C) (rest : List Tok) → parse_parts one between two whole tokens ≡ got c rest
    → ((a : A) (m : M) (b : B) (r1 r2 r3 r4 : List Tok) → one tokens ≡ got a r1 → between r1 ≡ got m r2 → two a r2 ≡ got b r3 → r3 ≡ symbol symbols.Close ∷ r4 → whole a m b r4 ≡ got c rest → P) → P
parts_takes one between two whole tokens c rest is then_p =
    bind_got (λ a r. between r and_then λ m r. two a r and_then λ b r. parse_symbol symbols.Close r and_then λ _ r. whole a m b r) (one tokens) c rest is (λ a r1 at_a is_a.
    bind_got (λ m r. two a r and_then λ b r. parse_symbol symbols.Close r and_then λ _ r. whole a m b r) (between r1) c rest is_a (λ m r2 at_m is_m.
    bind_got (λ b r. parse_symbol symbols.Close r and_then λ _ r. whole a m b r) (two a r2) c rest is_m (λ b r3 at_b is_b.
    bind_got (λ _ r. whole a m b r) (parse_symbol symbols.Close r3) c rest is_b (λ u r4 closed is_c.
    then_p a m b r1 r2 r3 r4 at_a at_m at_b (symbol_takes symbols.Close r3 u r4 closed) is_c))))

-- two parts that were taken stood in brackets
pub brackets_took : (xs ys tokens r1 r2 r3 rest : List Tok) (m : Tok) → tokens ≡ xs ++ r1 → r1 ≡ m ∷ r2 → r2 ≡ ys ++ r3 → r3 ≡ symbol symbols.Close ∷ rest → symbol symbols.Open ∷ tokens ≡ in_brackets xs m ys ++ rest
brackets_took xs ys tokens r1 r2 r3 rest m a b c d = rw (a, b, c, d, brackets_behind xs ys rest m) refl

-- the token behind a part of a list
abbrev pub separator_token : Bool → Tok
separator_token true = symbol symbols.Comma
separator_token false = symbol symbols.Close

pub separator_takes : (tokens : List Tok) (more : Bool) (rest : List Tok) → parse_separator tokens ≡ got more rest → tokens ≡ separator_token more ∷ rest
separator_takes (symbol symbols.Comma ∷ tokens) more rest e = let s = got_same true more tokens rest e in rw (← s.value, s.rest) refl
separator_takes (symbol symbols.Close ∷ tokens) more rest e = let s = got_same false more tokens rest e in rw (← s.value, s.rest) refl
separator_takes _ more rest e = cc

-- the tokens of an argument
abbrev pub spell_actual : Version → Actual → List Tok
spell_actual v (actual_value e) = spell_expression v e
spell_actual v (actual_process t) = keyword words.SignalFunction ∷ spell_term v t
spell_actual v (actual_collection i) = keyword words.Collection ∷ spell_collection v i

-- no process leads on behind a part of a list
pub no_leads : (xs : List (List Tok)) (rest : List Tok) → behind_leads (spell_further xs ++ rest) ≡ None
no_leads [] rest = refl
no_leads (x ∷ xs) rest = refl

-- there are at least as many tokens as parts
pub further_long : (xs : List (List Tok)) → length xs ≤ length (spell_further xs)
further_long [] = omega arith
further_long (x ∷ xs) = omega (arith, further_long xs, length-append x (spell_further xs))

-- Parts of lists, appended one after another.
use Rattle.std.proofs.Common.{◌≡◌, ℕ, zero, suc, ◌+◌, ◌<◌, List, [], ◌∷◌, ◌++◌, length, ◌-◌, take, drop, get_or, map, refl, sym, ap, ◌∙◌, append_assoc, arith}
use Rattle.std.specs.List.{flat_map}
use Rattle.std.proofs.lemmas.List.{take_all, append-nil}
use Rattle.sf_lex.specs.declared.symbol.Symbol.TheVariants as symbols
use Rattle.sf_lex.specs.Tokens.{Tok, symbol}
use Rattle.sf_term.specs.declared.node.Argument.{Argument}
use Rattle.sf_term.specs.declared.node.Argument.TheVariants as arguments
use Rattle.sf_term.specs.declared.program.Program.{Program}
use Rattle.sf_term.specs.Headers.{Header}
use Rattle.sf_term.specs.Parameters.{PlacedParameter, parameters_of, binding_of}
use Rattle.sf_term.specs.Arena.{arguments_of, term_template}
use Rattle.sf_grammar.specs.declared.ty.Version.{Version}
use Rattle.sf_grammar.specs.Spelling.{spell_listed, spell_further, spell_arguments, spell_parameter, spell_template, spell_templates}
use Rattle.sf_print.specs.Arguments.{spell_argument}
use Rattle.sf_print.specs.Drafts.{Front, append_token, append_tokens}
use Rattle.sf_print.proofs.Putting.{tokens_apart}

-- parts, each behind a comma
abbrev pub separated : List (List Tok) → List Tok
separated [] = []
separated (x ∷ xs) = symbol symbols.Comma ∷ (x ++ separated xs)

-- further parts are those, and a closing bracket
pub further_is : (xs : List (List Tok)) → spell_further xs ≡ separated xs ++ symbol symbols.Close ∷ []
further_is [] = refl
further_is (x ∷ xs) = ap (λ ts. symbol symbols.Comma ∷ (x ++ ts)) (further_is xs) ∙ ap (λ ts. symbol symbols.Comma ∷ ts) (sym (append_assoc x (separated xs) (symbol symbols.Close ∷ [])))

-- one part more
one_more : {A : Type 0} (f : A → List Tok) (xs : List A) (i : ℕ) (z : A) → i < length xs → separated (map f (take (suc i) xs)) ≡ separated (map f (take i xs)) ++ (symbol symbols.Comma ∷ f (get_or xs i z))
one_more f [] i z h = absurd (omega arith)
one_more f (x ∷ xs) zero z h = ap (λ ts. symbol symbols.Comma ∷ ts) (append-nil (f x))
one_more f (x ∷ xs) (suc i) z h =
    ap (λ ts. symbol symbols.Comma ∷ (f x ++ ts)) (one_more f xs i z (omega arith)) ∙ ap (λ ts. symbol symbols.Comma ∷ ts) (sym (append_assoc (f x) (separated (map f (take i xs))) (symbol symbols.Comma ∷ f (get_or xs i z))))

-- a comma and a part more are appended
pub part_more : {A : Type 0} (f : A → List Tok) (xs : List A) (i : ℕ) (z : A) (old here there new : Front) → i < length xs
    → here ≡ append_tokens old (separated (map f (take i xs))) → there ≡ append_token here (symbol symbols.Comma) → new ≡ append_tokens there (f (get_or xs i z))
    → new ≡ append_tokens old (separated (map f (take (i + 1) xs)))
part_more f xs i z old here there new h a b c =
    let one : i + 1 ≡ suc i = omega arith in
    c ∙ ap (λ d. append_tokens d (f (get_or xs i z))) (b ∙ ap (λ d. append_token d (symbol symbols.Comma)) a)
    ∙ sym (tokens_apart old (separated (map f (take i xs))) (symbol symbols.Comma ∷ f (get_or xs i z)))
    ∙ ap (append_tokens old) (sym (one_more f xs i z h)) ∙ ap (λ n. append_tokens old (separated (map f (take n xs)))) (sym one)

-- all parts and the closing bracket are appended
pub parts_end : {A : Type 0} (f : A → List Tok) (xs : List A) (i : ℕ) (old here new : Front) → length xs ≡ i
    → here ≡ append_tokens old (separated (map f (take i xs))) → new ≡ append_token here (symbol symbols.Close) → new ≡ append_tokens old (spell_further (map f xs))
parts_end f xs i old here new h a b =
    b ∙ ap (λ d. append_token d (symbol symbols.Close)) (a ∙ ap (λ ys. append_tokens old (separated (map f ys))) (take_all i xs (omega arith)))
    ∙ sym (tokens_apart old (separated (map f xs)) (symbol symbols.Close ∷ [])) ∙ ap (append_tokens old) (sym (further_is (map f xs)))

-- the arguments of a call are spelled one by one
pub arguments_map : (v : Version) (p : Program) (vs : List Argument) → spell_arguments v (arguments_of p vs) ≡ map (spell_argument v p) vs
arguments_map v p [] = refl
arguments_map v p (arguments.Value e ∷ vs) = ap (λ xs. spell_argument v p (arguments.Value e) ∷ xs) (arguments_map v p vs)
arguments_map v p (arguments.Process t ∷ vs) = ap (λ xs. spell_argument v p (arguments.Process t) ∷ xs) (arguments_map v p vs)
arguments_map v p (arguments.Collection c ∷ vs) = ap (λ xs. spell_argument v p (arguments.Collection c) ∷ xs) (arguments_map v p vs)

-- the first part, further ones and the closing bracket are appended
pub listed_end : {A : Type 0} (f : A → List Tok) (xs : List A) (z : A) (old here new : Front) → 0 < length xs
    → here ≡ append_tokens old (f (get_or xs 0 z)) → new ≡ append_tokens here (spell_further (map f (take (length xs - 1) (drop 1 xs)))) → new ≡ append_tokens old (spell_listed (map f xs))
listed_end f [] z old here new h a b = absurd (omega arith)
listed_end f (x ∷ xs) z old here new h a b =
    let all : take (suc (length xs) - 1) xs ≡ xs = take_all (suc (length xs) - 1) xs (omega arith) in
    b ∙ ap (λ ys. append_tokens here (spell_further (map f ys))) all ∙ ap (λ d. append_tokens d (spell_further (map f xs))) a
    ∙ sym (tokens_apart old (f x) (spell_further (map f xs)))

-- parameters are spelled without their places
pub parameters_map : (v : Version) (qs : List PlacedParameter) → map (spell_parameter v) (parameters_of qs) ≡ map (λ (q : PlacedParameter). spell_parameter v (binding_of q)) qs
parameters_map v [] = refl
parameters_map v (q ∷ qs) = ap (λ xs. spell_parameter v (binding_of q) ∷ xs) (parameters_map v qs)

-- one template more
grown : {A : Type 0} (f : A → List Tok) (xs : List A) (i : ℕ) (z : A) → i < length xs → flat_map f (take (suc i) xs) ≡ flat_map f (take i xs) ++ f (get_or xs i z)
grown f [] i z h = absurd (omega arith)
grown f (x ∷ xs) zero z h = append-nil (f x)
grown f (x ∷ xs) (suc i) z h = ap (λ l. f x ++ l) (grown f xs i z (omega arith)) ∙ sym (append_assoc (f x) (flat_map f (take i xs)) (f (get_or xs i z)))

-- a template more is appended
pub template_more : {A : Type 0} (f : A → List Tok) (xs : List A) (i : ℕ) (z : A) (old here new : Front) → i < length xs
    → here ≡ append_tokens old (flat_map f (take i xs)) → new ≡ append_tokens here (f (get_or xs i z)) → new ≡ append_tokens old (flat_map f (take (i + 1) xs))
template_more f xs i z old here new h a b =
    let one : i + 1 ≡ suc i = omega arith in
    b ∙ ap (λ d. append_tokens d (f (get_or xs i z))) a ∙ sym (tokens_apart old (flat_map f (take i xs)) (f (get_or xs i z)))
    ∙ ap (append_tokens old) (sym (grown f xs i z h)) ∙ ap (λ n. append_tokens old (flat_map f (take n xs))) (sym one)

-- all templates are appended
pub templates_end : (v : Version) (p : Program) (hs : List Header) (i : ℕ) (old here : Front) → length hs ≡ i
    → here ≡ append_tokens old (flat_map (λ (h : Header). spell_template v (term_template p h)) (take i hs)) → here ≡ append_tokens old (spell_templates v (map (term_template p) hs))
templates_end v p hs i old here e a = a ∙ ap (λ ys. append_tokens old (flat_map (λ (h : Header). spell_template v (term_template p h)) ys)) (take_all i hs (omega arith)) ∙ ap (append_tokens old) (each hs)
  where
    each : (ys : List Header) → flat_map (λ (h : Header). spell_template v (term_template p h)) ys ≡ spell_templates v (map (term_template p) ys)
    each [] = refl
    each (y ∷ ys) = ap (λ l. spell_template v (term_template p y) ++ l) (each ys)

-- The parts of lists in brackets, read one behind the other.
use Rattle.std.proofs.Common.{◌≡◌, ◌≢◌, ℕ, zero, suc, ◌+◌, ◌<◌, Bool, true, false, List, [], ◌∷◌, ◌++◌, length, map, Result, Ok, Err, refl, sym, ◌∙◌, ap, append_assoc, subst, arith}
use mathlib.Core.Path.{ap₂}
use Rattle.std.specs.List.{All}
use Rattle.std.specs.Result.{IsErrAnd}
use Rattle.std.specs.Prelude.{Vec}
use Rattle.std.specs.declared.alloc.Global.{Global}
use Rattle.std.proofs.lemmas.List.{length-append, length-map, map-append}
use Rattle.std.proofs.lemmas.List.Elements.{All-append, All-cons, All-nil, All-head, All-tail}
use Rattle.sf_refusal.specs.declared.spot.Spot.{Spot}
use Rattle.sf_lex.specs.Words.{IsName}
use Rattle.sf_lex.specs.Tokens.{Tok}
use Rattle.sf_lex.specs.declared.token.PlacedToken.{PlacedToken}
use Rattle.sf_term.specs.declared.node.Argument.{Argument}
use Rattle.sf_term.specs.declared.node.Argument.TheVariants as arguments
use Rattle.sf_term.specs.declared.program.Program.{Program}
use Rattle.sf_term.specs.Parameters.{PlacedParameter, Bindings, binding_of, parameters_of}
use Rattle.sf_term.specs.Names.{AreNamed}
use Rattle.sf_term.specs.Trees.{Arguments, no_arguments, terms_in_arguments, expressions_in_arguments}
use Rattle.sf_term.specs.Arena.{HoldsArgument, arguments_of, term_count, expression_count, ExtendsProgram}
use Rattle.sf_term.proofs.Extended.{keeps_trans, collection_at_kept}
use Rattle.sf_grammar.specs.declared.ty.Version.{Version}
use Rattle.sf_grammar.specs.Reading.{Read, got, stop, ◌and_then◌, Counts, Actual, actual_value, actual_process, actual_collection, leading_actual, counts_with_actual, further_from, parse_further, parse_separator, parse_parameter, parse_parameters, parse_argument, parse_arguments, parse_term, parse_collection}
use Rattle.sf_grammar.specs.Placing.{ParameterPlaced, EachParameterPlaced, no_parameter_placed, parameter_placed, ArgumentPlaced, EachArgumentPlaced, no_argument_placed, argument_placed}
use Rattle.sf_text.specs.declared.parts.stop.Stop.{Stop}
use Rattle.sf_text.specs.declared.parts.stop.Stop.TheVariants.{At, Memory}
use Rattle.sf_text.specs.declared.parts.cursor.Cursor.{Cursor}
use Rattle.sf_text.specs.declared.parts.reader.Reader.{Reader}
use Rattle.sf_text.specs.Parsing.Answers.{StopsReading, ReadsAs, toks, ahead, counts_of}
use Rattle.sf_text.specs.Parsing.Consuming.{places, spots_ahead, BehindOne, Consumes}
use Rattle.sf_text.specs.Answers.{actual_of, FoundArgument, FoundArguments, ReadsArguments}
use Rattle.sf_text.proofs.Parsing.Found.{keeps_self}
use Rattle.sf_text.proofs.Placed.{each_argument_keeps}

-- reading that stops within a part stops within the whole
stops_within : {A B : Type 0} (e : Stop) (part : Read A) (f : A → List Tok → Read B) → StopsReading e part → StopsReading e (part and_then f)
stops_within (At fault left) part f s = record { at = s.at; is = rw s.is refl; counted = s.counted }
stops_within Memory part f s = tt

-- what a `?` returns where reading stopped
pub stopped_as : {X A : Type 0} (view : X → A) (answer : Result X Stop) (new : Cursor) (e : Stop) (read : Read A) → IsErrAnd answer (λ f. f ≡ e) → StopsReading e read → ReadsAs view answer new read
stopped_as view (Ok x) new e read is stops = absurd is
stopped_as view (Err f) new e read is stops = subst (λ (e : Stop). StopsReading e read) (sym is) stops

pub arguments_stopped_as : (old new : Reader) (answer : Result (Vec Argument Global) Stop) (e : Stop) (read : Read Arguments) → IsErrAnd answer (λ f. f ≡ e) → StopsReading e read → ReadsArguments old new answer read
arguments_stopped_as old new (Ok x) e read is stops = absurd is
arguments_stopped_as old new (Err f) e read is stops = subst (λ (e : Stop). StopsReading e read) (sym is) stops

-- behind a part and one token there are fewer tokens
fewer_behind : {P : List Spot → Type 0} (r0 r1 r2 : List PlacedToken) → Consumes P (places r0) (places r1) → BehindOne (places r1) (places r2) → length (toks r2) < length (toks r0)
fewer_behind r0 r1 r2 part behind =
    let a : length (toks r0) ≡ length (places r0) = simp length-map in
    let b : length (toks r2) ≡ length (places r2) = simp length-map in
    let c : length (places r0) ≡ length part.front + length (places r1) = ap length part.split ∙ length-append part.front (places r1) in
    let d : length (places r1) ≡ suc (length (places r2)) = ap length behind.split in
    omega arith

-- a part of a list and the token behind it
part_consumed : {P Q R : List Spot → Type 0} {tokens rest r1 r2 : List Spot} → Consumes P tokens rest → Consumes Q rest r1 → (b : BehindOne r1 r2) → ((xs ys : List Spot) → P xs → Q ys → R (xs ++ (ys ++ (b.at ∷ [])))) → Consumes R tokens r2
part_consumed {r2 = r2} c d b f = record {
  front = c.front ++ (d.front ++ (b.at ∷ []));
  split = rw (c.split, d.split, b.split, append_assoc c.front (d.front ++ (b.at ∷ [])) r2, append_assoc d.front (b.at ∷ []) r2) refl;
  holds = f c.front d.front c.holds d.holds;
}

nothing_consumed : {P : List Spot → Type 0} (tokens : List Spot) → P [] → Consumes P tokens tokens
nothing_consumed tokens h = record { front = []; split = refl; holds = h }

-- further parameters behind these
abbrev parameters_behind : Bindings → Read Bindings → Read Bindings
parameters_behind ps read = read and_then λ qs rest. got (ps ++ qs) rest

behind_none : (read : Read Bindings) → read ≡ parameters_behind [] read
behind_none (got qs rest) = refl
behind_none (stop fault at) = refl

behind_more : (ps : Bindings) (q : _) (read : Read Bindings) → parameters_behind ps (read and_then λ qs rest. got (q ∷ qs) rest) ≡ parameters_behind (ps ++ q ∷ []) read
behind_more ps q (got qs rest) = ap (λ (bs : Bindings). got bs rest) (sym (append_assoc ps (q ∷ []) qs))
behind_more ps q (stop fault at) = refl

-- these parameters were read and further ones follow, so many at most; or they are all
abbrev ParametersSo : Version → List Tok → ℕ → Bindings → Bool → List Tok → Type 0
ParametersSo v tokens n ps true rest = parse_parameters (suc (length tokens)) v tokens ≡ parameters_behind ps (parse_parameters n v rest)
ParametersSo v tokens n ps false rest = parse_parameters (suc (length tokens)) v tokens ≡ got ps rest

parameters_so_more : (v : Version) (tokens rest r1 r2 : List Tok) (n : ℕ) (ps : Bindings) (q : _) (more : Bool) → ParametersSo v tokens (suc n) ps true rest
    → parse_parameter v rest ≡ got q r1 → parse_separator r1 ≡ got more r2 → ParametersSo v tokens n (ps ++ q ∷ []) more r2
unfolding parse_parameters
parameters_so_more v tokens rest r1 r2 n ps q true so one separator = so ∙ rw (one, separator) (behind_more ps q (parse_parameters n v r2))
parameters_so_more v tokens rest r1 r2 n ps q false so one separator = so ∙ rw (one, separator) refl

-- parameters were read from the first of the tokens on, and whether further ones follow
pub record ReadParameters (v : Version) (tokens : List PlacedToken) (ps : List PlacedParameter) (more : Bool) (rest : List Tok) (spots : List Spot) : Type 0 where
  pub most : ℕ
  pub so : ParametersSo v (toks tokens) most (parameters_of ps) more rest
  pub enough : length rest < most
  pub named : AreNamed ps
  pub some : more ≡ false → ps ≢ []
  pub placed : Consumes (EachParameterPlaced v ps) (places tokens) spots

pub no_parameters_read : (v : Version) (tokens : List PlacedToken) → ReadParameters v tokens [] true (toks tokens) (places tokens)
no_parameters_read v tokens =
    record {
      most = suc (length (toks tokens));
      so = behind_none (parse_parameters (suc (length (toks tokens))) v (toks tokens));
      enough = omega arith;
      named = All-nil (λ (q : PlacedParameter). IsName q.name);
      some = λ same. cc;
      placed = nothing_consumed (places tokens) no_parameter_placed;
    }

each_parameter_more : (v : Version) (ps : List PlacedParameter) (q : PlacedParameter) (xs ys : List Spot) (at : Spot) → EachParameterPlaced v ps xs → ParameterPlaced v q ys → EachParameterPlaced v (ps ++ q ∷ []) (xs ++ (ys ++ (at ∷ [])))
each_parameter_more v ps q xs ys at no_parameter_placed one = parameter_placed at one no_parameter_placed
each_parameter_more v ps q xs ys at (parameter_placed {qs = qs} {xs = front} {ys = behind} separator first others) one =
    subst (EachParameterPlaced v _) (sym (append_assoc front (separator ∷ behind) (ys ++ (at ∷ [])))) (parameter_placed separator first (each_parameter_more v qs q behind ys at others one))

not_none : {A : Type 0} (xs : List A) (x : A) → xs ++ x ∷ [] ≢ []
not_none [] x same = cc
not_none (y ∷ ys) x same = cc

-- one parameter more
parameter_more : (v : Version) (tokens : List PlacedToken) (rest r1 r2 : List Tok) (s0 s1 s2 : List Spot) (ps : List PlacedParameter) (q : PlacedParameter) (more : Bool) → ReadParameters v tokens ps true rest s0
    → parse_parameter v rest ≡ got (binding_of q) r1 → IsName q.name → Consumes (ParameterPlaced v q) s0 s1 → parse_separator r1 ≡ got more r2 → BehindOne s1 s2 → length r2 < length rest → ReadParameters v tokens (ps ++ q ∷ []) more r2 s2
parameter_more v tokens rest r1 r2 s0 s1 s2 ps q more read one named placed separator behind shorter = from read.most read.so read.enough
  where
    from : (n : ℕ) → ParametersSo v (toks tokens) n (parameters_of ps) true rest → length rest < n → ReadParameters v tokens (ps ++ q ∷ []) more r2 s2
    from zero so enough = absurd (omega arith)
    from (suc n) so enough = record {
      most = n;
      so = subst (λ (bs : Bindings). ParametersSo v (toks tokens) n bs more r2) (sym (map-append binding_of ps (q ∷ []))) (parameters_so_more v (toks tokens) rest r1 r2 n (parameters_of ps) (binding_of q) more so one separator);
      enough = omega arith;
      named = All-append (λ (q : PlacedParameter). IsName q.name) ps (q ∷ []) read.named (All-cons (λ (q : PlacedParameter). IsName q.name) q [] named (All-nil (λ (q : PlacedParameter). IsName q.name)));
      some = λ _. not_none ps q;
      placed = part_consumed read.placed placed behind (λ xs ys x y. each_parameter_more v ps q xs ys behind.at x y);
    }

parameter_stops_so : (v : Version) (n : ℕ) (e : Stop) (rest : List Tok) → StopsReading e (parse_parameter v rest) → StopsReading e (parse_parameters (suc n) v rest)
unfolding parse_parameters
parameter_stops_so v n e rest stops = stops_within e (parse_parameter v rest) (λ q rest. parse_further [] (parse_parameters n v) rest and_then λ qs rest. got (q ∷ qs) rest) stops

-- reading stops within a further parameter
pub parameter_stops : (v : Version) (tokens : List PlacedToken) (rest : List Tok) (spots : List Spot) (ps : List PlacedParameter) (e : Stop) → ReadParameters v tokens ps true rest spots
    → StopsReading e (parse_parameter v rest) → StopsReading e (parse_parameters (suc (length (toks tokens))) v (toks tokens))
parameter_stops v tokens rest spots ps e read stops = from read.most read.so read.enough
  where
    from : (n : ℕ) → ParametersSo v (toks tokens) n (parameters_of ps) true rest → length rest < n → StopsReading e (parse_parameters (suc (length (toks tokens))) v (toks tokens))
    from zero so enough = absurd (omega arith)
    from (suc n) so enough = subst (λ (r : Read Bindings). StopsReading e r) (sym so) (stops_within e (parse_parameters (suc n) v rest) (λ qs rest. got (parameters_of ps ++ qs) rest) (parameter_stops_so v n e rest stops))

parameter_stops_behind : (v : Version) (n : ℕ) (e : Stop) (rest r1 : List Tok) (q : _) → parse_parameter v rest ≡ got q r1 → StopsReading e (parse_separator r1) → StopsReading e (parse_parameters (suc n) v rest)
unfolding parse_parameters
parameter_stops_behind v n e rest r1 q one stops = rw one (stops_within e (parse_further [] (parse_parameters n v) r1) (λ qs rest. got (q ∷ qs) rest) (stops_within e (parse_separator r1) (λ more rest. further_from [] (parse_parameters n v) more rest) stops))

-- reading stops behind a further parameter
pub parameter_separator_stops : (v : Version) (tokens : List PlacedToken) (rest r1 : List Tok) (spots : List Spot) (ps : List PlacedParameter) (q : _) (e : Stop) → ReadParameters v tokens ps true rest spots
    → parse_parameter v rest ≡ got q r1 → StopsReading e (parse_separator r1) → StopsReading e (parse_parameters (suc (length (toks tokens))) v (toks tokens))
parameter_separator_stops v tokens rest r1 spots ps q e read one stops = from read.most read.so read.enough
  where
    from : (n : ℕ) → ParametersSo v (toks tokens) n (parameters_of ps) true rest → length rest < n → StopsReading e (parse_parameters (suc (length (toks tokens))) v (toks tokens))
    from zero so enough = absurd (omega arith)
    from (suc n) so enough = subst (λ (r : Read Bindings). StopsReading e r) (sym so) (stops_within e (parse_parameters (suc n) v rest) (λ qs rest. got (parameters_of ps ++ qs) rest) (parameter_stops_behind v n e rest r1 q one stops))

-- further ones follow
pub parameters_go_on : {v : Version} {tokens : List PlacedToken} {ps : List PlacedParameter} {more : Bool} {rest : List Tok} {spots : List Spot} → more ≡ true → ReadParameters v tokens ps more rest spots → ReadParameters v tokens ps true rest spots
parameters_go_on {v} {tokens} {ps} {more} {rest} {spots} going read = subst (λ (m : Bool). ReadParameters v tokens ps m rest spots) going read

-- one parameter more, up to these tokens
pub next_parameter : (v : Version) (tokens r0 r1 r2 : List PlacedToken) (ps : List PlacedParameter) (q : PlacedParameter) (more : Bool) → ReadParameters v tokens ps true (toks r0) (places r0)
    → parse_parameter v (toks r0) ≡ got (binding_of q) (toks r1) → IsName q.name → Consumes (ParameterPlaced v q) (places r0) (places r1)
    → parse_separator (toks r1) ≡ got more (toks r2) → BehindOne (places r1) (places r2) → ReadParameters v tokens (ps ++ q ∷ []) more (toks r2) (places r2)
next_parameter v tokens r0 r1 r2 ps q more read one named placed separator behind =
    parameter_more v tokens (toks r0) (toks r1) (toks r2) (places r0) (places r1) (places r2) ps q more read one named placed separator behind (fewer_behind r0 r1 r2 placed behind)

-- these arguments in front of others
abbrev arguments_before : List Actual → Arguments → Arguments
arguments_before [] vs = vs
arguments_before (a ∷ bs) vs = leading_actual a (arguments_before bs vs)

before_more : (bs : List Actual) (a : Actual) (vs : Arguments) → arguments_before (bs ++ a ∷ []) vs ≡ arguments_before bs (leading_actual a vs)
before_more [] a vs = refl
before_more (b ∷ bs) a vs = ap (leading_actual b) (before_more bs a vs)

terms_with : (a : Actual) (vs : Arguments) → terms_in_arguments (leading_actual a vs) ≡ terms_in_arguments (leading_actual a no_arguments) + terms_in_arguments vs
terms_with (actual_value e) vs = omega arith
terms_with (actual_process t) vs = omega arith
terms_with (actual_collection i) vs = omega arith

expressions_with : (a : Actual) (vs : Arguments) → expressions_in_arguments (leading_actual a vs) ≡ expressions_in_arguments (leading_actual a no_arguments) + expressions_in_arguments vs
expressions_with (actual_value e) vs = omega arith
expressions_with (actual_process t) vs = omega arith
expressions_with (actual_collection i) vs = omega arith

terms_before : (bs : List Actual) (vs : Arguments) → terms_in_arguments (arguments_before bs vs) ≡ terms_in_arguments (arguments_before bs no_arguments) + terms_in_arguments vs
terms_before [] vs = omega arith
terms_before (b ∷ bs) vs = omega (arith, terms_with b (arguments_before bs vs), terms_with b (arguments_before bs no_arguments), terms_before bs vs)

expressions_before : (bs : List Actual) (vs : Arguments) → expressions_in_arguments (arguments_before bs vs) ≡ expressions_in_arguments (arguments_before bs no_arguments) + expressions_in_arguments vs
expressions_before [] vs = omega arith
expressions_before (b ∷ bs) vs = omega (arith, expressions_with b (arguments_before bs vs), expressions_with b (arguments_before bs no_arguments), expressions_before bs vs)

counts_same : (c k : Counts) → c.terms ≡ k.terms → c.expressions ≡ k.expressions → c ≡ k
counts_same c k terms expressions = ap₂ (λ (m n : ℕ). record { terms = m; expressions = n }) terms expressions

-- how many terms and expressions a program has with an argument
counts_behind : (one two : Program) (a : Actual) → term_count two ≡ term_count one + terms_in_arguments (leading_actual a no_arguments) → expression_count two ≡ expression_count one + expressions_in_arguments (leading_actual a no_arguments)
    → counts_of two ≡ counts_with_actual (counts_of one) a
counts_behind one two (actual_value e) terms expressions = counts_same (counts_of two) (counts_with_actual (counts_of one) (actual_value e)) (omega (arith, terms)) (omega (arith, expressions))
counts_behind one two (actual_process t) terms expressions = counts_same (counts_of two) (counts_with_actual (counts_of one) (actual_process t)) (omega (arith, terms)) (omega (arith, expressions))
counts_behind one two (actual_collection i) terms expressions = counts_same (counts_of two) (counts_with_actual (counts_of one) (actual_collection i)) (omega (arith, terms)) (omega (arith, expressions))

-- further arguments behind these
abbrev arguments_behind : List Actual → Read Arguments → Read Arguments
arguments_behind bs read = read and_then λ vs rest. got (arguments_before bs vs) rest

none_behind : (read : Read Arguments) → read ≡ arguments_behind [] read
none_behind (got vs rest) = refl
none_behind (stop fault at) = refl

more_behind : (bs : List Actual) (a : Actual) (read : Read Arguments) → arguments_behind bs (read and_then λ vs rest. got (leading_actual a vs) rest) ≡ arguments_behind (bs ++ a ∷ []) read
more_behind bs a (got vs rest) = ap (λ (vs : Arguments). got vs rest) (sym (before_more bs a vs))
more_behind bs a (stop fault at) = refl

-- these arguments were read and further ones follow, so many at most; or they are all
abbrev ArgumentsSo : Version → ℕ → Counts → Counts → List Tok → ℕ → List Actual → Bool → List Tok → Type 0
ArgumentsSo v d c k tokens n bs true rest = parse_arguments (suc (length tokens)) d v (parse_term d v) (parse_collection d v) c tokens ≡ arguments_behind bs (parse_arguments n d v (parse_term d v) (parse_collection d v) k rest)
ArgumentsSo v d c k tokens n bs false rest = parse_arguments (suc (length tokens)) d v (parse_term d v) (parse_collection d v) c tokens ≡ got (arguments_before bs no_arguments) rest

arguments_so_more : (v : Version) (d : ℕ) (c k : Counts) (tokens rest r1 r2 : List Tok) (n : ℕ) (bs : List Actual) (a : Actual) (more : Bool) → ArgumentsSo v d c k tokens (suc n) bs true rest
    → parse_argument d v (parse_term d v) (parse_collection d v) k rest ≡ got a r1 → parse_separator r1 ≡ got more r2 → ArgumentsSo v d c (counts_with_actual k a) tokens n (bs ++ a ∷ []) more r2
unfolding parse_arguments
arguments_so_more v d c k tokens rest r1 r2 n bs a true so one separator = so ∙ rw (one, separator) (more_behind bs a (parse_arguments n d v (parse_term d v) (parse_collection d v) (counts_with_actual k a) r2))
arguments_so_more v d c k tokens rest r1 r2 n bs a false so one separator = so ∙ rw (one, separator) (ap (λ (vs : Arguments). got vs r2) (sym (before_more bs a no_arguments)))

-- arguments were read into the program from the first of the tokens on, and whether further ones follow
pub record ReadArguments (v : Version) (d : ℕ) (old new : Program) (tokens : List PlacedToken) (bs : List Argument) (more : Bool) (rest : List Tok) (spots : List Spot) : Type 0 where
  pub most : ℕ
  pub values : List Actual
  pub same : map (actual_of new) bs ≡ values
  pub so : ArgumentsSo v d (counts_of old) (counts_of new) (toks tokens) most values more rest
  pub enough : length rest < most
  pub some : more ≡ false → bs ≢ []
  pub held : All (HoldsArgument new) bs
  pub kept : ExtendsProgram old new
  pub terms : term_count new ≡ term_count old + terms_in_arguments (arguments_before values no_arguments)
  pub expressions : expression_count new ≡ expression_count old + expressions_in_arguments (arguments_before values no_arguments)
  pub placed : Consumes (EachArgumentPlaced v new bs) (places tokens) spots

pub no_arguments_read : (v : Version) (d : ℕ) (p : Program) (tokens : List PlacedToken) → ReadArguments v d p p tokens [] true (toks tokens) (places tokens)
no_arguments_read v d p tokens =
    record {
      most = suc (length (toks tokens));
      values = [];
      same = refl;
      so = none_behind (parse_arguments (suc (length (toks tokens))) d v (parse_term d v) (parse_collection d v) (counts_of p) (toks tokens));
      enough = omega arith;
      some = λ same. cc;
      held = All-nil (HoldsArgument p);
      kept = keeps_self p;
      terms = omega arith;
      expressions = omega arith;
      placed = nothing_consumed (places tokens) no_argument_placed;
    }

-- what arguments name stays as it was
argument_stays : (one two : Program) → ExtendsProgram one two → (b : Argument) → HoldsArgument one b → HoldsArgument two b × (actual_of two b ≡ actual_of one b)
argument_stays one two k (arguments.Value e) held = (k.trees.expressions e held, ap actual_value (k.trees.values e held))
argument_stays one two k (arguments.Process t) held = (k.trees.terms t held, ap actual_process (k.trees.trees t held))
argument_stays one two k (arguments.Collection i) held =
    let stays = collection_at_kept one two i k.trees held in
    (stays.1, ap actual_collection stays.0)

record ArgumentsStay (one two : Program) (bs : List Argument) : Type 0 where
  pub held : All (HoldsArgument two) bs
  pub same : map (actual_of two) bs ≡ map (actual_of one) bs

arguments_stay : (one two : Program) → ExtendsProgram one two → (bs : List Argument) → All (HoldsArgument one) bs → ArgumentsStay one two bs
arguments_stay one two k [] held = record { held = All-nil (HoldsArgument two); same = refl }
arguments_stay one two k (b ∷ bs) held =
    let first = argument_stays one two k b (All-head (HoldsArgument one) b bs held) in
    let others = arguments_stay one two k bs (All-tail (HoldsArgument one) b bs held) in
    record { held = All-cons (HoldsArgument two) b bs first.0 others.held; same = ap₂ (λ (a : Actual) (others : List Actual). a ∷ others) first.1 others.same }

each_argument_more : (v : Version) (p : Program) (bs : List Argument) (b : Argument) (xs ys : List Spot) (at : Spot) → EachArgumentPlaced v p bs xs → ArgumentPlaced v p b ys → EachArgumentPlaced v p (bs ++ b ∷ []) (xs ++ (ys ++ (at ∷ [])))
each_argument_more v p bs b xs ys at no_argument_placed one = argument_placed at one no_argument_placed
each_argument_more v p bs b xs ys at (argument_placed {bs = cs} {xs = front} {ys = behind} separator first others) one =
    subst (EachArgumentPlaced v p _) (sym (append_assoc front (separator ∷ behind) (ys ++ (at ∷ [])))) (argument_placed separator first (each_argument_more v p cs b behind ys at others one))

-- one argument more
argument_more : (v : Version) (d : ℕ) (old one two : Program) (tokens : List PlacedToken) (rest r1 r2 : List Tok) (s0 s1 s2 : List Spot) (bs : List Argument) (b : Argument) (more : Bool) → ReadArguments v d old one tokens bs true rest s0
    → FoundArgument one two b r1 (parse_argument d v (parse_term d v) (parse_collection d v) (counts_of one) rest) → Consumes (ArgumentPlaced v two b) s0 s1
    → parse_separator r1 ≡ got more r2 → BehindOne s1 s2 → length r2 < length rest → ReadArguments v d old two tokens (bs ++ b ∷ []) more r2 s2
argument_more v d old one two tokens rest r1 r2 s0 s1 s2 bs b more read f placed separator behind shorter = from read.most read.so read.enough
  where
    stay : ArgumentsStay one two bs
    stay = arguments_stay one two f.kept bs read.held

    before_terms : terms_in_arguments (arguments_before (read.values ++ f.value ∷ []) no_arguments) ≡ terms_in_arguments (arguments_before read.values no_arguments) + terms_in_arguments (leading_actual f.value no_arguments)
    before_terms = ap terms_in_arguments (before_more read.values f.value no_arguments) ∙ terms_before read.values (leading_actual f.value no_arguments)

    before_expressions : expressions_in_arguments (arguments_before (read.values ++ f.value ∷ []) no_arguments) ≡ expressions_in_arguments (arguments_before read.values no_arguments) + expressions_in_arguments (leading_actual f.value no_arguments)
    before_expressions = ap expressions_in_arguments (before_more read.values f.value no_arguments) ∙ expressions_before read.values (leading_actual f.value no_arguments)

    from : (n : ℕ) → ArgumentsSo v d (counts_of old) (counts_of one) (toks tokens) n read.values true rest → length rest < n → ReadArguments v d old two tokens (bs ++ b ∷ []) more r2 s2
    from zero so enough = absurd (omega arith)
    from (suc n) so enough = record {
      most = n;
      values = read.values ++ f.value ∷ [];
      same = map-append (actual_of two) bs (b ∷ []) ∙ ap₂ (λ (xs : List Actual) (x : Actual). xs ++ x ∷ []) (stay.same ∙ read.same) f.same;
      so = subst (λ (k : Counts). ArgumentsSo v d (counts_of old) k (toks tokens) n (read.values ++ f.value ∷ []) more r2) (sym (counts_behind one two f.value f.terms f.expressions))
          (arguments_so_more v d (counts_of old) (counts_of one) (toks tokens) rest r1 r2 n read.values f.value more so f.is separator);
      enough = omega arith;
      some = λ _. not_none bs b;
      held = All-append (HoldsArgument two) bs (b ∷ []) stay.held (All-cons (HoldsArgument two) b [] f.held (All-nil (HoldsArgument two)));
      kept = keeps_trans old one two read.kept f.kept;
      terms = omega (arith, read.terms, f.terms, before_terms);
      expressions = omega (arith, read.expressions, f.expressions, before_expressions);
      placed = part_consumed read.placed placed behind (λ xs ys x y. each_argument_more v two bs b xs ys behind.at (each_argument_keeps v one two f.kept.trees bs xs x) y);
    }

argument_stops_so : (v : Version) (d n : ℕ) (c : Counts) (e : Stop) (rest : List Tok) → StopsReading e (parse_argument d v (parse_term d v) (parse_collection d v) c rest) → StopsReading e (parse_arguments (suc n) d v (parse_term d v) (parse_collection d v) c rest)
unfolding parse_arguments
argument_stops_so v d n c e rest stops = stops_within e (parse_argument d v (parse_term d v) (parse_collection d v) c rest) (λ a rest. parse_further no_arguments (parse_arguments n d v (parse_term d v) (parse_collection d v) (counts_with_actual c a)) rest and_then λ vs rest. got (leading_actual a vs) rest) stops

-- reading stops within a further argument
pub argument_stops : (v : Version) (d : ℕ) (old one : Program) (tokens : List PlacedToken) (rest : List Tok) (spots : List Spot) (bs : List Argument) (e : Stop) → ReadArguments v d old one tokens bs true rest spots
    → StopsReading e (parse_argument d v (parse_term d v) (parse_collection d v) (counts_of one) rest) → StopsReading e (parse_arguments (suc (length (toks tokens))) d v (parse_term d v) (parse_collection d v) (counts_of old) (toks tokens))
argument_stops v d old one tokens rest spots bs e read stops = from read.most read.so read.enough
  where
    from : (n : ℕ) → ArgumentsSo v d (counts_of old) (counts_of one) (toks tokens) n read.values true rest → length rest < n → StopsReading e (parse_arguments (suc (length (toks tokens))) d v (parse_term d v) (parse_collection d v) (counts_of old) (toks tokens))
    from zero so enough = absurd (omega arith)
    from (suc n) so enough = subst (λ (r : Read Arguments). StopsReading e r) (sym so) (stops_within e (parse_arguments (suc n) d v (parse_term d v) (parse_collection d v) (counts_of one) rest) (λ vs rest. got (arguments_before read.values vs) rest) (argument_stops_so v d n (counts_of one) e rest stops))

argument_stops_behind : (v : Version) (d n : ℕ) (c : Counts) (e : Stop) (rest r1 : List Tok) (a : Actual) → parse_argument d v (parse_term d v) (parse_collection d v) c rest ≡ got a r1 → StopsReading e (parse_separator r1) → StopsReading e (parse_arguments (suc n) d v (parse_term d v) (parse_collection d v) c rest)
unfolding parse_arguments
argument_stops_behind v d n c e rest r1 a is stops = rw is (stops_within e (parse_further no_arguments (parse_arguments n d v (parse_term d v) (parse_collection d v) (counts_with_actual c a)) r1) (λ vs rest. got (leading_actual a vs) rest)
    (stops_within e (parse_separator r1) (λ more rest. further_from no_arguments (parse_arguments n d v (parse_term d v) (parse_collection d v) (counts_with_actual c a)) more rest) stops))

-- reading stops behind a further argument
pub argument_separator_stops : (v : Version) (d : ℕ) (old one : Program) (tokens : List PlacedToken) (rest r1 : List Tok) (spots : List Spot) (bs : List Argument) (a : Actual) (e : Stop) → ReadArguments v d old one tokens bs true rest spots
    → parse_argument d v (parse_term d v) (parse_collection d v) (counts_of one) rest ≡ got a r1 → StopsReading e (parse_separator r1) → StopsReading e (parse_arguments (suc (length (toks tokens))) d v (parse_term d v) (parse_collection d v) (counts_of old) (toks tokens))
argument_separator_stops v d old one tokens rest r1 spots bs a e read is stops = from read.most read.so read.enough
  where
    from : (n : ℕ) → ArgumentsSo v d (counts_of old) (counts_of one) (toks tokens) n read.values true rest → length rest < n → StopsReading e (parse_arguments (suc (length (toks tokens))) d v (parse_term d v) (parse_collection d v) (counts_of old) (toks tokens))
    from zero so enough = absurd (omega arith)
    from (suc n) so enough = subst (λ (r : Read Arguments). StopsReading e r) (sym so) (stops_within e (parse_arguments (suc n) d v (parse_term d v) (parse_collection d v) (counts_of one) rest) (λ vs rest. got (arguments_before read.values vs) rest) (argument_stops_behind v d n (counts_of one) e rest r1 a is stops))

-- further ones follow
pub arguments_go_on : {v : Version} {d : ℕ} {old new : Program} {tokens : List PlacedToken} {bs : List Argument} {more : Bool} {rest : List Tok} {spots : List Spot} → more ≡ true
    → ReadArguments v d old new tokens bs more rest spots → ReadArguments v d old new tokens bs true rest spots
arguments_go_on {v} {d} {old} {new} {tokens} {bs} {more} {rest} {spots} going read = subst (λ (m : Bool). ReadArguments v d old new tokens bs m rest spots) going read

-- one argument more, up to these tokens
pub next_argument : (v : Version) (d : ℕ) (old : Program) (tokens : List PlacedToken) (now after : Reader) (behind : Cursor) (bs : List Argument) (b : Argument) (more : Bool)
    → ReadArguments v d old now.program tokens bs true (ahead now.cursor) (spots_ahead now.cursor)
    → FoundArgument now.program after.program b (ahead after.cursor) (parse_argument d v (parse_term d v) (parse_collection d v) (counts_of now.program) (ahead now.cursor)) → Consumes (ArgumentPlaced v after.program b) (spots_ahead now.cursor) (spots_ahead after.cursor)
    → parse_separator (ahead after.cursor) ≡ got more (ahead behind) → BehindOne (spots_ahead after.cursor) (spots_ahead behind) → ReadArguments v d old after.program tokens (bs ++ b ∷ []) more (ahead behind) (spots_ahead behind)
next_argument v d old tokens now after behind bs b more read found placed separator one =
    argument_more v d old now.program after.program tokens (ahead now.cursor) (ahead after.cursor) (ahead behind) (spots_ahead now.cursor) (spots_ahead after.cursor) (spots_ahead behind) bs b more read
    found placed separator one (fewer_behind now.cursor.tokens.now after.cursor.tokens.now behind.tokens.now placed one)

arguments_so : (p : Program) (bs : List Argument) → arguments_of p bs ≡ arguments_before (map (actual_of p) bs) no_arguments
arguments_so p [] = refl
arguments_so p (arguments.Value e ∷ bs) = ap (leading_actual (actual_of p (arguments.Value e))) (arguments_so p bs)
arguments_so p (arguments.Process t ∷ bs) = ap (leading_actual (actual_of p (arguments.Process t))) (arguments_so p bs)
arguments_so p (arguments.Collection i ∷ bs) = ap (leading_actual (actual_of p (arguments.Collection i))) (arguments_so p bs)

-- all arguments were read
pub record AllArguments (v : Version) (d : ℕ) (old new : Program) (tokens : List PlacedToken) (bs : List Argument) (rest : List PlacedToken) : Type 0 where
  pub found : FoundArguments old new bs (toks rest) (parse_arguments (suc (length (toks tokens))) d v (parse_term d v) (parse_collection d v) (counts_of old) (toks tokens))
  pub some : bs ≢ []
  pub placed : Consumes (EachArgumentPlaced v new bs) (places tokens) (places rest)

pub all_arguments : (v : Version) (d : ℕ) (old new : Program) (tokens : List PlacedToken) (bs : List Argument) (more : Bool) (rest : List PlacedToken) → more ≡ false → ReadArguments v d old new tokens bs more (toks rest) (places rest) → AllArguments v d old new tokens bs rest
all_arguments v d old new tokens bs true rest done read = absurd cc
all_arguments v d old new tokens bs false rest done read = record {
  found = record {
    value = arguments_before read.values no_arguments;
    is = read.so;
    held = read.held;
    same = arguments_so new bs ∙ ap (λ (cs : List Actual). arguments_before cs no_arguments) read.same;
    kept = read.kept;
    terms = read.terms;
    expressions = read.expressions;
  };
  some = read.some refl;
  placed = read.placed;
}

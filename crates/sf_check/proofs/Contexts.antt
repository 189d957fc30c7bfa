-- What stands around terms: names with their types, and the processes that others stand for.
use Rattle.std.proofs.Common.{◌≡◌, ℕ, ◌+◌, ◌<◌, length, get_or, drop, All, Bool, true, false, cond, List, [], ◌∷◌, ◌++◌, Option, Some, None, Result, Ok, Err, IfOk, OnOk, IfErr, Bor, refl, ap, ◌∙◌, subst, sym}
use Rattle.std.specs.Prelude.{⊤, bytes_eq}
use Rattle.std.proofs.lemmas.List.{drop_more, map-append}
use Rattle.std.proofs.lemmas.List.Elements.{All-cons}
use Rattle.std.proofs.lemmas.Option.{same_Some}
use Rattle.sf_value.specs.Values.{Name, KeyKind, Kind}
use Rattle.sf_value.specs.declared.ty.KeyType.{KeyType}
use Rattle.sf_value.specs.KindView.{key_kind_of}
use Rattle.sf_refusal.specs.declared.spot.Spot.{Spot}
use Rattle.sf_refusal.specs.declared.refusal.Refusal.{Refusal}
use Rattle.sf_refusal.specs.Refusals.{OrMemory, because, no_memory}
use Rattle.sf_operator.specs.Kinds.{found_then}
use Rattle.sf_func.specs.Registries.{TypesByName}
use Rattle.sf_expr.specs.Expressions.{Pattern}
use Rattle.sf_expr.specs.Patterns.{PlacedPattern, pattern_of}
use Rattle.sf_expr.specs.declared.frame.Frame.{Frame}
use Rattle.sf_expr.specs.declared.meaning.Meaning.{Meaning}
use Rattle.sf_expr.specs.declared.meaning.Meaning.TheVariants.{Process, Collection}
use Rattle.sf_expr.specs.Meanings.{Meant, of_value, of_process, of_collection, meant, Entries, found_in, value_names}
use Rattle.sf_expr.specs.Scopes.{frame_entries}
use Rattle.sf_expr.specs.Refusals.{PatternRefused}
use Rattle.sf_expr.specs.Judging.{judged_binding, Stops}
use Rattle.sf_expr.specs.Typing.{Names, only_functions, typed_name, untyped_name, names_and_functions, AddsNames, adds_nothing, adds_name, adds_both, Binds}
use Rattle.sf_expr.proofs.Bound.{binds_with, bound_within}
use Rattle.sf_term.specs.Parameters.{PlacedParameter, binding_of, parameters_of}
use Rattle.sf_term.specs.Trees.{Templates}
use Rattle.sf_mean.specs.Contexts.{NameKind, value, process, collection, types_of_process, process_named, types_of_collection, collection_named, Bindings, parameters_inside, outer_context, bound_values, bindings_inside, inside_pattern, inside_process, inside_collection}
use Rattle.sf_mean.specs.Typing.{ParameterFits}
use Rattle.sf_check.specs.Standing.{kind_meant, bindings_from, inside_names, kind_named, BindsInside}

-- expressions are typed under the names and the functions that a context has
pub names_seen_through : (fs : TypesByName) (es : Entries) → bound_values fs (bindings_from es) ≡ names_and_functions fs (value_names es)
names_seen_through fs [] = refl
names_seen_through fs (e ∷ es) = each e.1 (names_seen_through fs es)
  where
    each : (m : Meant) → bound_values fs (bindings_from es) ≡ names_and_functions fs (value_names es) → bound_values fs (bindings_from ((e.0, m) ∷ es)) ≡ names_and_functions fs (value_names ((e.0, m) ∷ es))
    each (of_value t) rest = ap (typed_name e.0 t) rest
    each (of_process a b) rest = ap (untyped_name e.0) rest
    each (of_collection k a b) rest = ap (untyped_name e.0) rest

-- names inside others
pub names_inside : (fs : TypesByName) (ts : Templates) (names : Frame) (es gs : Entries) → gs ≡ frame_entries names ++ es → outer_context fs (bindings_from gs) ts ≡ inside_names names (outer_context fs (bindings_from es) ts)
names_inside fs ts names es gs more = ap (λ bs. outer_context fs bs ts) (ap bindings_from more ∙ map-append (λ (e : Name × Meant). (e.0, kind_meant e.1)) (frame_entries names) es)

-- inside a name alone
name_inside : (fs : TypesByName) (ts : Templates) (es : Entries) (names : Frame) (m : Meant) {x y : Name} {none : Entries} → y ≡ x → none ≡ [] → frame_entries names ≡ (y, m) ∷ none → inside_names names (outer_context fs (bindings_from es) ts) ≡ outer_context fs ((x, kind_meant m) ∷ bindings_from es) ts
name_inside fs ts es names m {x} {y} {none} same end is =
    ap (λ ns. outer_context fs (bindings_from ns ++ bindings_from es) ts) (is ∙ ap (λ ns. (y, m) ∷ ns) end ∙ ap (λ (z : Name). (z, m) ∷ []) same)

pub process_inside : (fs : TypesByName) (ts : Templates) (es : Entries) (names : Frame) (a b : Kind) {x y : Name} {none : Entries} → y ≡ x → none ≡ [] → frame_entries names ≡ (y, of_process a b) ∷ none → inside_names names (outer_context fs (bindings_from es) ts) ≡ inside_process x a b (outer_context fs (bindings_from es) ts)
process_inside fs ts es names a b same end is = name_inside fs ts es names (of_process a b) same end is

pub collection_inside : (fs : TypesByName) (ts : Templates) (es : Entries) (names : Frame) (k : KeyKind) (a b : Kind) {x y : Name} {none : Entries} → y ≡ x → none ≡ [] → frame_entries names ≡ (y, of_collection k a b) ∷ none → inside_names names (outer_context fs (bindings_from es) ts) ≡ inside_collection x k a b (outer_context fs (bindings_from es) ts)
collection_inside fs ts es names k a b same end is = name_inside fs ts es names (of_collection k a b) same end is

-- ## Patterns

-- names with types before others
abbrev pub values_over : Names → Entries → Entries
values_over (only_functions fs) es = es
values_over (typed_name x t R) es = (x, of_value t) ∷ values_over R es
values_over (untyped_name x R) es = values_over R es

-- names that a pattern adds are those that it has inside
bindings_added : (es : Entries) {p : Pattern} {t : Kind} {R S : Names} → AddsNames p t R S → bindings_from (values_over S es) ≡ bindings_inside p t (bindings_from (values_over R es))
bindings_added es adds_nothing = refl
bindings_added es adds_name = refl
bindings_added es (adds_both {q = q} {u = u} A B) = bindings_added es B ∙ ap (bindings_inside q u) (bindings_added es A)

-- a pattern's names stand for values
abbrev pub OnlyTyped : Names → Type 0
OnlyTyped (only_functions fs) = ⊤
OnlyTyped (typed_name x t R) = OnlyTyped R
OnlyTyped (untyped_name x R) = ⊥

only_typed : {p : Pattern} {t : Kind} {R S : Names} → AddsNames p t R S → OnlyTyped R → OnlyTyped S
only_typed adds_nothing h = h
only_typed adds_name h = h
only_typed (adds_both A B) h = only_typed B (only_typed A h)

typed_over : (vs es : Entries) → OnlyTyped (value_names vs) → vs ++ es ≡ values_over (value_names vs) es
typed_over [] es h = refl
typed_over (v ∷ vs) es h = each v.1 h (typed_over vs es)
  where
    each : (m : Meant) → OnlyTyped (value_names ((v.0, m) ∷ vs)) → (OnlyTyped (value_names vs) → vs ++ es ≡ values_over (value_names vs) es) → (v.0, m) ∷ (vs ++ es) ≡ values_over (value_names ((v.0, m) ∷ vs)) es
    each (of_value t) h rest = ap (λ ns. (v.0, of_value t) ∷ ns) (rest h)
    each (of_process a b) h rest = absurd h
    each (of_collection k a b) h rest = absurd h

module _ (fs : TypesByName) (ts : Templates) (es : Entries) {q : PlacedPattern} {p : PlacedPattern} (placed : q ≡ p) (t : Kind) where
  names_bound : (vs : Entries) → Binds (pattern_of q) t (only_functions []) (value_names vs) → bindings_from vs ++ bindings_from es ≡ bindings_inside (pattern_of p) t (bindings_from es)
  names_bound vs B =
      sym (map-append (λ (e : Name × Meant). (e.0, kind_meant e.1)) vs es) ∙ ap bindings_from (typed_over vs es (only_typed B.adds tt)) ∙ bindings_added es B.adds ∙ ap (λ p. bindings_inside (pattern_of p) t (bindings_from es)) placed

  pub pattern_inside : {E : Type 0} (r : Result Frame E) → IfOk r (λ names. Binds (pattern_of q) t (only_functions []) (value_names (frame_entries names))) → IfOk r (λ names. inside_names names (outer_context fs (bindings_from es) ts) ≡ inside_pattern (pattern_of p) t (outer_context fs (bindings_from es) ts))
  pattern_inside (Ok names) B = ap (λ bs. outer_context fs bs ts) (names_bound (frame_entries names) B)
  pattern_inside (Err e) B = tt

  pub pattern_bound : {E : Type 0} (r : Result Frame E) → IfOk r (λ names. Binds (pattern_of q) t (only_functions []) (value_names (frame_entries names))) → OnOk r (BindsInside (pattern_of p) t (outer_context fs (bindings_from es) ts))
  pattern_bound (Ok names) B =
      let vs = frame_entries names in
      let inner : names_and_functions fs (value_names (vs ++ es)) ≡ bound_values fs (bindings_inside (pattern_of p) t (bindings_from es)) =
      sym (names_seen_through fs (vs ++ es)) ∙ ap (bound_values fs) (map-append (λ (e : Name × Meant). (e.0, kind_meant e.1)) vs es ∙ names_bound vs B) in
      let under : Binds (pattern_of q) t (names_and_functions fs (value_names es)) (names_and_functions fs (value_names (vs ++ es))) = binds_with fs (bound_within vs es (vs ++ es) refl B) in
      subst (λ p. Binds (pattern_of p) t (bound_values fs (bindings_from es)) (bound_values fs (bindings_inside (pattern_of p) t (bindings_from es)))) placed
      (subst (λ S. Binds (pattern_of q) t (bound_values fs (bindings_from es)) S) (inner ∙ ap (λ p. bound_values fs (bindings_inside (pattern_of p) t (bindings_from es))) (sym placed))
      (subst (λ R. Binds (pattern_of q) t R (names_and_functions fs (value_names (vs ++ es)))) (sym (names_seen_through fs es)) under))
  pattern_bound (Err e) B = tt

pub pattern_wrong : {q p : PlacedPattern} (placed : q ≡ p) (t : Kind) (at : Spot) {A : Type 0} (r : Result A Refusal) → IfErr r (OrMemory (PatternRefused q t at)) → IfErr r (OrMemory (PatternRefused p t at))
pattern_wrong placed t at (Ok names) h = tt
pattern_wrong placed t at (Err e) h = subst (λ p. OrMemory (PatternRefused p t at) e) placed h

pub pattern_stops : (p : PlacedPattern) (t : Kind) (at : Spot) (R : Names) (e : Refusal) → OrMemory (PatternRefused p t at) e → Stops e (judged_binding at p t R)
pattern_stops p t at R e (because h) = h.first R
pattern_stops p t at R e no_memory = tt

-- ## What names stand for

abbrev pub kind_found : Option Meant → Option NameKind
kind_found None = None
kind_found (Some m) = Some (kind_meant m)

named_among : (x : Name) (es : Entries) → kind_named x (bindings_from es) ≡ kind_found (found_in x es)
named_among x [] = refl
named_among x (e ∷ es) = each (bytes_eq x e.0) (named_among x es)
  where
    each : (b : Bool) → kind_named x (bindings_from es) ≡ kind_found (found_in x es) → cond b (Some (kind_meant e.1)) (kind_named x (bindings_from es)) ≡ kind_found (cond b (Some e.1) (found_in x es))
    each true rest = refl
    each false rest = rest

module _ (es : Entries) {x y : Name} (same : y ≡ x) where
  pub stands_as : {o : Option Meant} → found_in y es ≡ o → kind_named x (bindings_from es) ≡ kind_found o
  stands_as found = named_among x es ∙ ap (λ z. kind_found (found_in z es)) (sym same) ∙ ap kind_found found

  pub stands_for : {m : Meaning} (n : Meaning) → m ≡ n → found_in y es ≡ Some (meant m) → kind_named x (bindings_from es) ≡ Some (kind_meant (meant n))
  stands_for n is found = stands_as found ∙ ap (λ m. Some (kind_meant (meant m))) is

  pub collection_found : {m : Meaning} {k : KeyType} {a b : Bor Kind} → m ≡ Collection k a b → found_in y es ≡ Some (meant m) → kind_named x (bindings_from es) ≡ Some (collection (key_kind_of k) a.now b.now)
  collection_found {k = k} {a = a} {b = b} is found = stands_for (Collection k a b) is found

  pub process_found : {m : Meaning} {a b : Bor Kind} → m ≡ Process a b → found_in y es ≡ Some (meant m) → kind_named x (bindings_from es) ≡ Some (process a.now b.now)
  process_found is found = stands_as found ∙ ap (λ m. Some (kind_meant (meant m))) is

-- the types of the process of a name are those that it stands for
found_process : (x : Name) (bs : Bindings) → process_named x bs ≡ found_then (kind_named x bs) types_of_process
found_process x [] = refl
found_process x (b ∷ bs) = each (bytes_eq x b.0) (found_process x bs)
  where
    each : (c : Bool) → process_named x bs ≡ found_then (kind_named x bs) types_of_process → cond c (types_of_process b.1) (process_named x bs) ≡ found_then (cond c (Some b.1) (kind_named x bs)) types_of_process
    each true rest = refl
    each false rest = rest

pub process_is : (x : Name) (bs : Bindings) {a b : Kind} → kind_named x bs ≡ Some (process a b) → process_named x bs ≡ Some (a, b)
process_is x bs h = found_process x bs ∙ ap (λ o. found_then o types_of_process) h

pub is_process : (x : Name) (bs : Bindings) {a b : Kind} → process_named x bs ≡ Some (a, b) → kind_named x bs ≡ Some (process a b)
is_process x bs {a} {b} h = each (kind_named x bs) refl (sym (found_process x bs) ∙ h)
  where
    each : (o : Option NameKind) → kind_named x bs ≡ o → found_then o types_of_process ≡ Some (a, b) → o ≡ Some (process a b)
    each None e h = absurd cc
    each (Some (value t)) e h = absurd cc
    each (Some (process c d)) e h = ap (λ (k : Kind × Kind). Some (process k.0 k.1)) (same_Some (c, d) (a, b) h)
    each (Some (collection k c d)) e h = absurd cc

-- the same of a collection
found_collection : (x : Name) (bs : Bindings) → collection_named x bs ≡ found_then (kind_named x bs) types_of_collection
found_collection x [] = refl
found_collection x (b ∷ bs) = each (bytes_eq x b.0) (found_collection x bs)
  where
    each : (c : Bool) → collection_named x bs ≡ found_then (kind_named x bs) types_of_collection → cond c (types_of_collection b.1) (collection_named x bs) ≡ found_then (cond c (Some b.1) (kind_named x bs)) types_of_collection
    each true rest = refl
    each false rest = rest

pub collection_is : (x : Name) (bs : Bindings) {k : KeyKind} {a b : Kind} → kind_named x bs ≡ Some (collection k a b) → collection_named x bs ≡ Some (k, a, b)
collection_is x bs h = found_collection x bs ∙ ap (λ o. found_then o types_of_collection) h

pub is_collection : (x : Name) (bs : Bindings) {k : KeyKind} {a b : Kind} → collection_named x bs ≡ Some (k, a, b) → kind_named x bs ≡ Some (collection k a b)
is_collection x bs {k} {a} {b} h = each (kind_named x bs) refl (sym (found_collection x bs) ∙ h)
  where
    each : (o : Option NameKind) → kind_named x bs ≡ o → found_then o types_of_collection ≡ Some (k, a, b) → o ≡ Some (collection k a b)
    each None e h = absurd cc
    each (Some (value t)) e h = absurd cc
    each (Some (process c d)) e h = absurd cc
    each (Some (collection l c d)) e h = ap (λ (t : KeyKind × Kind × Kind). Some (collection t.0 t.1 t.2)) (same_Some (l, c, d) (k, a, b) h)

-- ## Parameters

-- the parameters from one on
module _ (qs : List PlacedParameter) (i : ℕ) (q : PlacedParameter) (within : i < length qs) (is : q ≡ get_or qs i q) where
  here : drop i qs ≡ q ∷ drop (i + 1) qs
  here = drop_more qs i q within ∙ ap (λ q. q ∷ drop (i + 1) qs) (sym is)

  pub one_inside : {bs cs ds : Bindings} → cs ≡ binding_of q ∷ bs → parameters_inside (parameters_of (drop i qs)) bs ≡ ds → parameters_inside (parameters_of (drop (i + 1) qs)) cs ≡ ds
  one_inside {bs} e bound = ap (parameters_inside (parameters_of (drop (i + 1) qs))) e ∙ sym (ap (λ qs. parameters_inside (parameters_of qs) bs) here) ∙ bound

  pub one_fits : ParameterFits q.kind → All (λ (q : Name × NameKind). ParameterFits q.1) (parameters_of (drop (i + 1) qs)) → All (λ (q : Name × NameKind). ParameterFits q.1) (parameters_of (drop i qs))
  one_fits fits rest = subst (λ qs. All (λ (q : Name × NameKind). ParameterFits q.1) (parameters_of qs)) (sym here) (All-cons (λ (q : Name × NameKind). ParameterFits q.1) (binding_of q) (parameters_of (drop (i + 1) qs)) fits rest)

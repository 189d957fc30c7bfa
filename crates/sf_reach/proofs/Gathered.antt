-- Calls that are put behind others.
use Rattle.std.proofs.Common.{◌≡◌, ℕ, zero, suc, ◌≤◌, inl, inr, ◌+◌, ◌<◌, length, List, [], ◌∷◌, ◌++◌, All, get_or, take, Option, Some, None, slice_get, position, ap, ◌∙◌, sym, refl, subst, arith, String, string_bytes}
use Rattle.std.specs.Str.{bytes_eq}
use Rattle.std.specs.Option.{option_map}
use Rattle.std.specs.List.{cons_option}
use Rattle.indexmap.specs.IndexSet.{IndexSet, index_of_by}
use Rattle.std.proofs.lemmas.List.{append_assoc, append-nil, take_more, length-append}
use Rattle.std.proofs.lemmas.List.Elements.{filter_map-append, All-nil}
use Rattle.std.proofs.lemmas.Bool.{cases_lt}
use Rattle.std.proofs.lemmas.Option.{slice_get_within, same_Some}
use Rattle.sf_value.specs.Values.{Name}
use Rattle.sf_refusal.specs.declared.spot.Spot.{Spot}
use Rattle.sf_expr.specs.declared.exprs.ExprId.{ExprId}
use Rattle.sf_expr.specs.declared.exprs.NameId.{NameId}
use Rattle.sf_expr.specs.Arena.{name_at}
use Rattle.sf_term.specs.declared.node.TermId.{TermId}
use Rattle.sf_term.specs.declared.node.ArgumentsId.{ArgumentsId}
use Rattle.sf_term.specs.declared.node.Argument.{Argument}
use Rattle.sf_term.specs.declared.node.Argument.TheVariants as arguments
use Rattle.sf_term.specs.declared.node.Node.{Node}
use Rattle.sf_term.specs.declared.node.Node.TheVariants as nodes
use Rattle.sf_term.specs.declared.collection.CollectionId.{CollectionId}
use Rattle.sf_term.specs.declared.program.Program.{Program}
use Rattle.sf_term.specs.Headers.{Header}
use Rattle.sf_term.specs.Arena.{headers_of, term_node_at, term_spot_at, program_expressions, argument_nodes, collection_node}
use Rattle.sf_reach.specs.declared.graph.Call.{Call}
use Rattle.sf_reach.specs.Names.{names_of_set, program_names}
use Rattle.sf_reach.specs.Order.{PlacedCall, CallsInOrder, calls_there, FormCalls, in_call, MemberCalls, ArgumentCalls, in_none}
use Rattle.sf_reach.specs.Graphs.{Graph, calls_at, found_call, found_calls, AddsCalls, AddsMemberCalls, AddsArgumentCalls, IsGraphOf, StaysWithin}
use Rattle.sf_reach.proofs.Lists.{In, in_place, found_of}
use Rattle.sf_reach.proofs.Named.{place_in, named_within}
use Rattle.sf_reach.proofs.Bridged.{found_place}
use Rattle.sf_reach.proofs.Ordered.{value_more, process_more, collection_more}

-- calls that are found behind others
found_behind : (ns : List Name) (old mid new : List Call) (cs ds : List PlacedCall) → mid ≡ old ++ found_calls ns cs → new ≡ mid ++ found_calls ns ds → new ≡ old ++ found_calls ns (cs ++ ds)
found_behind ns old mid new cs ds e k =
    k ∙ ap (λ mid. mid ++ found_calls ns ds) e ∙ append_assoc old (found_calls ns cs) (found_calls ns ds) ∙ ap (λ rest. old ++ rest) (sym (filter_map-append (found_call ns) cs ds))

-- calls that have a property are put behind others
abbrev pub Adds : Program → (List PlacedCall → Type 0) → (old new : List Call) → Type 0
Adds p P old new = (cs : List PlacedCall) × P cs × (new ≡ old ++ found_calls (program_names p) cs)

module _ (p : Program) (P Q R : List PlacedCall → Type 0) where
  pub adds_into : (old new : List Call) → ((cs : List PlacedCall) → P cs → R cs) → Adds p P old new → Adds p R old new
  adds_into old new form h = (h.0, form h.0 h.1, h.2)

  pub adds_both : (old mid new : List Call) → ((cs ds : List PlacedCall) → P cs → Q ds → R (cs ++ ds)) → Adds p P old mid → Adds p Q mid new → Adds p R old new
  adds_both old mid new form h k = (h.0 ++ k.0, form h.0 k.0 h.1 k.1, found_behind (program_names p) old mid new h.0 k.0 h.2 k.2)

-- no calls are put behind others
pub adds_nothing : (p : Program) (P : List PlacedCall → Type 0) (old : List Call) → P [] → Adds p P old old
adds_nothing p P old h = ([], h, sym (append-nil old))

module _ (p : Program) (t : TermId) (n : Node) (is : n ≡ term_node_at p t) where
  pub of_form : {cs : List PlacedCall} → FormCalls p (term_spot_at p t) n cs → CallsInOrder p t cs
  of_form {cs} h = calls_there (subst (λ n. FormCalls p (term_spot_at p t) n cs) is h)

  pub adds_none : (old : List Call) → FormCalls p (term_spot_at p t) n [] → AddsCalls p t old old
  adds_none old h = adds_nothing p (CallsInOrder p t) old (of_form h)

  pub adds_one : (old new : List Call) (f : TermId) → ((cs : List PlacedCall) → CallsInOrder p f cs → FormCalls p (term_spot_at p t) n cs) → AddsCalls p f old new → AddsCalls p t old new
  adds_one old new f form h = adds_into p (CallsInOrder p f) (CallsInOrder p f) (CallsInOrder p t) old new (λ cs h. of_form (form cs h)) h

  pub adds_two : (old mid new : List Call) (f g : TermId) → ((cs ds : List PlacedCall) → CallsInOrder p f cs → CallsInOrder p g ds → FormCalls p (term_spot_at p t) n (cs ++ ds)) → AddsCalls p f old mid → AddsCalls p g mid new → AddsCalls p t old new
  adds_two old mid new f g form h k = adds_both p (CallsInOrder p f) (CallsInOrder p g) (CallsInOrder p t) old mid new (λ cs ds h k. of_form (form cs ds h k)) h k

  pub adds_members : (old new : List Call) (c : CollectionId) → ((cs : List PlacedCall) → MemberCalls p (collection_node p c) cs → FormCalls p (term_spot_at p t) n cs) → AddsMemberCalls p (collection_node p c) old new → AddsCalls p t old new
  adds_members old new c form h = adds_into p (MemberCalls p (collection_node p c)) (CallsInOrder p t) (CallsInOrder p t) old new (λ cs h. of_form (form cs h)) h

  pub adds_members_and : (old mid new : List Call) (c : CollectionId) (g : TermId) → ((cs ds : List PlacedCall) → MemberCalls p (collection_node p c) cs → CallsInOrder p g ds → FormCalls p (term_spot_at p t) n (cs ++ ds))
      → AddsMemberCalls p (collection_node p c) old mid → AddsCalls p g mid new → AddsCalls p t old new
  adds_members_and old mid new c g form h k = adds_both p (MemberCalls p (collection_node p c)) (CallsInOrder p g) (CallsInOrder p t) old mid new (λ cs ds h k. of_form (form cs ds h k)) h k

-- the name of a call is found by its place
pub name_found : {Y S : Type 0} (p : Program) (set : IndexSet (String Y) S) (x : Name) (o : Option ℕ) → names_of_set set ≡ program_names p → o ≡ index_of_by (λ k. bytes_eq x (string_bytes k)) set → position (bytes_eq x) (program_names p) ≡ o
name_found p set x o e k = sym (place_in set x (program_names p) e) ∙ sym k

module _ (p : Program) (t : TermId) (k : NameId) (a : ArgumentsId) (is : nodes.Call k a ≡ term_node_at p t) where
  here : PlacedCall
  here = record { name = name_at (program_expressions p) k; spot = term_spot_at p t }

  adds_call : (old mid new : List Call) → mid ≡ old ++ found_calls (program_names p) (here ∷ []) → AddsArgumentCalls p (argument_nodes p a) mid new → AddsCalls p t old new
  unfolding here
  adds_call old mid new e h = (here ∷ h.0, of_form p t (nodes.Call k a) is (in_call h.1), found_behind (program_names p) old mid new (here ∷ []) h.0 e h.2)

  pub adds_found : (old mid new : List Call) (x : Name) (s : Spot) (i : ℕ) → x ≡ name_at (program_expressions p) k → s ≡ term_spot_at p t → position (bytes_eq x) (program_names p) ≡ Some i → mid ≡ old ++ record { callee = i; spot = s } ∷ []
      → AddsArgumentCalls p (argument_nodes p a) mid new → AddsCalls p t old new
  unfolding here
  adds_found old mid new x s i named spot place e h =
      let found : found_call (program_names p) here ≡ Some (record { callee = i; spot = term_spot_at p t }) = ap (option_map (λ (i : ℕ). record { callee = i; spot = term_spot_at p t })) (ap (λ x. position (bytes_eq x) (program_names p)) (sym named) ∙ place) in
      adds_call old mid new (e ∙ ap (λ (s : Spot). old ++ record { callee = i; spot = s } ∷ []) spot ∙ ap (λ o. old ++ cons_option o []) (sym found)) h

  pub adds_absent : (old mid new : List Call) (x : Name) → x ≡ name_at (program_expressions p) k → position (bytes_eq x) (program_names p) ≡ None → mid ≡ old → AddsArgumentCalls p (argument_nodes p a) mid new → AddsCalls p t old new
  unfolding here
  adds_absent old mid new x named place e h =
      let found : found_call (program_names p) here ≡ None = ap (option_map (λ (i : ℕ). record { callee = i; spot = term_spot_at p t })) (ap (λ x. position (bytes_eq x) (program_names p)) (sym named) ∙ place) in
      adds_call old mid new (e ∙ sym (append-nil old) ∙ ap (λ o. old ++ cons_option o []) (sym found)) h

-- ## Arguments

pub no_argument : (p : Program) (old : List Call) → AddsArgumentCalls p [] old old
no_argument p old = ([], in_none, sym (append-nil old))

module _ (p : Program) (vs : List Argument) (i : ℕ) (h : i < length vs) (d : Argument) where
  -- those before an argument, with that argument
  with_argument : {cs : List PlacedCall} (v : Argument) → get_or vs i d ≡ v → ArgumentCalls p (take i vs ++ v ∷ []) cs → ArgumentCalls p (take (i + 1) vs) cs
  with_argument {cs} v is = subst (λ vs. ArgumentCalls p vs cs) (ap (λ v. take i vs ++ v ∷ []) (sym is) ∙ sym (take_more vs i d h))

  pub adds_value : (old new : List Call) (e : ExprId) → get_or vs i d ≡ arguments.Value e → AddsArgumentCalls p (take i vs) old new → AddsArgumentCalls p (take (i + 1) vs) old new
  adds_value old new e is k = (k.0, with_argument (arguments.Value e) is (value_more e k.1), k.2)

  pub adds_process : (old mid new : List Call) (t : TermId) → get_or vs i d ≡ arguments.Process t → AddsArgumentCalls p (take i vs) old mid → AddsCalls p t mid new → AddsArgumentCalls p (take (i + 1) vs) old new
  adds_process old mid new t is k own = (k.0 ++ own.0, with_argument (arguments.Process t) is (process_more k.1 own.1), found_behind (program_names p) old mid new k.0 own.0 k.2 own.2)

  pub adds_collection : (old mid new : List Call) (c : CollectionId) → get_or vs i d ≡ arguments.Collection c → AddsArgumentCalls p (take i vs) old mid → AddsMemberCalls p (collection_node p c) mid new → AddsArgumentCalls p (take (i + 1) vs) old new
  adds_collection old mid new c is k own = (k.0 ++ own.0, with_argument (arguments.Collection c) is (collection_more c k.1 own.1), found_behind (program_names p) old mid new k.0 own.0 k.2 own.2)

-- ## Graphs

-- the calls of a template, as they are read
pub row_at : (g : Graph) (i : ℕ) (r : List Call) → i < length g → r ≡ get_or g i r → r ≡ calls_at g i
row_at [] i r h e = absurd (omega arith)
row_at (x ∷ g) zero r h e = e
row_at (x ∷ g) (suc i) r h e = row_at g i r (omega arith) e

row_before : (g : Graph) (i : ℕ) (r : List Call) → i < length g → calls_at (g ++ r ∷ []) i ≡ calls_at g i
row_before [] i r h = absurd (omega arith)
row_before (x ∷ g) zero r h = refl
row_before (x ∷ g) (suc i) r h = row_before g i r (omega arith)

row_last : (g : Graph) (r : List Call) → calls_at (g ++ r ∷ []) (length g) ≡ r
row_last [] r = refl
row_last (x ∷ g) r = row_last g r

row_past : (g : Graph) (i : ℕ) → length g ≤ i → calls_at g i ≡ []
row_past [] i h = refl
row_past (x ∷ g) zero h = absurd (omega arith)
row_past (x ∷ g) (suc i) h = row_past g i (omega arith)

-- A graph has the calls in the first templates of a program.
pub record IsGraphOfFirst (p : Program) (g : Graph) (n : ℕ) : Type 0 where
  pub long : length g ≡ n
  pub calls : (i : ℕ) (h : Header) → i < n → slice_get (headers_of p) i ≡ Some h → AddsCalls p h.body [] (calls_at g i)

pub no_template : (p : Program) → IsGraphOfFirst p [] 0
no_template p = record { long = refl; calls = λ i h l. absurd (omega arith) }

pub one_template_more : (p : Program) (g : Graph) (n : ℕ) (h : Header) (r : List Call) → slice_get (headers_of p) n ≡ Some h → AddsCalls p h.body [] r → IsGraphOfFirst p g n → IsGraphOfFirst p (g ++ r ∷ []) (n + 1)
one_template_more p g n h r at adds k = record {
  long = let more = length-append g (r ∷ []) in let e = k.long in omega arith;
  calls = λ i h' l at'. elim (cases_lt i n) [
    | inl below ↦ subst (AddsCalls p h'.body []) (sym (row_before g i r (omega (arith, k.long)))) (k.calls i h' below at')
    | inr here ↦
        let e : n ≡ i = omega arith in
        let same : h ≡ h' = same_Some _ _ (sym at ∙ ap (slice_get (headers_of p)) e ∙ at') in
        let last : r ≡ calls_at (g ++ r ∷ []) i = sym (row_last g r) ∙ ap (calls_at (g ++ r ∷ [])) (k.long ∙ e) in
        subst (λ (h : Header). AddsCalls p h.body [] (calls_at (g ++ r ∷ []) i)) same (subst (AddsCalls p h.body []) last adds)
  ];
}

pub all_templates : (p : Program) (g : Graph) (n : ℕ) → length (headers_of p) ≡ n → IsGraphOfFirst p g n → IsGraphOf p g
all_templates p g n e k = record {
  long = k.long ∙ sym e;
  calls = λ i h at. let within = slice_get_within (headers_of p) i h at in k.calls i h (omega arith) at;
}

pub past_there : {X : Type 0} (xs : List X) (i : ℕ) → slice_get xs i ≡ None → length xs ≤ i
past_there [] i e = omega arith
past_there (x ∷ xs) zero e = absurd cc
past_there (x ∷ xs) (suc i) e = let h = past_there xs i e in omega arith

-- what is called is there
pub graph_within : (p : Program) (g : Graph) → IsGraphOf p g → StaysWithin g
graph_within p g graph i = elim (cases_lt i (length g)) [
  | inl here ↦ by (slice_get (headers_of p) i) refl (subst (λ n. i < n) graph.long here)
  | inr past ↦ subst (All (λ (c : Call). c.callee < length g)) (sym (row_past g i past)) (All-nil (λ (c : Call). c.callee < length g))
]
  where
    by : (o : Option Header) → slice_get (headers_of p) i ≡ o → i < length (headers_of p) → All (λ (c : Call). c.callee < length g) (calls_at g i)
    by None e h = absurd (omega (arith, past_there (headers_of p) i e))
    by (Some h) e l =
        let gathered = graph.calls i h e in
        λ k d below.
        let m = found_of (found_call (program_names p)) gathered.0 (get_or (calls_at g i) k d) (subst (λ l. In l (get_or (calls_at g i) k d)) gathered.2 (in_place (calls_at g i) k d below)) in
        let place = found_place (program_names p) m.0 (get_or (calls_at g i) k d) m.2 in
        let within = named_within p m.0.name _ place in
        subst (λ n. (get_or (calls_at g i) k d).callee < n) (sym graph.long) within

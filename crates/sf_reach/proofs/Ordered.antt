-- The calls in terms, in order.
use Rattle.std.proofs.Common.{◌≡◌, ℕ, zero, suc, ◌<◌, List, [], ◌∷◌, ◌++◌, All, ap, sym, refl, subst, arith}
use mathlib.Core.Path.{ap₂}
use Rattle.std.proofs.lemmas.List.{append_assoc, append-nil}
use Rattle.std.proofs.lemmas.List.Elements.{All-nil, All-cons, All-append}
use Rattle.sf_value.specs.Values.{Name}
use Rattle.sf_refusal.specs.declared.spot.Spot.{Spot}
use Rattle.sf_expr.specs.declared.exprs.ExprId.{ExprId}
use Rattle.sf_expr.specs.Arena.{name_at}
use Rattle.sf_term.specs.declared.form.Naming.{Naming}
use Rattle.sf_term.specs.declared.form.Naming.TheVariants.{Process, Probe}
use Rattle.sf_term.specs.Trees.{named_term}
use Rattle.sf_term.specs.declared.node.TermId.{TermId}
use Rattle.sf_term.specs.declared.node.Argument.{Argument}
use Rattle.sf_term.specs.declared.node.Argument.TheVariants as arguments
use Rattle.sf_term.specs.declared.node.Primitive.{Primitive}
use Rattle.sf_term.specs.declared.node.Primitive.TheVariants as primitives
use Rattle.sf_term.specs.declared.node.Node.{Node}
use Rattle.sf_term.specs.declared.node.Node.TheVariants as nodes
use Rattle.sf_term.specs.declared.collection.CollectionId.{CollectionId}
use Rattle.sf_term.specs.declared.collection.CollExpr.{CollExpr}
use Rattle.sf_term.specs.declared.collection.CollExpr.TheVariants as collections
use Rattle.sf_term.specs.declared.program.Program.{Program}
use Rattle.sf_term.specs.Arena.{term_number, tree, term_node_at, term_spot_at, program_entry, term_of, arguments_of, argument_nodes, collection_of, collection_tree, collection_node, program_expressions, TermPartsBelow, ArgumentBelow, CollectionBelow}
use Rattle.sf_term.proofs.Extended.{node_builds, parts_below}
use Rattle.sf_mean.specs.Calls.{Calls, calls_it, calls_within, left_calls, right_calls, side_calls, headed_calls, transformed_calls, switch_calls, source_calls, observer_calls, gathered_calls, members_call, their_observer_calls, editing_calls, CollectionCalls, added_calls, past_added_calls, past_dropped_calls, past_kept_calls, one_calls, other_calls, ArgumentsCall, process_calls, collection_calls, past_value_calls, past_process_calls, past_collection_calls}
use Rattle.sf_reach.specs.Order.{PlacedCall, CallsInOrder, calls_there, FormCalls, in_primitive, in_named, in_call, in_joined, in_sided, in_headed, in_transformed, in_switching, in_continuing, in_gathered, in_releasing, in_editing, MemberCalls, in_empty, in_used, in_added, in_dropped, in_kept, in_chosen, ArgumentCalls, in_none, past_value, in_process, in_collection}
use Rattle.sf_reach.proofs.Lists.{In, first, later, in_left, in_right}

-- ## They are the same however they are found

mutual
  pub calls_once : {p : Program} {t : TermId} {cs ds : List PlacedCall} → CallsInOrder p t cs → CallsInOrder p t ds → cs ≡ ds
  calls_once (calls_there h) (calls_there k) = form_once h k

  form_once : {p : Program} {s : Spot} {n : Node} {cs ds : List PlacedCall} → FormCalls p s n cs → FormCalls p s n ds → cs ≡ ds
  form_once in_primitive in_primitive = refl
  form_once in_named in_named = refl
  form_once {p} {s} (in_call {k = k} h) (in_call i) = ap (λ cs. record { name = name_at (program_expressions p) k; spot = s } ∷ cs) (arguments_once h i)
  form_once (in_joined h k) (in_joined i j) = ap₂ (λ cs ds. cs ++ ds) (calls_once h i) (calls_once k j)
  form_once (in_sided h) (in_sided k) = calls_once h k
  form_once (in_headed h) (in_headed k) = calls_once h k
  form_once (in_transformed h) (in_transformed k) = calls_once h k
  form_once (in_switching h) (in_switching k) = calls_once h k
  form_once (in_continuing h k) (in_continuing i j) = ap₂ (λ cs ds. cs ++ ds) (calls_once h i) (calls_once k j)
  form_once (in_gathered h) (in_gathered k) = members_once h k
  form_once (in_releasing h k) (in_releasing i j) = ap₂ (λ cs ds. cs ++ ds) (members_once h i) (calls_once k j)
  form_once (in_editing h) (in_editing k) = members_once h k

  members_once : {p : Program} {c : CollExpr} {cs ds : List PlacedCall} → MemberCalls p c cs → MemberCalls p c ds → cs ≡ ds
  members_once in_empty in_empty = refl
  members_once in_used in_used = refl
  members_once (in_added h k) (in_added i j) = ap₂ (λ cs ds. cs ++ ds) (members_once h i) (calls_once k j)
  members_once (in_dropped h) (in_dropped k) = members_once h k
  members_once (in_kept h) (in_kept k) = members_once h k
  members_once (in_chosen h k) (in_chosen i j) = ap₂ (λ cs ds. cs ++ ds) (members_once h i) (members_once k j)

  arguments_once : {p : Program} {vs : List Argument} {cs ds : List PlacedCall} → ArgumentCalls p vs cs → ArgumentCalls p vs ds → cs ≡ ds
  arguments_once in_none in_none = refl
  arguments_once (past_value h) (past_value k) = arguments_once h k
  arguments_once (in_process h k) (in_process i j) = ap₂ (λ cs ds. cs ++ ds) (calls_once h i) (arguments_once k j)
  arguments_once (in_collection h k) (in_collection i j) = ap₂ (λ cs ds. cs ++ ds) (members_once h i) (arguments_once k j)

-- ## Each is a call of its term

-- a call of a name is among calls
pub record HasCall (x : Name) (cs : List PlacedCall) : Type 0 where
  pub call : PlacedCall
  pub is_in : In cs call
  pub named : call.name ≡ x

-- what each call is of
abbrev pub Each : (Name → Type 0) → List PlacedCall → Type 0
Each P cs = All (λ (c : PlacedCall). P c.name) cs

module _ (P Q : Name → Type 0) (into : (x : Name) → P x → Q x) where
  each_into : (cs : List PlacedCall) → Each P cs → Each Q cs
  each_into cs h = λ k d l. into _ (h k d l)

both : (P : Name → Type 0) (cs ds : List PlacedCall) → Each P cs → Each P ds → Each P (cs ++ ds)
both P cs ds h k = All-append (λ (c : PlacedCall). P c.name) cs ds h k

none_called : (P : Name → Type 0) → Each P []
none_called P = All-nil (λ (c : PlacedCall). P c.name)

mutual
  pub calls_sound : {p : Program} {t : TermId} {cs : List PlacedCall} → CallsInOrder p t cs → Each (Calls (tree p t)) cs
  calls_sound {p} {t} {cs} (calls_there h) = subst (λ u. Each (Calls u) cs) (sym (node_builds p t _ refl)) (form_sound h)

  form_sound : {p : Program} {s : Spot} {n : Node} {cs : List PlacedCall} → FormCalls p s n cs → Each (Calls (term_of p n)) cs
  form_sound {p} (in_primitive {q = q}) = none_called (Calls (term_of p (nodes.Primitive q)))
  form_sound {p} (in_named {n = n} {w = w} {k = k}) = none_called (Calls (term_of p (nodes.Named w k n)))
  form_sound {p} {s} (in_call {k = k} {a = a} {cs = cs} h) =
      All-cons (λ (c : PlacedCall). Calls (term_of p (nodes.Call k a)) c.name) (record { name = name_at (program_expressions p) k; spot = s }) cs calls_it
      (each_into (ArgumentsCall (arguments_of p (argument_nodes p a))) (Calls (term_of p (nodes.Call k a))) (λ x c. calls_within c) cs (arguments_sound h))
  form_sound {p} (in_joined {j = j} {f = f} {g = g} {cs = cs} {ds = ds} h k) =
      let T : Name → Type 0 = Calls (term_of p (nodes.Joined j f g)) in
      both T cs ds (each_into (Calls (tree p f)) T (λ x c. left_calls c) cs (calls_sound h)) (each_into (Calls (tree p g)) T (λ x c. right_calls c) ds (calls_sound k))
  form_sound {p} (in_sided {d = d} {f = f} {cs = cs} h) = each_into (Calls (tree p f)) (Calls (term_of p (nodes.Sided d f))) (λ x c. side_calls c) cs (calls_sound h)
  form_sound {p} (in_headed {w = w} {e = e} {f = f} {cs = cs} h) = each_into (Calls (tree p f)) (Calls (term_of p (nodes.Headed w e f))) (λ x c. headed_calls c) cs (calls_sound h)
  form_sound {p} (in_transformed {g = g} {f = f} {cs = cs} h) = each_into (Calls (tree p f)) (Calls (term_of p (nodes.Transformed g f))) (λ x c. transformed_calls c) cs (calls_sound h)
  form_sound {p} (in_switching {n = n} {cs = cs} h) = each_into (Calls (tree p n.source)) (Calls (term_of p (nodes.Switching n))) (λ x c. switch_calls c) cs (calls_sound h)
  form_sound {p} (in_continuing {n = n} {cs = cs} {ds = ds} h i) =
      let T : Name → Type 0 = Calls (term_of p (nodes.Continuation n)) in
      both T cs ds (each_into (Calls (tree p n.source)) T (λ x c. source_calls c) cs (calls_sound h)) (each_into (Calls (tree p n.observer)) T (λ x c. observer_calls c) ds (calls_sound i))
  form_sound {p} (in_gathered {c = c} {cs = cs} h) = each_into (CollectionCalls (collection_tree p c)) (Calls (term_of p (nodes.Gathered c))) (λ x k. gathered_calls k) cs (members_sound h)
  form_sound {p} (in_releasing {r = r} {cs = cs} {ds = ds} h i) =
      let T : Name → Type 0 = Calls (term_of p (nodes.Releasing r)) in
      both T cs ds (each_into (CollectionCalls (collection_tree p r.members)) T (λ x k. members_call k) cs (members_sound h)) (each_into (Calls (tree p r.observer)) T (λ x k. their_observer_calls k) ds (calls_sound i))
  form_sound {p} (in_editing {r = r} {cs = cs} h) = each_into (CollectionCalls (collection_tree p r.members)) (Calls (term_of p (nodes.Editing r))) (λ x k. editing_calls k) cs (members_sound h)

  members_sound : {p : Program} {c : CollExpr} {cs : List PlacedCall} → MemberCalls p c cs → Each (CollectionCalls (collection_of p c)) cs
  members_sound {p} (in_empty {k = k} {t = t} {s = s}) = none_called (CollectionCalls (collection_of p (collections.Empty k t s)))
  members_sound {p} (in_used {k = k} {r = r} {s = s}) = none_called (CollectionCalls (collection_of p (collections.Used k r s)))
  members_sound {p} (in_added {a = a} {c = c} {e = e} {t = t} {s = s} {cs = cs} {ds = ds} h k) =
      let T : Name → Type 0 = CollectionCalls (collection_of p (collections.Added' a c e t s)) in
      both T cs ds (each_into (CollectionCalls (collection_of p c)) T (λ x k. past_added_calls k) cs (members_sound h)) (each_into (Calls (tree p t)) T (λ x k. added_calls k) ds (calls_sound k))
  members_sound {p} (in_dropped {a = a} {c = c} {e = e} {s = s} {cs = cs} h) = each_into (CollectionCalls (collection_of p c)) (CollectionCalls (collection_of p (collections.Dropped' a c e s))) (λ x k. past_dropped_calls k) cs (members_sound h)
  members_sound {p} (in_kept {a = a} {c = c} {f = f} {s = s} {cs = cs} h) = each_into (CollectionCalls (collection_of p c)) (CollectionCalls (collection_of p (collections.Kept' a c f s))) (λ x k. past_kept_calls k) cs (members_sound h)
  members_sound {p} (in_chosen {a = a} {b = b} {e = e} {c = c} {d = d} {s = s} {cs = cs} {ds = ds} h k) =
      let T : Name → Type 0 = CollectionCalls (collection_of p (collections.Chosen' e a c b d s)) in
      both T cs ds (each_into (CollectionCalls (collection_of p c)) T (λ x k. one_calls k) cs (members_sound h)) (each_into (CollectionCalls (collection_of p d)) T (λ x k. other_calls k) ds (members_sound k))

  arguments_sound : {p : Program} {vs : List Argument} {cs : List PlacedCall} → ArgumentCalls p vs cs → Each (ArgumentsCall (arguments_of p vs)) cs
  arguments_sound {p} in_none = none_called (ArgumentsCall (arguments_of p []))
  arguments_sound {p} (past_value {e = e} {vs = vs} {cs = cs} h) = each_into (ArgumentsCall (arguments_of p vs)) (ArgumentsCall (arguments_of p (arguments.Value e ∷ vs))) (λ x c. past_value_calls c) cs (arguments_sound h)
  arguments_sound {p} (in_process {t = t} {vs = vs} {cs = cs} {ds = ds} h k) =
      let T : Name → Type 0 = ArgumentsCall (arguments_of p (arguments.Process t ∷ vs)) in
      both T cs ds (each_into (Calls (tree p t)) T (λ x c. process_calls c) cs (calls_sound h)) (each_into (ArgumentsCall (arguments_of p vs)) T (λ x c. past_process_calls c) ds (arguments_sound k))
  arguments_sound {p} (in_collection {c = c} {vs = vs} {cs = cs} {ds = ds} h k) =
      let T : Name → Type 0 = ArgumentsCall (arguments_of p (arguments.Collection c ∷ vs)) in
      both T cs ds (each_into (CollectionCalls (collection_tree p c)) T (λ x k. collection_calls k) cs (members_sound h)) (each_into (ArgumentsCall (arguments_of p vs)) T (λ x k. past_collection_calls k) ds (arguments_sound k))

-- ## Each call of the term is among them

has_left : {x : Name} {cs : List PlacedCall} (ds : List PlacedCall) → HasCall x cs → HasCall x (cs ++ ds)
has_left ds h = record { call = h.call; is_in = in_left ds h.is_in; named = h.named }

has_right : {x : Name} (cs : List PlacedCall) {ds : List PlacedCall} → HasCall x ds → HasCall x (cs ++ ds)
has_right cs h = record { call = h.call; is_in = in_right cs h.is_in; named = h.named }

has_later : {x : Name} {cs : List PlacedCall} (c : PlacedCall) → HasCall x cs → HasCall x (c ∷ cs)
has_later c h = record { call = h.call; is_in = later h.is_in; named = h.named }

primitive_calls : (p : Program) (q : Primitive) (x : Name) → Calls (term_of p (nodes.Primitive q)) x → ⊥
primitive_calls p (primitives.Bare k) x h = elim h [ ]
primitive_calls p (primitives.Never n) x h = elim h [ ]
primitive_calls p (primitives.WithValue k e) x h = elim h [ ]
primitive_calls p (primitives.Timed k q e) x h = elim h [ ]
primitive_calls p (primitives.Selected k n) x h = elim h [ ]
primitive_calls p (primitives.Arrow f) x h = elim h [ ]
primitive_calls p (primitives.Accumulated k e f) x h = elim h [ ]

-- a form that is a name alone calls nothing
named_calls : (w : Naming) (k x : Name) → Calls (named_term w k) x → ⊥
named_calls (Process w) k x h = elim h [ ]
named_calls Probe k x h = elim h [ ]

mutual
  pub calls_complete : {p : Program} {t : TermId} {cs : List PlacedCall} {x : Name} → CallsInOrder p t cs → Calls (tree p t) x → HasCall x cs
  calls_complete {p} {t} {x = x} (calls_there h) c = form_complete h (subst (λ u. Calls u x) (node_builds p t _ refl) c)

  form_complete : {p : Program} {s : Spot} {n : Node} {cs : List PlacedCall} {x : Name} → FormCalls p s n cs → Calls (term_of p n) x → HasCall x cs
  form_complete {p} {x = x} (in_primitive {q = q}) c = absurd (primitive_calls p q x c)
  form_complete {p} {x = x} (in_named {w = w} {k = k}) c = absurd (named_calls w (name_at (program_expressions p) k) x c)
  form_complete {p} {s} (in_call {k = k} h) calls_it = record { call = record { name = name_at (program_expressions p) k; spot = s }; is_in = first; named = refl }
  form_complete (in_call h) (calls_within c) = has_later _ (arguments_complete h c)
  form_complete (in_joined {ds = ds} h k) (left_calls c) = has_left ds (calls_complete h c)
  form_complete (in_joined {cs = cs} h k) (right_calls c) = has_right cs (calls_complete k c)
  form_complete (in_sided h) (side_calls c) = calls_complete h c
  form_complete (in_headed h) (headed_calls c) = calls_complete h c
  form_complete (in_transformed h) (transformed_calls c) = calls_complete h c
  form_complete (in_switching h) (switch_calls c) = calls_complete h c
  form_complete (in_continuing {ds = ds} h k) (source_calls c) = has_left ds (calls_complete h c)
  form_complete (in_continuing {cs = cs} h k) (observer_calls c) = has_right cs (calls_complete k c)
  form_complete (in_gathered h) (gathered_calls c) = members_complete h c
  form_complete (in_releasing {ds = ds} h k) (members_call c) = has_left ds (members_complete h c)
  form_complete (in_releasing {cs = cs} h k) (their_observer_calls c) = has_right cs (calls_complete k c)
  form_complete (in_editing h) (editing_calls c) = members_complete h c

  members_complete : {p : Program} {c : CollExpr} {cs : List PlacedCall} {x : Name} → MemberCalls p c cs → CollectionCalls (collection_of p c) x → HasCall x cs
  members_complete in_empty c = elim c [ ]
  members_complete in_used c = elim c [ ]
  members_complete (in_added {cs = cs} h k) (added_calls c) = has_right cs (calls_complete k c)
  members_complete (in_added {ds = ds} h k) (past_added_calls c) = has_left ds (members_complete h c)
  members_complete (in_dropped h) (past_dropped_calls c) = members_complete h c
  members_complete (in_kept h) (past_kept_calls c) = members_complete h c
  members_complete (in_chosen {ds = ds} h k) (one_calls c) = has_left ds (members_complete h c)
  members_complete (in_chosen {cs = cs} h k) (other_calls c) = has_right cs (members_complete k c)

  arguments_complete : {p : Program} {vs : List Argument} {cs : List PlacedCall} {x : Name} → ArgumentCalls p vs cs → ArgumentsCall (arguments_of p vs) x → HasCall x cs
  arguments_complete in_none c = elim c [ ]
  arguments_complete (past_value h) (past_value_calls c) = arguments_complete h c
  arguments_complete (in_process {ds = ds} h k) (process_calls c) = has_left ds (calls_complete h c)
  arguments_complete (in_process {cs = cs} h k) (past_process_calls c) = has_right cs (arguments_complete k c)
  arguments_complete (in_collection {ds = ds} h k) (collection_calls c) = has_left ds (members_complete h c)
  arguments_complete (in_collection {cs = cs} h k) (past_collection_calls c) = has_right cs (arguments_complete k c)

-- ## They are there

node_below : (p : Program) (t : TermId) → TermPartsBelow p (term_node_at p t) (term_number t)
unfolding term_node_at program_entry
node_below p t = parts_below p t

abbrev Listed : Program → TermId → Type 0
Listed p t = (cs : List PlacedCall) × CallsInOrder p t cs

members_listed : (p : Program) (n : ℕ) → ((t : TermId) → term_number t < n → Listed p t) → (c : CollExpr) → CollectionBelow n c → (cs : List PlacedCall) × MemberCalls p c cs
members_listed p n part (collections.Empty k t s) b = ([], in_empty)
members_listed p n part (collections.Used k r s) b = ([], in_used)
members_listed p n part (collections.Added' a c e t s) b = let l = members_listed p n part c b.0 in let r = part t b.1 in (l.0 ++ r.0, in_added l.1 r.1)
members_listed p n part (collections.Dropped' a c e s) b = let l = members_listed p n part c b in (l.0, in_dropped l.1)
members_listed p n part (collections.Kept' a c f s) b = let l = members_listed p n part c b in (l.0, in_kept l.1)
members_listed p n part (collections.Chosen' e a c r d s) b = let l = members_listed p n part c b.0 in let m = members_listed p n part d b.1 in (l.0 ++ m.0, in_chosen l.1 m.1)

arguments_listed : (p : Program) (n : ℕ) → ((t : TermId) → term_number t < n → Listed p t) → (vs : List Argument) → All (ArgumentBelow p n) vs → (cs : List PlacedCall) × ArgumentCalls p vs cs
arguments_listed p n part [] h = ([], in_none)
arguments_listed p n part (arguments.Value e ∷ vs) h =
    let rest = arguments_listed p n part vs (λ k d l. h (suc k) d (omega arith)) in
    (rest.0, past_value rest.1)
arguments_listed p n part (arguments.Process t ∷ vs) h =
    let rest = arguments_listed p n part vs (λ k d l. h (suc k) d (omega arith)) in
    let own = part t (h zero (arguments.Process t) (omega arith)) in
    (own.0 ++ rest.0, in_process own.1 rest.1)
arguments_listed p n part (arguments.Collection c ∷ vs) h =
    let rest = arguments_listed p n part vs (λ k d l. h (suc k) d (omega arith)) in
    let own = members_listed p n part (collection_node p c) (h zero (arguments.Collection c) (omega arith)) in
    (own.0 ++ rest.0, in_collection own.1 rest.1)

listed_within : (p : Program) (fuel : ℕ) (t : TermId) → term_number t < fuel → Listed p t
listed_within p zero t h = absurd (omega arith)
listed_within p (suc fuel) t h =
    let form = by (term_node_at p t) (node_below p t) (λ j k. listed_within p fuel j (omega arith)) in
    (form.0, calls_there form.1)
  where
    by : (n : Node) → TermPartsBelow p n (term_number t) → ((j : TermId) → term_number j < term_number t → Listed p j) → (cs : List PlacedCall) × FormCalls p (term_spot_at p t) n cs
    by (nodes.Primitive q) b part = ([], in_primitive)
    by (nodes.Named w k n) b part = ([], in_named)
    by (nodes.Call k a) b part = let vs = arguments_listed p (term_number t) part (argument_nodes p a) b in (record { name = name_at (program_expressions p) k; spot = term_spot_at p t } ∷ vs.0, in_call vs.1)
    by (nodes.Joined j f g) b part = let l = part f b.0 in let r = part g b.1 in (l.0 ++ r.0, in_joined l.1 r.1)
    by (nodes.Sided d f) b part = let l = part f b in (l.0, in_sided l.1)
    by (nodes.Headed w e f) b part = let l = part f b in (l.0, in_headed l.1)
    by (nodes.Transformed g f) b part = let l = part f b in (l.0, in_transformed l.1)
    by (nodes.Switching n) b part = let l = part n.source b.0 in (l.0, in_switching l.1)
    by (nodes.Continuation n) b part = let l = part n.source b.0 in let r = part n.observer b.1 in (l.0 ++ r.0, in_continuing l.1 r.1)
    by (nodes.Gathered c) b part = let l = members_listed p (term_number t) part (collection_node p c) b in (l.0, in_gathered l.1)
    by (nodes.Releasing n) b part = let l = members_listed p (term_number t) part (collection_node p n.members) b.0 in let r = part n.observer b.1 in (l.0 ++ r.0, in_releasing l.1 r.1)
    by (nodes.Editing n) b part = let l = members_listed p (term_number t) part (collection_node p n.members) b.0 in (l.0, in_editing l.1)

pub calls_listed : (p : Program) (t : TermId) → (cs : List PlacedCall) × CallsInOrder p t cs
calls_listed p t = listed_within p (suc (term_number t)) t (omega arith)

-- ## One argument more

pub value_more : {p : Program} {vs : List Argument} {cs : List PlacedCall} (e : ExprId) → ArgumentCalls p vs cs → ArgumentCalls p (vs ++ arguments.Value e ∷ []) cs
value_more e in_none = past_value in_none
value_more e (past_value h) = past_value (value_more e h)
value_more e (in_process h k) = in_process h (value_more e k)
value_more e (in_collection h k) = in_collection h (value_more e k)

-- behind arguments, the calls of one more argument come last
argument_more : {p : Program} (v : Argument) (es : List PlacedCall) → ArgumentCalls p (v ∷ []) es → {vs : List Argument} {cs : List PlacedCall} → ArgumentCalls p vs cs → ArgumentCalls p (vs ++ v ∷ []) (cs ++ es)
argument_more v es last in_none = last
argument_more v es last (past_value h) = past_value (argument_more v es last h)
argument_more {p} v es last (in_process {t = t} {vs = vs} {cs = cs} {ds = ds} h k) =
    subst (ArgumentCalls p (arguments.Process t ∷ (vs ++ v ∷ []))) (sym (append_assoc cs ds es)) (in_process h (argument_more v es last k))
argument_more {p} v es last (in_collection {c = c} {vs = vs} {cs = cs} {ds = ds} h k) =
    subst (ArgumentCalls p (arguments.Collection c ∷ (vs ++ v ∷ []))) (sym (append_assoc cs ds es)) (in_collection h (argument_more v es last k))

pub process_more : {p : Program} {vs : List Argument} {cs ds : List PlacedCall} {t : TermId} → ArgumentCalls p vs cs → CallsInOrder p t ds → ArgumentCalls p (vs ++ arguments.Process t ∷ []) (cs ++ ds)
process_more {p} {ds = ds} {t = t} h i = argument_more (arguments.Process t) ds (subst (ArgumentCalls p (arguments.Process t ∷ [])) (append-nil ds) (in_process i in_none)) h

pub collection_more : {p : Program} {vs : List Argument} {cs ds : List PlacedCall} (c : CollectionId) → ArgumentCalls p vs cs → MemberCalls p (collection_node p c) ds → ArgumentCalls p (vs ++ arguments.Collection c ∷ []) (cs ++ ds)
collection_more {p} {ds = ds} c h i = argument_more (arguments.Collection c) ds (subst (ArgumentCalls p (arguments.Collection c ∷ [])) (append-nil ds) (in_collection i in_none)) h

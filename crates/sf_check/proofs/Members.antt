-- The types of collections, and the parts of forms with collections that are typed next.
use Rattle.std.proofs.Common.{◌≡◌, true, Some, sym, subst, ap, ◌∙◌, Ok}
use Rattle.std.proofs.lemmas.Option.{same_Some}
use mathlib.Core.Path.{ap₂, subst₂}
use Rattle.sf_value.specs.Values.{KeyKind, Kind, bool_kind, pair_kind, event_kind, table_kind}
use Rattle.sf_value.specs.declared.ty.KeyType.{KeyType}
use Rattle.sf_value.specs.KindView.{key_kind_of}
use Rattle.sf_refusal.specs.declared.spot.Spot.{Spot}
use Rattle.sf_operator.specs.Kinds.{same_kind, kind_of_keys}
use Rattle.sf_operator.specs.Breaches.{AnswersKind}
use Rattle.sf_operator.proofs.SameKinds.{same_is}
use Rattle.sf_expr.specs.declared.exprs.ExprId.{ExprId}
use Rattle.sf_expr.specs.declared.exprs.FunctionId.{FunctionId}
use Rattle.sf_expr.specs.declared.exprs.NameId.{NameId}
use Rattle.sf_expr.specs.Arena.{expression, function_at}
use Rattle.sf_expr.specs.Typing.{Fits, HasType, FunctionTakes}
use Rattle.sf_term.specs.declared.node.TermId.{TermId}
use Rattle.sf_term.specs.declared.node.Releasing.{Releasing}
use Rattle.sf_term.specs.declared.node.Editing.{Editing}
use Rattle.sf_term.specs.declared.node.Node.TheVariants as nodes
use Rattle.sf_term.specs.declared.collection.CollExpr.{CollExpr}
use Rattle.sf_term.specs.declared.collection.CollExpr.TheVariants as collections
use Rattle.sf_term.specs.declared.program.Program.{Program}
use Rattle.sf_term.specs.Trees.{without_members, added, dropped, kept, chosen}
use Rattle.sf_term.specs.Arena.{tree, term_node_at, term_spot_at, program_expressions, program_expression, program_function, collection_of, collection_tree}
use Rattle.sf_mean.specs.Contexts.{collection, Context, names_of_values}
use Rattle.sf_mean.specs.Typing.{Takes, Collects, collects_none, collects_used, collects_added, collects_dropped, collects_kept, collects_chosen}
use Rattle.sf_check.specs.Breaking.{kind_named, program_name, Reaches, their_observer, ReachesMembers, editing_members}
use Rattle.sf_check.proofs.Types.{keys_of_table, values_of_table, typed_under, taken_under}
use Rattle.sf_check.proofs.Contexts.{collection_is}

module _ (p : Program) (Γ : Context) (a : Kind) where
  pub empty_collects : (k l : KeyType) (t b : Kind) → l ≡ k → b ≡ t → Collects Γ (without_members (key_kind_of k) t) (key_kind_of l) a b
  empty_collects k l t b keys is = subst₂ (λ (l : KeyType) (b : Kind). Collects Γ (without_members (key_kind_of k) t) (key_kind_of l) a b) (sym keys) (sym is) collects_none

  module _ (x : NameId) (n s : Spot) where
    module _ (k : KeyKind) (b c : Kind) (named : kind_named (program_name p x) Γ.bindings ≡ Some (collection k b c)) where
      pub used_collects : (l : KeyKind) (d : Kind) → same_kind a b ≡ true → l ≡ k → d ≡ c → Collects Γ (collection_of p (collections.Used x n s)) l a d
      used_collects l d same keys is =
          let kind : collection k b c ≡ collection l a d = ap (λ b. collection k b c) (sym (same_is a b same)) ∙ ap₂ (λ k c. collection k a c) (sym keys) (sym is) in
          collects_used (collection_is (program_name p x) Γ.bindings (named ∙ ap (λ m. Some m) kind))

  module _ (c : CollExpr) (v : ExprId) (t : TermId) (s : Spot) where
    module _ (k : KeyKind) (b : Kind) (given : Collects Γ (collection_of p c) k a b) where
      module _ (u : Kind) (key : HasType (names_of_values Γ) (expression (program_expressions p) v) u) where
        module _ (d : Kind) (member : Takes Γ (tree p t) a d) where
          pub added_collects : same_kind u (kind_of_keys k) ≡ true → same_kind d b ≡ true → Collects Γ (added (collection_of p c) (program_expression p v) (tree p t)) k a b
          added_collects right same =
              collects_added given (typed_under p v (subst (HasType (names_of_values Γ) (expression (program_expressions p) v)) (same_is u (kind_of_keys k) right) key)) (subst (Takes Γ (tree p t) a) (same_is d b same) member)

  module _ (c : CollExpr) (v : ExprId) (s : Spot) where
    module _ (k : KeyKind) (b : Kind) (given : Collects Γ (collection_of p c) k a b) where
      module _ (u : Kind) (key : HasType (names_of_values Γ) (expression (program_expressions p) v) u) where
        pub dropped_collects : same_kind u (kind_of_keys k) ≡ true → Collects Γ (dropped (collection_of p c) (program_expression p v)) k a b
        dropped_collects right = collects_dropped given (typed_under p v (subst (HasType (names_of_values Γ) (expression (program_expressions p) v)) (same_is u (kind_of_keys k) right) key))

  module _ (c : CollExpr) (f : FunctionId) (s : Spot) where
    module _ (k : KeyKind) (b : Kind) (given : Collects Γ (collection_of p c) k a b) where
      module _ (u : Kind) (keeps : FunctionTakes (names_of_values Γ) (function_at (program_expressions p) f) (kind_of_keys k) u) where
        pub kept_collects : same_kind u bool_kind ≡ true → Collects Γ (kept (collection_of p c) (program_function p f)) k a b
        kept_collects right = collects_kept given (taken_under p f (subst (FunctionTakes (names_of_values Γ) (function_at (program_expressions p) f) (kind_of_keys k)) (same_is u bool_kind right) keeps))

  module _ (v : ExprId) (c d : CollExpr) (s : Spot) where
    module _ (u : Kind) (truth : HasType (names_of_values Γ) (expression (program_expressions p) v) u) where
      module _ (k : KeyKind) (b : Kind) (one : Collects Γ (collection_of p c) k a b) where
        module _ (l : KeyKind) (h : Kind) (other : Collects Γ (collection_of p d) l a h) where
          pub chosen_collects : same_kind u bool_kind ≡ true → table_kind l h ≡ table_kind k b → Collects Γ (chosen (program_expression p v) (collection_of p c) (collection_of p d)) k a b
          chosen_collects right same =
              collects_chosen (typed_under p v (subst (HasType (names_of_values Γ) (expression (program_expressions p) v)) (same_is u bool_kind right) truth)) one
              (subst₂ (λ l h. Collects Γ (collection_of p d) l a h) (keys_of_table same) (values_of_table same) other)

module _ (p : Program) (Γ : Context) (t : TermId) (a : Kind) (s : Spot) (at : s ≡ term_spot_at p t) where
  -- `pSwitchB`
  module _ (n : Releasing) (is : term_node_at p t ≡ nodes.Releasing n) (k : KeyKind) (b : Kind) (given : Collects Γ (collection_tree p n.members) k a b) where
    module _ (d : Kind) (table : AnswersKind (Some (table_kind k b)) s (Ok d)) where
      module _ (v : Kind) (watched : AnswersKind (Some (pair_kind a d)) s (Ok v)) where
        of_watched : v ≡ pair_kind a (table_kind k b)
        of_watched = sym (same_Some _ _ watched.0) ∙ ap (pair_kind a) (sym (same_Some _ _ table.0))

        pub their_observer_reached : Reaches p Γ (nodes.Releasing n) a Γ n.observer v
        their_observer_reached = subst (Reaches p Γ (nodes.Releasing n) a Γ n.observer) (sym of_watched) (their_observer given (subst Fits of_watched watched.1))

        module _ (e : Kind) (seen : Takes Γ (tree p n.observer) v e) where
          pub their_observer_seen : Takes Γ (tree p n.observer) (pair_kind a (table_kind k b)) e
          their_observer_seen = subst (λ v. Takes Γ (tree p n.observer) v e) of_watched seen

  -- `rpSwitchB`
  module _ (n : Editing) (is : term_node_at p t ≡ nodes.Editing n) where
    module _ (x c : Kind) (beside : a ≡ pair_kind x (event_kind c)) where
      pub editing_members_reached : ReachesMembers p Γ (nodes.Editing n) a Γ n.members x
      editing_members_reached = subst (λ a. ReachesMembers p Γ (nodes.Editing n) a Γ n.members x) (sym beside) editing_members

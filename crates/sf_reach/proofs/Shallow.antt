-- How deep collections are.
use Rattle.std.proofs.Common.{◌≡◌, ℕ, zero, suc, ◌<◌, ◌≤◌, length, List, [], ◌∷◌, get_or, sym, subst, arith}
use Rattle.sf_term.specs.declared.node.TermId.{TermId}
use Rattle.sf_term.specs.declared.node.ArgumentsId.{ArgumentsId}
use Rattle.sf_expr.specs.declared.exprs.NameId.{NameId}
use Rattle.sf_term.specs.declared.node.Argument.{Argument}
use Rattle.sf_term.specs.declared.node.Argument.TheVariants as arguments
use Rattle.sf_term.specs.declared.collection.CollectionId.{CollectionId}
use Rattle.sf_term.specs.declared.node.Releasing.{Releasing}
use Rattle.sf_term.specs.declared.node.Editing.{Editing}
use Rattle.sf_term.specs.declared.node.Node.{Node}
use Rattle.sf_term.specs.declared.node.Node.TheVariants as nodes
use Rattle.sf_term.specs.declared.program.Program.{Program}
use Rattle.sf_term.specs.Trees.{term_depth, collection_depth, arguments_depth}
use Rattle.sf_term.specs.Arena.{term_node_at, term_of, arguments_of, argument_nodes, collection_tree}
use Rattle.sf_term.proofs.Extended.{node_builds, tree_shallow}

-- the term of a node is no deeper than terms are
node_shallow : (p : Program) (t : TermId) (n : Node) → n ≡ term_node_at p t → term_depth (term_of p n) ≤ 64
node_shallow p t n is = subst (λ u. term_depth u ≤ 64) (node_builds p t n (sym is)) (tree_shallow p t)

module _ (p : Program) (t : TermId) where
  pub arguments_shallow : (k : NameId) (a : ArgumentsId) → nodes.Call k a ≡ term_node_at p t → arguments_depth (arguments_of p (argument_nodes p a)) ≤ 64
  arguments_shallow k a is = let h = node_shallow p t (nodes.Call k a) is in omega arith

  pub members_shallow : (c : CollectionId) → nodes.Gathered c ≡ term_node_at p t → collection_depth (collection_tree p c) ≤ 64
  members_shallow c is = let h = node_shallow p t (nodes.Gathered c) is in omega arith

  pub released_shallow : (n : Releasing) → nodes.Releasing n ≡ term_node_at p t → collection_depth (collection_tree p n.members) ≤ 64
  released_shallow n is = let h = node_shallow p t (nodes.Releasing n) is in omega arith

  pub edited_shallow : (n : Editing) → nodes.Editing n ≡ term_node_at p t → (collection_depth (collection_tree p n.members) ≤ 64) × (collection_depth (collection_tree p n.edit) ≤ 64)
  edited_shallow n is = let h = node_shallow p t (nodes.Editing n) is in (omega arith, omega arith)

-- a collection among arguments is no deeper than these
pub argument_shallow : (p : Program) (vs : List Argument) (i : ℕ) (d : Argument) (c : CollectionId) → i < length vs → get_or vs i d ≡ arguments.Collection c → arguments_depth (arguments_of p vs) ≤ 64 → collection_depth (collection_tree p c) ≤ 64
argument_shallow p [] i d c l is h = absurd (omega arith)
argument_shallow p (v ∷ vs) zero d c l is h = let k : arguments_depth (arguments_of p (arguments.Collection c ∷ vs)) ≤ 64 = subst (λ v. arguments_depth (arguments_of p (v ∷ vs)) ≤ 64) is h in omega arith
argument_shallow p (arguments.Value e ∷ vs) (suc i) d c l is h = argument_shallow p vs i d c (omega arith) is (omega arith)
argument_shallow p (arguments.Process t ∷ vs) (suc i) d c l is h = argument_shallow p vs i d c (omega arith) is (omega arith)
argument_shallow p (arguments.Collection b ∷ vs) (suc i) d c l is h = argument_shallow p vs i d c (omega arith) is (omega arith)

-- the first of arguments, where it is a collection, and the rest of them are no deeper either
pub first_shallow : (p : Program) (v : Argument) (vs : List Argument) (c : CollectionId) → v ≡ arguments.Collection c → arguments_depth (arguments_of p (v ∷ vs)) ≤ 64 → collection_depth (collection_tree p c) ≤ 64
first_shallow p v vs c is h = let k : arguments_depth (arguments_of p (arguments.Collection c ∷ vs)) ≤ 64 = subst (λ v. arguments_depth (arguments_of p (v ∷ vs)) ≤ 64) is h in omega arith

pub rest_shallow : (p : Program) (v : Argument) (vs : List Argument) → arguments_depth (arguments_of p (v ∷ vs)) ≤ 64 → arguments_depth (arguments_of p vs) ≤ 64
rest_shallow p (arguments.Value e) vs h = omega arith
rest_shallow p (arguments.Process t) vs h = omega arith
rest_shallow p (arguments.Collection c) vs h = omega arith

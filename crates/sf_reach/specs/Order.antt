-- The calls of programs, in the order of the text.
use Rattle.std.specs.Prelude.{List, [], ◌∷◌, ◌++◌}
use Rattle.sf_value.specs.Values.{Name, Kind}
use Rattle.sf_value.specs.declared.ty.KeyType.{KeyType}
use Rattle.sf_refusal.specs.declared.spot.Spot.{Spot}
use Rattle.sf_expr.specs.declared.exprs.ExprId.{ExprId}
use Rattle.sf_expr.specs.declared.exprs.FunctionId.{FunctionId}
use Rattle.sf_expr.specs.declared.exprs.NameId.{NameId}
use Rattle.sf_expr.specs.Arena.{name_at}
use Rattle.sf_term.specs.declared.form.Join.{Join}
use Rattle.sf_term.specs.declared.form.Side.{Side}
use Rattle.sf_term.specs.declared.form.Heading.{Heading}
use Rattle.sf_term.specs.declared.form.Naming.{Naming}
use Rattle.sf_term.specs.declared.node.TermId.{TermId}
use Rattle.sf_term.specs.declared.node.ArgumentsId.{ArgumentsId}
use Rattle.sf_term.specs.declared.node.Argument.{Argument}
use Rattle.sf_term.specs.declared.node.Argument.TheVariants as arguments
use Rattle.sf_term.specs.declared.node.Primitive.{Primitive}
use Rattle.sf_term.specs.declared.node.Switch.{Switch}
use Rattle.sf_term.specs.declared.node.Continuation.{Continuation}
use Rattle.sf_term.specs.declared.node.Releasing.{Releasing}
use Rattle.sf_term.specs.declared.node.Editing.{Editing}
use Rattle.sf_term.specs.declared.node.Node.{Node}
use Rattle.sf_term.specs.declared.node.Node.TheVariants as nodes
use Rattle.sf_term.specs.declared.collection.CollectionId.{CollectionId}
use Rattle.sf_term.specs.declared.collection.CollExpr.{CollExpr}
use Rattle.sf_term.specs.declared.collection.CollExpr.TheVariants as collections
use Rattle.sf_term.specs.declared.program.Program.{Program}
use Rattle.sf_term.specs.Arena.{term_node_at, term_spot_at, program_expressions, argument_nodes, collection_node}

-- A call: the name of the template that is called, and where that name stands in the text.
pub record PlacedCall : Type 0 where
  pub name : Name
  pub spot : Spot

mutual
  -- The calls in the term at an id, outside the bodies of switches and outside edits, in the order of the text: a call's own name
  -- comes before the calls in its arguments.
  pub data CallsInOrder (p : Program) : TermId → List PlacedCall → Type 0 where
    calls_there : {t : TermId} {cs : List PlacedCall} → FormCalls p (term_spot_at p t) (term_node_at p t) cs → CallsInOrder p t cs

  -- the same in a form at a spot, which is where the name of a call stands
  pub data FormCalls (p : Program) : Spot → Node → List PlacedCall → Type 0 where
    in_primitive : {s : Spot} {q : Primitive} → FormCalls p s (nodes.Primitive q) []
    in_named : {s n : Spot} {w : Naming} {k : NameId} → FormCalls p s (nodes.Named w k n) []
    in_call : {s : Spot} {k : NameId} {a : ArgumentsId} {cs : List PlacedCall} → ArgumentCalls p (argument_nodes p a) cs
        → FormCalls p s (nodes.Call k a) (record { name = name_at (program_expressions p) k; spot = s } ∷ cs)
    in_joined : {s : Spot} {j : Join} {f g : TermId} {cs ds : List PlacedCall} → CallsInOrder p f cs → CallsInOrder p g ds → FormCalls p s (nodes.Joined j f g) (cs ++ ds)
    in_sided : {s : Spot} {d : Side} {f : TermId} {cs : List PlacedCall} → CallsInOrder p f cs → FormCalls p s (nodes.Sided d f) cs
    in_headed : {s : Spot} {w : Heading} {e : ExprId} {f : TermId} {cs : List PlacedCall} → CallsInOrder p f cs → FormCalls p s (nodes.Headed w e f) cs
    in_transformed : {s : Spot} {g : FunctionId} {f : TermId} {cs : List PlacedCall} → CallsInOrder p f cs → FormCalls p s (nodes.Transformed g f) cs
    in_switching : {s : Spot} {n : Switch} {cs : List PlacedCall} → CallsInOrder p n.source cs → FormCalls p s (nodes.Switching n) cs
    in_continuing : {s : Spot} {n : Continuation} {cs ds : List PlacedCall}
        → CallsInOrder p n.source cs → CallsInOrder p n.observer ds → FormCalls p s (nodes.Continuation n) (cs ++ ds)
    in_gathered : {s : Spot} {c : CollectionId} {cs : List PlacedCall} → MemberCalls p (collection_node p c) cs → FormCalls p s (nodes.Gathered c) cs
    in_releasing : {s : Spot} {r : Releasing} {cs ds : List PlacedCall} → MemberCalls p (collection_node p r.members) cs → CallsInOrder p r.observer ds → FormCalls p s (nodes.Releasing r) (cs ++ ds)
    in_editing : {s : Spot} {r : Editing} {cs : List PlacedCall} → MemberCalls p (collection_node p r.members) cs → FormCalls p s (nodes.Editing r) cs

  -- the same in a collection
  pub data MemberCalls (p : Program) : CollExpr → List PlacedCall → Type 0 where
    in_empty : {k : KeyType} {t : Kind} {s : Spot} → MemberCalls p (collections.Empty k t s) []
    in_used : {k : NameId} {r s : Spot} → MemberCalls p (collections.Used k r s) []
    in_added : {a : _} {c : CollExpr} {e : ExprId} {t : TermId} {s : Spot} {cs ds : List PlacedCall} → MemberCalls p c cs → CallsInOrder p t ds → MemberCalls p (collections.Added' a c e t s) (cs ++ ds)
    in_dropped : {a : _} {c : CollExpr} {e : ExprId} {s : Spot} {cs : List PlacedCall} → MemberCalls p c cs → MemberCalls p (collections.Dropped' a c e s) cs
    in_kept : {a : _} {c : CollExpr} {f : FunctionId} {s : Spot} {cs : List PlacedCall} → MemberCalls p c cs → MemberCalls p (collections.Kept' a c f s) cs
    in_chosen : {a b : _} {e : ExprId} {c d : CollExpr} {s : Spot} {cs ds : List PlacedCall} → MemberCalls p c cs → MemberCalls p d ds → MemberCalls p (collections.Chosen' e a c b d s) (cs ++ ds)

  -- the same in arguments
  pub data ArgumentCalls (p : Program) : List Argument → List PlacedCall → Type 0 where
    in_none : ArgumentCalls p [] []
    past_value : {e : ExprId} {vs : List Argument} {cs : List PlacedCall} → ArgumentCalls p vs cs → ArgumentCalls p (arguments.Value e ∷ vs) cs
    in_process : {t : TermId} {vs : List Argument} {cs ds : List PlacedCall} → CallsInOrder p t cs → ArgumentCalls p vs ds → ArgumentCalls p (arguments.Process t ∷ vs) (cs ++ ds)
    in_collection : {c : CollectionId} {vs : List Argument} {cs ds : List PlacedCall} → MemberCalls p (collection_node p c) cs → ArgumentCalls p vs ds → ArgumentCalls p (arguments.Collection c ∷ vs) (cs ++ ds)

-- The terms that nodes stand for.
use Rattle.std.proofs.Common.{◌≡◌, refl, sym, ap, ◌∙◌}
use mathlib.Core.Path.{ap₂}
use Rattle.sf_expr.specs.declared.exprs.PatternId.{PatternId}
use Rattle.sf_expr.specs.Patterns.{pattern_of}
use Rattle.sf_expr.specs.Arena.{expression, function_at, stored_pattern}
use Rattle.sf_term.specs.declared.node.TermId.{TermId}
use Rattle.sf_term.specs.declared.node.Primitive.TheVariants as primitives
use Rattle.sf_term.specs.declared.node.Node.{Node}
use Rattle.sf_term.specs.declared.node.Node.TheVariants as nodes
use Rattle.sf_term.specs.declared.program.Program.{Program}
use Rattle.sf_term.specs.Trees.{Term, primitive, reference, named_term, call, joined, sided, headed, transformed, switching, continuing, gathered, releasing, editing, with_value, timed, arrow, accumulated}
use Rattle.sf_term.specs.Arena.{tree, term_node_at, program_expressions, argument_nodes, arguments_of, collection_tree, placed_pattern, term_of}
use Rattle.sf_term.proofs.Extended.{node_builds, expression_in, function_at_in}
use Rattle.sf_check.specs.Standing.{program_pattern, program_name}
use Rattle.sf_check.specs.Answering.{primitive_in}

-- the term that a node makes of its parts
abbrev pub made : Program → Node → Term
made p (nodes.Primitive q) = primitive (primitive_in (program_expressions p) q)
made p (nodes.Named w k s) = named_term w (program_name p k)
made p (nodes.Call k vs) = reference (call (program_name p k) (arguments_of p (argument_nodes p vs)))
made p (nodes.Joined j f g) = joined j (tree p f) (tree p g)
made p (nodes.Sided d f) = sided d (tree p f)
made p (nodes.Headed h v f) = headed h (expression (program_expressions p) v) (tree p f)
made p (nodes.Transformed g f) = transformed (function_at (program_expressions p) g) (tree p f)
made p (nodes.Switching n) = switching n.form (tree p n.source) (program_pattern p n.pattern) (tree p n.body)
made p (nodes.Continuation n) = continuing n.shown (tree p n.source) (tree p n.observer) (program_name p n.name) (program_pattern p n.pattern) (tree p n.body)
made p (nodes.Gathered i) = gathered (collection_tree p i)
made p (nodes.Releasing n) = releasing n.shown (collection_tree p n.members) (tree p n.observer) (program_name p n.name) (program_pattern p n.pattern) (tree p n.body)
made p (nodes.Editing n) = editing n.shown (collection_tree p n.members) (program_name p n.name) (program_pattern p n.pattern) (collection_tree p n.edit)

placed_in : (p : Program) (q : PatternId) → stored_pattern (program_expressions p) q ≡ placed_pattern p q
unfolding program_expressions placed_pattern
placed_in p q = refl

pub tree_made : (p : Program) (t : TermId) (n : Node) → term_node_at p t ≡ n → tree p t ≡ made p n
tree_made p t n e = node_builds p t n e ∙ by n
  where
    by : (n : Node) → term_of p n ≡ made p n
    by (nodes.Primitive (primitives.Bare k)) = refl
    by (nodes.Primitive (primitives.Never n)) = refl
    by (nodes.Primitive (primitives.WithValue k v)) = ap (λ e. primitive (with_value k e)) (sym (expression_in p v))
    by (nodes.Primitive (primitives.Arrow f)) = ap (λ f. primitive (arrow f)) (sym (function_at_in p f))
    by (nodes.Primitive (primitives.Timed k q v)) = ap (λ e. primitive (timed k q e)) (sym (expression_in p v))
    by (nodes.Primitive (primitives.Selected k n)) = refl
    by (nodes.Primitive (primitives.Accumulated k v f)) = ap₂ (λ e g. primitive (accumulated k e g)) (sym (expression_in p v)) (sym (function_at_in p f))
    by (nodes.Named w k s) = refl
    by (nodes.Call k vs) = refl
    by (nodes.Joined j f g) = refl
    by (nodes.Sided d f) = refl
    by (nodes.Headed h v f) = ap (λ e. headed h e (tree p f)) (sym (expression_in p v))
    by (nodes.Transformed g f) = ap (λ g. transformed g (tree p f)) (sym (function_at_in p g))
    by (nodes.Switching n) = ap (λ r. switching n.form (tree p n.source) (pattern_of r) (tree p n.body)) (sym (placed_in p n.pattern))
    by (nodes.Continuation n) = ap (λ r. continuing n.shown (tree p n.source) (tree p n.observer) (program_name p n.name) (pattern_of r) (tree p n.body)) (sym (placed_in p n.pattern))
    by (nodes.Gathered i) = refl
    by (nodes.Releasing n) = ap (λ r. releasing n.shown (collection_tree p n.members) (tree p n.observer) (program_name p n.name) (pattern_of r) (tree p n.body)) (sym (placed_in p n.pattern))
    by (nodes.Editing n) = ap (λ r. editing n.shown (collection_tree p n.members) (program_name p n.name) (pattern_of r) (collection_tree p n.edit)) (sym (placed_in p n.pattern))

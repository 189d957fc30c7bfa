-- What stands within a form.
use Rattle.std.proofs.Common.{◌≡◌, ◌≤◌, List, [], ◌∷◌, subst, arith}
use Rattle.std.specs.List.{All}
use Rattle.std.proofs.lemmas.List.Elements.{All-nil, All-cons, All-head, All-tail}
use Rattle.sf_term.specs.declared.node.Argument.{Argument}
use Rattle.sf_term.specs.declared.node.Argument.TheVariants as arguments
use Rattle.sf_term.specs.declared.node.TermId.{TermId}
use Rattle.sf_term.specs.declared.node.Node.{Node}
use Rattle.sf_term.specs.declared.node.Node.TheVariants as nodes
use Rattle.sf_term.specs.declared.program.Program.{Program}
use Rattle.sf_term.specs.Trees.{term_depth, arguments_depth}
use Rattle.sf_term.specs.Arena.{tree, term_of, term_number, arguments_of, argument_nodes, ArgumentBelow, TermPartsBelow}
use Rattle.sf_term.proofs.Extended.{tree_shallow}
use Rattle.sf_print.specs.Arguments.{ArgumentWithin, PartsWithin}

arguments_within : (p : Program) (t : TermId) (vs : List Argument) → All (ArgumentBelow p (term_number t)) vs → arguments_depth (arguments_of p vs) ≤ 64 → All (ArgumentWithin p t) vs
arguments_within p t [] h d = All-nil (ArgumentWithin p t)
arguments_within p t (arguments.Value e ∷ vs) h d =
    All-cons (ArgumentWithin p t) (arguments.Value e) vs tt (arguments_within p t vs (All-tail (ArgumentBelow p (term_number t)) (arguments.Value e) vs h) (omega arith))
arguments_within p t (arguments.Process u ∷ vs) h d =
    All-cons (ArgumentWithin p t) (arguments.Process u) vs (All-head (ArgumentBelow p (term_number t)) (arguments.Process u) vs h) (arguments_within p t vs (All-tail (ArgumentBelow p (term_number t)) (arguments.Process u) vs h) (omega arith))
arguments_within p t (arguments.Collection c ∷ vs) h d =
    All-cons (ArgumentWithin p t) (arguments.Collection c) vs (All-head (ArgumentBelow p (term_number t)) (arguments.Collection c) vs h, omega arith)
    (arguments_within p t vs (All-tail (ArgumentBelow p (term_number t)) (arguments.Collection c) vs h) (omega arith))

within : (p : Program) (t : TermId) (n : Node) → TermPartsBelow p n (term_number t) → term_depth (term_of p n) ≤ 64 → PartsWithin p t n
within p t (nodes.Primitive q) b d = tt
within p t (nodes.Named w k s) b d = tt
within p t (nodes.Call k a) b d = arguments_within p t (argument_nodes p a) b (omega arith)
within p t (nodes.Joined j x y) b d = tt
within p t (nodes.Sided s x) b d = tt
within p t (nodes.Headed h e x) b d = tt
within p t (nodes.Transformed f x) b d = tt
within p t (nodes.Switching n) b d = tt
within p t (nodes.Continuation n) b d = tt
within p t (nodes.Gathered c) b d = (b, omega arith)
within p t (nodes.Releasing n) b d = ((b.0, omega arith), b.1, b.2)
within p t (nodes.Editing n) b d = ((b.0, omega arith), (b.1, omega arith))

-- what a term's form has stands within it
pub parts_within : (p : Program) (t : TermId) (n : Node) → TermPartsBelow p n (term_number t) → tree p t ≡ term_of p n → PartsWithin p t n
parts_within p t n b e = within p t n b (subst (λ x. term_depth x ≤ 64) e (tree_shallow p t))

-- the collection of members that are edited, and that of the edit
pub edited_within : {A B : Type 0} → A × B → A
edited_within (a, b) = a

pub edit_within : {A B : Type 0} → A × B → B
edit_within (a, b) = b

-- Arguments of calls, one by one, and what stands within a form.
use Rattle.std.specs.Prelude.{◌<◌, ◌≤◌, Bool, List, ◌∷◌, All}
use Rattle.sf_lex.specs.Tokens.{Tok, keyword}
use Rattle.sf_lex.specs.declared.word.Keyword.TheVariants as words
use Rattle.sf_term.specs.declared.collection.CollExpr.{CollExpr}
use Rattle.sf_term.specs.declared.node.TermId.{TermId}
use Rattle.sf_term.specs.declared.node.Argument.{Argument}
use Rattle.sf_term.specs.declared.node.Argument.TheVariants as arguments
use Rattle.sf_term.specs.declared.program.Program.{Program}
use Rattle.sf_term.specs.declared.node.Node.{Node}
use Rattle.sf_term.specs.declared.node.Node.TheVariants as nodes
use Rattle.sf_term.specs.Trees.{collection_depth}
use Rattle.sf_term.specs.Arena.{program_expression, tree, term_number, collection_node, collection_of, collection_tree, argument_nodes, CollectionBelow}
use Rattle.sf_grammar.specs.declared.ty.Version.{Version}
use Rattle.sf_grammar.specs.Spelling.{spell_expression, spell_term, spell_collection}
use Rattle.sf_print.specs.Versions.{expression_needs_two, term_needs_two, collection_needs_two}

-- the tokens of an argument of a call in a program
abbrev pub spell_argument : Version → Program → Argument → List Tok
spell_argument v p (arguments.Value e) = spell_expression v (program_expression p e)
spell_argument v p (arguments.Process t) = keyword words.SignalFunction ∷ spell_term v (tree p t)
spell_argument v p (arguments.Collection c) = keyword words.Collection ∷ spell_collection v (collection_tree p c)

-- whether a Text key or `fresh` stands in it
abbrev pub argument_needs_two : Program → Argument → Bool
argument_needs_two p (arguments.Value e) = expression_needs_two (program_expression p e)
argument_needs_two p (arguments.Process t) = term_needs_two (tree p t)
argument_needs_two p (arguments.Collection c) = collection_needs_two (collection_tree p c)

-- the terms of a collection stand before a form, and it is at most 64 deep
abbrev pub IsWithin : Program → TermId → CollExpr → Type 0
IsWithin p form c = CollectionBelow (term_number form) c × (collection_depth (collection_of p c) ≤ 64)

-- the same of an argument
abbrev pub ArgumentWithin : Program → TermId → Argument → Type 0
ArgumentWithin p form (arguments.Value e) = Unit {0}
ArgumentWithin p form (arguments.Process t) = term_number t < term_number form
ArgumentWithin p form (arguments.Collection c) = IsWithin p form (collection_node p c)

-- the same of the collections, the arguments and the terms beside collections of a form
abbrev pub PartsWithin : Program → TermId → Node → Type 0
PartsWithin p form (nodes.Primitive q) = Unit {0}
PartsWithin p form (nodes.Named w k s) = Unit {0}
PartsWithin p form (nodes.Call k a) = All (ArgumentWithin p form) (argument_nodes p a)
PartsWithin p form (nodes.Joined j a b) = Unit {0}
PartsWithin p form (nodes.Sided d a) = Unit {0}
PartsWithin p form (nodes.Headed h e a) = Unit {0}
PartsWithin p form (nodes.Transformed f a) = Unit {0}
PartsWithin p form (nodes.Switching n) = Unit {0}
PartsWithin p form (nodes.Continuation n) = Unit {0}
PartsWithin p form (nodes.Gathered c) = IsWithin p form (collection_node p c)
PartsWithin p form (nodes.Releasing n) = IsWithin p form (collection_node p n.members) × (term_number n.observer < term_number form) × (term_number n.body < term_number form)
PartsWithin p form (nodes.Editing n) = IsWithin p form (collection_node p n.members) × IsWithin p form (collection_node p n.edit)

-- What the functions answer that read terms and templates.
use Rattle.std.specs.Prelude.{◌≡◌, ◌+◌, All, List, [], ◌∷◌, ◌++◌, length, Result, Ok, Err, Vec}
use Rattle.std.specs.declared.alloc.Global.{Global}
use Rattle.std.specs.declared.rc.Rc.{Rc}
use Rattle.sf_value.specs.Values.{Name, Kind}
use Rattle.sf_text.specs.declared.header.Types.{Types}
use Rattle.sf_text.specs.declared.header.Titled.{Titled}
use Rattle.sf_text.specs.declared.listed.ArgumentFront.{ArgumentFront}
use Rattle.sf_text.specs.declared.listed.ArgumentFront.TheVariants as fronts
use Rattle.sf_expr.specs.Expressions.{Pattern}
use Rattle.sf_expr.specs.Patterns.{PlacedPattern, pattern_of}
use Rattle.sf_term.specs.Names.{HasNames}
use Rattle.sf_term.specs.declared.collection.CollExpr.{CollExpr}
use Rattle.sf_term.specs.declared.collection.CollectionId.{CollectionId}
use Rattle.sf_term.specs.declared.node.TermId.{TermId}
use Rattle.sf_term.specs.declared.node.Argument.{Argument}
use Rattle.sf_term.specs.declared.node.Argument.TheVariants as arguments
use Rattle.sf_term.specs.declared.program.Program.{Program}
use Rattle.sf_term.specs.Parameters.{PlacedParameter, Bindings, parameters_of}
use Rattle.sf_term.specs.Trees.{Term, Collection, Arguments, no_arguments, Template, terms_in, terms_collected, terms_in_arguments, expressions_in, expressions_collected, expressions_in_arguments}
use Rattle.sf_term.specs.Arena.{HoldsTerm, HoldsArgument, HoldsMembers, HoldsWhole, tree, collection_of, collection_tree, program_expression, arguments_of, term_count, expression_count, templates_of, ExtendsProgram}
use Rattle.sf_lex.specs.Tokens.{Tok}
use Rattle.sf_text.specs.declared.parts.stop.Stop.{Stop}
use Rattle.sf_text.specs.declared.parts.cursor.Cursor.{Cursor}
use Rattle.sf_text.specs.declared.parts.reader.Reader.{Reader}
use Rattle.sf_text.specs.declared.parts.mark.Mark.{Mark}
use Rattle.sf_grammar.specs.Reading.{Read, got, Actual, actual_value, actual_process, actual_collection, leading_actual, no_word, process_word, collection_word, argument_word, behind_first}
use Rattle.sf_text.specs.Parsing.Answers.{ahead, StopsReading, named_bytes}
use Rattle.sf_text.specs.Parsing.Consuming.{spots_ahead, BehindOne}

abbrev pub declared_kinds : Types → Kind × Kind
declared_kinds s = (s.input, s.output)

abbrev pub parameter_bindings : Vec PlacedParameter Global → Bindings
parameter_bindings qs = parameters_of qs.items

abbrev pub heading_in : Titled → Name × Bindings
heading_in h = (named_bytes h.name, parameters_of h.parameters.items)

-- a term was read into the program
pub record FoundTerm (old new : Program) (id : TermId) (rest : List Tok) (read : Read Term) : Type 0 where
  pub term : Term
  pub is : read ≡ got term rest
  pub held : HoldsTerm new id
  pub tree : tree new id ≡ term
  pub kept : ExtendsProgram old new
  pub terms : term_count new ≡ term_count old + terms_in term
  pub expressions : expression_count new ≡ expression_count old + expressions_in term

-- a term was read into the program, up to these tokens
abbrev pub ReadsTermInto : Program → Program → List Tok → Result TermId Stop → Read Term → Type 0
ReadsTermInto old new rest (Ok id) read = FoundTerm old new id rest read
ReadsTermInto old new rest (Err e) read = StopsReading e read

abbrev pub ReadsTerm : Reader → Reader → Result TermId Stop → Read Term → Type 0
ReadsTerm old new result read = ReadsTermInto old.program new.program (ahead new.cursor) result read

-- the term that begins at the mark was read into the program, whatever tokens there are from there on
abbrev pub ReadsTermForm : Reader → Reader → Mark → Result TermId Stop → (List Tok → List Tok → Read Term) → Type 0
ReadsTermForm old new start result read = (whole : List Tok) → length whole ≡ start.ahead → ReadsTerm old new result (read whole (ahead old.cursor))

-- the pattern and the term of a body were read, the term into the program
pub record FoundBody (old new : Program) (p : Pattern) (id : TermId) (rest : List Tok) (read : Read (Pattern × Term)) : Type 0 where
  pub term : Term
  pub is : read ≡ got (p, term) rest
  pub names : HasNames p
  pub held : HoldsTerm new id
  pub tree : tree new id ≡ term
  pub kept : ExtendsProgram old new
  pub terms : term_count new ≡ term_count old + terms_in term
  pub expressions : expression_count new ≡ expression_count old + expressions_in term

abbrev pub ReadsBody : Reader → Reader → Result (PlacedPattern × TermId) Stop → Read (Pattern × Term) → Type 0
ReadsBody old new (Ok x) read = FoundBody old.program new.program (pattern_of x.0) x.1 (ahead new.cursor) read
ReadsBody old new (Err e) read = StopsReading e read

-- a collection was read into the program: what it names is held, and it is not among the collections of the program yet
pub record FoundCollection (old new : Program) (c : CollExpr) (rest : List Tok) (read : Read Collection) : Type 0 where
  pub members : Collection
  pub is : read ≡ got members rest
  pub held : HoldsMembers new c
  pub made : collection_of new c ≡ members
  pub kept : ExtendsProgram old new
  pub terms : term_count new ≡ term_count old + terms_collected members
  pub expressions : expression_count new ≡ expression_count old + expressions_collected members

-- a collection was read into the program, up to these tokens
abbrev pub ReadsCollectionInto : Program → Program → List Tok → Result (Rc CollExpr Global) Stop → Read Collection → Type 0
ReadsCollectionInto old new rest (Ok c) read = FoundCollection old new c.value rest read
ReadsCollectionInto old new rest (Err e) read = StopsReading e read

abbrev pub ReadsCollection : Reader → Reader → Result (Rc CollExpr Global) Stop → Read Collection → Type 0
ReadsCollection old new result read = ReadsCollectionInto old.program new.program (ahead new.cursor) result read

-- a collection was read into the program, and is among its collections
pub record FoundMembers (old new : Program) (i : CollectionId) (rest : List Tok) (read : Read Collection) : Type 0 where
  pub members : Collection
  pub is : read ≡ got members rest
  pub held : HoldsWhole new i
  pub made : collection_tree new i ≡ members
  pub kept : ExtendsProgram old new
  pub terms : term_count new ≡ term_count old + terms_collected members
  pub expressions : expression_count new ≡ expression_count old + expressions_collected members

abbrev pub ReadsMembersInto : Program → Program → List Tok → Result CollectionId Stop → Read Collection → Type 0
ReadsMembersInto old new rest (Ok i) read = FoundMembers old new i rest read
ReadsMembersInto old new rest (Err e) read = StopsReading e read

abbrev pub ReadsMembers : Reader → Reader → Result CollectionId Stop → Read Collection → Type 0
ReadsMembers old new result read = ReadsMembersInto old.program new.program (ahead new.cursor) result read

-- the pattern and the collection of an edit were read, both into the program
pub record FoundEdit (old new : Program) (p : Pattern) (i : CollectionId) (rest : List Tok) (read : Read (Pattern × Collection)) : Type 0 where
  pub members : Collection
  pub is : read ≡ got (p, members) rest
  pub names : HasNames p
  pub held : HoldsWhole new i
  pub made : collection_tree new i ≡ members
  pub kept : ExtendsProgram old new
  pub terms : term_count new ≡ term_count old + terms_collected members
  pub expressions : expression_count new ≡ expression_count old + expressions_collected members

abbrev pub ReadsEdit : Reader → Reader → Result (PlacedPattern × CollectionId) Stop → Read (Pattern × Collection) → Type 0
ReadsEdit old new (Ok x) read = FoundEdit old.program new.program (pattern_of x.0) x.1 (ahead new.cursor) read
ReadsEdit old new (Err e) read = StopsReading e read

-- what an argument begins with: the tokens behind its word, or none
abbrev pub BeginsArgument : ArgumentFront → Cursor → Type 0
BeginsArgument fronts.Value old = argument_word (ahead old) ≡ no_word
BeginsArgument (fronts.Process rest) old = (argument_word (ahead old) ≡ process_word) × (behind_first (ahead old) ≡ ahead rest) × BehindOne (spots_ahead old) (spots_ahead rest)
BeginsArgument (fronts.Members rest) old = (argument_word (ahead old) ≡ collection_word) × (behind_first (ahead old) ≡ ahead rest) × BehindOne (spots_ahead old) (spots_ahead rest)

-- the argument that one with ids stands for
abbrev pub actual_of : Program → Argument → Actual
actual_of p (arguments.Value e) = actual_value (program_expression p e)
actual_of p (arguments.Process t) = actual_process (tree p t)
actual_of p (arguments.Collection i) = actual_collection (collection_tree p i)

-- an argument was read into the program
pub record FoundArgument (old new : Program) (a : Argument) (rest : List Tok) (read : Read Actual) : Type 0 where
  pub value : Actual
  pub is : read ≡ got value rest
  pub held : HoldsArgument new a
  pub same : actual_of new a ≡ value
  pub kept : ExtendsProgram old new
  pub terms : term_count new ≡ term_count old + terms_in_arguments (leading_actual value no_arguments)
  pub expressions : expression_count new ≡ expression_count old + expressions_in_arguments (leading_actual value no_arguments)

abbrev pub ReadsArgument : Reader → Reader → Result Argument Stop → Read Actual → Type 0
ReadsArgument old new (Ok a) read = FoundArgument old.program new.program a (ahead new.cursor) read
ReadsArgument old new (Err e) read = StopsReading e read

-- arguments were read into the program
pub record FoundArguments (old new : Program) (bs : List Argument) (rest : List Tok) (read : Read Arguments) : Type 0 where
  pub value : Arguments
  pub is : read ≡ got value rest
  pub held : All (HoldsArgument new) bs
  pub same : arguments_of new bs ≡ value
  pub kept : ExtendsProgram old new
  pub terms : term_count new ≡ term_count old + terms_in_arguments value
  pub expressions : expression_count new ≡ expression_count old + expressions_in_arguments value

abbrev pub ReadsArguments : Reader → Reader → Result (Vec Argument Global) Stop → Read Arguments → Type 0
ReadsArguments old new (Ok bs) read = FoundArguments old.program new.program bs.items (ahead new.cursor) read
ReadsArguments old new (Err e) read = StopsReading e read

-- a template was read into the program, behind the others
pub record FoundTemplate (old new : Program) (rest : List Tok) (read : Read Template) : Type 0 where
  pub template : Template
  pub is : read ≡ got template rest
  pub templates : templates_of new ≡ templates_of old ++ template ∷ []
  pub terms : term_count new ≡ term_count old + terms_in template.body
  pub expressions : expression_count new ≡ expression_count old + expressions_in template.body

abbrev pub ReadsTemplate : Reader → Reader → Result (Unit {0}) Stop → Read Template → Type 0
ReadsTemplate old new (Ok u) read = FoundTemplate old.program new.program (ahead new.cursor) read
ReadsTemplate old new (Err e) read = StopsReading e read

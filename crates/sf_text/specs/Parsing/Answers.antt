-- What the reading functions answer.
use Rattle.std.specs.Prelude.{◌≡◌, ℕ, ◌+◌, List, length, map, Option, Some, None, Result, Ok, Err}
use Rattle.sf_value.specs.Values.{Name, Kind, event_kind, table_kind}
use Rattle.sf_text.specs.declared.parts.types.Outer.{Outer}
use Rattle.sf_text.specs.declared.parts.types.Outer.TheVariants as outers
use Rattle.sf_text.specs.declared.parts.cursor.Named.{Named}
use Rattle.sf_text.specs.declared.parts.cursor.Cursor.{Cursor}
use Rattle.sf_text.specs.declared.parts.mark.Mark.{Mark}
use Rattle.sf_text.specs.declared.parts.reader.Reader.{Reader}
use Rattle.sf_text.specs.Parsing.Consuming.{spots_ahead, BehindOne}
use Rattle.sf_value.specs.KindView.{key_kind_of}
use Rattle.sf_value.specs.declared.ty.TyRefusal.{TyRefusal}
use Rattle.sf_value.specs.declared.ty.TyRefusal.TheVariants as type_refusals
use Rattle.sf_expr.specs.declared.exprs.ExprId.{ExprId}
use Rattle.sf_expr.specs.declared.exprs.FunctionId.{FunctionId}
use Rattle.sf_expr.specs.Expressions.{Pattern, Expression, size, Function, function, function_size}
use Rattle.sf_expr.specs.Patterns.{PlacedPattern, pattern_of}
use Rattle.sf_term.specs.declared.program.Program.{Program}
use Rattle.sf_term.specs.Arena.{HoldsExpression, ProgramHoldsFunction, program_expression, program_function, term_count, expression_count, ExtendsProgram}
use Rattle.sf_term.specs.Names.{HasNames}
use Rattle.sf_lex.specs.Tokens.{Tok, name_bytes, token_of}
use Rattle.sf_lex.specs.declared.token.PlacedToken.{PlacedToken}
use Rattle.sf_term.specs.declared.refusal.BuildRefusal.{BuildRefusal}
use Rattle.sf_term.specs.declared.refusal.BuildRefusal.TheVariants as refusals
use Rattle.sf_refusal.specs.declared.rule.Rule.TheVariants.{Unexpected, TooDeep, WrittenTypeTooLarge, TooMany}
use Rattle.sf_text.specs.declared.parts.stop.Stop.{Stop}
use Rattle.sf_text.specs.declared.parts.stop.Stop.TheVariants.{At, Memory}
use Rattle.sf_grammar.specs.Reading.{Read, got, Counts}
use Rattle.sf_grammar.specs.Stopping.{Stopped}

-- tokens without their places
abbrev pub toks : List PlacedToken → List Tok
toks tokens = map (λ (p : PlacedToken). token_of p.token) tokens

-- reading stopped, where it was not for want of memory
abbrev pub StopsReading : {A : Type 0} → Stop → Read A → Type 0
StopsReading (At fault left) read = Stopped fault left read
StopsReading Memory read = Unit {0}

-- the tokens that are left
abbrev pub ahead : Cursor → List Tok
ahead c = toks c.tokens.now

-- what was read, seen so, and the tokens behind it
abbrev pub ReadsAs : {X A : Type 0} → (X → A) → Result X Stop → Cursor → Read A → Type 0
ReadsAs view (Ok x) new read = read ≡ got (view x) (ahead new)
ReadsAs view (Err e) new read = StopsReading e read

-- the tokens behind what may stand in front
abbrev pub IsBehind : Option Cursor → (List Tok → Option (List Tok)) → Cursor → Type 0
IsBehind (Some rest) behind old = (behind (ahead old) ≡ Some (ahead rest)) × BehindOne (spots_ahead old) (spots_ahead rest)
IsBehind None behind old = behind (ahead old) ≡ None

abbrev pub named_bytes : Named → Name
named_bytes n = name_bytes n.name

-- the type that is made of one part
abbrev pub outer_kind : Outer → Kind → Kind
outer_kind outers.Event = event_kind
outer_kind (outers.Table k) = table_kind (key_kind_of k)

-- an expression was read into the program
pub record FoundExpression (old new : Program) (id : ExprId) (rest : List Tok) (read : Read Expression) : Type 0 where
  pub value : Expression
  pub is : read ≡ got value rest
  pub held : HoldsExpression new id
  pub tree : program_expression new id ≡ value
  pub kept : ExtendsProgram old new
  pub terms : term_count new ≡ term_count old
  pub expressions : expression_count new ≡ expression_count old + size value

-- an expression was read into the program, up to these tokens
abbrev pub ReadsInto : Program → Program → List Tok → Result ExprId Stop → Read Expression → Type 0
ReadsInto old new rest (Ok id) read = FoundExpression old new id rest read
ReadsInto old new rest (Err e) read = StopsReading e read

abbrev pub ReadsExpression : Reader → Reader → Result ExprId Stop → Read Expression → Type 0
ReadsExpression old new result read = ReadsInto old.program new.program (ahead new.cursor) result read

-- the form that begins at the mark was read into the program, whatever tokens there are from there on
abbrev pub ReadsForm : Reader → Reader → Mark → Result ExprId Stop → (List Tok → List Tok → Read Expression) → Type 0
ReadsForm old new start result read = (whole : List Tok) → length whole ≡ start.ahead → ReadsExpression old new result (read whole (ahead old.cursor))

-- the pattern and the expression of a function were read, the expression into the program
pub record FoundMapping (old new : Program) (p : Pattern) (id : ExprId) (rest : List Tok) (read : Read Function) : Type 0 where
  pub value : Expression
  pub is : read ≡ got (function p value) rest
  pub names : HasNames p
  pub held : HoldsExpression new id
  pub tree : program_expression new id ≡ value
  pub kept : ExtendsProgram old new
  pub terms : term_count new ≡ term_count old
  pub expressions : expression_count new ≡ expression_count old + size value

abbrev pub ReadsMapping : Reader → Reader → Result (PlacedPattern × ExprId) Stop → Read Function → Type 0
ReadsMapping old new (Ok x) read = FoundMapping old.program new.program (pattern_of x.0) x.1 (ahead new.cursor) read
ReadsMapping old new (Err e) read = StopsReading e read

-- a function was read into the program
pub record FoundFunction (old new : Program) (id : FunctionId) (rest : List Tok) (read : Read Function) : Type 0 where
  pub function : Function
  pub is : read ≡ got function rest
  pub held : ProgramHoldsFunction new id
  pub meaning : program_function new id ≡ function
  pub kept : ExtendsProgram old new
  pub terms : term_count new ≡ term_count old
  pub expressions : expression_count new ≡ expression_count old + function_size function

abbrev pub ReadsFunction : Reader → Reader → Result FunctionId Stop → Read Function → Type 0
ReadsFunction old new (Ok f) read = FoundFunction old.program new.program f (ahead new.cursor) read
ReadsFunction old new (Err e) read = StopsReading e read

-- how many terms and expressions a program has
abbrev pub counts_of : Program → Counts
counts_of p = record { terms = term_count p; expressions = expression_count p }

-- why a program took no more of what begins so many tokens before the end
abbrev pub stop_for : BuildRefusal → ℕ → Stop
stop_for refusals.TooMany left = At TooMany left
stop_for refusals.TooDeep left = At TooDeep left
stop_for refusals.BadName left = At Unexpected left
stop_for refusals.Memory left = Memory

-- what a program answers of a form that begins so many tokens before the end
abbrev pub built_as : {X : Type 0} → ℕ → Result X BuildRefusal → Result X Stop
built_as left (Ok x) = Ok x
built_as left (Err refusal) = Err (stop_for refusal left)

-- why a type was not made that begins so many tokens before the end
abbrev pub stop_for_type : TyRefusal → ℕ → Stop
stop_for_type type_refusals.TypeTooLarge left = At WrittenTypeTooLarge left
stop_for_type type_refusals.Memory left = Memory

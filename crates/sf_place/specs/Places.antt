-- Where the text of a network is refused for a token.
use Rattle.std.specs.Prelude.{◌≡◌, ℕ, pos, List, [], ◌∷◌, ◌++◌, length, map, codes}
use Rattle.std.specs.List.{All}
use Rattle.sf_value.specs.Values.{Name}
use Rattle.sf_expr.specs.Expressions.{none_literal, Expression, literal, paired, applied, operation, conditional, mapped, folded, called, Function, function}
use Rattle.sf_term.specs.Parameters.{NameKind, value}
use Rattle.sf_term.specs.Parameters
use Rattle.sf_term.specs.Trees.{Term, primitive, reference, joined, sided, headed, transformed, switching, continuing, gathered, releasing, editing, staged, never, with_value, timed, arrow, accumulated, fused, Collection, without_members, added, dropped, kept, chosen, Reference, started, call, Arguments, no_arguments, value_argument, process_argument, collection_argument, closed_argument, Template, Templates}
use Rattle.sf_refusal.specs.declared.rule.Rule.TheVariants.{Unexpected}
use Rattle.sf_refusal.specs.declared.spot.Spot.{Spot}
use Rattle.sf_lex.specs.Tokens.{Tok, keyword, name, number, text, symbol, Located, offset_place}
use Rattle.sf_lex.specs.Cutting.{Lexes}
use Rattle.sf_grammar.specs.declared.ty.Version.{Version}
use Rattle.sf_grammar.specs.Spelling.{WritesKeys, WritesType, WritesStart, head_makes, spell}
use Rattle.sf_grammar.specs.Stopping.{NetworkStops, offset_of}

-- behind the tokens of a front, reading stops for the first of these, or for the end
abbrev pub IsRefusedToken : List Tok → List Tok → Type 0
IsRefusedToken front at = NetworkStops (front ++ at) Unexpected (length at)

-- a text of the version has an expression, whatever its depth and size
abbrev pub ExpressionInTexts : Version → Expression → Type 0
ExpressionInTexts v (literal (none_literal t)) = WritesType v t
ExpressionInTexts v (paired e f) = ExpressionInTexts v e × ExpressionInTexts v f
ExpressionInTexts v (applied o e) = ExpressionInTexts v e
ExpressionInTexts v (operation e o f) = ExpressionInTexts v e × ExpressionInTexts v f
ExpressionInTexts v (conditional e f g) = ExpressionInTexts v e × ExpressionInTexts v f × ExpressionInTexts v g
ExpressionInTexts v (mapped e m p f) = ExpressionInTexts v e × ExpressionInTexts v f
ExpressionInTexts v (folded e o f p g) = ExpressionInTexts v e × ExpressionInTexts v f × ExpressionInTexts v g
ExpressionInTexts v (called g e) = ExpressionInTexts v e
ExpressionInTexts v e = Unit {0}

abbrev pub FunctionInTexts : Version → Function → Type 0
FunctionInTexts v (function p e) = ExpressionInTexts v e

abbrev mutual
  -- the same of a term: the forms of plans stand in no text
  pub TermInTexts : Version → Term → Type 0
  TermInTexts v (primitive (never t)) = WritesType v t
  TermInTexts v (primitive (with_value k e)) = ExpressionInTexts v e
  TermInTexts v (primitive (timed k q e)) = ExpressionInTexts v e
  TermInTexts v (primitive (arrow f)) = FunctionInTexts v f
  TermInTexts v (primitive (accumulated k e f)) = ExpressionInTexts v e × FunctionInTexts v f
  TermInTexts v (primitive (fused f)) = ⊥
  TermInTexts v (primitive p) = Unit {0}
  TermInTexts v (reference r) = ReferenceInTexts v r
  TermInTexts v (joined j f g) = TermInTexts v f × TermInTexts v g
  TermInTexts v (sided s f) = TermInTexts v f
  TermInTexts v (headed h e f) = (head_makes h e f ≡ headed h e f) × ExpressionInTexts v e × TermInTexts v f
  TermInTexts v (transformed h f) = FunctionInTexts v h × TermInTexts v f
  TermInTexts v (switching w f p g) = TermInTexts v f × TermInTexts v g
  TermInTexts v (continuing w f g k p u) = TermInTexts v f × TermInTexts v g × TermInTexts v u
  TermInTexts v (gathered i) = CollectionInTexts v i
  TermInTexts v (releasing w i q k p u) = CollectionInTexts v i × TermInTexts v q × TermInTexts v u
  TermInTexts v (editing w i k p u) = CollectionInTexts v i × CollectionInTexts v u
  TermInTexts v (staged x f g) = ⊥

  -- the same of a collection
  pub CollectionInTexts : Version → Collection → Type 0
  CollectionInTexts v (without_members k t) = WritesKeys v k × WritesType v t
  CollectionInTexts v (added i e t) = CollectionInTexts v i × ExpressionInTexts v e × TermInTexts v t
  CollectionInTexts v (dropped i e) = CollectionInTexts v i × ExpressionInTexts v e
  CollectionInTexts v (kept i f) = CollectionInTexts v i × FunctionInTexts v f
  CollectionInTexts v (chosen e i j) = ExpressionInTexts v e × CollectionInTexts v i × CollectionInTexts v j
  CollectionInTexts v i = Unit {0}

  -- the same of what stands in the place of a process
  pub ReferenceInTexts : Version → Reference → Type 0
  ReferenceInTexts v (started w k) = WritesStart v w
  ReferenceInTexts v (call g vs) = ArgumentsInTexts v vs

  -- the same of arguments
  pub ArgumentsInTexts : Version → Arguments → Type 0
  ArgumentsInTexts v no_arguments = Unit {0}
  ArgumentsInTexts v (value_argument e vs) = ExpressionInTexts v e × ArgumentsInTexts v vs
  ArgumentsInTexts v (process_argument t vs) = TermInTexts v t × ArgumentsInTexts v vs
  ArgumentsInTexts v (collection_argument i vs) = CollectionInTexts v i × ArgumentsInTexts v vs
  ArgumentsInTexts v (closed_argument t vs) = ⊥

-- the same of what a name stands for
abbrev pub NameKindInTexts : Version → NameKind → Type 0
NameKindInTexts v (value t) = WritesType v t
NameKindInTexts v (Parameters.process t u) = WritesType v t × WritesType v u
NameKindInTexts v (Parameters.collection k t u) = WritesKeys v k × WritesType v t × WritesType v u

-- a text of the version has a template, whatever its depth and size
pub record TemplateInTexts (v : Version) (t : Template) : Type 0 where
  pub parameters : All (λ (q : Name × NameKind). NameKindInTexts v q.1) t.parameters
  pub input : WritesType v t.input
  pub output : WritesType v t.output
  pub body : TermInTexts v t.body

-- the tokens are those of a network, whatever its depth and size and its numbers of terms and expressions
pub record SpellsNetwork (tokens : List Tok) : Type 0 where
  pub version : Version
  pub network : Templates
  pub spelled : tokens ≡ spell version network
  pub stands : All (TemplateInTexts version) network

-- a word, a symbol, the name `a` or the number 1
abbrev pub IsPlain : Tok → Type 0
IsPlain (keyword k) = Unit {0}
IsPlain (name n) = n ≡ codes "a"
IsPlain (number z) = z ≡ pos 1
IsPlain (text s) = ⊥
IsPlain (symbol s) = Unit {0}

-- some network has these tokens at its front, and only plain ones behind them
pub record LeadsToNetwork (front : List Tok) : Type 0 where
  pub more : List Tok
  pub plain : All IsPlain more
  pub network : SpellsNetwork (front ++ more)

-- no network has the first of these tokens behind the front; or there is none, and the front is no network
abbrev pub GoesNoFurther : List Tok → List Tok → Type 0
GoesNoFurther front (t ∷ rest) = (more : List Tok) → SpellsNetwork (front ++ (t ∷ more)) → ⊥
GoesNoFurther front [] = SpellsNetwork front → ⊥

abbrev pub tokens_of : List Located → List Tok
tokens_of located = map (λ (l : Located). l.token) located

-- the place is that of the first token of the bytes that no network has behind the tokens in front of it, or it is behind the last byte
pub record NoNetworkFrom (bytes : List ℕ) (place : Spot) : Type 0 where
  pub front : List Located
  pub at : List Located
  pub cut : Lexes bytes (front ++ at)
  pub leads : LeadsToNetwork (tokens_of front)
  pub no_further : GoesNoFurther (tokens_of front) (tokens_of at)
  pub is : place ≡ offset_place bytes (offset_of (length bytes) at)

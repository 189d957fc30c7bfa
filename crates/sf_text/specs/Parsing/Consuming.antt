-- Which tokens were read, by their places, and that what was read of them stands there.
use Rattle.std.specs.Prelude.{◌≡◌, true, false, List, ◌∷◌, ◌++◌, map, Result, IfOk}
use Rattle.sf_refusal.specs.declared.spot.Spot.{Spot}
use Rattle.sf_expr.specs.declared.exprs.ExprId.{ExprId}
use Rattle.sf_expr.specs.declared.exprs.ExprNode.{ExprNode}
use Rattle.sf_expr.specs.declared.exprs.ExprNode.TheVariants as expressions
use Rattle.sf_lex.specs.declared.token.PlacedToken.{PlacedToken}
use Rattle.sf_text.specs.declared.parts.cursor.Cursor.{Cursor}
use Rattle.sf_text.specs.declared.parts.mark.Mark.{Mark}
use Rattle.sf_grammar.specs.declared.head.ExpressionHead.{ExpressionHead}
use Rattle.sf_grammar.specs.declared.head.ExpressionHead.TheVariants as expression_heads
use Rattle.sf_grammar.specs.declared.head.Link.{Link}
use Rattle.sf_grammar.specs.declared.head.Link.TheVariants as links
use Rattle.sf_grammar.specs.Spelling.{takes_brackets, stands_between, maps_in_brackets}

-- the places of tokens
abbrev pub places : List PlacedToken → List Spot
places tokens = map (λ (t : PlacedToken). t.spot) tokens

-- the places of the tokens that are left
abbrev pub spots_ahead : Cursor → List Spot
spots_ahead c = places c.tokens.now

-- one token was read
pub record BehindOne (tokens rest : List Spot) : Type 0 where
  pub at : Spot
  pub split : tokens ≡ at ∷ rest

-- a name was read that stands here
pub record NamePlaced (spot : Spot) (tokens rest : List Spot) : Type 0 where
  pub split : tokens ≡ spot ∷ rest

-- tokens were read of whose places this holds
pub record Consumes (P : List Spot → Type 0) (tokens rest : List Spot) : Type 0 where
  pub front : List Spot
  pub split : tokens ≡ front ++ rest
  pub holds : P front

-- the places of two parts with a token between them
pub record Parted (P Q : List Spot → Type 0) (places : List Spot) : Type 0 where
  pub first : List Spot
  pub between : Spot
  pub second : List Spot
  pub split : places ≡ first ++ (between ∷ second)
  pub first_holds : P first
  pub second_holds : Q second

-- tokens were read
abbrev pub BehindSome : List Spot → List Spot → Type 0
BehindSome tokens rest = Consumes (λ _. Unit {0}) tokens rest

-- what was read stands on the tokens that were read
abbrev pub StandsOn : {X E : Type 0} → (X → List Spot → Type 0) → Result X E → Cursor → Cursor → Type 0
StandsOn placed result old new = IfOk result (λ x. Consumes (placed x) (spots_ahead old) (spots_ahead new))

-- what was read stands on the token at the mark and those that were read behind it
abbrev pub ReadStands : {X E : Type 0} → Mark → (X → List Spot → Type 0) → Result X E → Cursor → Cursor → Type 0
ReadStands start placed result old new = IfOk result (λ x. Consumes (placed x) (start.spot ∷ spots_ahead old) (spots_ahead new))

-- tokens were read of whose places this holds, with the place of a bracket in front
abbrev pub ConsumesBehind : (List Spot → Type 0) → List Spot → List Spot → Type 0
ConsumesBehind P tokens rest = (at : Spot) → Consumes P (at ∷ tokens) rest

-- the node of the one expression of two
abbrev pub linked_node : Link → ExprId → ExprId → ExprNode
linked_node links.Pair a b = expressions.Pair a b
linked_node (links.Operation o) a b = expressions.Operation a o b

-- the operands of a form stand as its word wants them
abbrev pub HasOperandsSo : ExpressionHead → Type 0
HasOperandsSo (expression_heads.Prefixed o) = takes_brackets o ≡ false
HasOperandsSo (expression_heads.OneInBrackets o) = takes_brackets o ≡ true
HasOperandsSo (expression_heads.TwoInBrackets o) = stands_between o ≡ false
HasOperandsSo (expression_heads.OneAndFunction m) = maps_in_brackets m ≡ true
HasOperandsSo h = Unit {0}

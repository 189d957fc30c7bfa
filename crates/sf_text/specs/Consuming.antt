-- Which tokens of templates were read, by their places.
use Rattle.std.specs.Prelude.{◌≡◌, false, List, [], ◌∷◌, ◌++◌}
use Rattle.sf_refusal.specs.declared.spot.Spot.{Spot}
use Rattle.sf_term.specs.declared.form.Bare.TheVariants as bares
use Rattle.sf_term.specs.declared.form.WithValue.TheVariants as values
use Rattle.sf_term.specs.declared.form.Heading.{Heading}
use Rattle.sf_term.specs.declared.form.Heading.TheVariants as headings
use Rattle.sf_expr.specs.declared.exprs.ExprId.{ExprId}
use Rattle.sf_term.specs.declared.collection.CollectionId.{CollectionId}
use Rattle.sf_term.specs.declared.node.TermId.{TermId}
use Rattle.sf_term.specs.declared.node.Primitive.TheVariants as primitives
use Rattle.sf_term.specs.declared.node.Node.{Node}
use Rattle.sf_term.specs.declared.node.Node.TheVariants as nodes
use Rattle.sf_term.specs.declared.program.Program.{Program}
use Rattle.sf_term.specs.Parameters.{PlacedParameter}
use Rattle.sf_term.specs.Headers.{Header}
use Rattle.sf_term.specs.Arena.{ExtendsTrees, HoldsCollection, collection_node, headers_of}
use Rattle.sf_grammar.specs.declared.ty.Version.{Version}
use Rattle.sf_grammar.specs.declared.head.Head.{Head}
use Rattle.sf_grammar.specs.declared.head.Head.TheVariants as heads
use Rattle.sf_grammar.specs.Spelling.{stands_initially}
use Rattle.sf_grammar.specs.Placing.{CollectionPlaced, ParametersPlaced, TemplatePlaced}
use Rattle.sf_text.specs.Parsing.Consuming.{Consumes}

-- the first tokens of a template were read, up to its types; its name stands here, and so do its parameters
pub record HeadingPlaced (v : Version) (spot : Spot) (qs : List PlacedParameter) (tokens rest : List Spot) : Type 0 where
  pub word : Spot
  pub opening : Spot
  pub listed : List Spot
  pub split : tokens ≡ word ∷ spot ∷ opening ∷ (listed ++ rest)
  pub parameters : ParametersPlaced v qs listed

-- the tokens in front of the templates were read
pub record OpeningPlaced (tokens rest : List Spot) : Type 0 where
  pub word : Spot
  pub version : Spot
  pub semicolon : Spot
  pub split : tokens ≡ word ∷ version ∷ semicolon ∷ rest

-- a template was read into the program behind the others, and what was there stands
pub record PlacesTemplate (v : Version) (old new : Program) (tokens rest : List Spot) : Type 0 where
  pub header : Header
  pub headers : headers_of new ≡ headers_of old ++ header ∷ []
  pub kept : ExtendsTrees old new
  pub placed : Consumes (TemplatePlaced v new header) tokens rest

-- the collection at an id, whose tokens have these places
pub record MembersPlaced (v : Version) (p : Program) (i : CollectionId) (places : List Spot) : Type 0 where
  pub held : HoldsCollection p i
  pub placed : CollectionPlaced v p (collection_node p i) places

-- the node of a head, a value and a part of this node: behind `-->`, `pre` makes one primitive with the value
abbrev pub headed_node : Heading → ExprId → TermId → Node → Node
headed_node headings.Initialized e a (nodes.Primitive (primitives.Bare bares.Pre)) = nodes.Primitive (primitives.WithValue values.InitializedPre e)
headed_node h e a n = nodes.Headed h e a

-- the value of a form stands behind its word, if it is a primitive with a value
abbrev pub HasValueSo : Head → Type 0
HasValueSo (heads.WithValue k) = stands_initially k ≡ false
HasValueSo h = Unit {0}

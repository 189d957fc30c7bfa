-- The names of templates and of their parameters.
use Rattle.std.specs.Prelude.{◌≡◌, ℕ, ◌<◌, ◌≤◌, List, map, Some, slice_get}
use Rattle.sf_value.specs.Values.{Name}
use Rattle.sf_refusal.specs.declared.spot.Spot.{Spot}
use Rattle.sf_term.specs.declared.program.Program.{Program}
use Rattle.sf_term.specs.Parameters.{Bindings, PlacedParameter, parameters_of}
use Rattle.sf_term.specs.Headers.{Header}
use Rattle.sf_term.specs.Arena.{headers_of}
pub use Rattle.sf_reach.specs.Names.{names, program_names, names_of_set, Repeats, AreDifferent, HasDifferentNames}

-- the names of parameters, in order
abbrev pub parameter_names : Bindings → List Name
parameter_names qs = map (λ q. q.0) qs

-- where they stand in the text
abbrev pub parameter_spots : List PlacedParameter → List Spot
parameter_spots qs = map (λ (q : PlacedParameter). q.spot) qs

-- A program has this header, of a template of this name.
pub record IsHeaderNamed (p : Program) (x : Name) (h : Header) : Type 0 where
  pub place : ℕ
  pub at : slice_get (headers_of p) place ≡ Some h
  pub named : h.name ≡ x

-- no parameter of a template has the name of one before it
abbrev pub HasDifferentParameters : Program → Type 0
HasDifferentParameters p = (i : ℕ) (h : Header) → slice_get (headers_of p) i ≡ Some h → AreDifferent (parameter_names (parameters_of h.parameters))

-- All names of templates are different, and so are those of each one's parameters.
pub record NamesDiffer (p : Program) : Type 0 where
  pub templates : HasDifferentNames p
  pub parameters : HasDifferentParameters p

-- At a spot stands the first of these names that is one before it.
pub record IsFirstRepeat (ns : List Name) (spots : List Spot) (spot : Spot) : Type 0 where
  pub place : ℕ
  pub repeats : Repeats ns place
  pub first : (other : ℕ) → Repeats ns other → place ≤ other
  pub stands : slice_get spots place ≡ Some spot

-- In the header at a place, at a spot stands the first name that is one before it: the template's own name comes first, and
-- is compared with those of templates; then those of its parameters are, with one another.
pub data HeaderRepeats (p : Program) (i : ℕ) (h : Header) : Spot → Type 0 where
  name_repeats : Repeats (program_names p) i → HeaderRepeats p i h h.spot
  parameter_repeats : {spot : Spot} → ¬ Repeats (program_names p) i → IsFirstRepeat (parameter_names (parameters_of h.parameters)) (parameter_spots h.parameters) spot → HeaderRepeats p i h spot

-- the names in the header at a place are different from those before them
abbrev pub HeaderDiffers : Program → ℕ → Type 0
HeaderDiffers p i = ¬ Repeats (program_names p) i × ((h : Header) → slice_get (headers_of p) i ≡ Some h → AreDifferent (parameter_names (parameters_of h.parameters)))

-- At a spot stands the first name in the headers of a program, one after another, that is one before it.
pub record IsFirstNameAgain (p : Program) (spot : Spot) : Type 0 where
  pub place : ℕ
  pub header : Header
  pub at : slice_get (headers_of p) place ≡ Some header
  pub before : (i : ℕ) → i < place → HeaderDiffers p i
  pub again : HeaderRepeats p place header spot

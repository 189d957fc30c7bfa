-- What a term is known to take, it takes.
use Rattle.std.proofs.Common.{◌≡◌, slice_index_or, Option, inl, inr, arith}
use Rattle.std.proofs.lemmas.Bool.{cases_lt}
use Rattle.std.specs.Coded.{codes}
use Rattle.std.proofs.Math.Logic.{∥∥₁_elim, ∥∥₁_map}
use base.Stored.{Coded-set}
use Rattle.sf_value.specs.Values.{Kind}
use Rattle.sf_value.specs.Values
use Rattle.sf_value.specs.contracts.ty.Ty as ty
use Rattle.sf_func.specs.Registries.{TypesByName}
use Rattle.sf_expr.specs.Typing.{Fits}
use Rattle.sf_term.specs.Trees.{Term, Template, Templates}
use Rattle.sf_mean.specs.Contexts.{NameKind, value, process, collection, Context, template_context}
use Rattle.sf_mean.specs.Typing.{Takes, ParameterFits, IsTyped}
use Rattle.sf_mean.proofs.Inferred.{takes_found, output_found}

pub ⊥-prop : IsProp ⊥
⊥-prop = λ a b. absurd a

Kind-set : (a b : Kind) → IsProp (a ≡ b)
Kind-set = Coded-set ty.the_row.coded

outputs-set : (a b : Option Kind) → IsProp (a ≡ b)
outputs-set = hlevel (codes, Kind-set)

-- a term takes inputs of a type to outputs of another, where it is known that it does
pub settled : (Γ : Context) (t : Term) (a b : Kind) → ∥ Takes Γ t a b ∥₁ → Takes Γ t a b
settled Γ t a b h = output_found t a b (∥∥₁_elim h (outputs-set _ _) takes_found)

-- a type has at most 256 nodes, where it is known that it has
settled_fits : (t : Kind) → ∥ Fits t ∥₁ → Fits t
settled_fits t h = elim (cases_lt 256 (Values.nodes t)) [ inl big ↦ absurd (∥∥₁_elim h ⊥-prop (λ small. omega (arith, big, small))) | inr small ↦ small ]

settled_parameter : (k : NameKind) → ∥ ParameterFits k ∥₁ → ParameterFits k
settled_parameter (value t) h = settled_fits t h
settled_parameter (process a b) h = (settled_fits a (∥∥₁_map h (λ h. h.0)), settled_fits b (∥∥₁_map h (λ h. h.1)))
settled_parameter (collection k a b) h = (settled_fits a (∥∥₁_map h (λ h. h.0)), settled_fits b (∥∥₁_map h (λ h. h.1)))

-- a template is typed, where it is known that it is
pub settled_typed : (fs : TypesByName) (ts : Templates) (t : Template) → ∥ IsTyped fs ts t ∥₁ → IsTyped fs ts t
settled_typed fs ts t h = record {
  parameters = λ i q within. settled_parameter (slice_index_or t.parameters i q).1 (∥∥₁_map h (λ h. h.parameters i q within));
  body = settled (template_context fs t.parameters ts) t.body t.input t.output (∥∥₁_map h (λ h. h.body));
}

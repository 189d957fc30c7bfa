-- Which networks are accepted.
use Rattle.std.proofs.Common.{◌≡◌, ◌≢◌, ℕ, ◌<◌, List, [], ◌∷◌, map, subst, Option, Some, None, slice_get, ap, ◌∙◌, sym, refl}
use Rattle.std.specs.Option.{option_map}
use Rattle.std.proofs.lemmas.Option.{slice_get-map, same_Some, none-some}
use Rattle.sf_refusal.specs.declared.refusal.Breach.{Breach}
use Rattle.sf_refusal.specs.declared.refusal.Refusal.{Refusal}
use Rattle.sf_refusal.specs.declared.refusal.Refusal.TheVariants.{Memory}
use Rattle.sf_refusal.specs.Refusals.{OrMemory, because, no_memory, breach_of}
use Rattle.sf_refusal.proofs.Explained.{or_memory}
use Rattle.sf_value.specs.Values.{Name}
use Rattle.sf_func.specs.Registries.{TypesByName}
use Rattle.sf_term.specs.declared.program.Program.{Program}
use Rattle.sf_term.specs.Trees.{Template, Templates}
use Rattle.sf_term.specs.Arena.{headers_of, templates_of, term_template}
use Rattle.sf_mean.specs.Networks.{main_of}
use Rattle.sf_mean.specs.Typing.{IsTyped, Accepted}
use Rattle.sf_refusal.specs.declared.spot.Spot.{Spot}
use Rattle.sf_refusal.specs.declared.rule.Rule.TheVariants.{DuplicateName}
use Rattle.sf_term.specs.Headers.{Header}
use Rattle.sf_term.specs.Parameters.{NameKind, Bindings, parameters_of}
use Rattle.sf_reach.specs.Endless.{ReachesItselfNowhere}
use Rattle.sf_reach.proofs.Named.{header_of}
use Rattle.sf_reach.proofs.Lawful.{endless_somewhere}
use Rattle.sf_check.specs.Names.{program_names, parameter_names, Repeats, AreDifferent, HasDifferentNames, HasDifferentParameters, NamesDiffer, HeaderRepeats, name_repeats, parameter_repeats, IsFirstNameAgain}
use Rattle.sf_check.specs.Breaking.{AreTyped, IsFirstBreak}
use Rattle.sf_check.specs.Refusing.{RefusesNetwork, name_refused, type_refused, endless_refused, main_missing}
use Rattle.sf_check.proofs.Templates.{template_at}
use Rattle.sf_check.proofs.Judged.{template_untyped}
use Rattle.sf_check.proofs.Settled.{⊥-prop, settled_typed}
use Rattle.std.proofs.Math.Logic.{∥∥₁_elim, ∥∥₁_map}

-- what stands at a place among images
module _ {X Y : Type 0} (f : X → Y) (xs : List X) (i : ℕ) (y : Y) (e : slice_get (map f xs) i ≡ Some y) where
  mapped : (x : X) × (slice_get xs i ≡ Some x) × (f x ≡ y)
  mapped = by (slice_get xs i) refl (sym (slice_get-map f xs i) ∙ e)
    where
      by : (o : Option X) → slice_get xs i ≡ o → option_map f o ≡ Some y → (x : X) × (slice_get xs i ≡ Some x) × (f x ≡ y)
      by None at k = absurd (none-some y k)
      by (Some x) at k = (x, at, same_Some _ _ k)

image : {X Y : Type 0} (f : X → Y) (xs : List X) (i : ℕ) (x : X) → slice_get xs i ≡ Some x → slice_get (map f xs) i ≡ Some (f x)
image f xs i x at = slice_get-map f xs i ∙ ap (option_map f) at

module _ (p : Program) where
  templates_differ : HasDifferentNames p → (i j : ℕ) (s t : Template) → i < j → slice_get (templates_of p) i ≡ Some s → slice_get (templates_of p) j ≡ Some t → s.name ≢ t.name
  templates_differ different i j s t below at at' same =
      different j (record { earlier = i; before = below; name = s.name; there = image (λ (t : Template). t.name) (templates_of p) i s at; here = image (λ (t : Template). t.name) (templates_of p) j t at' ∙ ap Some (sym same) })

  parameters_differ : HasDifferentParameters p → (k i j : ℕ) (t : Template) (q r : Name × NameKind) → slice_get (templates_of p) k ≡ Some t → i < j → slice_get t.parameters i ≡ Some q → slice_get t.parameters j ≡ Some r → q.0 ≢ r.0
  parameters_differ different k i j t q r at below at_i at_j same =
      let header = header_of p k t at in
      let apart = subst (λ (t : Template). AreDifferent (parameter_names t.parameters)) header.2 (different k header.0 header.1) in
      apart j (record { earlier = i; before = below; name = q.0; there = image (λ (q : Name × NameKind). q.0) t.parameters i q at_i; here = image (λ (q : Name × NameKind). q.0) t.parameters j r at_j ∙ ap Some (sym same) })

  pub accepted_by : (fs : TypesByName) (t : Template) → NamesDiffer p → AreTyped fs p → ReachesItselfNowhere p → main_of (templates_of p) ≡ Some t → t.parameters ≡ [] → Accepted fs (templates_of p)
  accepted_by fs t different typed nowhere main bare = record {
    different = templates_differ different.templates;
    different_parameters = parameters_differ different.parameters;
    typed = typed;
    endless = nowhere;
    has_main = (t, main, bare);
  }

  name_again : (fs : TypesByName) (i : ℕ) → Repeats (program_names p) i → Accepted fs (templates_of p) → ⊥
  name_again fs i again accepted =
      let s = mapped (λ (t : Template). t.name) (templates_of p) again.earlier again.name again.there in
      let t = mapped (λ (t : Template). t.name) (templates_of p) i again.name again.here in
      accepted.different again.earlier i s.0 t.0 again.before s.1 t.1 (s.2 ∙ sym t.2)

  header_again : (fs : TypesByName) (i : ℕ) (h : Header) (s : Spot) → slice_get (headers_of p) i ≡ Some h → HeaderRepeats p i h s → Accepted fs (templates_of p) → ⊥
  header_again fs i h s at (name_repeats again) accepted = name_again fs i again accepted
  header_again fs i h s at (parameter_repeats new k) accepted =
      let qs = parameters_of h.parameters in
      let q = mapped (λ (q : Name × NameKind). q.0) qs k.repeats.earlier k.repeats.name k.repeats.there in
      let r = mapped (λ (q : Name × NameKind). q.0) qs k.place k.repeats.name k.repeats.here in
      accepted.different_parameters i k.repeats.earlier k.place (term_template p h) q.0 r.0 (template_at p i h at) k.repeats.before q.1 r.1 (q.2 ∙ sym r.2)

-- a network that breaks a rule is not accepted
pub refused_network : (fs : TypesByName) (p : Program) (b : Breach) → RefusesNetwork fs p b → Accepted fs (templates_of p) → ⊥
refused_network fs p b (name_refused {spot = s} h) accepted = header_again p fs h.place h.header s h.at h.again accepted
refused_network fs p b (type_refused different h) accepted = template_untyped h.broken (accepted.typed h.place (term_template p h.header) (template_at p h.place h.header h.at))
refused_network fs p b (endless_refused {spot = s} different typed h) accepted = endless_somewhere p s different.templates h accepted.endless
refused_network fs p b (main_missing different typed nowhere none) accepted = none accepted.has_main.0 accepted.has_main.1 accepted.has_main.2

-- a network that keeps all rules is refused for want of memory alone
pub refused_memory : (fs : TypesByName) (p : Program) (e : Refusal) → OrMemory (RefusesNetwork fs p) e → Accepted fs (templates_of p) → e ≡ Memory
refused_memory fs p e (because {b = b} h) accepted = absurd (refused_network fs p b h accepted)
refused_memory fs p e no_memory accepted = refl

-- names are refused first, then types
pub names_refuse : (fs : TypesByName) (p : Program) (e : Refusal) → OrMemory (λ b. (s : Spot) × (b ≡ breach_of DuplicateName s) × IsFirstNameAgain p s) e → OrMemory (RefusesNetwork fs p) e
names_refuse fs p e h = or_memory (λ b k. subst (RefusesNetwork fs p) (sym k.1) (name_refused k.2)) h

pub types_refuse : (fs : TypesByName) (p : Program) (e : Refusal) → NamesDiffer p → OrMemory (IsFirstBreak fs p) e → OrMemory (RefusesNetwork fs p) e
types_refuse fs p e different h = or_memory (λ b k. type_refused different k) h

-- ## What is known to be accepted, is

module _ (fs : TypesByName) (ts : Templates) (t : Template) (main : main_of ts ≡ Some t) (known : ∥ Accepted fs ts ∥₁) where
  -- a template is typed
  each_typed : (i : ℕ) (s : Template) → slice_get ts i ≡ Some s → IsTyped fs ts s
  each_typed i s at = settled_typed fs ts s (∥∥₁_map known (λ k. k.typed i s at))

  -- it has no parameters
  bare : t.parameters ≡ []
  bare = by t.parameters (∥∥₁_map known (λ k. ap (λ (t : Template). t.parameters) (same_Some _ _ (sym main ∙ k.has_main.1)) ∙ k.has_main.2))
    where
      by : (qs : Bindings) → ∥ qs ≡ [] ∥₁ → qs ≡ []
      by [] h = refl
      by (q ∷ qs) h = absurd (∥∥₁_elim h ⊥-prop (λ e. cc))

  pub settled_accepted : Accepted fs ts
  settled_accepted = record {
    different = λ i j s u below at at' same. ∥∥₁_elim known ⊥-prop (λ k. k.different i j s u below at at' same);
    different_parameters = λ k i j s q r at below at_i at_j same. ∥∥₁_elim known ⊥-prop (λ a. a.different_parameters k i j s q r at below at_i at_j same);
    typed = each_typed;
    endless = λ x r. ∥∥₁_elim known ⊥-prop (λ k. k.endless x r);
    has_main = (t, main, bare);
  }

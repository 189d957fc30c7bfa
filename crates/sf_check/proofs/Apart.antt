-- What is said to differ in a term, and that it is refused there.
use Rattle.std.proofs.Common.{◌≡◌, ◌≢◌, List, ◌∷◌, IsTrue, Option, Some, None, Result, Ok, Err, IfErr, inl, inr, refl, sym, ap, ◌∙◌, subst}
use Rattle.std.proofs.lemmas.Option.{same_Some}
use Rattle.sf_value.specs.Values.{Name, KeyKind, Kind, bool_kind, int_kind, pair_kind, event_kind, table_kind}
use Rattle.sf_refusal.specs.declared.spot.Spot.{Spot}
use Rattle.sf_func.specs.Registries.{TypesByName}
use Rattle.sf_operator.specs.Kinds.{found_then, only, same_kind, payload_of}
use Rattle.sf_operator.specs.Breaches.{AnswersKind}
use Rattle.sf_expr.specs.Arena.{expression}
use Rattle.sf_expr.specs.Typing.{Fits, HasType}
use Rattle.sf_operator.proofs.SameKinds.{same_is, is_same, only_is, found_is, payload_is}
use Rattle.sf_expr.specs.declared.exprs.ExprId.{ExprId}
use Rattle.sf_expr.specs.declared.exprs.NameId.{NameId}
use Rattle.sf_expr.specs.declared.exprs.PatternId.{PatternId}
use Rattle.sf_term.specs.declared.form.Bare.{Bare}
use Rattle.sf_term.specs.declared.form.Bare.TheVariants as bare
use Rattle.sf_term.specs.declared.form.WithValue.{WithValue}
use Rattle.sf_term.specs.declared.form.WithValue.TheVariants as given
use Rattle.sf_term.specs.declared.form.Timing.{Timing}
use Rattle.sf_term.specs.declared.form.Timing.TheVariants as timing
use Rattle.sf_term.specs.declared.form.Accumulation.{Accumulation}
use Rattle.sf_term.specs.declared.form.Accumulation.TheVariants as accumulation
use Rattle.sf_term.specs.declared.form.Heading.{Heading}
use Rattle.sf_term.specs.declared.node.TermId.{TermId}
use Rattle.sf_term.specs.declared.node.ArgumentsId.{ArgumentsId}
use Rattle.sf_term.specs.declared.node.Argument.{Argument}
use Rattle.sf_term.specs.declared.node.Node.{Node}
use Rattle.sf_term.specs.declared.node.Node.TheVariants as nodes
use Rattle.sf_term.specs.declared.collection.CollectionId.{CollectionId}
use Rattle.sf_term.specs.declared.program.Program.{Program}
use Rattle.sf_term.specs.Headers.{Header}
use Rattle.sf_term.specs.Parameters.{parameters_of}
use Rattle.sf_term.specs.Arena.{tree, term_node_at, term_spot_at, program_expressions, argument_nodes, collection_node, templates_of}
use Rattle.sf_mean.specs.Contexts.{NameKind, Bindings, Signature, signature_named, Context, names_of_values, template_context, inside_pattern}
use Rattle.sf_mean.specs.Typing.{bare_kind, value_kind, takes_input, accumulated_argument, accumulated_kind, Takes}
use Rattle.sf_differ.specs.declared.difference.Wanted.{Wanted}
use Rattle.sf_differ.specs.declared.difference.Wanted.TheVariants.{Exactly, Event}
use Rattle.sf_differ.specs.declared.difference.Difference.{Difference}
use Rattle.sf_differ.specs.declared.blame.Blame.{Blame}
use Rattle.sf_differ.specs.Differences.{AreWanted, WantsAny, IsOther, DiffersAt, Explains}
use Rattle.sf_differ.specs.Wanting.{IsMade}
use Rattle.sf_differ.proofs.Told.{told_as, differs_from}
use Rattle.sf_differ.proofs.Placed.{made_by, only_same, only_self, wants_as, exactly_first, event_wants}
use Rattle.sf_check.specs.Breaking.{program_pattern, program_name, BindsInside, ArgumentsLeft, Reaches, call_argument, ReachesMembers, argument_members}
use Rattle.sf_check.proofs.Terms.{IsAmongOutputs}
use Rattle.sf_check.specs.Differing.{bare_wants, value_wants, input_wants, timed_wants, start_wants, accumulated_wants, made_wants, BodyDiffers, BodyStops, EditDiffers, EditUnfit, CallDiffers, argument_within, FormDiffers, call_itself, initial_output, followed_output, TermDiffers, term_itself, term_within, term_members, CollectionDiffers, ArgumentDiffersWithin, within_value, within_process, within_members, TemplateDiffers, template_within, header_output}

-- ## What primitives want

pub event_whole : AreWanted (λ t. IsMade (found_then (payload_of t) (λ p. Some t))) Event
event_whole = record {
  only = λ t h. let k = found_is (payload_of t) (λ p. Some t) h.is in (k.0, payload_is t k.1);
  all = λ t k. subst (λ t. IsMade (found_then (payload_of t) (λ p. Some t))) (sym k.1) (made_by refl);
}

-- a type whose payloads are values of one
event_exactly : (v : Kind) → AreWanted (λ t. IsMade (found_then (payload_of t) (λ p. only p v (Some v)))) (Exactly (event_kind v))
event_exactly v = record {
  only = λ t h.
      let k = found_is (payload_of t) (λ p. only p v (Some v)) h.is in
      payload_is t k.1 ∙ ap (λ p. event_kind p) (only_is k.0 v (Some v) k.2).0;
  all = λ t e. subst (λ t. IsMade (found_then (payload_of t) (λ p. only p v (Some v)))) (sym e) (made_by (only_self v (Some v)));
}

any_suits : {s : Spot} {t : Kind} {d : Difference} → IsOther None s t d → ⊥
any_suits h = let e = h.wanted in cc

pub bare_from : (k : Bare) {s : Spot} {a : Kind} {d : Difference} → IsOther (bare_wants k) s a d → (k ≢ bare.Pre) × DiffersAt (λ b. IsMade (bare_kind k b)) s a d
bare_from bare.Identity h = absurd (any_suits h)
bare_from bare.LocalTime h = absurd (any_suits h)
bare_from bare.Integral h = (λ e. cc, differs_from (λ b. IsMade (bare_kind bare.Integral b)) (Some (Exactly int_kind)) (exactly_first int_kind (Some int_kind) (made_by refl)) h)
bare_from bare.Edge h = (λ e. cc, differs_from (λ b. IsMade (bare_kind bare.Edge b)) (Some (Exactly bool_kind)) (exactly_first bool_kind _ (made_by refl)) h)
bare_from bare.NotYet h = (λ e. cc, differs_from (λ b. IsMade (bare_kind bare.NotYet b)) (Some Event) event_whole h)
bare_from bare.Once h = (λ e. cc, differs_from (λ b. IsMade (bare_kind bare.Once b)) (Some Event) event_whole h)
bare_from bare.Count h = (λ e. cc, differs_from (λ b. IsMade (bare_kind bare.Count b)) (Some Event) (event_wants (λ p. Some (event_kind int_kind)) (λ a. made_by refl)) h)
bare_from bare.Pre h = absurd (any_suits h)

pub bare_under : (k : Bare) {o : Option Wanted} {s : Spot} {a : Kind} {d : Difference} → o ≡ bare_wants k → IsOther o s a d → IsOther (bare_wants k) s a d
bare_under k {s = s} {a = a} {d = d} same h = subst (λ (o : Option Wanted). IsOther o s a d) same h

pub value_any : (k : WithValue) → WantsAny (λ v. (b : Kind) × IsMade (value_kind k v b)) (value_wants k)
value_any given.Constant = λ v. (v, made_by refl)
value_any given.Initially = λ v. (v, made_by (only_self v (Some v)))
value_any given.InitialPre = λ v. (v, made_by (only_self v (Some v)))
value_any given.InitializedPre = λ v. (v, made_by (only_self v (Some v)))
value_any given.Now = λ v. (v, made_by refl)
value_any given.InitialEdge = record {
  only = λ v h. (only_is v bool_kind _ (only_is h.0 bool_kind _ h.1.is).1).0;
  all = λ v e. (bool_kind, made_by (only_self bool_kind _ ∙ only_same v bool_kind _ e));
}
value_any given.EdgeTag = λ v. (bool_kind, made_by (only_self bool_kind (Some (event_kind v))))
value_any given.Hold = λ v. (event_kind v, made_by (only_self v (Some v)))
value_any given.DelayedHold = λ v. (event_kind v, made_by (only_self v (Some v)))

pub input_any : (k : WithValue) (t v : Kind) → IsMade (value_kind k t v) → WantsAny (λ b. IsMade (value_kind k t b)) (input_wants k t)
input_any given.Constant t v m = λ b. made_by refl
input_any given.Initially t v m = exactly_first t (Some t) (made_by refl)
input_any given.InitialPre t v m = exactly_first t (Some t) (made_by refl)
input_any given.InitializedPre t v m = exactly_first t (Some t) (made_by refl)
input_any given.Now t v m = λ b. made_by refl
input_any given.InitialEdge t v m = exactly_first bool_kind _ (made_by (only_is v bool_kind _ m.is).1)
input_any given.EdgeTag t v m = exactly_first bool_kind (Some (event_kind t)) (made_by refl)
input_any given.Hold t v m = event_exactly t
input_any given.DelayedHold t v m = event_exactly t

pub timed_any : (k : Timing) (t : Kind) → WantsAny (λ b. IsTrue (takes_input k t b)) (timed_wants k t)
timed_any timing.After t = λ b. refl
timed_any timing.Repeatedly t = λ b. refl
timed_any timing.Delay t = record { only = λ b h. same_is b t h; all = λ b e. ap (λ b. same_kind b t) e ∙ is_same t }

pub accumulated_any : (k : Accumulation) (t : Kind) → WantsAny (λ b. IsMade (accumulated_argument k t b)) (accumulated_wants k)
accumulated_any accumulation.EdgeBy t = λ b. made_by refl
accumulated_any accumulation.AccumBy t = event_wants (λ p. Some (pair_kind t p)) (λ a. made_by refl)
accumulated_any accumulation.AccumHoldBy t = event_wants (λ p. Some (pair_kind t p)) (λ a. made_by refl)
accumulated_any accumulation.Scan t = λ b. made_by refl

pub start_any : (k : Accumulation) (a : Kind) → WantsAny (λ w. (b : Kind) × IsMade (accumulated_kind k w a b)) (start_wants k a)
start_any accumulation.EdgeBy a = record {
  only = λ w h. sym (only_is a w (found_then (payload_of h.0) (λ p. Some h.0)) h.1.is).0;
  all = λ w e. (event_kind int_kind, made_by (only_same a w (Some (event_kind int_kind)) (sym e)));
}
start_any accumulation.AccumBy a = λ w. (w, made_by (only_self w (Some (event_kind w))))
start_any accumulation.AccumHoldBy a = λ w. (w, made_by (only_self w (Some w)))
start_any accumulation.Scan a = λ w. (w, made_by (only_self w (Some w)))

pub made_any : (k : Accumulation) (t a v : Kind) → IsMade (accumulated_kind k t a v) → WantsAny (λ b. IsMade (accumulated_kind k t a b)) (made_wants k t)
made_any accumulation.EdgeBy t a v m =
    let e = (only_is a t (found_then (payload_of v) (λ p. Some v)) m.is).0 in
    wants_as (λ b. only_same a t (found_then (payload_of b) (λ p. Some b)) e) event_whole
made_any accumulation.AccumBy t a v m = exactly_first t (Some (event_kind t)) (made_by refl)
made_any accumulation.AccumHoldBy t a v m = exactly_first t (Some t) (made_by refl)
made_any accumulation.Scan t a v m = exactly_first t (Some t) (made_by refl)

-- ## What is told

module _ (p : Program) (Γ : Context) (t : TermId) (n : Node) (a : Kind) (is : term_node_at p t ≡ n) where
  -- a part differs
  pub part_tells : {Δ : Context} {j : TermId} {b : Kind} {e : Blame} → Reaches p Γ n a Δ j b → Explains (TermDiffers p Δ j b) e → Explains (TermDiffers p Γ t a) e
  part_tells {Δ} {j} {b} reached h = told_as (λ d k. term_within (subst (λ m. Reaches p Γ m a Δ j b) (sym is) reached) k) h

  -- a collection does
  pub members_tell : {Δ : Context} {c : CollectionId} {b : Kind} {e : Blame} → ReachesMembers p Γ n a Δ c b → Explains (CollectionDiffers p Δ (collection_node p c) b) e → Explains (TermDiffers p Γ t a) e
  members_tell {Δ} {c} {b} reached h = told_as (λ d k. term_members (subst (λ m. ReachesMembers p Γ m a Δ c b) (sym is) reached) k) h

  module _ (s : Spot) (at : s ≡ term_spot_at p t) where
    form_differs : (d : Difference) → FormDiffers p Γ s n a d → TermDiffers p Γ t a d
    form_differs d k = term_itself (subst (λ m. FormDiffers p Γ (term_spot_at p t) m a d) (sym is) (subst (λ s. FormDiffers p Γ s n a d) at k))

    -- the form itself differs
    pub form_tells : {Q : Difference → Type 0} {e : Blame} → ((d : Difference) → Q d → FormDiffers p Γ s n a d) → Explains Q e → Explains (TermDiffers p Γ t a) e
    form_tells f h = told_as (λ d k. form_differs d (f d k)) h

    pub form_last : {A : Type 0} (Q : Difference → Type 0) (r : Result A Blame) → ((d : Difference) → Q d → FormDiffers p Γ s n a d) → IfErr r (λ e. Explains Q e) → IfErr r (λ e. Explains (TermDiffers p Γ t a) e)
    form_last Q (Ok x) f h = tt
    form_last Q (Err e) f h = form_tells f h

    -- a body does
    pub stops_last : {A : Type 0} (Δ : Context) (q : PatternId) (u : TermId) (x b c : Kind) (r : Result A Blame)
        → ((d : Difference) → BodyDiffers p Δ s q u x b c d → FormDiffers p Γ s n a d)
        → (BindsInside (program_pattern p q) c Δ → Reaches p Γ n a (inside_pattern (program_pattern p q) c Δ) u x)
        → IfErr r (λ e. Explains (BodyStops p Δ s q u x b c) e) → IfErr r (λ e. Explains (TermDiffers p Γ t a) e)
    stops_last Δ q u x b c (Ok y) f g h = tt
    stops_last Δ q u x b c (Err e) f g h = told_as (λ d k. each d k) h
      where
        each : (d : Difference) → BodyStops p Δ s q u x b c d → TermDiffers p Γ t a d
        each d (inl k) = form_differs d (f d k)
        each d (inr k) = term_within (subst (λ m. Reaches p Γ m a (inside_pattern (program_pattern p q) c Δ) u x) (sym is) (g k.0)) k.1

    -- so it is where the body is to give what is wanted in other words
    pub stops_as : {A : Type 0} (Δ : Context) (q : PatternId) (u : TermId) (x b v c : Kind) (r : Result A Blame) → v ≡ b
        → ((d : Difference) → BodyDiffers p Δ s q u x b c d → FormDiffers p Γ s n a d)
        → (BindsInside (program_pattern p q) c Δ → Reaches p Γ n a (inside_pattern (program_pattern p q) c Δ) u x)
        → IfErr r (λ e. Explains (BodyStops p Δ s q u x v c) e) → IfErr r (λ e. Explains (TermDiffers p Γ t a) e)
    stops_as Δ q u x b v c r same f g h = stops_last Δ q u x b c r f g (subst (λ (v : Kind). IfErr r (λ e. Explains (BodyStops p Δ s q u x v c) e)) same h)

    -- an edit does
    pub edit_last : {A : Type 0} (Δ : Context) (q : PatternId) (u : CollectionId) (k : KeyKind) (x b c : Kind) (r : Result A Blame)
        → ((d : Difference) → EditDiffers p Δ s q u k x b c d → FormDiffers p Γ s n a d)
        → (BindsInside (program_pattern p q) c Δ → ReachesMembers p Γ n a (inside_pattern (program_pattern p q) c Δ) u x)
        → IfErr r (λ e. Explains (EditUnfit p Δ s q u k x b c) e) → IfErr r (λ e. Explains (TermDiffers p Γ t a) e)
    edit_last Δ q u k x b c (Ok y) f g h = tt
    edit_last Δ q u k x b c (Err e) f g h = told_as (λ d l. each d l) h
      where
        each : (d : Difference) → EditUnfit p Δ s q u k x b c d → TermDiffers p Γ t a d
        each d (inl l) = form_differs d (f d l)
        each d (inr l) = term_members (subst (λ m. ReachesMembers p Γ m a (inside_pattern (program_pattern p q) c Δ) u x) (sym is) (g l.0)) l.1

-- what is told of a call
module _ (p : Program) (Γ : Context) (t : TermId) (a : Kind) (k : NameId) (vs : ArgumentsId) (is : term_node_at p t ≡ nodes.Call k vs) (g : Signature) (named : signature_named (program_name p k) Γ.signatures ≡ Some g) where
  pub argument_tells : {v : Argument} {x : Name} {q : NameKind} {ws : List Argument} {rs : Bindings} {e : Blame}
      → ArgumentsLeft p Γ (argument_nodes p vs) g.parameters (v ∷ ws) ((x, q) ∷ rs) → Explains (ArgumentDiffersWithin p Γ v q) e → Explains (TermDiffers p Γ t a) e
  argument_tells {x = x} {ws = ws} {rs = rs} left h = told_as (λ d k. each left k) h
    where
      each : {v : Argument} {q : NameKind} {d : Difference} → ArgumentsLeft p Γ (argument_nodes p vs) g.parameters (v ∷ ws) ((x, q) ∷ rs) → ArgumentDiffersWithin p Γ v q d → TermDiffers p Γ t a d
      each {d = d} left (within_value h) = term_itself (subst (λ m. FormDiffers p Γ (term_spot_at p t) m a d) (sym is) (call_itself named (argument_within left h)))
      each left (within_process {t = u} {a = b} h) = term_within (subst (λ n. Reaches p Γ n a Γ u b) (sym is) (call_argument named left)) h
      each left (within_members {i = i} {a = b} h) = term_members (subst (λ n. ReachesMembers p Γ n a Γ i b) (sym is) (argument_members named left)) h

  pub call_tells : {A : Type 0} (ws : List Argument) (r : Result A Blame) → ws ≡ argument_nodes p vs → IfErr r (λ e. Explains (CallDiffers p Γ (term_spot_at p t) ws a g) e) → IfErr r (λ e. Explains (TermDiffers p Γ t a) e)
  call_tells ws r same h =
      form_last p Γ t (nodes.Call k vs) a is (term_spot_at p t) refl _ r (λ d l. call_itself named (subst (λ ws. CallDiffers p Γ (term_spot_at p t) ws a g d) same l)) h

-- the same of other contexts and programs that are the same
pub differs_under : (p q : Program) (Γ Δ : Context) (t : TermId) (a : Kind) {e : Blame} → p ≡ q → Γ ≡ Δ → Explains (TermDiffers p Γ t a) e → Explains (TermDiffers q Δ t a) e
differs_under p q Γ Δ t a {e} same alike h = subst (λ (Γ : Context). Explains (TermDiffers q Γ t a) e) alike (subst (λ (p : Program). Explains (TermDiffers p Γ t a) e) same h)

pub stops_under : (p q : Program) (Γ Δ : Context) (s : Spot) (w : PatternId) (u : TermId) (a b c : Kind) {e : Blame} → p ≡ q → Γ ≡ Δ → Explains (BodyStops p Γ s w u a b c) e → Explains (BodyStops q Δ s w u a b c) e
stops_under p q Γ Δ s w u a b c {e} same alike h = subst (λ (Γ : Context). Explains (BodyStops q Γ s w u a b c) e) alike (subst (λ (p : Program). Explains (BodyStops p Γ s w u a b c) e) same h)

-- pairs that were made
pub fed_takes : {a c w : Kind} (s : Spot) → AnswersKind (Some (pair_kind a c)) s (Ok w) → (w ≡ pair_kind a c) × Fits w
fed_takes s h = (sym (same_Some _ _ h.0), h.1)

pub watched_takes : (p : Program) {Γ : Context} (o : TermId) {a b w d : Kind} (s : Spot) → AnswersKind (Some (pair_kind a b)) s (Ok w) → Takes Γ (tree p o) w d → Takes Γ (tree p o) (pair_kind a b) d
watched_takes p {Γ} o {d = d} s h T = subst (λ (w : Kind). Takes Γ (tree p o) w d) (sym (same_Some _ _ h.0)) T

pub table_made : {k : KeyKind} {b d : Kind} (s : Spot) → AnswersKind (Some (table_kind k b)) s (Ok d) → d ≡ table_kind k b
table_made s h = sym (same_Some _ _ h.0)

-- the type that is wanted is this one
pub exactly_as : {u v : Kind} {s : Spot} {t : Kind} {d : Difference} → u ≡ v → IsOther (Some (Exactly u)) s t d → IsOther (Some (Exactly v)) s t d
exactly_as {s = s} {t = t} {d = d} same h = subst (λ (u : Kind). IsOther (Some (Exactly u)) s t d) same h

-- the outputs of a part behind a value of their type
pub among_outputs : {p : Program} {Γ : Context} {s : Spot} {h : Heading} {v : ExprId} {t : TermId} {a c e : Kind} {d : Difference}
    → IsAmongOutputs h → HasType (names_of_values Γ) (expression (program_expressions p) v) c → Takes Γ (tree p t) a e → IsOther (Some (Exactly c)) s e d → FormDiffers p Γ s (nodes.Headed h v t) a d
among_outputs {p} {Γ} {s} {v = v} {t = t} {a = a} {d = d} (inl is) typed T k = subst (λ h. FormDiffers p Γ s (nodes.Headed h v t) a d) (sym is) (initial_output typed T k)
among_outputs {p} {Γ} {s} {v = v} {t = t} {a = a} {d = d} (inr is) typed T k = subst (λ h. FormDiffers p Γ s (nodes.Headed h v t) a d) (sym is) (followed_output typed T k)

-- ## A template

module _ (fs : TypesByName) (p : Program) (h : Header) {Γ : Context} {t : TermId} {a : Kind} (under : Γ ≡ template_context fs (parameters_of h.parameters) (templates_of p)) (is : t ≡ h.body) (from : a ≡ h.input) where
  pub within_template : {d : Difference} → TermDiffers p Γ t a d → TemplateDiffers fs p h d
  within_template {d} k =
      let E = template_context fs (parameters_of h.parameters) (templates_of p) in
      template_within (subst (λ (a : Kind). TermDiffers p E h.body a d) from (subst (λ (t : TermId). TermDiffers p E t a d) is (subst (λ (Γ : Context). TermDiffers p Γ t a d) under k)))

  pub of_header : {b : Kind} {s : Spot} {d : Difference} → Takes Γ (tree p t) a b → s ≡ term_spot_at p t → IsOther (Some (Exactly h.output)) s b d → TemplateDiffers fs p h d
  of_header {b} {s} {d} T at k =
      let E = template_context fs (parameters_of h.parameters) (templates_of p) in
      header_output (subst (λ (a : Kind). Takes E (tree p h.body) a b) from (subst (λ (t : TermId). Takes E (tree p t) a b) is (subst (λ (Γ : Context). Takes Γ (tree p t) a b) under T)))
      (subst (λ (s : Spot). IsOther (Some (Exactly h.output)) s b d) (at ∙ ap (term_spot_at p) is) k)

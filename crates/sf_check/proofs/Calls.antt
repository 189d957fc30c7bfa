-- The arguments of calls, one after another.
use Rattle.std.proofs.Common.{◌≡◌, ◌≢◌, ℕ, arith, IfNone, ◌⊎◌, inl, inr, Bool, true, false, ◌&&◌, [], ◌∷◌, List, Option, None, Some, length, Result, Ok, Err, refl, sym, ap, subst, ◌∙◌}
use Rattle.std.specs.Prelude.{nat_eq}
use Rattle.std.proofs.lemmas.Bool.Decides.{nat_tests}
use Rattle.std.proofs.lemmas.List.{length-map}
use mathlib.Core.Path.{subst₂}
use Rattle.sf_value.specs.Values.{Name, Kind}
use Rattle.sf_refusal.specs.declared.spot.Spot.{Spot}
use Rattle.sf_refusal.specs.declared.rule.Rule.TheVariants.{UnknownName, Arity, Mismatch}
use Rattle.sf_refusal.specs.declared.refusal.Breach.{Breach}
use Rattle.sf_refusal.specs.declared.refusal.Refusal.{Refusal}
use Rattle.sf_refusal.specs.declared.refusal.Refusal.TheVariants.{Broken, Memory}
use Rattle.sf_refusal.specs.Refusals.{broken}
use Rattle.sf_operator.specs.Kinds.{same_kind}
use Rattle.sf_expr.specs.declared.exprs.NameId.{NameId}
use Rattle.sf_expr.specs.Judging.{◌>>=◌, Stops}
use Rattle.sf_expr.proofs.Judged.{stops_then, goes_then, stops_broken, fits_at}
use Rattle.sf_term.specs.declared.node.ArgumentsId.{ArgumentsId}
use Rattle.sf_term.specs.declared.node.TermId.{TermId}
use Rattle.sf_term.specs.declared.node.Node.TheVariants as nodes
use Rattle.sf_term.specs.Parameters.{PlacedParameter, binding_of, parameters_of}
use Rattle.sf_expr.specs.Typing.{Fits, HasType}
use Rattle.sf_term.specs.declared.node.Argument.{Argument}
use Rattle.sf_term.specs.declared.node.Argument.TheVariants as arguments
use Rattle.sf_term.specs.declared.program.Program.{Program}
use Rattle.sf_term.specs.Arena.{arguments_of, argument_nodes, term_spot_at}
use Rattle.sf_term.proofs.Extended.{expression_in}
use Rattle.sf_mean.specs.Contexts.{NameKind, value, process, collection, Bindings, Signature, signature_named, Context, names_of_values}
use Rattle.sf_mean.specs.Typing.{ArgumentsFit, value_fits, process_fits, collection_fits}
use Rattle.sf_check.specs.Standing.{program_name}
use Rattle.sf_check.specs.Judging.{found_or_broken, argument_judged, arguments_judged, term_judged, judged_as}
use Rattle.sf_check.specs.Answering.{ArgumentFits}
use Rattle.sf_check.proofs.Judging.{go, holds, fails}

module _ (p : Program) {Γ : Context} where
  pub fits_before : (v : Argument) (x : Name) (k : NameKind) (ws : List Argument) {rs : Bindings} → ArgumentFits p Γ v k → ArgumentsFit Γ (arguments_of p ws) rs → ArgumentsFit Γ (arguments_of p (v ∷ ws)) ((x, k) ∷ rs)
  fits_before (arguments.Value i) x (value t) ws h rest = value_fits (subst (λ e. HasType (names_of_values Γ) e t) (expression_in p i) h) rest
  fits_before (arguments.Value i) x (process a b) ws h rest = absurd h
  fits_before (arguments.Value i) x (collection k a b) ws h rest = absurd h
  fits_before (arguments.Process u) x (value t) ws h rest = absurd h
  fits_before (arguments.Process u) x (process a b) ws h rest = process_fits h rest
  fits_before (arguments.Process u) x (collection k a b) ws h rest = absurd h
  fits_before (arguments.Collection i) x (value t) ws h rest = absurd h
  fits_before (arguments.Collection i) x (process a b) ws h rest = absurd h
  fits_before (arguments.Collection i) x (collection k a b) ws h rest = collection_fits h rest

  pub first_fits : (v : Argument) (x : Name) (k : NameKind) (ws : List Argument) {rs : Bindings} → ArgumentsFit Γ (arguments_of p (v ∷ ws)) ((x, k) ∷ rs) → ArgumentFits p Γ v k
  first_fits (arguments.Value i) x (value t) ws (value_fits h rest) = subst (λ e. HasType (names_of_values Γ) e t) (sym (expression_in p i)) h
  first_fits (arguments.Value i) x (process a b) ws fit = elim fit [ ]
  first_fits (arguments.Value i) x (collection k a b) ws fit = elim fit [ ]
  first_fits (arguments.Process u) x (value t) ws fit = elim fit [ ]
  first_fits (arguments.Process u) x (process a b) ws (process_fits h rest) = h
  first_fits (arguments.Process u) x (collection k a b) ws fit = elim fit [ ]
  first_fits (arguments.Collection i) x (value t) ws fit = elim fit [ ]
  first_fits (arguments.Collection i) x (process a b) ws fit = elim fit [ ]
  first_fits (arguments.Collection i) x (collection k a b) ws (collection_fits h rest) = h

pub rest_fits : (p : Program) {Γ : Context} (v : Argument) (vs : List Argument) {x : Name} {k : NameKind} {qs : Bindings} → ArgumentsFit Γ (arguments_of p (v ∷ vs)) ((x, k) ∷ qs) → ArgumentsFit Γ (arguments_of p vs) qs
rest_fits p (arguments.Value e) vs (value_fits h rest) = rest
rest_fits p (arguments.Process t) vs (process_fits h rest) = rest
rest_fits p (arguments.Collection i) vs (collection_fits h rest) = rest

-- ## One after another

-- Of arguments, these are left with their parameters, and whether those before them fit is known.
pub record SoFar (p : Program) (s : Spot) (Γ : Context) (vs : List Argument) (qs : Bindings) (ws : List Argument) (rs : Bindings) (fit : Bool) : Type 0 where
  pub all : arguments_judged p (term_judged p) s Γ vs qs ≡ (arguments_judged p (term_judged p) s Γ ws rs >>= λ b. Ok (fit && b))

again : (r : Result Bool Breach) → r ≡ (r >>= λ b. Ok (true && b))
again (Ok b) = refl
again (Err e) = refl

later : (fit b : Bool) (r : Result Bool Breach) → ((r >>= λ c. Ok (b && c)) >>= λ c. Ok (fit && c)) ≡ (r >>= λ c. Ok ((fit && b) && c))
later true b (Ok c) = refl
later false b (Ok c) = refl
later fit b (Err e) = refl

last : (fit : Bool) → fit && true ≡ fit
last true = refl
last false = refl

module _ {p : Program} {s : Spot} {Γ : Context} where
  pub so_first : {vs ws : List Argument} {ps us : List PlacedParameter} → ws ≡ vs → us ≡ ps → SoFar p s Γ vs (parameters_of ps) ws (parameters_of us) true
  so_first {vs} {ps = ps} e f = subst₂ (λ ws us. SoFar p s Γ vs (parameters_of ps) ws (parameters_of us) true) (sym e) (sym f) (record { all = again (arguments_judged p (term_judged p) s Γ vs (parameters_of ps)) })

  so_now : {vs ws rest : List Argument} {qs : Bindings} {us more : List PlacedParameter} {v : Argument} {u : PlacedParameter} {fit : Bool}
      → SoFar p s Γ vs qs ws (parameters_of us) fit → ws ≡ v ∷ rest → us ≡ u ∷ more → SoFar p s Γ vs qs (v ∷ rest) ((u.name, u.kind) ∷ parameters_of more) fit
  so_now {vs} {qs = qs} {fit = fit} so e f = subst₂ (λ ws us. SoFar p s Γ vs qs ws (parameters_of us) fit) e f so

  pub so_next : {vs ws rest : List Argument} {qs : Bindings} {us more : List PlacedParameter} {v : Argument} {u : PlacedParameter} (fit b : Bool)
      → SoFar p s Γ vs qs ws (parameters_of us) fit → ws ≡ v ∷ rest → us ≡ u ∷ more → argument_judged p (term_judged p) s Γ v u.kind ≡ Ok b → SoFar p s Γ vs qs rest (parameters_of more) (fit && b)
  so_next {rest = rest} {more = more} fit b so e f h = record {
    all = (so_now so e f).all ∙ ap (λ (r : Result Bool Breach). (r >>= λ f. arguments_judged p (term_judged p) s Γ rest (parameters_of more) >>= λ g. Ok (f && g)) >>= λ c. Ok (fit && c)) h ∙ later fit b (arguments_judged p (term_judged p) s Γ rest (parameters_of more));
  }

  pub so_stops : {vs ws rest : List Argument} {qs : Bindings} {us more : List PlacedParameter} {v : Argument} {u : PlacedParameter} {fit : Bool} (r : Refusal)
      → SoFar p s Γ vs qs ws (parameters_of us) fit → ws ≡ v ∷ rest → us ≡ u ∷ more → Stops r (argument_judged p (term_judged p) s Γ v u.kind) → Stops r (arguments_judged p (term_judged p) s Γ vs qs)
  so_stops {rest = rest} {more = more} {fit = fit} (Broken b) so e f h =
      (so_now so e f).all ∙ ap (λ (r : Result Bool Breach). (r >>= λ f. arguments_judged p (term_judged p) s Γ rest (parameters_of more) >>= λ g. Ok (f && g)) >>= λ c. Ok (fit && c)) h
  so_stops Memory so e f h = tt

  pub so_end : {vs ws : List Argument} {qs : Bindings} {us : List PlacedParameter} {fit : Bool} → SoFar p s Γ vs qs ws (parameters_of us) fit → (ws ≡ []) ⊎ (us ≡ []) → arguments_judged p (term_judged p) s Γ vs qs ≡ Ok fit
  so_end {ws = []} {fit = fit} so e = so.all ∙ ap Ok (last fit)
  so_end {ws = v ∷ ws} {us = []} {fit = fit} so e = so.all ∙ ap Ok (last fit)
  so_end {ws = v ∷ ws} {us = u ∷ us} so (inl e) = absurd cc
  so_end {ws = v ∷ ws} {us = u ∷ us} so (inr e) = absurd cc

-- ## A call

module _ (p : Program) (Γ : Context) (t : TermId) (a : Kind) (k : NameId) (vs : ArgumentsId) where
  pub no_template_stops : (e : Refusal) → signature_named (program_name p k) Γ.signatures ≡ None → e ≡ broken UnknownName (term_spot_at p t) → Stops e (judged_as p t (nodes.Call k vs) Γ a)
  no_template_stops e none wrong = stops_then e _ _ (stops_broken wrong (ap (found_or_broken UnknownName (term_spot_at p t)) none))

  module _ (g : Signature) (named : signature_named (program_name p k) Γ.signatures ≡ Some g) where
    pub other_number_stops : (e : Refusal) → nat_eq (length (argument_nodes p vs)) (length g.parameters) ≡ false → e ≡ broken Arity (term_spot_at p t) → Stops e (judged_as p t (nodes.Call k vs) Γ a)
    other_number_stops e other wrong = goes_then e _ g _ (ap (found_or_broken UnknownName (term_spot_at p t)) named) (stops_then e _ _ (stops_broken wrong (fails Arity (term_spot_at p t) other)))

    module _ (many : nat_eq (length (argument_nodes p vs)) (length g.parameters) ≡ true) where
      pub arguments_stop : (e : Refusal) → Stops e (arguments_judged p (term_judged p) (term_spot_at p t) Γ (argument_nodes p vs) g.parameters) → Stops e (judged_as p t (nodes.Call k vs) Γ a)
      arguments_stop e h = goes_then e _ g _ (ap (found_or_broken UnknownName (term_spot_at p t)) named) (goes_then e _ tt _ (holds Arity (term_spot_at p t) many) (stops_then e _ _ h))

      module _ (fit : Bool) (all : arguments_judged p (term_judged p) (term_spot_at p t) Γ (argument_nodes p vs) g.parameters ≡ Ok fit) where
        pub call_stops : (e : Refusal) → fit && same_kind a g.input ≡ false → e ≡ broken Mismatch (term_spot_at p t) → Stops e (judged_as p t (nodes.Call k vs) Γ a)
        call_stops e other wrong =
            goes_then e _ g _ (ap (found_or_broken UnknownName (term_spot_at p t)) named) (goes_then e _ tt _ (holds Arity (term_spot_at p t) many) (goes_then e _ fit _ all (stops_then e _ _ (stops_broken wrong (fails Mismatch (term_spot_at p t) other)))))

        pub call_goes : (d : Kind) → fit && same_kind a g.input ≡ true → Fits g.output → d ≡ g.output → judged_as p t (nodes.Call k vs) Γ a ≡ Ok d
        call_goes d same fits is =
            go _ (ap (found_or_broken UnknownName (term_spot_at p t)) named) (go _ (holds Arity (term_spot_at p t) many) (go _ all (go _ (holds Mismatch (term_spot_at p t) same) (fits_at (term_spot_at p t) g.output fits ∙ ap Ok (sym is)))))

-- ## Tests of a call

pub none_absent : {X : Type 0} {P : Type 0} {o : Option X} → ((x : X) → o ≢ Some x) → IfNone o P → P
none_absent {o = o} away absent = each o away absent
  where
    each : {X : Type 0} {P : Type 0} (o : Option X) → ((x : X) → o ≢ Some x) → IfNone o P → P
    each None away absent = absent
    each (Some x) away absent = absurd (away x refl)

pub not_many : (m n : ℕ) → (m ≡ n → ⊥) → nat_eq m n ≡ false
not_many m n h = grind (arith, nat_tests, h)

pub as_many : (ps : List PlacedParameter) {m n k : ℕ} → m ≡ n → n ≡ k → k ≡ length ps → nat_eq m (length (parameters_of ps)) ≡ true
as_many ps d e f = let count = length-map ps binding_of in grind (arith, nat_tests, d, e, f, count)

pub and_false : (b : Bool) {c : Bool} → c ≡ false → b && c ≡ false
and_false true e = e
and_false false e = refl

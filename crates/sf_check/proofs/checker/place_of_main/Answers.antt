use Rattle.std.proofs.Common.{◌≡◌, List, [], ◌∷◌, length, codes, Some, slice_get, sym, ap, ◌∙◌, refl, arith, eq-eqb, true≢false}
use Rattle.std.proofs.lemmas.Bool.{eqb-true}
use Rattle.std.proofs.lemmas.Option.{same_Some, none-some}
use Rattle.sf_term.specs.Trees.{Template}
use Rattle.sf_term.specs.Parameters.{PlacedParameter, parameters_of}
use Rattle.sf_term.specs.Arena.{headers_of, templates_of, term_template}
use Rattle.sf_check.specs.Names.{program_names}
use Rattle.sf_check.proofs.Templates.{header_at}
use Rattle.sf_check.proofs.Places.{place_in, none_named, named_within, named_is}
use Rattle.sf_check.proofs.checker.place_of_main.Goals as goal
use Rattle.sf_check.proofs.checker.place_of_main.Goals.{After-is_empty}

none_bare : (qs : List PlacedParameter) → length qs ≡ 0 → parameters_of qs ≡ []
none_bare [] e = refl
none_bare (q ∷ qs) e = absurd (omega arith)

bare_none : (qs : List PlacedParameter) → parameters_of qs ≡ [] → length qs ≡ 0
bare_none [] e = refl
bare_none (q ∷ qs) e = absurd cc

place : (c : After-is_empty) → (slice_get (headers_of c.args.program.now) c.in_ok-place.place ≡ Some c.index-templates-place.result)
place c =
    let p = c.args.program.now in
    let named = sym (place_in c.args.names.now (codes "main") (program_names p) c.requires) ∙ sym c.in_ok-place.ensures.index in
    let within = named_within p (codes "main") c.in_ok-place.place named in
    let same = ap length c.templates.ensures.templates in
    header_at p c.templates.result.now c.in_ok-place.place c.index-templates-place.result c.templates.ensures.templates (omega arith) c.index-templates-place.is

pub returns-in_err-place-clause-absent : goal.returns-in_err-place-clause-absent
returns-in_err-place-clause-absent c =
    let p = c.args.program.now in
    let none = sym (place_in c.args.names.now (codes "main") (program_names p) c.requires) ∙ sym c.in_err-place.ensures.index in
    rw c.from_residual.ensures (λ t main bare. none-some t (sym (none_named (codes "main") (templates_of p) none) ∙ main))

pub returns-then-is_empty-clause-place : goal.returns-then-is_empty-clause-place
returns-then-is_empty-clause-place c = sym (place_in c.args.names.now (codes "main") (program_names c.args.program.now) c.requires) ∙ sym c.in_ok-place.ensures.index

pub returns-then-is_empty-clause-bare : goal.returns-then-is_empty-clause-bare
returns-then-is_empty-clause-bare c =
    let p = c.args.program.now in
    let h = c.index-templates-place.result in
    let named = sym (place_in c.args.names.now (codes "main") (program_names p) c.requires) ∙ sym c.in_ok-place.ensures.index in
    let at = place (goal.at.returns-then-is_empty-clause-bare c).After-is_empty in
    let zero : length h.parameters ≡ 0 = ap length (sym c.parameters.ensures) ∙ eqb-true (length c.parameters.result.now) 0 (sym c.if-is_empty.ensures) in
    (term_template p h, sym (named_is p (codes "main") c.in_ok-place.place named h at), none_bare h.parameters zero)

pub returns-else-is_empty-clause-absent : goal.returns-else-is_empty-clause-absent
returns-else-is_empty-clause-absent c = λ t main bare.
    let p = c.args.program.now in
    let h = c.index-templates-place.result in
    let named = sym (place_in c.args.names.now (codes "main") (program_names p) c.requires) ∙ sym c.in_ok-place.ensures.index in
    let at = place (goal.at.returns-else-is_empty-clause-absent c).After-is_empty in
    let same = same_Some _ _ (named_is p (codes "main") c.in_ok-place.place named h at ∙ main) in
    let none = bare_none h.parameters (ap (λ (t : Template). t.parameters) same ∙ bare) in
    let whole = eq-eqb (length c.parameters.result.now) 0 (ap length c.parameters.ensures ∙ none) in
    true≢false (sym whole ∙ sym c.if-is_empty.ensures)

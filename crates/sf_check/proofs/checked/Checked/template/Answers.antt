use Rattle.std.proofs.Common.{◌∙◌, sym, ap, arith, length}
use Rattle.sf_term.specs.Arena.{templates_of}
use Rattle.sf_check.specs.Accepting.{accepted_program}
use Rattle.sf_check.specs.Names.{program_names}
use Rattle.sf_check.proofs.Templates.{header_at}
use Rattle.sf_check.proofs.Finding.{place_in, none_named, named_within, named_is, header_named}
use Rattle.sf_check.proofs.checked.Checked.template.Goals as goal

pub returns-in_err-place-clause-found : goal.returns-in_err-place-clause-found
returns-in_err-place-clause-found c =
    let p = accepted_program c.args.self.now in
    let place = sym (place_in c.args.self.now.names c.args.name.now (program_names p) c.args.self.now.named) ∙ sym c.in_err-place.ensures.index in
    rw c.from_residual.ensures (sym (none_named c.args.name.now (templates_of p) place))

pub returns-clause-found : goal.returns-clause-found
returns-clause-found c =
    let p = accepted_program c.args.self.now in
    let place = sym (place_in c.args.self.now.names c.args.name.now (program_names p) c.args.self.now.named) ∙ sym c.in_ok-place.ensures.index in
    let within = named_within p c.args.name.now c.in_ok-place.place place in
    let same = ap length c.templates.ensures.templates in
    named_is p c.args.name.now c.in_ok-place.place place c.index-templates-place.result (header_at p _ _ _ c.templates.ensures.templates (omega arith) c.index-templates-place.is)

pub returns-clause-stands : goal.returns-clause-stands
returns-clause-stands c =
    let p = accepted_program c.args.self.now in
    let place = sym (place_in c.args.self.now.names c.args.name.now (program_names p) c.args.self.now.named) ∙ sym c.in_ok-place.ensures.index in
    let within = named_within p c.args.name.now c.in_ok-place.place place in
    let same = ap length c.templates.ensures.templates in
    header_named p c.args.name.now c.in_ok-place.place place c.index-templates-place.result (header_at p _ _ _ c.templates.ensures.templates (omega arith) c.index-templates-place.is)

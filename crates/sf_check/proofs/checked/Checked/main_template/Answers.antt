use Rattle.std.proofs.Common.{arith, codes, length, ap}
use Rattle.sf_check.specs.Accepting.{accepted_program}
use Rattle.sf_check.proofs.Templates.{header_at}
use Rattle.sf_check.proofs.Finding.{main_is, main_within, header_named}
use Rattle.sf_check.proofs.checked.Checked.main_template.Goals as goal

pub returns-clause-main : goal.returns-clause-main
returns-clause-main c =
    let within = main_within c.args.self.now in
    let same = ap length c.templates.ensures.templates in
    main_is c.args.self.now c.index-templates-self.result (header_at (accepted_program c.args.self.now) _ _ _ c.templates.ensures.templates (omega arith) c.index-templates-self.is)

pub returns-clause-stands : goal.returns-clause-stands
returns-clause-stands c =
    let within = main_within c.args.self.now in
    let same = ap length c.templates.ensures.templates in
    header_named (accepted_program c.args.self.now) (codes "main") c.args.self.now.main c.args.self.now.main_found c.index-templates-self.result (header_at (accepted_program c.args.self.now) _ _ _ c.templates.ensures.templates (omega arith) c.index-templates-self.is)

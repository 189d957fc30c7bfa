use Rattle.std.proofs.Common.{[], refl}
use Rattle.sf_refusal.specs.Refusals.{no_memory}
use Rattle.sf_term.specs.Arena.{templates_of}
use Rattle.sf_check.specs.Accepting.{accepted_program, checked_main}
use Rattle.sf_accept.specs.Refusals.{IsAcceptedText}
use Rattle.sf_player.proofs.Refusing.{main_found}
use Rattle.sf_session.specs.Alone.{alone}
use Rattle.sf_session.proofs.Fed.{fed_on, hands_all}
use Rattle.sf_session.proofs.session.Session.new.Goals as goal

pub returns-in_default-clause-refused : goal.returns-in_default-clause-refused
returns-in_default-clause-refused c = no_memory

pub returns-in-Ok-new-clause-started : goal.returns-in-Ok-new-clause-started
returns-in-Ok-new-clause-started c =
    let checked = c.in_ok-checked.checked in
    let templates = templates_of (accepted_program checked) in
    let accepted : IsAcceptedText [] c.args.net.now templates = rw c.new-functions.ensures.types at c.in_ok-checked.ensures.accepted in
    record {
      templates = templates;
      main = checked_main checked;
      accepted = accepted;
      runs = main_found checked accepted.accepted;
      fresh = fed_on _ refl (hands_all _ refl (c.in-Ok-new.ensures (alone templates) (checked_main checked) c.in-Ok.ensures.runs).0);
    }

pub returns-clause-refused : goal.returns-clause-refused
returns-clause-refused c = no_memory

pub returns-in-Ok-new-clause-live : goal.returns-in-Ok-new-clause-live
returns-in-Ok-new-clause-live c =
    let checked = c.in_ok-checked.checked in
    let n = alone (templates_of (accepted_program checked)) in
    λ runs. record { probes = c.args.probes; n = n; m = checked_main checked; read = []; written = []; played = (c.in-Ok-new.ensures n (checked_main checked) c.in-Ok.ensures.runs).0 }

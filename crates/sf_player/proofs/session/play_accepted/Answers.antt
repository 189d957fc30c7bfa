use Rattle.sf_refusal.specs.Refusals.{no_memory}
use Rattle.sf_mean.specs.Networks.{network_of}
use Rattle.sf_check.specs.Accepting.{accepted_program, checked_main}
use Rattle.sf_player.specs.Telling.{refuses, plays}
use Rattle.sf_player.proofs.Known.{Keeps-same}
use Rattle.sf_player.proofs.Refusing.{main_found}
use Rattle.sf_player.proofs.session.play_accepted.Goals as goal

pub returns-in-Err-clause-told : goal.returns-in-Err-clause-told
returns-in-Err-clause-told g c = λ net text. refuses no_memory (Keeps-same _) (Keeps-same _)

pub run-requires-clause-fresh : goal.run-requires-clause-fresh
run-requires-clause-fresh g c =
    let n = network_of (g.F.Holds.answers c.args.functions) (accepted_program c.args.checked) in
    let m = checked_main c.args.checked in
    let fresh = c.in-Ok-new.ensures n m c.in-Ok.ensures.runs in
    record { probes = c.args.options.probes; n = n; m = m; played = fresh.0; empty = fresh.1 }

pub returns-in-Ok-new-clause-told : goal.returns-in-Ok-new-clause-told
returns-in-Ok-new-clause-told g c = λ net text.
    let n = network_of (g.F.Holds.answers c.args.functions) (accepted_program c.args.checked) in
    let m = checked_main c.args.checked in
    let fresh = c.in-Ok-new.ensures n m c.in-Ok.ensures.runs in
    plays text c.requires.fits (main_found c.args.checked c.requires.fits) (c.run.ensures.told c.args.options.probes n m fresh.0)

pub returns-clause-told : goal.returns-clause-told
returns-clause-told g c = λ net text.
    plays text c.requires.fits (main_found c.args.checked c.requires.fits)
    (c.refuse_lines.ensures.told c.args.options.probes (network_of (g.F.Holds.answers c.args.functions) (accepted_program c.args.checked)) (checked_main c.args.checked) _)

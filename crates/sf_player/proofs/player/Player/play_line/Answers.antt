use Rattle.std.proofs.Common.{◌≡◌, ◌≤◌, ◌*◌, None, refl, sym, ap, ◌∙◌, arith, subst}
use Rattle.sf_lines.specs.Cutting.{line_cut}
use Rattle.sf_lines.specs.Limits.{limit_refusal}
use Rattle.sf_lines.specs.Asking.{start, advance}
use Rattle.sf_player.proofs.Asked.{has_begun-is, asks, advance_asked, save_asked, back_asked, begun}
use Rattle.sf_player.proofs.Samples.{starts_at, may_start, may_step, time_at, slow_step, few_lines, nothing_said, refusal_said, same_answers}
use Rattle.sf_player.proofs.Saving.{save_goes_on, back_goes_on, save_error, back_error, save_halts, back_halts, stops_at}
use Rattle.sf_player.proofs.player.Player.play_line.Goals as goal

pub first_sample-sampled-requires : goal.first_sample-sampled-requires
first_sample-sampled-requires g c =
    let w = c.requires in
    let started = has_begun-is _ _ (c.is_started-started.ensures.history w.n w.m w.now.lived w.now.saved w.at.runs) in
    let says = rw c.in-Ok-Start.field-0-is at c.in-Ok-Start.ensures.ok in
    may_start w.at.runs started (c.input.ensures w.n w.m w.now.lived w.now.saved w.at.runs) says

pub overflow_add-time : goal.overflow_add-time
overflow_add-time g c =
    let w = c.requires in
    let says = rw c.in-Ok-Step.field-0-is at c.in-Ok-Step.ensures.ok in
    let asked = advance_asked says refl in
    let short : c.in-Ok-Step.dt ≤ 3600000 = asked.short in
    let slow = w.at.slow in
    let few = few_lines w.now.taken _ w.within in
    let same = c.time.ensures w.n w.m w.now.lived w.now.saved w.at.runs in
    omega arith

pub next_sample-sampled-requires : goal.next_sample-sampled-requires
next_sample-sampled-requires g c =
    let w = c.requires in
    let started = has_begun-is _ _ (c.is_started-started.ensures.history w.n w.m w.now.lived w.now.saved w.at.runs) in
    let says = rw c.in-Ok-Step.field-0-is at c.in-Ok-Step.ensures.ok in
    may_step w.now.taken w.at.runs started (c.input.ensures w.n w.m w.now.lived w.now.saved w.at.runs) w.at.slow (few_lines w.now.taken _ w.within) says

pub returns-in-Ok-Nothing : goal.returns-in-Ok-Nothing
returns-in-Ok-Nothing g c = λ n m now at.
    let within : limit_refusal now.taken (line_cut c.args.self.now.cutter c.args.cut) ≡ None = ap (λ k. limit_refusal k (line_cut c.args.self.now.cutter c.args.cut)) (sym at.taken ∙ c.requires.at.taken) ∙ c.requires.within in
    let started = has_begun-is _ _ (c.is_started-started.ensures.history n m now.lived now.saved at.runs) in
    let says = rw c.line-line.ensures at (rw c.in-Ok-Nothing.field-0-is at c.in-Ok-Nothing.ensures.ok) in
    nothing_said (asks (line_cut c.args.self.now.cutter c.args.cut) _ _ within started (c.input.ensures n m now.lived now.saved at.runs) says) at refl refl refl refl refl

pub returns-in-Ok-Start : goal.returns-in-Ok-Start
returns-in-Ok-Start g c = λ n m now at.
    let within : limit_refusal now.taken (line_cut c.args.self.now.cutter c.args.cut) ≡ None = ap (λ k. limit_refusal k (line_cut c.args.self.now.cutter c.args.cut)) (sym at.taken ∙ c.requires.at.taken) ∙ c.requires.within in
    let started = has_begun-is _ _ (c.is_started-started.ensures.history n m now.lived now.saved at.runs) in
    let says = rw c.line-line.ensures at (rw c.in-Ok-Start.field-0-is at c.in-Ok-Start.ensures.ok) in
    let sampled = starts_at at.runs started says (c.first_sample-sampled.ensures n m now.saved) in
    same_answers n m now (line_cut c.args.self.now.cutter c.args.cut) _ c.args.self.now c.say.result c.say.new.self refl refl
    (c.say.ensures n m now (line_cut c.args.self.now.cutter c.args.cut) (start c.in-Ok-Start.value) (asks (line_cut c.args.self.now.cutter c.args.cut) _ _ within started (c.input.ensures n m now.lived now.saved at.runs) says) tt sampled refl (omega arith) at.slow_saves at.taken at.probes)

pub returns-in-Ok-Step : goal.returns-in-Ok-Step
returns-in-Ok-Step g c = λ n m now at.
    let within : limit_refusal now.taken (line_cut c.args.self.now.cutter c.args.cut) ≡ None = ap (λ k. limit_refusal k (line_cut c.args.self.now.cutter c.args.cut)) (sym at.taken ∙ c.requires.at.taken) ∙ c.requires.within in
    let started = has_begun-is _ _ (c.is_started-started.ensures.history n m now.lived now.saved at.runs) in
    let says = rw c.line-line.ensures at (rw c.in-Ok-Step.field-0-is at c.in-Ok-Step.ensures.ok) in
    let same = c.time.ensures n m now.lived now.saved at.runs in
    let asked = advance_asked says refl in
    let slow = slow_step c.time.result c.in-Ok-Step.dt now.taken asked.short (subst (λ t. t ≤ 3600000 * now.taken) (sym same) at.slow) in
    same_answers n m now (line_cut c.args.self.now.cutter c.args.cut) _ c.args.self.now c.say-in-Ok-Step.result c.say-in-Ok-Step.new.self refl refl
    (c.say-in-Ok-Step.ensures n m now (line_cut c.args.self.now.cutter c.args.cut) (advance c.in-Ok-Step.dt c.in-Ok-Step.input) (asks (line_cut c.args.self.now.cutter c.args.cut) _ _ within started (c.input.ensures n m now.lived now.saved at.runs) says) tt (c.next_sample-sampled.ensures n m now.lived now.saved at.runs) (time_at now.lived started same says) slow at.slow_saves at.taken at.probes)

pub returns-in-Err : goal.returns-in-Err
returns-in-Err g c = λ n m now at.
    let within : limit_refusal now.taken (line_cut c.args.self.now.cutter c.args.cut) ≡ None = ap (λ k. limit_refusal k (line_cut c.args.self.now.cutter c.args.cut)) (sym at.taken ∙ c.requires.at.taken) ∙ c.requires.within in
    let started = has_begun-is _ _ (c.is_started-started.ensures.history n m now.lived now.saved at.runs) in
    record {
      halts = rw c.refuse-in-Err.ensures (refusal_said (line_cut c.args.self.now.cutter c.args.cut) _ _ c.args.self.now c.in-Err.refusal (c.input.ensures n m now.lived now.saved at.runs) at.taken within started (rw c.line-line.ensures at c.in-Err.ensures.refused) (rw c.line-line.ensures at c.in-Err.ensures.memory));
      said = refl;
    }

pub refusal_of-requires : goal.refusal_of-requires
refusal_of-requires g c =
    let w = c.requires in
    let started = has_begun-is _ _ (c.is_started-started.ensures.history w.n w.m w.now.lived w.now.saved w.at.runs) in
    let says = rw c.in-Ok-Save.field-0-is at c.in-Ok-Save.ensures.ok in
    save_error c.save.result (begun _ w.now.lived started (save_asked says refl)) (c.save.ensures.running w.n w.m w.now.lived w.now.saved w.at.runs) c.in-Err-save.is

pub returns-in-Ok : goal.returns-in-Ok
returns-in-Ok g c = λ n m now at.
    let within : limit_refusal now.taken (line_cut c.args.self.now.cutter c.args.cut) ≡ None = ap (λ k. limit_refusal k (line_cut c.args.self.now.cutter c.args.cut)) (sym at.taken ∙ c.requires.at.taken) ∙ c.requires.within in
    let started = has_begun-is _ _ (c.is_started-started.ensures.history n m now.lived now.saved at.runs) in
    let says = rw c.line-line.ensures at (rw c.in-Ok-Save.field-0-is at c.in-Ok-Save.ensures.ok) in
    save_goes_on (line_cut c.args.self.now.cutter c.args.cut) c.save.result (asks (line_cut c.args.self.now.cutter c.args.cut) _ _ within started (c.input.ensures n m now.lived now.saved at.runs) says) at
    (c.save.ensures.running n m now.lived now.saved at.runs) c.in-Ok.is (record { engine = refl; cutter = refl; count = refl; out = refl; probes = refl })

pub returns-in-Err-save : goal.returns-in-Err-save
returns-in-Err-save g c = λ n m now at.
    let within : limit_refusal now.taken (line_cut c.args.self.now.cutter c.args.cut) ≡ None = ap (λ k. limit_refusal k (line_cut c.args.self.now.cutter c.args.cut)) (sym at.taken ∙ c.requires.at.taken) ∙ c.requires.within in
    let started = has_begun-is _ _ (c.is_started-started.ensures.history n m now.lived now.saved at.runs) in
    let says = rw c.line-line.ensures at (rw c.in-Ok-Save.field-0-is at c.in-Ok-Save.ensures.ok) in
    let asked = asks (line_cut c.args.self.now.cutter c.args.cut) _ _ within started (c.input.ensures n m now.lived now.saved at.runs) says in
    let some = begun _ now.lived started (save_asked says refl) in
    record {
      halts = rw c.refuse.ensures (stops_at c.refusal_of.result c.args.self.now (save_halts (line_cut c.args.self.now.cutter c.args.cut) c.save.result asked some (c.save.ensures.running n m now.lived now.saved at.runs) c.in-Err-save.is c.refusal_of.ensures) at.taken);
      said = refl;
    }

pub refusal_of-requires-in-Err-back : goal.refusal_of-requires-in-Err-back
refusal_of-requires-in-Err-back g c =
    let w = c.requires in
    let started = has_begun-is _ _ (c.is_started-started.ensures.history w.n w.m w.now.lived w.now.saved w.at.runs) in
    let says = rw c.in-Ok-Back.field-0-is at c.in-Ok-Back.ensures.ok in
    back_error c.back.result (begun _ w.now.lived started (back_asked says refl)) (c.back.ensures.running w.n w.m w.now.lived w.now.saved w.at.runs) c.in-Err-back.is

pub returns-in-Ok-back : goal.returns-in-Ok-back
returns-in-Ok-back g c = λ n m now at.
    let within : limit_refusal now.taken (line_cut c.args.self.now.cutter c.args.cut) ≡ None = ap (λ k. limit_refusal k (line_cut c.args.self.now.cutter c.args.cut)) (sym at.taken ∙ c.requires.at.taken) ∙ c.requires.within in
    let started = has_begun-is _ _ (c.is_started-started.ensures.history n m now.lived now.saved at.runs) in
    let says = rw c.line-line.ensures at (rw c.in-Ok-Back.field-0-is at c.in-Ok-Back.ensures.ok) in
    back_goes_on (line_cut c.args.self.now.cutter c.args.cut) c.back.result (asks (line_cut c.args.self.now.cutter c.args.cut) _ _ within started (c.input.ensures n m now.lived now.saved at.runs) says) at
    (c.back.ensures.running n m now.lived now.saved at.runs) c.in-Ok-back.is (record { engine = refl; cutter = refl; count = refl; out = refl; probes = refl })

pub returns-in-Err-back : goal.returns-in-Err-back
returns-in-Err-back g c = λ n m now at.
    let within : limit_refusal now.taken (line_cut c.args.self.now.cutter c.args.cut) ≡ None = ap (λ k. limit_refusal k (line_cut c.args.self.now.cutter c.args.cut)) (sym at.taken ∙ c.requires.at.taken) ∙ c.requires.within in
    let started = has_begun-is _ _ (c.is_started-started.ensures.history n m now.lived now.saved at.runs) in
    let says = rw c.line-line.ensures at (rw c.in-Ok-Back.field-0-is at c.in-Ok-Back.ensures.ok) in
    let asked = asks (line_cut c.args.self.now.cutter c.args.cut) _ _ within started (c.input.ensures n m now.lived now.saved at.runs) says in
    let some = begun _ now.lived started (back_asked says refl) in
    record {
      halts = rw c.refuse-in-Err-back.ensures (stops_at c.refusal_of-in-Err-back.result c.args.self.now (back_halts (line_cut c.args.self.now.cutter c.args.cut) c.back.result asked some (c.back.ensures.running n m now.lived now.saved at.runs) c.in-Err-back.is c.refusal_of-in-Err-back.ensures) at.taken);
      said = refl;
    }

use Rattle.std.proofs.Common.{◌++◌, [], ◌∷◌, ap, subst, ◌∙◌}
use Rattle.sf_mean.specs.Lives.{Life}
use Rattle.sf_engine.specs.Histories.{after_start}
use Rattle.sf_engine.specs.Running.{Runs}
use Rattle.sf_engine.specs.Sampling.{Starts, starts, answer_of}
use Rattle.sf_engine.specs.Embedding.{embeds_nothing, embedded_no_memory, embeds}
use Rattle.sf_engine.proofs.Going.{fresh_history, fresh_type}
use Rattle.sf_engine.proofs.Following.{refused_embeds, gave_sample}
use Rattle.sf_engine.proofs.engine.Engine.embed.Goals as goal

pub returns-in_err-look_at_start-clause-running : goal.returns-in_err-look_at_start-clause-running
returns-in_err-look_at_start-clause-running g c = λ n m L S R. refused_embeds _ c.from_residual.ensures.1 (c.in_err-look_at_start.ensures.running n m L S R)

pub returns-in_default-clause-running : goal.returns-in_default-clause-running
returns-in_default-clause-running g c = λ n m L S R.
    embedded_no_memory (fresh_history R c.in_ok-look_at_start.ensures.may) (fresh_type R c.in_ok-look_at_start.ensures.may) R

pub returns-in-Err-clause-running : goal.returns-in-Err-clause-running
returns-in-Err-clause-running g c = λ n m L S R.
    let none = fresh_history R c.in_ok-look_at_start.ensures.may in
    embeds_nothing (subst (λ r. Starts n m L S c.args.value (answer_of r) c.first_sample.new.self) c.in-Err.is
    (starts none (fresh_type R c.in_ok-look_at_start.ensures.may) (c.first_sample.ensures n m S (subst (λ (l : Life). Runs c.args.self.now n m l S) none R))))

pub returns-clause-running : goal.returns-clause-running
returns-clause-running g c = λ n m L S R.
    let none = fresh_history R c.in_ok-look_at_start.ensures.may in
    let gave = gave_sample (c.first_sample.ensures n m S (subst (λ (l : Life). Runs c.args.self.now n m l S) none R)) c.in-Ok-first_sample.is in
    let followed = c.follow-ended.ensures n m (after_start c.args.value) S gave.runs in
    embeds none (fresh_type R c.in_ok-look_at_start.ensures.may) gave.sample
    (followed.1 ∙ ap (λ xs. xs ++ followed.0) (c.push_reserved.ensures.items ∙ ap (λ xs. xs ++ c.in-Ok-first_sample.first ∷ []) c.in-Ok.ensures.items))
    followed.2

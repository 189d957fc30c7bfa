use Rattle.sf_law.proofs.Naming.{ok_both}
use Rattle.sf_law.proofs.Covering.{covers_releasing}
use Rattle.sf_law.proofs.mentioned.Mentioned.add_releasing.Goals as goal

pub returns : goal.returns
returns c = λ t B.
    let p = c.args.plan.now in
    let s = c.args.releasing.now in
    let members = rw c.deref.ensures at c.in_ok-add_collection.ensures.added in
    let observer = c.in_ok-add_part.ensures in
    ok_both c.add_body.result
    (λ kept added. covers_releasing p c.add_body.new.self B (λ k x h. kept x (observer.kept x (members k x h))) (λ x h. kept x (observer.added x (c.requires s.observer x h)))
    (λ x h free. added x (c.requires s.body x h) free))
    c.add_body.ensures.kept c.add_body.ensures.added

use Rattle.sf_law.proofs.Naming.{ok_both}
use Rattle.sf_law.proofs.Covering.{covers_editing}
use Rattle.sf_law.proofs.mentioned.Mentioned.add_editing.Goals as goal

pub returns : goal.returns
returns c = λ t B.
    let p = c.args.plan.now in
    let s = c.args.editing.now in
    let members = rw c.deref.ensures at c.in_ok-add_collection.ensures.added in
    let edit = rw c.deref-2.ensures at c.in_ok-add_collection-2.ensures.added in
    ok_both c.add_all.result
    (λ kept added. covers_editing p c.add_all.new.self B (λ k x h. kept x (members k x h))
    (λ k x h free. added x (c.in_ok-left.ensures x (edit k x h) free)))
    c.add_all.ensures.kept c.add_all.ensures.added

use Rattle.std.proofs.lemmas.Result.{on_ok_weaker}
use Rattle.sf_law.proofs.Naming.{ok_both}
use Rattle.sf_law.proofs.Covering.{covers_primitive, covers_headed, covers_transformed, covers_continuing, covers_gathered, covers_pipeline}
use Rattle.sf_law.proofs.mentioned.Mentioned.add_node.Goals as goal

pub returns-in-Primitive : goal.returns-in-Primitive
returns-in-Primitive c = λ t B. covers_primitive c.args.plan.now c.add_primitive.result c.add_primitive.new.self (rw c.in-Primitive.is at B) c.add_primitive.ensures

pub returns-in_ok-add_code-in-Headed : goal.returns-in_ok-add_code-in-Headed
returns-in_ok-add_code-in-Headed c = λ t B.
    ok_both c.add_part-in-Headed.result
    (λ kept added. covers_headed c.args.plan.now c.add_part-in-Headed.new.self (rw c.in-Headed.is at B) (λ x h. kept x (c.in_ok-add_code-in-Headed.ensures.added x h)) (λ x h. added x (c.requires c.in-Headed.part x h)))
    c.add_part-in-Headed.ensures.kept c.add_part-in-Headed.ensures.added

pub returns-in_ok-add_code-in-Transformed : goal.returns-in_ok-add_code-in-Transformed
returns-in_ok-add_code-in-Transformed c = λ t B.
    ok_both c.add_part-in-Transformed.result
    (λ kept added. covers_transformed c.args.plan.now c.add_part-in-Transformed.new.self (rw c.in-Transformed.is at B) (λ x h. kept x (c.in_ok-add_code-in-Transformed.ensures.added x h)) (λ x h. added x (c.requires c.in-Transformed.part x h)))
    c.add_part-in-Transformed.ensures.kept c.add_part-in-Transformed.ensures.added

pub returns-in_ok-add_part-in-Continuation-2 : goal.returns-in_ok-add_part-in-Continuation-2
returns-in_ok-add_part-in-Continuation-2 c = λ t B.
    let p = c.args.plan.now in
    let k = c.in-Continuation.form in
    let first = c.in_ok-add_part-in-Continuation.ensures in
    let second = c.in_ok-add_part-in-Continuation-2.ensures in
    ok_both c.add_body-in-Continuation.result
    (λ kept added. covers_continuing p c.add_body-in-Continuation.new.self (rw c.in-Continuation.is at B) (λ x h. kept x (second.kept x (first.added x (c.requires k.source x h)))) (λ x h. kept x (second.added x (c.requires k.observer x h)))
    (λ x h free. added x (c.requires k.body x h) free))
    c.add_body-in-Continuation.ensures.kept c.add_body-in-Continuation.ensures.added

pub returns-in-Gathered : goal.returns-in-Gathered
returns-in-Gathered c = λ t B. let d = c.deref-in-Gathered.ensures in covers_gathered c.args.plan.now c.add_collection.result c.add_collection.new.self (rw c.in-Gathered.is at B) (rw d at c.add_collection.ensures.added)

pub returns-in-Releasing : goal.returns-in-Releasing
returns-in-Releasing c = λ t B. c.add_releasing.ensures t (rw c.in-Releasing.is at B)

pub returns-in-Editing : goal.returns-in-Editing
returns-in-Editing c = λ t B. c.add_editing.ensures t (rw c.in-Editing.is at B)

pub returns-in-Pipeline : goal.returns-in-Pipeline
returns-in-Pipeline c = λ t B. let e = c.add_parts.ensures in let d = c.deref-in-Pipeline.ensures.value in
    on_ok_weaker c.add_parts.result (λ covers. covers_pipeline c.args.plan.now c.add_parts.new.self (rw c.in-Pipeline.is at B) covers) (rw d at e)

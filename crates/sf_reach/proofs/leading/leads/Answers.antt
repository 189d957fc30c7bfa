use Rattle.std.proofs.Common.{◌≡◌, ◌-◌, ◌<◌, ◌≤◌, get_or, ◌++◌, [], ◌∷◌, length, take, subst, sym, ap, ◌∙◌, arith}
use Rattle.std.proofs.lemmas.List.{take_all, append-nil}
use Rattle.sf_reach.specs.declared.graph.Call.{Call}
use Rattle.sf_reach.specs.Graphs.{calls_at}
use Rattle.sf_reach.proofs.Gathered.{row_at}
use Rattle.sf_reach.proofs.Led.{Searched, Following, begun, followed, next_met, callee_within, popped_within, all_met, none_left, led_nowhere, enters_less}
use Rattle.sf_reach.proofs.leading.leads.Goals as goal
use Rattle.sf_reach.proofs.leading.leads.Goals.{In-Some, After-items-call-items, In_default}

pub loop-template-init : goal.loop-template-init
loop-template-init c = begun c.args.graph.now c.args.from c.args.to c.in_ok-enter.ensures c.new-left.ensures.items c.requires.here c.requires.long c.requires.elsewhere

-- what is read past the end
abbrev absent : Call
absent = record { callee = 0; spot = record { line = 0; column = 0 } }

-- the template that was taken from those that are left
taken : (c : In-Some) → Searched c.args.graph.now c.args.from c.args.to c.loop-template.seen (c.pop.new.self.items ++ c.in-Some.template ∷ [])
taken c = subst (Searched c.args.graph.now c.args.from c.args.to c.loop-template.seen) c.in-Some.ensures.items c.loop-template.invariant

pub loop-call-init : goal.loop-call-init
loop-call-init c = record {
  following = followed c.args.graph.now c.args.from c.args.to c.in-Some.template c.loop-template.seen _ (taken (goal.at.loop-call-init c).In-Some);
  less = omega arith;
}

-- its calls
row : (c : After-items-call-items) → c.items-call-items.result.now ≡ calls_at c.args.graph.now c.in-Some.template
row c =
    let within = popped_within c.args.graph.now c.args.from c.args.to c.in-Some.template c.loop-template.seen c.pop.new.self.items (subst (Searched c.args.graph.now c.args.from c.args.to c.loop-template.seen) c.in-Some.ensures.items c.loop-template.invariant) in
    c.items-call-items.ensures ∙ row_at c.args.graph.now c.in-Some.template c.index-graph-template.result within c.index-graph-template.is

pub loop-template-preserved : goal.loop-template-preserved
loop-template-preserved c =
    let g = c.args.graph.now in
    let t = c.in-Some.template in
    let is = row (goal.at.loop-template-preserved c).After-items-call-items in
    let long : length (calls_at g t) ≤ c.loop-call.call-index = subst (λ cs. length cs ≤ c.loop-call.call-index) is c.loop-call-test.false in
    all_met g c.args.from c.args.to t c.loop-call.seen c.loop-call.left.items c.if-template-to.false
    (subst (λ cs. Following g c.args.from c.args.to t cs c.loop-call.seen c.loop-call.left.items) (take_all c.loop-call.call-index (calls_at g t) long) c.loop-call.invariant.following)

pub enter-requires-in-loop-call : goal.enter-requires-in-loop-call
enter-requires-in-loop-call c =
    let is = row (goal.at.enter-requires-in-loop-call c).After-items-call-items in
    subst (λ n. (get_or c.items-call-items.result.now c.loop-call.call-index absent).callee < n) (sym c.loop-call.invariant.following.long)
    (callee_within c.args.graph.now c.args.from c.args.to c.in-Some.template c.loop-call.call-index absent c.items-call-items.result.now is c.loop-call-test.true c.requires.within)

pub loop-call-preserved : goal.loop-call-preserved
loop-call-preserved c =
    let g = c.args.graph.now in
    let is = row (goal.at.loop-call-preserved c).After-items-call-items in
    let within = callee_within g c.args.from c.args.to c.in-Some.template c.loop-call.call-index absent c.items-call-items.result.now is c.loop-call-test.true c.requires.within in
    let less = enters_less c.in_ok-enter-2.ensures (subst (λ n. (get_or c.items-call-items.result.now c.loop-call.call-index absent).callee < n) (sym c.loop-call.invariant.following.long) within) in
    record {
      following = next_met g c.args.from c.args.to c.in-Some.template c.loop-call.call-index absent c.items-call-items.result.now is c.loop-call-test.true c.requires.within c.in_ok-enter-2.ensures c.loop-call.invariant.following;
      less = omega (arith, c.loop-call.invariant.less);
    }

-- nothing is left
none : (c : In_default) → Searched c.args.graph.now c.args.from c.args.to c.loop-template.seen []
none c =
    let h = c.in_default.ensures in
    let nothing : c.loop-template.left.items ≡ [] = h.items ∙ append-nil c.pop.new.self.items ∙ h.rest ∙ ap (λ n. take (n - 1) c.loop-template.left.items) h.cases.0 in
    subst (Searched c.args.graph.now c.args.from c.args.to c.loop-template.seen) nothing c.loop-template.invariant

pub returns-clause-leads : goal.returns-clause-leads
returns-clause-leads c = (λ h. absurd cc, λ p. absurd (led_nowhere c.args.graph.now c.args.from c.args.to c.loop-template.seen (none (goal.at.returns-clause-leads c).In_default) p))

pub returns-clause-elsewhere : goal.returns-clause-elsewhere
returns-clause-elsewhere c = λ e. none_left c.args.graph.now c.args.from c.args.to c.loop-template.seen (none (goal.at.returns-clause-elsewhere c).In_default)

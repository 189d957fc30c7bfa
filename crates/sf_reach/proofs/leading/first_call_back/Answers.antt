use Rattle.std.proofs.Common.{◌≡◌, ◌<◌, ◌≤◌, ◌++◌, ℕ, List, Bool, All, length, take, drop, get_or, subst, sym, ap, ◌∙◌, refl, arith}
use Rattle.std.proofs.lemmas.List.{take_all, drop_all, append-nil}
use Rattle.std.proofs.lemmas.List.Elements.{All-more}
use Rattle.sf_reach.specs.declared.graph.Call.{Call}
use Rattle.sf_reach.specs.Endless.{IsFirstWith}
use Rattle.sf_reach.specs.Graphs.{calls_at, LeadsOn, LeadElsewhere}
use Rattle.sf_reach.proofs.Gathered.{row_at}
use Rattle.sf_reach.proofs.Led.{first_at}
use Rattle.sf_reach.proofs.leading.first_call_back.Goals as goal
use Rattle.sf_reach.proofs.leading.first_call_back.Goals.{After-items-call-items}

-- what is read past the end
abbrev absent : Call
absent = record { callee = 0; spot = record { line = 0; column = 0 } }

-- the calls of the template
row : (c : After-items-call-items) → c.items-call-items.result.now ≡ calls_at c.args.graph.now c.args.template
row c = c.items-call-items.ensures ∙ row_at c.args.graph.now c.args.template c.index-graph-template.result c.requires.here c.index-graph-template.is

-- what a slice of all was changed to
written : (n : ℕ) (old new : List Bool) → length new ≡ length old → n ≡ length old → take n (new ++ drop (length new) old) ≡ new
written n old new e k =
    ap (λ rest. take n (new ++ rest)) (drop_all (length new) old (omega arith)) ∙ ap (take n) (append-nil new) ∙ take_all n new (omega arith)

pub returns-then-branch : goal.returns-then-branch
returns-then-branch c =
    let g = c.args.graph.now in
    let t = c.args.template in
    let i = c.loop-call.call-index in
    let is = row (goal.at.returns-then-branch c).After-items-call-items in
    let Back : Call → Type 0 = λ d. LeadsOn g d.callee t in
    let call = get_or c.items-call-items.result.now i absent in
    let within = subst (λ cs. i < length cs) is c.loop-call-test.true in
    let same = ap (λ cs. get_or cs i absent) is in
    let first = first_at Back (calls_at g t) i absent within c.loop-call.invariant.none (subst Back same (c.in_ok-leads.ensures.leads.0 c.if-branch.true)) in
    (call, subst (IsFirstWith Back (calls_at g t)) (sym same) first, refl)

pub loop-call-preserved : goal.loop-call-preserved
loop-call-preserved c =
    let g = c.args.graph.now in
    let t = c.args.template in
    let i = c.loop-call.call-index in
    let is = row (goal.at.loop-call-preserved c).After-items-call-items in
    let P : Call → Type 0 = λ d. ¬ LeadsOn g d.callee t in
    let within = subst (λ cs. i < length cs) is c.loop-call-test.true in
    let same = ap (λ cs. get_or cs i absent) is in
    let new = c.leads.new.seen in
    let whole = written c.loop-call.seen.len c.loop-call.seen.items new (c.leads.auto.seen ∙ ap length c.deref_mut.ensures.value) (sym c.deref_mut.ensures.len ∙ ap length c.deref_mut.ensures.value) in
    record {
      elsewhere = subst (LeadElsewhere g t) (sym whole) (c.in_ok-leads.ensures.elsewhere c.if-branch.false);
      long = ap length whole ∙ c.leads.auto.seen ∙ ap length c.deref_mut.ensures.value ∙ c.loop-call.invariant.long;
      none = All-more P (calls_at g t) i absent within c.loop-call.invariant.none (subst P same (λ p. let e = c.in_ok-leads.ensures.leads.1 p in let k = c.if-branch.false in absurd cc));
    }

pub returns : goal.returns
returns c =
    let g = c.args.graph.now in
    let t = c.args.template in
    let is = row (goal.at.returns c).After-items-call-items in
    let long : length (calls_at g t) ≤ c.loop-call.call-index = subst (λ cs. length cs ≤ c.loop-call.call-index) is c.loop-call-test.false in
    subst (All (λ (d : Call). ¬ LeadsOn g d.callee t)) (take_all c.loop-call.call-index (calls_at g t) long) c.loop-call.invariant.none

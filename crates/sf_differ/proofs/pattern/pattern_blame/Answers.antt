use Rattle.std.proofs.Common.{sym, subst}
use Rattle.sf_value.specs.Values.{Kind}
use Rattle.sf_refusal.specs.declared.spot.Spot.{Spot}
use Rattle.sf_refusal.specs.declared.rule.Rule.{Rule}
use Rattle.sf_refusal.specs.declared.rule.Rule.TheVariants.{Mismatch}
use Rattle.sf_refusal.specs.declared.refusal.Refusal.{Refusal}
use Rattle.sf_refusal.specs.Refusals.{OrMemory, breach_of}
use Rattle.sf_refusal.proofs.Explained.{explained}
use Rattle.sf_expr.specs.Patterns.{pattern_of}
use Rattle.sf_expr.specs.Refusals.{PatternRefused}
use Rattle.sf_differ.specs.Differences.{tells_nothing, lacks_room}
use Rattle.sf_differ.specs.Differing.{Unpaired}
use Rattle.sf_differ.proofs.Told.{told_as}
use Rattle.sf_differ.proofs.pattern.pattern_blame.Goals as goal

pub returns-in_default : goal.returns-in_default
returns-in_default c at h = lacks_room

pub returns-in-Mismatch-Some : goal.returns-in-Mismatch-Some
returns-in-Mismatch-Some c at h =
    let p = c.args.pattern.now in
    let a = c.args.ty.now in
    let refused = explained (subst (λ (r : Refusal). OrMemory (PatternRefused p a at) r) c.in-Broken.is h) in
    let mismatch = subst (λ (r : Rule). PatternRefused p a at (breach_of r c.in-Broken.breach.spot)) c.in-Mismatch-Some.is-0 refused in
    told_as (λ d k. record {
      refused = subst (λ (s : Spot). PatternRefused p a at (breach_of Mismatch s)) (sym k.0) mismatch;
      part = subst (λ (t : Kind). Unpaired (pattern_of p) a t) (sym k.1) c.in-Mismatch-Some.ensures;
      wanted = k.2;
    }) c.no_pair.ensures

pub returns-in_default-2 : goal.returns-in_default-2
returns-in_default-2 c at h = tells_nothing

use Rattle.std.proofs.Common.{refl, arith}
use Rattle.sf_law.specs.Entries.{node_among}
use Rattle.sf_law.proofs.Placed.{arena_put}
use Rattle.sf_law.proofs.Enough.{any_asked}
use Rattle.sf_law.proofs.Covering.{few_put, covered_put}
use Rattle.sf_law.proofs.Extended.{added_keeps, same_keeps, adds_added}
use Rattle.sf_law.proofs.plan.Plan.add.Goals as goal

pub invariant_of-self-2 : goal.invariant_of-self-2
invariant_of-self-2 c =
    let p = c.args.self.now in
    record {
      told = p.told;
      arena = arena_put p.expressions p.templates.items p.nodes.items c.push.new.self.items c.args.node _ c.push.ensures.items p.arena c.requires.held c.requires.whole c.requires.coded c.requires.called c.requires.beside;
      enough = λ i. any_asked p.expressions p.templates.items (node_among c.push.new.self.items i);
      few = few_put p.nodes.items c.push.new.self.items c.args.node _ p.mentions.items c.push.ensures.items p.few;
      covered = covered_put p.expressions p.nodes.items c.push.new.self.items c.args.node _ p.mentions.items c.push.ensures.items p.few p.covered;
      bound = p.bound;
      numbered = p.numbered;
      placed = p.placed;
      same = p.same;
      nothing = p.nothing;
    }

pub returns-in_err-push-clause-kept : goal.returns-in_err-push-clause-kept
returns-in_err-push-clause-kept c = same_keeps c.args.self.now _ refl c.in_err-push.ensures.items

pub returns-clause-ok : goal.returns-clause-ok
returns-clause-ok c = adds_added c.args.self.now _ c.args.node _ refl (record { next = omega (arith, c.len.ensures, c.args.self.now.nodes.ok.0); grown = c.in_ok-push.ensures.items }) c.requires.whole c.requires.coded c.requires.called

pub returns-clause-kept : goal.returns-clause-kept
returns-clause-kept c = added_keeps c.args.self.now _ c.args.node _ refl (record { next = refl; grown = c.in_ok-push.ensures.items })

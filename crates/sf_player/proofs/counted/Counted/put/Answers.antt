use Rattle.std.proofs.Common.{rules, take, drop, sym}
use Rattle.std.proofs.lemmas.List.{take-append-drop}
use Rattle.sf_player.proofs.Known.{take-next, Appends-more, Appends-kept}
use Rattle.sf_player.proofs.counted.Counted.put.Goals as goal

pub loop-at-preserved : goal.loop-at-preserved
loop-at-preserved g c = record {
  within = search rules;
  written = rw (take-next c.loop-at.at c.in-Some.n c.args.text.now) (Appends-more _ _ _ _ _ c.loop-at.invariant.written c.in-Some.ensures.bytes);
  counted = search rules;
}

pub returns-in-None-clause-front : goal.returns-in-None-clause-front
returns-in-None-clause-front g c = (
  take c.loop-at.at c.args.text.now,
  drop c.loop-at.at c.args.text.now,
  Appends-kept _ _ _ _ c.loop-at.invariant.written c.in-None.ensures.kept,
  sym (take-append-drop c.loop-at.at c.args.text.now),
)

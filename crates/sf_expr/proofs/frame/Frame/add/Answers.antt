use Rattle.std.proofs.Common.{arith}
use Rattle.std.proofs.lemmas.Map.Text.{hash_map_updates_str}
use Rattle.sf_expr.proofs.Scoped.{placed_more, frame_put}
use Rattle.sf_expr.proofs.frame.Frame.add.Goals as goal

pub invariant_of-self-in-Ok : goal.invariant_of-self-in-Ok
invariant_of-self-in-Ok c = record {
  placed = λ x. placed_more x c.args.self.now.names.items c.push.new.self.items _ c.len-place.result _ _ c.in_ok-push.ensures.items (omega (arith, c.len-place.ensures, c.args.self.now.names.ok)) (c.args.self.now.placed x)
      (hash_map_updates_str c.args.name.now c.args.self.now.places c.insert.new.self _ c.in-Ok.ensures.updates x);
}

pub returns-in-Ok : goal.returns-in-Ok
returns-in-Ok c = frame_put c.args.self.now _ _ c.in_ok-push.ensures.items

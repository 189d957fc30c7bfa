use Rattle.std.proofs.Common.{◌≡◌, ◌≤◌, ◌^◌, ◌-◌, max, min, drop}
use Rattle.sf_term.specs.Trees.{arguments_depth}
use Rattle.sf_term.specs.Arena.{arguments_of}
use Rattle.sf_term.proofs.program.Program.depth_in.Given as goal

abbrev pub invariant-loop-argument : goal.invariant-loop-argument
invariant-loop-argument l = record {
  rest : min (max l.depth (arguments_depth (arguments_of l.self (drop l.argument-index l.arguments)))) (2 ^ 32 - 1) ≡ min (arguments_depth (arguments_of l.self l.arguments)) (2 ^ 32 - 1);
  bound : l.depth ≤ 2 ^ 32 - 1;
}

use Rattle.std.proofs.Common.{◌∙◌}
use Rattle.sf_code.proofs.pattern.FramePattern.binds.Goals as goal

pub returns-in-Some : goal.returns-in-Some
returns-in-Some c = c.contains_key.ensures ∙ c.args.self.now.indexed c.in-Some.names c.in-Some.is c.args.name.now

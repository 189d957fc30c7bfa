use Rattle.std.proofs.Common.{sym}
use Rattle.sf_func.proofs.registry.RegistryHolds.call.Goals as goal

pub returns-in-None : goal.returns-in-None
returns-in-None g c = sym (c.in-None.ensures c.args.value.now)

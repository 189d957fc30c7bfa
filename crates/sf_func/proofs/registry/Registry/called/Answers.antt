use Rattle.std.proofs.Common.{◌≡◌, string_bytes, rules}
use Rattle.sf_func.specs.Callees.{callee_name}
use Rattle.sf_func.proofs.Lookups.{found_there}
use Rattle.sf_func.proofs.registry.Registry.called.Goals as goal

pub returns-then-eq : goal.returns-then-eq
returns-then-eq g c =
    let same : string_bytes c.in-Some.key.now ≡ callee_name c.args.callee.now = search rules in
    λ d. found_there _ c.args.self.now.entries.entries c.in-Some.key.now _ c.in-Some.entry.now same c.in-Some.ensures.value

pub returns : goal.returns
returns g c = rw c.name-name.ensures at c.find.ensures.answers

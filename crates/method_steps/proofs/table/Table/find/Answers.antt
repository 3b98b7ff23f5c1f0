use Rattle.std.proofs.Common.{rules, ◌≡◌}
use Rattle.method_steps.specs.Steps.{place_of}
use Rattle.method_steps.proofs.PlacesOf.{place_of-below}
use Rattle.method_steps.proofs.table.Table.find.Goals as goal

pub returns-clause-below_len : goal.returns-clause-below_len
returns-clause-below_len c =
    let found : c.copied.result ≡ place_of c.args.name.now c.args.self.now.methods = search rules in
    rw found (place_of-below c.args.name.now c.args.self.now.methods)

use Rattle.std.proofs.Common.{ℕ, ◌+◌, ◌≤◌, ◌&&◌, Bool, true, false, if◌then◌else◌, nat_lt, min, length, length-drop, arith}
use Rattle.outbox.specs.Output.{next_of}
use Rattle.connection.specs.Connections.{output}
use Rattle.host_calls.specs.Hosting.{in_contents, left}
use Rattle.host_calls.proofs.hosted.HostedConnection.held.Goals as goal

-- what is to be written is no more than what is lent and what comes next
no_more : (b : Bool) (l n : ℕ) → (if b then l else min (l + n) 18446744073709551615) ≤ l + n
no_more true l n = omega arith
no_more false l n = omega arith

counted : (b : Bool) (l n : ℕ) → l ≤ 18446744073709551615 → (if b then l else min (l + n) 18446744073709551615) ≤ 18446744073709551615
counted true l n few = few
counted false l n few = omega arith

pub returns-clause-all : goal.returns-clause-all
returns-clause-all c = λ streams.
    let h = c.args.self.now in
    let lent = length (left h) in
    let next = length (next_of (output h.outlet.connection)) in
    let is_lent : Bool = in_contents h && nat_lt 0 lent in
    let size = length-drop h.gone h.output.items in
    let ok = h.output.ok in
    let small = h.output.small in
    let few : lent ≤ 18446744073709551615 = omega (arith, size, ok.0, ok.1, small) in
    omega (
      arith,
      no_more is_lent lent next,
      counted is_lent lent next few,
      size,
      ok.0,
      ok.1,
      c.held.ensures.all streams,
      c.capacity.ensures,
      c.saturating_add.ensures,
      c.saturating_add-2.ensures,
      c.saturating_add-3.ensures,
      c.saturating_add-4.ensures,
    )

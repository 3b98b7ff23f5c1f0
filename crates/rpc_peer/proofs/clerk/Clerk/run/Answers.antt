-- A new clerk has served nothing; what it then serves is a run.
use Rattle.std.proofs.Common.{inl, refl}
use Rattle.rpc_peer.specs.Clerk.{clerk_framing, clerk_table, clerk_limits}
use Rattle.rpc_peer.proofs.Happenings.{starts-new}
use Rattle.rpc_peer.proofs.Outcomes.{ring-of, run-of, part-of, cause-of, flushed-of}
use Rattle.rpc_peer.proofs.Rings.{same-ring}
use Rattle.rpc_peer.proofs.clerk.Clerk.run.Goals as goal

pub returns-clause-ring : goal.returns-clause-ring
returns-clause-ring g c =
    let clerk = c.args.self in
    let handed = g.K.Sink.handed_on in
    let taken = g.K.Sink.bytes_taken in
    let failures = g.K.Sink.failures in
    ring-of handed taken failures
    (record { framing = clerk_framing clerk; table = clerk_table clerk; limits = clerk_limits clerk; ring = clerk.ring; sink = clerk.sink })
    c.serve-outcome.new.self c.serve-outcome.result
    (c.serve-outcome.ensures.ok _ (record { after = starts-new clerk c.requires (taken clerk.sink); ring = same-ring clerk.ring; unfailing = refl; flushed = inl refl }))
    (c.serve-outcome.ensures.err _ (record { after = starts-new clerk c.requires (taken clerk.sink); ring = same-ring clerk.ring; unfailing = refl; flushed = inl refl }))

pub returns-clause-ok : goal.returns-clause-ok
returns-clause-ok g c =
    let clerk = c.args.self in
    let handed = g.K.Sink.handed_on in
    let taken = g.K.Sink.bytes_taken in
    let failures = g.K.Sink.failures in
    run-of handed taken failures
    (record { framing = clerk_framing clerk; table = clerk_table clerk; limits = clerk_limits clerk; ring = clerk.ring; sink = clerk.sink })
    c.serve-outcome.new.self c.serve-outcome.result
    (c.serve-outcome.ensures.ok _ (record { after = starts-new clerk c.requires (taken clerk.sink); ring = same-ring clerk.ring; unfailing = refl; flushed = inl refl }))

pub returns-clause-err : goal.returns-clause-err
returns-clause-err g c =
    let clerk = c.args.self in
    let handed = g.K.Sink.handed_on in
    let taken = g.K.Sink.bytes_taken in
    let failures = g.K.Sink.failures in
    part-of handed taken failures
    (record { framing = clerk_framing clerk; table = clerk_table clerk; limits = clerk_limits clerk; ring = clerk.ring; sink = clerk.sink })
    c.serve-outcome.new.self c.serve-outcome.result
    (c.serve-outcome.ensures.err _ (record { after = starts-new clerk c.requires (taken clerk.sink); ring = same-ring clerk.ring; unfailing = refl; flushed = inl refl }))

pub returns-clause-cause : goal.returns-clause-cause
returns-clause-cause g c =
    let clerk = c.args.self in
    let handed = g.K.Sink.handed_on in
    let taken = g.K.Sink.bytes_taken in
    let failures = g.K.Sink.failures in
    cause-of handed taken failures
    (record { framing = clerk_framing clerk; table = clerk_table clerk; limits = clerk_limits clerk; ring = clerk.ring; sink = clerk.sink })
    c.serve-outcome.new.self c.serve-outcome.result
    (c.serve-outcome.ensures.ok _ (record { after = starts-new clerk c.requires (taken clerk.sink); ring = same-ring clerk.ring; unfailing = refl; flushed = inl refl }))
    (c.serve-outcome.ensures.err _ (record { after = starts-new clerk c.requires (taken clerk.sink); ring = same-ring clerk.ring; unfailing = refl; flushed = inl refl }))

pub returns-clause-flushed : goal.returns-clause-flushed
returns-clause-flushed g c =
    let clerk = c.args.self in
    let handed = g.K.Sink.handed_on in
    let taken = g.K.Sink.bytes_taken in
    let failures = g.K.Sink.failures in
    flushed-of handed taken failures
    (record { framing = clerk_framing clerk; table = clerk_table clerk; limits = clerk_limits clerk; ring = clerk.ring; sink = clerk.sink })
    c.serve-outcome.new.self c.serve-outcome.result
    (c.serve-outcome.ensures.ok _ (record { after = starts-new clerk c.requires (taken clerk.sink); ring = same-ring clerk.ring; unfailing = refl; flushed = inl refl }))
    (c.serve-outcome.ensures.err _ (record { after = starts-new clerk c.requires (taken clerk.sink); ring = same-ring clerk.ring; unfailing = refl; flushed = inl refl }))

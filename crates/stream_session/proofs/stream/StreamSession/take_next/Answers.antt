-- A session that is closed lets contents go; an open one takes the content in front, or what closes the input.
use Rattle.std.proofs.Common.{refl}
use Rattle.peer_session.specs.Session.{view}
use Rattle.stream_session.specs.Stream.{stream_of}
use Rattle.stream_session.proofs.Lasts.{broken-last, first-waits, last-stands, last-taken, none-waits}
use Rattle.stream_session.proofs.Streams.{content-taken, was-open}
use Rattle.stream_session.proofs.stream.StreamSession.take_next.Goals as goal

pub returns-in_default-clause-stands : goal.returns-in_default-clause-stands
returns-in_default-clause-stands c = λ fed jobs sink had.
    let s = stream_of c.args.self.now in
    last-stands s (was-open s.session.close c.is_open.result c.is_open.ensures c.if-not-is_open.false)
    (none-waits s.waiting c.in_default.ensures.item.3) (view c.take_last.new.session)
    (c.take_last.ensures.none, c.take_last.ensures.some) c.known.ensures fed jobs sink had

pub returns-in_default-clause-takes : goal.returns-in_default-clause-takes
returns-in_default-clause-takes c =
    let s = stream_of c.args.self.now in
    last-taken s (was-open s.session.close c.is_open.result c.is_open.ensures c.if-not-is_open.false)
    (none-waits s.waiting c.in_default.ensures.item.3) (view c.take_last.new.session)
    (c.take_last.ensures.none, c.take_last.ensures.some)

pub returns-in_default-clause-broken : goal.returns-in_default-clause-broken
returns-in_default-clause-broken c =
    let s = stream_of c.args.self.now in
    broken-last s.last s.session (view c.take_last.new.session) (c.take_last.ensures.none, c.take_last.ensures.some)

pub returns-clause-stands : goal.returns-clause-stands
returns-clause-stands c = λ fed jobs sink had.
    let s = stream_of c.args.self.now in
    content-taken c.known.ensures fed jobs s sink had (was-open s.session.close c.is_open.result c.is_open.ensures c.if-not-is_open.false)
    c.in-Some.content.now c.pop_front.new.self.items
    (first-waits s.waiting c.pop_front.new.self.items c.in-Some.content.now c.pop_front.result c.pop_front.ensures.items
    (c.pop_front.ensures.value c.in-Some.content.now (c.in-Some.ensures.variant.0 refl)) c.in-Some.ensures.lookup)
    c.in_ok-take.field-0 (view c.take.new.self) c.in_ok-take.ensures.ok

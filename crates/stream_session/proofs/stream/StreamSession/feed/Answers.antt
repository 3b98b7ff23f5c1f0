-- What the decoder gives of the piece waits, with the fault that it found; a closed session lets it go.
use Rattle.std.proofs.Common.{◌≡◌, ◌++◌, Err, Some, ap, refl, sym, subst, ◌∙◌}
use Rattle.lsp_frames.specs.Contents.{Standing, Broken}
use Rattle.lsp_frames.specs.Decoding.{IfFed, IfEnded}
use Rattle.lsp_frames.specs.declared.fault.FeedFault.{FeedFault}
use Rattle.stream_framing.specs.Framed.{Knows, StandsBehind}
use Rattle.peer_session.specs.declared.report.Close.TheVariants.{Frame}
use Rattle.stream_session.specs.Stream.{StreamStands, stream_of, with_piece}
use Rattle.stream_session.proofs.Streams.{cut-broken, cut-open, cutter-stands, let-go, none-known, was-closed, was-open}
use Rattle.stream_session.proofs.stream.StreamSession.feed.Goals as goal

pub returns-then-not-is_open-clause-fed : goal.returns-then-not-is_open-clause-fed
returns-then-not-is_open-clause-fed c = λ fed jobs sink had goes_on.
    let s = stream_of c.take_all.new.self in
    let-go c.known.ensures fed jobs s sink (c.take_all.ensures.stands fed jobs sink had)
    (was-closed s.session.close c.is_open.result c.is_open.ensures c.if-not-is_open.true) goes_on c.args.piece.now

pub returns-in-Ok-clause-fed : goal.returns-in-Ok-clause-fed
returns-in-Ok-clause-fed c = λ fed jobs sink had goes_on.
    let s = stream_of c.take_all.new.self in
    let now = c.take_all.ensures.stands fed jobs sink had in
    let is_open = was-open s.session.close c.is_open.result c.is_open.ensures c.if-not-is_open.false in
    subst (λ contents. StreamStands (with_piece fed c.args.piece.now) jobs
    (record { cutter = c.feed.new.self; waiting = contents; last = s.last; session = s.session }) sink) (sym c.from_vec.ensures.items)
    (cut-open c.known.ensures fed jobs s sink now is_open c.in_ok-take_all.ensures.takes.none_waits c.args.piece.now c.feed.new.self c.in-Ok.contents.items
    (c.in-Ok.ensures.stands fed.bytes now.frames (cutter-stands c.known.ensures fed jobs s sink now is_open)) c.in-Ok.ensures.framing c.in-Ok.ensures.limit s.last
    c.in-Ok.ensures.open goes_on (none-known s c.in_ok-take_all.ensures.takes is_open))

pub returns-in-Err-Ended-clause-fed : goal.returns-in-Err-Ended-clause-fed
returns-in-Err-Ended-clause-fed c = λ fed jobs sink had goes_on.
    let s = stream_of c.take_all.new.self in
    let now = c.take_all.ensures.stands fed jobs sink had in
    let is_open = was-open s.session.close c.is_open.result c.is_open.ensures c.if-not-is_open.false in
    let cutter = c.feed.new.self in
    let Q : FeedFault → Type 0 = λ f. IfFed (Err f) (λ given. StandsBehind cutter (fed.bytes ++ c.args.piece.now) (now.frames ++ given)) in
    let stands : StandsBehind cutter (fed.bytes ++ c.args.piece.now) (now.frames ++ c.in-Err-Ended.contents) =
    subst Q c.in-Err-Ended.field-0-is (c.in-Err-Ended.ensures.stands fed.bytes now.frames (cutter-stands c.known.ensures fed jobs s sink now is_open)) in
    let B : FeedFault → Type 0 = λ f. IfEnded (Err f) (λ fault. (left : Standing) → Knows cutter left → left ≡ Broken fault) in
    let broken : (left : Standing) → Knows cutter left → left ≡ Broken c.in-Err-Ended.fault = subst B c.in-Err-Ended.field-0-is c.in-Err-Ended.ensures.ended in
    subst (λ contents. StreamStands (with_piece fed c.args.piece.now) jobs
    (record { cutter = cutter; waiting = contents; last = Some (Frame c.told.result); session = s.session }) sink)
    (sym (c.from_vec-in-Err-Ended.ensures.items ∙ c.into_vec.ensures))
    (cut-broken c.known.ensures fed jobs s sink now is_open c.in_ok-take_all.ensures.takes.none_waits c.args.piece.now cutter c.in-Err-Ended.contents
    stands c.in-Err-Ended.ensures.framing c.in-Err-Ended.ensures.limit (Some (Frame c.told.result)) c.in-Err-Ended.fault broken (ap (λ fault. Some (Frame fault)) c.told.ensures))

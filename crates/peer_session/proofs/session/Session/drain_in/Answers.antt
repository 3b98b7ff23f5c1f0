-- What is due is put, and then written, all of it or some.
use Rattle.std.proofs.Common.{◌≡◌, ℕ, ◌+◌, ◌-◌, ◌^◌, ◌<◌, List, ◌++◌, length, min, take, sym, ap, subst, ◌∙◌, arith}
use Rattle.std.specs.Io.KnownBytes.{Appends}
use Rattle.peer_session.specs.Events.{broken}
use Rattle.peer_session.specs.Framings.{due_in}
use Rattle.peer_session.specs.Session.{view}
use Rattle.peer_session.specs.SessionState.{with_core}
use Rattle.peer_session.proofs.Drains.{broken-fails, failed-before, none-left, no-bytes, drained-nothing, appends-nothing, put-drained, some-written, still-broken, now-broken, told-true, told-false}
use Rattle.peer_session.proofs.session.Session.drain_in.Goals as goal

pub returns-then-self-clause-drains : goal.returns-then-self-clause-drains
unfolding view
returns-then-self-clause-drains g c = broken-fails c.args.framing (view c.args.self.now) (g.S.Sink.bytes_taken c.args.sink.now) c.if-self.true

pub returns-then-self-2-clause-drains : goal.returns-then-self-2-clause-drains
unfolding view
returns-then-self-2-clause-drains g c = (c.if-self.false, failed-before c.args.framing (view c.args.self.now) (g.S.Sink.bytes_taken c.args.sink.now) c.if-self-2.true)

pub returns-in_default-clause-drains : goal.returns-in_default-clause-drains
unfolding view
returns-in_default-clause-drains g c = (
  c.if-self.false,
  none-left c.args.framing (view c.args.self.now) c.put_due.new.runs (g.S.Sink.bytes_taken c.args.sink.now) c.may_lose-self.result c.if-self-2.false
      (λ is. c.in_default.ensures.err is) c.may_lose-self.ensures.frames c.may_lose-self.ensures.lines,
)

pub returns-then-is_written-clause-drains : goal.returns-then-is_written-clause-drains
unfolding view
returns-then-is_written-clause-drains g c =
    let due = due_in c.args.framing c.args.self.now.runs in
    let out : c.as_slice.result.now ≡ due = c.as_slice.ensures.value ∙ c.in-Ok.ensures.bytes ∙ ap (λ l. l ++ due) c.clear.ensures.items in
    record {
      not_broken = c.if-self.false;
      not_failed = c.if-self-2.false;
      bytes = subst (Appends (g.S.Sink.bytes_taken c.args.sink.now) (g.S.Sink.bytes_taken c.write-is_written.new.sink)) out (c.write-is_written.ensures.all c.if-is_written.true);
      after_is = ap (with_core (view c.forget_output.new.self)) c.shrink.ensures ∙ c.forget_output.ensures
          ∙ put-drained (view c.args.self.now) c.put_due.new.runs c.in-Ok.written c.and-self.result c.in-Ok.ensures.counts c.in-Ok.ensures.answers c.and-self.ensures c.in-Ok.ensures.ok;
    }

pub returns-else-is_written-clause-drains : goal.returns-else-is_written-clause-drains
unfolding view
returns-else-is_written-clause-drains g c =
    let due = due_in c.args.framing c.args.self.now.runs in
    let out : c.as_slice.result.now ≡ due = c.as_slice.ensures.value ∙ c.in-Ok.ensures.bytes ∙ ap (λ l. l ++ due) c.clear.ensures.items in
    let part = c.write-is_written.ensures.part c.if-is_written.false in
    some-written c.args.framing (view c.args.self.now) (broken (with_core (view c.forget_output.new.self) c.shrink.new.self)) (g.S.Sink.bytes_taken c.args.sink.now)
    (g.S.Sink.bytes_taken c.write-is_written.new.sink) c.if-self.false
    (record {
      not_broken = c.if-self.false;
      not_failed = c.if-self-2.false;
      count = part.0;
      bytes = subst (λ l. Appends (g.S.Sink.bytes_taken c.args.sink.now) (g.S.Sink.bytes_taken c.write-is_written.new.sink) (take part.0 l)) out part.1;
      after_is = ap broken (ap (with_core (view c.forget_output.new.self)) c.shrink.ensures ∙ c.forget_output.ensures
          ∙ put-drained (view c.args.self.now) c.put_due.new.runs c.in-Ok.written c.and-self.result c.in-Ok.ensures.counts c.in-Ok.ensures.answers c.and-self.ensures c.in-Ok.ensures.ok);
    })

pub returns-then-self-clause-cause : goal.returns-then-self-clause-cause
unfolding view
returns-then-self-clause-cause g c = still-broken (g.S.Sink.failures c.args.sink.now) c.args.self.now.is_broken c.if-self.true

pub returns-then-is_written-clause-cause : goal.returns-then-is_written-clause-cause
unfolding view
returns-then-is_written-clause-cause g c =
    c.write-is_written.ensures.cause ∙ told-true (g.S.Sink.failures c.args.sink.now) (min (g.S.Sink.failures c.args.sink.now + 1) (2 ^ 64 - 1)) c.write-is_written.result c.if-is_written.true

pub returns-else-is_written-clause-cause : goal.returns-else-is_written-clause-cause
unfolding view
returns-else-is_written-clause-cause g c =
    c.write-is_written.ensures.cause ∙ told-false (g.S.Sink.failures c.args.sink.now) (min (g.S.Sink.failures c.args.sink.now + 1) (2 ^ 64 - 1)) c.write-is_written.result c.if-is_written.false
    ∙ now-broken (g.S.Sink.failures c.args.sink.now) c.args.self.now.is_broken c.if-self.false

pub returns-then-is_written-clause-handed_on : goal.returns-then-is_written-clause-handed_on
unfolding view
returns-then-is_written-clause-handed_on g c = λ some.
    let due = due_in c.args.framing c.args.self.now.runs in
    let out : c.as_slice.result.now ≡ due = c.as_slice.ensures.value ∙ c.in-Ok.ensures.bytes ∙ ap (λ l. l ++ due) c.clear.ensures.items in
    c.write-is_written.ensures.handed_on c.if-is_written.true (subst (λ (l : List ℕ). 0 < length l) (sym out) some)

pub returns-then-not-has_due-clause-drains : goal.returns-then-not-has_due-clause-drains
unfolding view
returns-then-not-has_due-clause-drains g c =
    let none = c.has_due.ensures c.if-not-has_due.true in
    record {
      not_broken = c.if-self.false;
      not_failed = c.if-self-2.false;
      bytes = appends-nothing (g.S.Sink.bytes_taken c.args.sink.now) (due_in c.args.framing c.args.self.now.runs) (no-bytes c.args.framing c.args.self.now.runs none);
      after_is = drained-nothing (view c.args.self.now) none c.counts_fit.ensures.messages c.counts_fit.ensures.call_frames c.counts_fit.ensures.answers;
    }

pub returns-then-not-has_due-clause-handed_on : goal.returns-then-not-has_due-clause-handed_on
unfolding view
returns-then-not-has_due-clause-handed_on g c = λ some.
    let none = c.has_due.ensures c.if-not-has_due.true in
    absurd (omega (arith, some, ap length (no-bytes c.args.framing c.args.self.now.runs none)))

pub returns-then-is_written-clause-flushed : goal.returns-then-is_written-clause-flushed
unfolding view
returns-then-is_written-clause-flushed g c = c.write-is_written.ensures.flushed c.if-is_written.true

-- What a connection counts is what has happened.
use Rattle.std.proofs.Common.{◌≡◌, ℕ, List, length, sym, ap, ◌∙◌}
use Rattle.connection_history.specs.declared.event.Event.{Event}
use Rattle.connection_history.specs.History.{History, key_count}
use Rattle.connection_history.specs.Events.{call_count}
use Rattle.connection_history.specs.Counts.{request_count, answer_count, unreadable_count, invalid_count, ignored_count, capped}
use Rattle.connection_steps.specs.States.{State, state_of}
use Rattle.connection_steps.proofs.OpenCounted.{open-counted, waiting-counted}
use Rattle.connection_desk.specs.declared.tally.Tally.{Tally}
use Rattle.connection.specs.declared.report.Report.{Report}
use Rattle.connection.specs.Connections.{Connection, StandsAfter}
use Rattle.connection.specs.Reports.{report_of}

-- a report by its parts
abbrev pub report : ℕ → ℕ → ℕ → ℕ → ℕ → ℕ → ℕ → ℕ → ℕ → Report
report a b c d e f g h k = record {
  calls = a;
  requests = b;
  «open» = c;
  waiting = d;
  own_calls = e;
  answers_written = f;
  unreadable = g;
  invalid = h;
  ignored = k;
}

-- what a state and its counts say
abbrev pub said_by : State → Tally → Report
said_by s t =
    report s.theirs.came t.requests (length s.theirs.calls) (length s.own.waiting) s.own.made t.answers t.unreadable t.invalid t.ignored

pub reported : (c : Connection) (history : History) (told : List Event) → StandsAfter c history told
    → said_by c.desk.state c.desk.tally ≡ report_of c.settings.order history
reported c history told stands =
    let order = c.settings.order in
    ap (λ s. said_by s c.desk.tally) stands.desk.state
    ∙ ap (said_by (state_of order history)) stands.desk.tally
    ∙ (λ i. report (call_count history) (capped (request_count history)) (sym (open-counted history) i) (sym (waiting-counted history) i) (key_count history)
    (capped (answer_count order history)) (capped (unreadable_count history)) (capped (invalid_count history)) (capped (ignored_count history)))

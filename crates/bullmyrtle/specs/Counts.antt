-- A connection's report, as C has it.
use Rattle.connection.specs.declared.report.Report as told
use Rattle.bullmyrtle.specs.declared.report.Report.{Report}

abbrev pub as_c : told.Report → Report
as_c r = record {
  calls = r.calls;
  requests = r.requests;
  «open» = r.«open»;
  waiting = r.waiting;
  own_calls = r.own_calls;
  answers_written = r.answers_written;
  unreadable = r.unreadable;
  invalid = r.invalid;
  ignored = r.ignored;
}

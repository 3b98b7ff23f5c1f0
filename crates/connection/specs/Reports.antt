-- What a report says.
use Rattle.std.specs.Prelude.{length}
use Rattle.connection_history.specs.declared.order.Order.{Order}
use Rattle.connection_history.specs.History as history
use Rattle.connection_history.specs.History.{History, key_count}
use Rattle.connection_history.specs.Events.{call_count}
use Rattle.connection_history.specs.Counts.{request_count, open_count, answer_count, unreadable_count, invalid_count, ignored_count, capped}
use Rattle.connection.specs.declared.report.Report.{Report}

-- How often each thing has happened. No more calls come than the settings say, which is a number of 64 bits, and there are
-- no more keys than 2^53 - 1: these counts, and those of calls that are open or wait, are exact.
abbrev pub report_of : Order → History → Report
report_of order h = record {
  calls = call_count h;
  requests = capped (request_count h);
  «open» = open_count h;
  waiting = length (history.waiting h);
  own_calls = key_count h;
  answers_written = capped (answer_count order h);
  unreadable = capped (unreadable_count h);
  invalid = capped (invalid_count h);
  ignored = capped (ignored_count h);
}

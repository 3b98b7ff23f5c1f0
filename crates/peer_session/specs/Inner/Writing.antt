-- What is put of the sendings of numbers, and what is counted of it.
use Rattle.std.specs.Prelude.{◌≡◌, ◌+◌, List}
use Rattle.peer_output.specs.Items.{Item, count_sendings, count_calls}
use Rattle.peer_session.specs.declared.writing.Written.{Written}
use Rattle.peer_session.specs.SessionState.{counted}

-- the counts are those of these items
pub record Counts (written : Written) (items : List Item) : Type 0 where
  pub messages : written.messages ≡ counted (count_sendings items)
  pub call_frames : written.call_frames ≡ counted (count_calls items)

-- these counts and then those
pub record CountsOn (first more all : Written) : Type 0 where
  pub messages : all.messages ≡ counted (first.messages + more.messages)
  pub call_frames : all.call_frames ≡ counted (first.call_frames + more.call_frames)
  pub answers : all.answers ≡ counted (first.answers + more.answers)

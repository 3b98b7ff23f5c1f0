use Rattle.peer_events.proofs.known.known.Goals as goal

pub returns : goal.returns
returns c = record {
  work_stays = c.more_entries_change_nothing_that_came.ensures.work;
  cancel_stays = c.more_entries_change_nothing_that_came.ensures.cancel;
  cancel_reaches = c.cancel_reaches_what_stands_before_it.ensures.before;
  cancel_passes = c.cancel_reaches_what_stands_before_it.ensures.behind;
  heard_stays = c.certain_facts_stay.ensures.heard;
  hears_nothing = c.replies_may_be_heard.ensures.nothing;
  hears_reply = c.replies_may_be_heard.ensures.reply;
  hears_at_the_end = c.replies_may_be_heard.ensures.over;
  waiting_sends = c.handlers_keep_to_their_course.ensures.waiting;
  failed_sends = c.handlers_keep_to_their_course.ensures.failed;
  ended_finishes = c.handlers_keep_to_their_course.ensures.ended;
  fault_finishes = c.faults_and_cancels_finish.ensures.fault;
  cancel_finishes = c.faults_and_cancels_finish.ensures.cancelled;
  starts = c.nothing_is_a_past.ensures;
  units_come = c.units_come_and_the_input_ends.ensures.units;
  input_ends = c.units_come_and_the_input_ends.ensures.end;
  sends = c.numbers_send_and_finish.ensures.sends;
  finishes = c.numbers_send_and_finish.ensures.finished;
  is_sent = c.sendings_and_answers_are_written.ensures.sent;
  is_released = c.sendings_and_answers_are_written.ensures.released;
  is_partial = c.past_is_a_partial_output.ensures;
  is_output = c.past_that_is_done_is_an_output.ensures;
  left_opened = c.units_are_left_in_order.ensures.opened;
  left_numbers = c.units_are_left_in_order.ensures.numbers;
  left_behind = c.units_are_left_in_order.ensures.behind;
  left_answered = c.finished_number_is_answered_in_its_unit.ensures;
  left_front = c.front_of_whole_units_is_due.ensures;
  reply_here = c.reply_changes_its_own_number.ensures.here;
  reply_elsewhere = c.reply_changes_its_own_number.ensures.another;
  reply_refused = c.reply_changes_its_own_number.ensures.none;
  reply_slot = c.reply_fills_its_own_slot.ensures.here;
  reply_other_slot = c.reply_fills_its_own_slot.ensures.another;
  given_slot = c.taken_reply_leaves_its_slot_given.ensures.here;
  given_other_slot = c.taken_reply_leaves_its_slot_given.ensures.another_turn;
  given_elsewhere = c.taken_reply_leaves_its_slot_given.ensures.another_number;
  given_none = c.taken_reply_leaves_its_slot_given.ensures.none;
  reached_here = c.reach_marks_one_number.ensures.here;
  reached_elsewhere = c.reach_marks_one_number.ensures.another;
  ended_here = c.end_closes_its_own_number.ensures.here;
  ended_elsewhere = c.end_closes_its_own_number.ensures.another;
}

use Rattle.std.proofs.Common.{refl}
use Rattle.our_side.specs.Breaking.{is_of_messages, is_of_ids, is_of_use}
use Rattle.our_side.proofs.Ends.{FrameLaws}
use Rattle.our_side.proofs.Fair.{IsFair}
use Rattle.our_side.proofs.Writes.{Laws, writes, never_again}
use Rattle.our_side.proofs.messages.our_side_writes_messages.Goals as goal

laws : goal.After-places_stay → Laws
laws c = record {
  texts = c.contents_of_what_is_written_are_its_texts.ensures.texts;
  front = c.contents_of_what_is_written_are_its_texts.ensures.front;
  placed = c.placed_contents_are_the_contents.ensures;
  grow = c.places_stay.ensures.grow;
}

frames : goal.After-places_stay → FrameLaws
frames c = record {
  read = c.written_frame_is_read_back.ensures.read;
  unique = c.contents_are_a_function_of_the_bytes.ensures.unique;
  stays = c.contents_stay.ensures.fault;
  are = c.frames_are_those_of_the_bytes.ensures.are;
  closed = c.frames_are_those_of_the_bytes.ensures.closed;
  read_failed = c.frames_are_those_of_the_bytes.ensures.read_failed;
  end_stays = c.faults_stay.ensures.end;
}

of_messages : IsFair is_of_messages
of_messages = record { code = refl; name = refl; cancel_params = refl; cancel_unknown = refl; cancel_initialize = refl; not_judged = refl; line_end = refl; batch = refl; params_object = refl; result_object = refl; cut_off = refl; unanswered = refl; cancelled_code = refl; after_cancel = refl }

of_ids : IsFair is_of_ids
of_ids = record { code = refl; name = refl; cancel_params = refl; cancel_unknown = refl; cancel_initialize = refl; not_judged = refl; line_end = refl; batch = refl; params_object = refl; result_object = refl; cut_off = refl; unanswered = refl; cancelled_code = refl; after_cancel = refl }

of_use : IsFair is_of_use
of_use = record { code = refl; name = refl; cancel_params = refl; cancel_unknown = refl; cancel_initialize = refl; not_judged = refl; line_end = refl; batch = refl; params_object = refl; result_object = refl; cut_off = refl; unanswered = refl; cancelled_code = refl; after_cancel = refl }

pub returns-clause-messages : goal.returns-clause-messages
returns-clause-messages c = λ protocol framing limits seen side connection history told n is. writes (laws c) protocol framing limits seen side connection history told n is (frames c) is_of_messages of_messages refl refl refl

pub returns-clause-ids : goal.returns-clause-ids
returns-clause-ids c = λ protocol framing limits seen side connection history told n is. writes (laws c) protocol framing limits seen side connection history told n is (frames c) is_of_ids of_ids refl refl refl

pub returns-clause-again : goal.returns-clause-again
returns-clause-again c = λ protocol framing limits seen side connection history told n is. never_again (laws c) protocol framing limits seen side connection history told n is (frames c) is_of_use of_use refl refl

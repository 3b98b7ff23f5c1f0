use Rattle.content_streams.specs.Streams.{placed_contents}
use Rattle.our_side.specs.OurSide.{other, seen_of}
use Rattle.our_side.proofs.InTime.{AnswersOnce, says, counts_by}
use Rattle.our_side.proofs.Taking.{all_taken}
use Rattle.our_side.proofs.Writes.{Laws}
use Rattle.our_side.proofs.joined.a_connection_is_not_accused_of_its_answers.Goals as goal

laws : goal.After-who_answers_what_was_asked_is_not_accused → Laws
laws c = record {
  texts = c.contents_of_what_is_written_are_its_texts.ensures.texts;
  front = c.contents_of_what_is_written_are_its_texts.ensures.front;
  placed = c.placed_contents_are_the_contents.ensures;
  grow = c.places_stay.ensures.grow;
}

once : goal.After-who_answers_what_was_asked_is_not_accused → AnswersOnce
once c = record {
  alone = c.each_unit_is_answered_in_its_form.ensures.alone;
  together = c.each_unit_is_answered_in_its_form.ensures.together;
  arrays = c.each_unit_is_answered_in_its_form.ensures.arrays;
}

pub returns-clause-otherwise : goal.returns-clause-otherwise
returns-clause-otherwise c = λ protocol framing limits seen side connection history told n is taken.
    c.who_answers_what_was_asked_is_not_accused.ensures protocol framing limits seen side
    (says (laws c) (once c) protocol framing limits seen side connection history is.in_time taken)
    (counts_by (laws c) (once c) protocol framing limits seen side connection history is.in_time taken)

pub returns-clause-always : goal.returns-clause-always
returns-clause-always c = λ protocol framing limits seen side connection history told n is takes.
    let taken = all_taken protocol connection.settings takes (placed_contents (seen_of protocol framing limits seen (other side))) in
    c.who_answers_what_was_asked_is_not_accused.ensures protocol framing limits seen side
    (says (laws c) (once c) protocol framing limits seen side connection history is.in_time taken)
    (counts_by (laws c) (once c) protocol framing limits seen side connection history is.in_time taken)

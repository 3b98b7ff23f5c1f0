use Rattle.connection.proofs.SoundTexts.{LineLaws}
use Rattle.connection.proofs.Written.{written_is, written_are_lines, front_contents, whole_contents}
use Rattle.connection.proofs.WrittenFrames.{FrameLaws}
use Rattle.connection.proofs.law.contents_of_what_is_written_are_its_texts.Goals as goal

frames : goal.After-frames_are_those_of_the_bytes → FrameLaws
frames c = record {
  is_frame = c.front_is_a_frame.ensures;
  shows_fault = c.front_shows_a_fault.ensures;
  no_longer = c.no_frame_extends_another.ensures;
  form = c.written_frame_is_read_back.ensures.form;
  read = c.written_frame_is_read_back.ensures.read;
  unique = c.contents_are_a_function_of_the_bytes.ensures.unique;
  are = c.frames_are_those_of_the_bytes.ensures.are;
}

lines : goal.After-frames_are_those_of_the_bytes → LineLaws
lines c = record {
  call_line = c.each_text_is_one_line.ensures.call;
  calls_line = c.each_text_is_one_line.ensures.calls;
  notice_line = c.each_text_is_one_line.ensures.notice;
  withdrawal_line = c.each_text_is_one_line.ensures.withdrawal;
  answer_line = c.each_text_is_one_line.ensures.answer;
  answers_line = c.each_text_is_one_line.ensures.answers;
}

pub returns-clause-texts : goal.returns-clause-texts
returns-clause-texts c = written_is

pub returns-clause-lines : goal.returns-clause-lines
returns-clause-lines c = written_are_lines (lines c)

pub returns-clause-whole : goal.returns-clause-whole
returns-clause-whole c = whole_contents (frames c) (lines c)

pub returns-clause-front : goal.returns-clause-front
returns-clause-front c = front_contents (frames c) (lines c)

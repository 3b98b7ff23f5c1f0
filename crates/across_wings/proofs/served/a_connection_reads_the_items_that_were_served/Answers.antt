use Rattle.across_wings.proofs.FramesRead.{reads-items, reads-all}
use Rattle.across_wings.proofs.served.a_connection_reads_the_items_that_were_served.Goals as goal

pub returns-clause-reads : goal.returns-clause-reads
returns-clause-reads c = λ connection history told items stands fed.
    reads-items (record {
      reads = c.written_frame_is_read_back.ensures.read;
      unique = c.contents_are_a_function_of_the_bytes.ensures.unique;
      are = c.frames_are_those_of_the_bytes.ensures.are;
      grow = c.contents_only_grow.ensures;
    }) connection history told items stands fed

pub returns-clause-all : goal.returns-clause-all
returns-clause-all c = λ connection history told items fed stands whole none.
    reads-all (record {
      reads = c.written_frame_is_read_back.ensures.read;
      unique = c.contents_are_a_function_of_the_bytes.ensures.unique;
      are = c.frames_are_those_of_the_bytes.ensures.are;
      grow = c.contents_only_grow.ensures;
    }) connection history told items stands fed whole none

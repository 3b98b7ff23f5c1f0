use Rattle.judge_laws.proofs.Pieces.{joined_pieces}
use Rattle.judge_laws.proofs.cuts.cutting_plays_no_part.Goals as goal

pub returns : goal.returns
returns c = joined_pieces (record {
  grow = c.places_stay.ensures.grow;
  end_stays = c.faults_stay.ensures.end;
  contents_stay = c.faults_stay.ensures.contents;
  fault_stays = c.places_stay.ensures.fault;
  placed = c.placed_contents_are_the_contents.ensures;
  cut = c.places_stay.ensures.contents;
  cut_end = c.cuts_do_not_matter.ensures.end;
  cut_fault = c.places_stay.ensures.fault_cut;
})

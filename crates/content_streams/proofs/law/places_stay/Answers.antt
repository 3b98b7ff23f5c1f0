use Rattle.content_streams.proofs.Laws as laws
use Rattle.content_streams.proofs.KeepingPlaces.{fault_stays}
use Rattle.content_streams.proofs.law.places_stay.Goals as goal

pub returns-clause-grow : goal.returns-clause-grow
returns-clause-grow c = laws.places_only_grow

pub returns-clause-fault : goal.returns-clause-fault
returns-clause-fault c = fault_stays

pub returns-clause-contents : goal.returns-clause-contents
returns-clause-contents c = laws.cuts_leave_places

pub returns-clause-fault_cut : goal.returns-clause-fault_cut
returns-clause-fault_cut c = laws.cuts_leave_fault_place

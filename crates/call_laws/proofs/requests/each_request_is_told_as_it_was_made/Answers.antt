use Rattle.std.proofs.Common.{◌++◌, sym, ap, ◌∙◌}
use Rattle.connection_history.specs.Events.{events_of}
use Rattle.connection_history.specs.History.{stream}
use Rattle.connection_history.specs.Told.{calls_told}
use Rattle.call_laws.proofs.Asked.{asked_front, asked_all, told_asked, request_as_made, request_once}
use Rattle.call_laws.proofs.Talking.{both_hear}
use Rattle.call_laws.proofs.requests.each_request_is_told_as_it_was_made.Goals as goal

pub returns-clause-told : goal.returns-clause-told
returns-clause-told c = λ first second ours theirs talk.
    let front = asked_front first ours theirs (both_hear first second ours theirs talk).0 in
    let told = told_asked (calls_told (events_of theirs)) (stream theirs) (c.each_call_is_told_once.ensures theirs) in
    (front.0, front.1 ∙ ap (λ l. l ++ front.0) (sym told))

pub returns-clause-all : goal.returns-clause-all
returns-clause-all c = λ first second ours theirs talk heard.
    let told = told_asked (calls_told (events_of theirs)) (stream theirs) (c.each_call_is_told_once.ensures theirs) in
    asked_all first ours theirs heard ∙ sym told

pub returns-clause-made : goal.returns-clause-made
returns-clause-made c = λ first second ours theirs key number talk is. request_as_made first ours theirs key number (both_hear first second ours theirs talk).0 is

pub returns-clause-once : goal.returns-clause-once
returns-clause-once c = λ first second ours theirs key number other talk is there. request_once first ours theirs key number other (both_hear first second ours theirs talk).0 is there

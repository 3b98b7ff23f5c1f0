use Rattle.std.proofs.Common.{◌≡◌, refl}
use Rattle.std.proofs.KnownBytes.{Consumes-whole}
use Rattle.std.proofs.lemmas.Result.{on_ok_weaker}
use Rattle.recorded_talks.proofs.Going.{talk_over}
use Rattle.recorded_talks.proofs.judging.judge.Goals as goal

pub returns : goal.returns
returns g c = λ options begins is_none.
    let (text, found, read, end, went) = c.in_ok-take_all.ensures in
    let (late, ended) = c.in_ok-take_end.ensures in
    on_ok_weaker c.tell_counts.result
    (λ last.
    let talk = talk_over options _ _ _ _ _ _ _ _ _ _ text found late begins is_none went ended last in
    (text, talk.0, Consumes-whole _ _ _ (λ held. held ≡ text) read end refl, talk.1, talk.2))
    c.tell_counts.ensures

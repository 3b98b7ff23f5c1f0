use Rattle.std.proofs.Common.{sym, ◌∙◌}
use Rattle.owed_answers.specs.Owed.{given}
use Rattle.number_windows.proofs.Numbered.{unchanged}
use Rattle.number_windows.proofs.StandIns.{put}
use Rattle.owed_answers.proofs.OwedLemmas.{kept, same_owed}
use Rattle.owed_answers.proofs.OwedTexts.{OnOk-map, OnErr-map}
use Rattle.owed_answers.proofs.owed_answers.OwedAnswers.give.Goals as goal

pub returns-in-Some-clause-ok : goal.returns-in-Some-clause-ok
returns-in-Some-clause-ok c =
    let was = c.args.self.now in
    OnOk-map c.give.result
    (λ is. same_owed was.places _ _ (put c.args.place (given c.args.slot c.args.text.now) c.in-Some.unit.now c.give.new.self was.owed c.get_mut.ensures.ascending (sym c.in-Some.ensures.unit) is))
    c.give.ensures.ok

pub returns-in-Some-clause-err : goal.returns-in-Some-clause-err
returns-in-Some-clause-err c =
    let was = c.args.self.now in
    OnErr-map c.give.result
    (λ is. same_owed was.places _ _ (put c.args.place (λ u. u) c.in-Some.unit.now c.give.new.self was.owed c.get_mut.ensures.ascending (sym c.in-Some.ensures.unit) is ∙ kept c.args.place was.owed))
    c.give.ensures.err

pub returns-in-None-clause-ok : goal.returns-in-None-clause-ok
returns-in-None-clause-ok c =
    let was = c.args.self.now in
    same_owed was.places _ _ (unchanged c.args.place (given c.args.slot c.args.text.now) was.owed (sym c.in-None.ensures.unit))

use Rattle.std.proofs.Common.{◌≡◌, ◌++◌, length, refl, ap, ◌∙◌}
use Rattle.std.specs.List.{filter_map, flat_map}
use Rattle.lsp_frames.specs.Frames.{written}
use Rattle.answer_desk.specs.Desk.{view}
use Rattle.answer_desk.specs.Waiting.{unit_text}
use Rattle.open_numbers.proofs.Tests.{on_err_of}
use Rattle.answer_desk.proofs.Views.{seen}
use Rattle.answer_desk.proofs.desk.Desk.release_to.Goals as goal

pub drop_front-requires-clause-behind : goal.drop_front-requires-clause-behind
unfolding view
drop_front-requires-clause-behind c = c.find-front.ensures.behind

pub drop_front-requires-clause-finished : goal.drop_front-requires-clause-finished
unfolding view
drop_front-requires-clause-finished c = c.find-front.ensures.finished

pub returns-clause-count : goal.returns-clause-count
unfolding view
returns-clause-count c = c.in_ok-count.ensures.count ∙ ap (λ units. length (filter_map unit_text units)) c.find-front.ensures.whole

pub returns-clause-bytes : goal.returns-clause-bytes
unfolding view
returns-clause-bytes c =
    c.in_ok-count.ensures.bytes
    ∙ ap (λ units. c.args.bytes.now.items ++ flat_map written (filter_map unit_text units)) c.find-front.ensures.whole

pub returns-clause-ok : goal.returns-clause-ok
unfolding view
returns-clause-ok c = c.drop_front.ensures

pub returns-in_err-count-clause-err : goal.returns-in_err-count-clause-err
unfolding view
returns-in_err-count-clause-err c =
    let self = c.args.self.now in
    on_err_of c.from_residual.result (seen self.numbers self.is_closed self.units.items ≡ seen self.numbers self.is_closed self.units.items) refl

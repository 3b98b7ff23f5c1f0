use Rattle.std.proofs.Common.{ap, ◌∙◌}
use Rattle.std.specs.List.{filter_map}
use Rattle.answer_desk.specs.Desk.{view}
use Rattle.answer_desk.specs.Waiting.{unit_text}
use Rattle.answer_desk.proofs.desk.Desk.release.Goals as goal

pub drop_front-requires-clause-behind : goal.drop_front-requires-clause-behind
unfolding view
drop_front-requires-clause-behind c = c.find-front.ensures.behind

pub drop_front-requires-clause-finished : goal.drop_front-requires-clause-finished
unfolding view
drop_front-requires-clause-finished c = c.find-front.ensures.finished

pub returns-clause-texts : goal.returns-clause-texts
unfolding view
returns-clause-texts c = c.from.ensures ∙ c.in_ok-texts.ensures ∙ ap (filter_map unit_text) c.find-front.ensures.whole

use Rattle.std.proofs.Common.{sym, ◌∙◌}
use Rattle.call_laws.proofs.ComesHome.{replied_to, none_to, comes_home}
use Rattle.call_laws.proofs.home.a_call_comes_home.Goals as goal

pub returns-clause-cut : goal.returns-clause-cut
returns-clause-cut c = λ cancels first second ours theirs key talk lawful it. sym (c.a_response_is_the_answer_of_the_other_host.ensures.first first second ours theirs key talk) ∙ none_to cancels ours key lawful it

pub returns-clause-came : goal.returns-clause-came
returns-clause-came c = λ cancels first second ours theirs key reply talk lawful it. sym (c.a_response_is_the_answer_of_the_other_host.ensures.first first second ours theirs key talk) ∙ replied_to ours key reply it

pub returns-clause-home : goal.returns-clause-home
returns-clause-home c = λ cancels first second ours theirs key caller given talk lawful made heard said.
    comes_home cancels first second ours theirs key given caller talk lawful made
    (c.a_response_is_the_answer_of_the_other_host.ensures.first first second ours theirs key talk)
    (c.each_request_ends_in_one_way.ensures.ends cancels ours key caller lawful made) heard said

use Rattle.std.proofs.Common.{◌≡◌, ◌++◌, ◌∷◌, [], ◌∙◌, ap}
use Rattle.std.specs.Option.{option_to_list}
use Rattle.conversation_contents.proofs.Lists.{any_popped}
use Rattle.conversation_contents.proofs.Indexes.{lost_by, one_less}
use Rattle.conversation_contents.proofs.content_entries.pop_in_line.Goals as goal

pub returns-in-Some : goal.returns-in-Some
returns-in-Some c =
    let is : c.args.slots.now.items ≡ c.pop.new.self.items ++ c.in-Some.owed ∷ [] = c.pop.ensures.items ∙ ap (λ o. c.pop.new.self.items ++ option_to_list o) c.in-Some.is in
    lost_by c.of.result c.in-Some.owed c.args.slots.now.items c.pop.new.self.items c.of.ensures (one_less c.args.slots.now.items c.pop.new.self.items c.in-Some.owed is) (λ p. any_popped p c.args.slots.now.items c.pop.new.self.items c.in-Some.owed is)

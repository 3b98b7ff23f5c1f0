use Rattle.std.proofs.Common.{◌∙◌, ap}
use Rattle.std.specs.List.{list_any}
use Rattle.conversation_contents.proofs.Indexes.{else_other, then_first}
use Rattle.conversation_contents.specs.Left.{holds}
use Rattle.conversation_contents.specs.declared.look.Look.TheVariants.{Allows, Expects}
use Rattle.conversation_reading.specs.declared.entry.WrittenId.TheVariants.{Null}
use Rattle.conversation_contents.proofs.due.Due.has_entry_mark.Goals as goal

pub returns-then-any : goal.returns-then-any
returns-then-any c =
    then_first c.args.mark c.any.result c.args.self.now.entries c.if-any.true (c.any.ensures ∙ ap (λ d. list_any (holds (Expects c.args.mark) Null) d.entries) c.self.view_is)

pub returns-else-any : goal.returns-else-any
returns-else-any c =
    else_other c.args.mark c.any.result c.any-else-any.result c.args.self.now.entries c.if-any.false (c.any.ensures ∙ ap (λ d. list_any (holds (Expects c.args.mark) Null) d.entries) c.self.view_is)
    (c.any-else-any.ensures ∙ ap (λ d. list_any (holds (Allows c.args.mark) Null) d.entries) c.self.view_is)

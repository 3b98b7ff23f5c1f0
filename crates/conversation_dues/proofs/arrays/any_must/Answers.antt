use Rattle.std.proofs.Common.{◌∙◌, ap, map}
use Rattle.std.specs.List.{slice_get}
use Rattle.conversation_contents.proofs.Lists.{any-left}
use Rattle.conversation_dues.proofs.arrays.any_must.Goals as goal

pub returns : goal.returns
returns c =
    let read = slice_get c.in_ok-entries.entries.now in
    c.any_must_at.ensures ∙ any-left (λ owed. owed.must) read c.as_slice.result.now c.args.due.now.entries (ap (map read) c.as_slice.ensures.value ∙ c.in_ok-entries.ensures)

use Rattle.std.proofs.Common.{Some, None}
use Rattle.conversation_dues.proofs.Firsts.{whole_found}
use Rattle.conversation_dues.specs.Found.{first_of, place_of}
use Rattle.conversation_open.specs.Open.{open_entries}
use Rattle.conversation_reading.specs.declared.entry.WrittenId.TheVariants.{Null}
use Rattle.conversation_dues.proofs.targets.oldest_whole.Goals as goal

pub returns-in-Some : goal.returns-in-Some
returns-in-Some c =
    let es = open_entries c.args.contents.now in
    whole_found es (Some c.in-Some.number) (first_of (place_of c.args.sought Null) es) c.in-Some.ensures

pub returns-in-None : goal.returns-in-None
returns-in-None c =
    let es = open_entries c.args.contents.now in
    whole_found es None (first_of (place_of c.args.sought Null) es) c.in-None.ensures

use Rattle.std.proofs.Common.{◌≡◌, ◌<◌, true, false, length, subst, arith}
use Rattle.std.specs.Option.{IsSome}
use Rattle.number_windows.proofs.PageLemmas.{first_some, some_first}
use Rattle.number_windows.proofs.pages.Pages.first.Goals as goal

pub returns-in-Some-front : goal.returns-in-Some-front
returns-in-Some-front g c =
    let ps = c.args.self.now.pages.entries in
    let block = c.in-Some.block.now in
    first_some ps c.in-Some.field-0-0.now block c.in-Some-front.field-0.now c.in-Some.ensures.first (some_first ps c.in-Some.field-0-0.now block c.requires.filled c.in-Some.ensures.first)
    c.in-Some-front.ensures.lookup

pub returns-in-None-front : goal.returns-in-None-front
returns-in-None-front g c =
    let ps = c.args.self.now.pages.entries in
    let block = c.in-Some.block.now in
    let some : 0 < length block.items = some_first ps c.in-Some.field-0-0.now block c.requires.filled c.in-Some.ensures.first in
    absurd (let there : IsSome c.front.result = c.front.ensures.variant.1 (omega (arith, some, block.ok.0)) in let no : false ≡ true = subst IsSome c.in-None-front.is there in cc)

use Rattle.std.proofs.Common.{◌≡◌, true, false, ap, subst, arith}
use Rattle.std.proofs.lemmas.List.{get_or_default}
use Rattle.std.specs.Option.{IsSome}
use Rattle.number_windows.proofs.Rows.{at_missing}
use Rattle.number_windows.proofs.block.search.Goals as goal

pub returns-in_default-clause-missing : goal.returns-in_default-clause-missing
returns-in_default-clause-missing g c =
    let items = c.args.block.now.items in
    let index = c.below-index.result in
    let entry = c.in-Some.field-0.now in
    at_missing c.args.number index items c.requires c.below-index.ensures.below
    (λ d lt. omega (
      arith,
      ap (λ e. e.0) (get_or_default items index d entry lt),
      ap (λ e. e.0) c.in-Some.ensures.lookup,
      c.in-Some.other-is,
      c.if-other-number.false,
      c.below-index.ensures.others d lt,
    ))

pub returns-in_default-2-clause-missing : goal.returns-in_default-2-clause-missing
returns-in_default-2-clause-missing g c =
    let block = c.args.block.now in
    at_missing c.args.number c.below-index.result block.items c.requires c.below-index.ensures.below
    (λ d lt. absurd (let some : IsSome c.get.result = c.get.ensures.variant.1 (omega (arith, lt, block.ok.0)) in let no : false ≡ true = subst IsSome c.in_default.is some in cc))

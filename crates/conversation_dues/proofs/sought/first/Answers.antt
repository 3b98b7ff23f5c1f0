use Rattle.std.proofs.Common.{◌∙◌, sym}
use Rattle.conversation_dues.specs.Found.{may_be_on, place_of}
use Rattle.conversation_dues.proofs.Firsts.{scan_first, scan_next, scan_none, scan_found}
use Rattle.conversation_open.specs.Open.{open_entries}
use Rattle.conversation_dues.proofs.sought.first.Goals as goal

pub loop-number-init : goal.loop-number-init
loop-number-init c = scan_first (place_of c.args.sought c.args.id.now) (open_entries c.args.contents.now) c.requires.above

pub returns-then-is_at : goal.returns-then-is_at
returns-then-is_at c =
    scan_found (place_of c.args.sought c.args.id.now) (may_be_on c.search-search.result) c.loop-number.after c.in-Some.number (open_entries c.args.contents.now) c.requires.window.ordered
    c.loop-number.invariant c.in-Some.ensures.1 c.search-search.ensures (sym c.is_at.ensures ∙ c.if-is_at.true)

pub loop-number-preserved : goal.loop-number-preserved
loop-number-preserved c =
    scan_next (place_of c.args.sought c.args.id.now) (may_be_on c.search-search.result) c.loop-number.after c.in-Some.number (open_entries c.args.contents.now) c.loop-number.invariant c.in-Some.ensures.1
    c.search-search.ensures (sym c.is_at.ensures ∙ c.if-is_at.false)

pub returns : goal.returns
returns c =
    scan_none (place_of c.args.sought c.args.id.now) (may_be_on c.search-search.result) c.loop-number.after (open_entries c.args.contents.now) c.requires.window.ordered c.loop-number.invariant c.in_default.ensures
    c.search-search.ensures

use Rattle.std.proofs.Common.{◌∙◌, ap}
use Rattle.number_windows.specs.Numbered.{at, changed_at}
use Rattle.conversation_rules.specs.Dues.{cancelled_in}
use Rattle.conversation_open.specs.Open.{open_entries, contents_of}
use Rattle.conversation_open.proofs.Changed.{changed_none, changed_all, changed_next, still_there}
use Rattle.conversation_open.proofs.open_contents.OpenContents.cancel.Goals as goal

pub loop-number-init : goal.loop-number-init
loop-number-init c = record {
  stands = c.requires;
  entries = changed_none (cancelled_in c.args.settles c.args.id.now) (open_entries c.args.self.now) c.requires.above;
}

pub loop-number-preserved : goal.loop-number-preserved
loop-number-preserved c =
    let es = open_entries c.args.self.now in
    let change = cancelled_in c.args.settles c.args.id.now in
    record {
      stands = c.cancel_in.ensures.stands;
      entries = c.cancel_in.ensures.entries
          ∙ ap (λ fs. changed_at c.in-Some.number change fs) c.loop-number.invariant.entries
          ∙ changed_next change c.loop-number.after c.in-Some.number es c.requires.window.ordered c.in-Some.ensures.0
          (λ n x over under there. c.in-Some.ensures.1 n x over under (ap (at n) c.loop-number.invariant.entries ∙ still_there change c.loop-number.after n x es over there));
    }

pub returns-clause-entries : goal.returns-clause-entries
returns-clause-entries c =
    let es = open_entries c.args.self.now in
    let change = cancelled_in c.args.settles c.args.id.now in
    ap contents_of c.loop-number.invariant.entries
    ∙ changed_all change c.loop-number.after es c.requires.window.ordered
    (λ n x over there. c.in_default.ensures n x over (ap (at n) c.loop-number.invariant.entries ∙ still_there change c.loop-number.after n x es over there))

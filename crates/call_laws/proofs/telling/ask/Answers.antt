use Rattle.call_laws.proofs.AskedOnce.{asked-ok, asked-none, asked-refused}
use Rattle.call_laws.proofs.telling.ask.Goals as goal

pub returns-clause-asked : goal.returns-clause-asked
returns-clause-asked c = λ history told stands.
    asked-ok c.args.connection.now c.next_event.new.self history told c.next_event.ensures.pieces c.next_event.ensures.settings c.next_event.result
    (c.next_event.ensures.told history told stands) (c.next_event.ensures.none history told stands)

pub returns-clause-none : goal.returns-clause-none
returns-clause-none c = λ history told stands.
    asked-none c.args.connection.now c.next_event.new.self history told c.next_event.ensures.pieces c.next_event.ensures.settings c.next_event.result
    (c.next_event.ensures.none history told stands)

pub returns-clause-refused : goal.returns-clause-refused
returns-clause-refused c = λ history told stands.
    asked-refused c.args.connection.now c.next_event.new.self history told c.next_event.ensures.pieces c.next_event.ensures.settings c.next_event.result
    (c.next_event.ensures.err history told stands)

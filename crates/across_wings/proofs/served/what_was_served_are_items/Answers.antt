use Rattle.across_wings.proofs.served.what_was_served_are_items.Goals as goal

pub returns : goal.returns
returns g c = λ table limits source bytes report served. served.run.written

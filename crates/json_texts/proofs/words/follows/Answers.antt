use Rattle.std.proofs.Common.{◌≡◌, ◌++◌, length, take, drop, sym, ap, ◌∙◌, take-append-drop}
use Rattle.std.proofs.lemmas.Slice.Eq.{bytes_eq-Decides}
use Rattle.json_texts.proofs.words.follows.Goals as goal

pub returns-in-Some-clause-stands : goal.returns-in-Some-clause-stands
returns-in-Some-clause-stands g c = λ is.
    let text = c.args.text.now in
    let others = c.args.others.now in
    let same : c.in-Some.there.now ≡ others = (bytes_eq-Decides c.in-Some.there.now others).0 (sym c.eq.ensures ∙ is) in
    sym (take-append-drop (length others) text) ∙ ap (λ w. w ++ drop (length others) text) (ap (λ n. take n text) c.told-others ∙ sym c.in-Some.ensures.cases.same ∙ same)

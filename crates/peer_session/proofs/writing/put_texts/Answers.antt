use Rattle.std.proofs.Common.{◌≡◌, ◌+◌, ℕ, List, [], ◌∷◌, ◌++◌, flat_map, take, ap, sym, ◌∙◌, append_assoc, append-nil, arith}
use Rattle.std.proofs.lemmas.Grind.{flat_map-append}
use Rattle.std.proofs.lemmas.List.{take_more, take_all}
use Rattle.stream_framing.specs.Framed.{framed}
use Rattle.peer_session.proofs.writing.put_texts.Goals as goal

pub loop-text-preserved : goal.loop-text-preserved
loop-text-preserved c =
    let texts = c.args.texts.now in
    let i = c.loop-text.text-index in
    let text : List ℕ = c.text-item.result in
    let more : take (i + 1) texts ≡ take i texts ++ text ∷ [] =
    take_more texts i text c.loop-text-test.true ∙ ap (λ (x : List ℕ). take i texts ++ x ∷ []) (sym c.text-item.is) in
    let all : flat_map (framed c.args.framing) (take (i + 1) texts) ≡ flat_map (framed c.args.framing) (take i texts) ++ framed c.args.framing text =
    ap (flat_map (framed c.args.framing)) more ∙ flat_map-append (framed c.args.framing) (take i texts) (text ∷ [])
    ∙ ap (λ (l : List ℕ). flat_map (framed c.args.framing) (take i texts) ++ l) (append-nil (framed c.args.framing text)) in
    c.in_ok-put_text.ensures.ok ∙ ap (λ (t : List ℕ). c.loop-text.bytes.items ++ framed c.args.framing t) c.as_slice.ensures
    ∙ ap (λ (l : List ℕ). l ++ framed c.args.framing text) c.loop-text.invariant
    ∙ append_assoc c.args.bytes.now.items (flat_map (framed c.args.framing) (take i texts)) (framed c.args.framing text)
    ∙ ap (λ (l : List ℕ). c.args.bytes.now.items ++ l) (sym all)

pub returns-clause-bytes : goal.returns-clause-bytes
returns-clause-bytes c =
    c.loop-text.invariant ∙ ap (λ (l : List (List ℕ)). c.args.bytes.now.items ++ flat_map (framed c.args.framing) l)
    (take_all c.loop-text.text-index c.args.texts.now (omega arith))

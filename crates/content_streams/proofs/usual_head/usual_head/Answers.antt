use Rattle.std.proofs.Common.{◌≡◌, ◌++◌, ◌-◌, ℕ, List, Bool, true, false, not, length, take, drop, codes, refl, sym, ap, ◌∙◌, take-append-drop}
use Rattle.std.proofs.lemmas.Slice.Eq.{bytes_eq-Decides}
use Rattle.std.proofs.lemmas.List.{take_rest}
use Rattle.content_streams.proofs.LineFeeds.{words_of_head, end_of_head}
use Rattle.content_streams.proofs.usual_head.usual_head.Goals as goal

same_if : (b : Bool) → not b ≡ false → b ≡ true
same_if true is = refl
same_if false is = sym is

begins_with : (bytes first word : List ℕ) (n : ℕ) → first ≡ take n bytes → first ≡ word → bytes ≡ word ++ drop n bytes
begins_with bytes first word n is same = sym (take-append-drop n bytes) ∙ ap (λ w. w ++ drop n bytes) (sym is ∙ same)

pub loop-at-init : goal.loop-at-init
loop-at-init c =
    let bytes = c.args.bytes.now in
    let words = c.in_ok-words.words.now in
    let same : words ≡ codes "Content-Length: " = (bytes_eq-Decides words (codes "Content-Length: ")).0 (same_if _ (sym c.ne.ensures ∙ c.if-ne.false)) in
    record {
      within = c.in_ok-words.ensures.cases.enough;
      are = words_of_head bytes (begins_with bytes words (codes "Content-Length: ") 16 c.in_ok-words.ensures.cases.same same);
    }

pub returns-then-eq-clause-whole : goal.returns-then-eq-clause-whole
returns-then-eq-clause-whole c =
    let bytes = c.args.bytes.now in
    let at = c.loop-at.at in
    let end = c.in_ok-end.end.now in
    let rest : take (length bytes - at) (drop at bytes) ≡ drop at bytes = take_rest bytes at in
    let same : end ≡ codes "\r\n\r\n" = (bytes_eq-Decides end (codes "\r\n\r\n")).0 (sym c.eq.ensures ∙ c.if-eq.true) in
    c.loop-at.invariant.are ∙ end_of_head bytes at (begins_with (drop at bytes) end (codes "\r\n\r\n") 4 (c.in_ok-end.ensures.cases.same ∙ ap (take 4) rest) same)

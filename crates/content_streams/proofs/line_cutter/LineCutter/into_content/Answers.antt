use Rattle.std.proofs.Common.{◌≡◌, ℕ, List, [], ◌∷◌, true, false, cond, length, take, ap, sym, ◌∙◌}
use Rattle.content_streams.specs.Lines.{without_cr, is_blank}
use Rattle.content_streams.specs.Streams.{plain}
use Rattle.content_streams.proofs.LineSteps.{content_seen, take_without_cr}
use Rattle.content_streams.proofs.line_cutter.LineCutter.into_content.Goals as goal

pub returns-then-is_blank : goal.returns-then-is_blank
returns-then-is_blank c =
    let line = c.self.inside.line.items in
    let cut : c.truncate.new.self.items ≡ without_cr line =
    c.truncate.ensures.items ∙ ap (λ (xs : List ℕ). take (length xs) line) (c.without_cr-size.ensures ∙ ap without_cr c.as_slice.ensures.value) ∙ take_without_cr line in
    let blank : is_blank (without_cr line) ≡ true = ap is_blank (sym (c.as_slice-2.ensures.value ∙ cut)) ∙ sym c.is_blank.ensures ∙ c.if-is_blank.true in
    sym (content_seen c.self.inside.limit c.self.inside.is_over line c.self.inside.start c.args.self c.self.view_is c.requires c.self.invariant
    ∙ ap (λ t. cond t [] (plain (without_cr line) ∷ [])) blank)

pub returns : goal.returns
returns c =
    let line = c.self.inside.line.items in
    let cut : c.truncate.new.self.items ≡ without_cr line =
    c.truncate.ensures.items ∙ ap (λ (xs : List ℕ). take (length xs) line) (c.without_cr-size.ensures ∙ ap without_cr c.as_slice.ensures.value) ∙ take_without_cr line in
    let blank : is_blank (without_cr line) ≡ false = ap is_blank (sym (c.as_slice-2.ensures.value ∙ cut)) ∙ sym c.is_blank.ensures ∙ c.if-is_blank.false in
    ap (λ (content : List ℕ). plain content ∷ []) (c.into.ensures ∙ cut)
    ∙ sym (content_seen c.self.inside.limit c.self.inside.is_over line c.self.inside.start c.args.self c.self.view_is c.requires c.self.invariant
    ∙ ap (λ t. cond t [] (plain (without_cr line) ∷ [])) blank)

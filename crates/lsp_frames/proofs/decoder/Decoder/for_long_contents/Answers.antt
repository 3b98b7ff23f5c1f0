use Rattle.std.proofs.Common.{◌≡◌, ℕ, List, [], ap, sym, ◌∙◌, subst}
use Rattle.lsp_frames.specs.Lines.{no_fields}
use Rattle.lsp_frames.specs.Heads.{Unended, head_at, head_from}
use Rattle.lsp_frames.specs.Decoding.{Known, StandsAfter}
use Rattle.lsp_frames.specs.Inner.Partials.{known_read, read_at, read_of}
use Rattle.lsp_frames.specs.declared.partial.Stage.{Stage}
use Rattle.lsp_frames.proofs.Reading.{head_from-nil}
use Rattle.lsp_frames.proofs.Standings.{stands_first}
use Rattle.lsp_frames.proofs.decoder.Decoder.for_long_contents.Goals as goal

pub returns-clause-start : goal.returns-clause-start
unfolding head_at head_from
returns-clause-start c =
    let read : read_of c.new.result ≡ head_at c.args.limit [] =
    ap (λ (s : Stage). read_at s c.new.result.held.items) c.new.ensures.stage ∙ ap (λ (xs : List ℕ). Unended (record { fields = no_fields; line = xs; room = 4096 })) c.new.ensures.held
    ∙ sym (head_from-nil c.args.limit no_fields [] 4096) in
    let P : Known → Type 0 = λ k. StandsAfter (record { limit = c.args.limit; standing = k }) [] [] in
    subst P (sym (ap known_read read)) (stands_first c.args.limit)

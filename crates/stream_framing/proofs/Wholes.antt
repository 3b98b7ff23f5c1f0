-- Lines that are closed, and lines that are written.
use Rattle.std.proofs.Common.{◌≡◌, ℕ, Bool, true, false, cond, not, ◌&&◌, List, [], ◌∷◌, ◌++◌, All, flat_map, map, refl, ap, sym, ◌∙◌, append_assoc}
use Rattle.std.specs.Prelude.{◌==◌}
use Rattle.std.specs.List.{list_all, onto_first}
use Rattle.std.proofs.lemmas.List.Elements.{All-head, All-tail}
use Rattle.lsp_frames.specs.Contents.{Open, Broken}
use Rattle.lsp_frames.specs.Frames.{HasNoLf}
use Rattle.lsp_frames.specs.declared.frame.Frame.{Frame}
use Rattle.lsp_frames.specs.declared.frame.FrameFault.TheVariants.{TooLarge}
use Rattle.content_streams.specs.Lines.{is_lf, parts, without_last}
use Rattle.content_streams.specs.Streams.{plain}
use Rattle.content_streams.specs.Inner.Cutting.{last_line}
use Rattle.content_streams.proofs.LineTexts.{parts-some, last_behind}
use Rattle.stream_framing.specs.Framed.{framed}
use Rattle.stream_framing.specs.Lines.{HoldsLines, IsLine, whole_contents, line_standing}
use Rattle.stream_framing.specs.declared.framing.Framing.TheVariants.{Lines}
use Rattle.stream_framing.proofs.Fitting.{no_lines, nothing_fits}
use Rattle.stream_framing.proofs.Steps.{ended_first, last_leads, standing_cons, standing_is, standing_one}

-- ---- a closed input

pub nothing-left : (limit : ℕ) (bytes : List ℕ) (frames : List Frame) (rest : List ℕ) → HoldsLines limit (bytes ++ 10 ∷ []) frames (Open rest) → rest ≡ []
nothing-left limit bytes frames rest holds =
    (standing_is limit (parts (bytes ++ 10 ∷ [])) rest holds.1).1 ∙ last_behind bytes (10 ∷ []) ∙ ap last_line (last_leads bytes (10 ∷ []))

-- ---- lines that are written

and-first : (a b : Bool) → (a && b) ≡ true → a ≡ true
and-first true b is = refl
and-first false b is = cc

and-last : (a b : Bool) → (a && b) ≡ true → b ≡ true
and-last true b is = is
and-last false b is = cc

not-lf : (b : ℕ) → not (b == 10) ≡ true → is_lf b ≡ false
not-lf b is = go (b == 10) is
  where
    go : (t : Bool) → not t ≡ true → t ≡ false
    go true is = cc
    go false is = refl

line-first : (text rest : List ℕ) → HasNoLf text → parts (text ++ 10 ∷ rest) ≡ text ∷ parts rest
line-first [] rest none = refl
line-first (b ∷ text) rest none =
    ap (λ t. cond t ([] ∷ parts (text ++ 10 ∷ rest)) (onto_first b (parts (text ++ 10 ∷ rest)))) (not-lf b (and-first (not (b == 10)) (list_all (λ c. not (c == 10)) text) none))
    ∙ ap (onto_first b) (line-first text rest (and-last (not (b == 10)) (list_all (λ c. not (c == 10)) text) none))

pub read-back : (limit : ℕ) (texts : List (List ℕ)) → All (IsLine limit) texts → HoldsLines limit (flat_map (framed Lines) texts) (map plain texts) (Open [])
read-back limit [] lines = (sym (no_lines limit), sym (standing_one limit [] ∙ ap (λ t. cond t (Open []) (Broken TooLarge)) (nothing_fits limit)))
read-back limit (text ∷ texts) lines =
    let later = flat_map (framed Lines) texts in
    let line = All-head (IsLine limit) text texts lines in
    let rest = read-back limit texts (All-tail (IsLine limit) text texts lines) in
    let cut : parts ((text ++ 10 ∷ []) ++ later) ≡ text ∷ parts later = ap parts (append_assoc text (10 ∷ []) later) ∙ line-first text later line.one in (
      sym (ap (λ ls. whole_contents limit (without_last ls)) cut ∙ ended_first limit text (parts later) (parts-some later) line.short
          ∙ ap (λ t. cond t [] (plain text ∷ []) ++ whole_contents limit (without_last (parts later))) line.some ∙ ap (λ fs. plain text ∷ fs) (sym rest.0)),
      sym (ap (line_standing limit) cut ∙ standing_cons limit text (parts later) (parts-some later) line.short ∙ sym rest.1),
    )

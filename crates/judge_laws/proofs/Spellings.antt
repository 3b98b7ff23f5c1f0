-- Contents that are spellings of the same values.
use Rattle.std.proofs.Common.{◌≡◌, ℕ, Bool, true, false, if◌then◌else◌, List, [], ◌∷◌, ◌++◌, Some, None, refl, ap, sym, ◌∙◌}
use Rattle.std.specs.Str.{is_utf8}
use Rattle.json.specs.Json.{Json}
use Rattle.json_texts.specs.Texts.{value_of, text_value}
use Rattle.lsp_frames.specs.declared.frame.Frame.{Frame}
use Rattle.conversation_reading.specs.Strictly.{json_reading, value_reading, reading_of, limited, limited_reading}
use Rattle.conversation_reading.specs.declared.reading.Reading.TheVariants.{NotText}
use Rattle.conversation_reading.specs.declared.reading.TheConstants.{MOST_DEPTH_IN}
use Rattle.conversation_rules.specs.Contents.{Outcome, content_outcome, reading_outcome, next_message, counted}
use Rattle.conversation_rules.specs.Judging.{contents_findings, behind_contents}
use Rattle.conversation_rules.specs.Speakers.{Pair}
use Rattle.conversation_rules.specs.declared.protocol.Protocol.{Protocol}
use Rattle.conversation_rules.specs.declared.side.Side.{Side}
use Rattle.judge_laws.specs.Values.{HasSameValue, HaveSameValues}

utf8_by : (text : List ℕ) (j : Json) (b : Bool) → (if b then text_value MOST_DEPTH_IN text else None) ≡ Some j → b ≡ true
utf8_by text j true is = refl
utf8_by text j false is = cc

utf8_of : (content : List ℕ) (j : Json) → value_of MOST_DEPTH_IN content ≡ Some j → is_utf8 content ≡ true
unfolding value_of
utf8_of content j is = utf8_by content j (is_utf8 content) is

reading_is : (content : List ℕ) (j : Json) → value_of MOST_DEPTH_IN content ≡ Some j → reading_of false content ≡ value_reading j
reading_is content j is =
    ap (λ b. if b then json_reading content (value_of MOST_DEPTH_IN content) else NotText) (utf8_of content j is) ∙ ap (json_reading content) is

same_reading : (a b : ℕ × Frame) → HasSameValue a b → reading_of a.1.foreign a.1.content ≡ reading_of b.1.foreign b.1.content
same_reading a b same =
    ap (λ foreign. reading_of foreign a.1.content) same.read ∙ reading_is a.1.content same.value same.is
    ∙ sym (ap (λ foreign. reading_of foreign b.1.content) same.other_read ∙ reading_is b.1.content same.value same.other_is)

same_outcome : (protocol : Protocol) (side : Side) (is_unfinished : Bool) (a b : ℕ × Frame) (pair : Pair) → HasSameValue a b → content_outcome protocol side is_unfinished a pair ≡ content_outcome protocol side is_unfinished b pair
same_outcome protocol side is_unfinished a b pair same =
    ap (λ place. reading_outcome protocol is_unfinished (next_message side place pair) (counted pair) (limited_reading a.1.foreign a.1.content)) same.place
    ∙ ap (λ reading. reading_outcome protocol is_unfinished (next_message side b.0 pair) (counted pair) (limited reading)) (same_reading a b same)

pub same_findings : (protocol : Protocol) (side : Side) (is_unfinished : Bool) (contents others : List (ℕ × Frame)) (pair : Pair) → HaveSameValues contents others →
    contents_findings protocol side is_unfinished contents pair ≡ contents_findings protocol side is_unfinished others pair
same_findings protocol side is_unfinished [] [] pair same = refl
same_findings protocol side is_unfinished [] (b ∷ others) pair same = absurd same
same_findings protocol side is_unfinished (a ∷ contents) [] pair same = absurd same
same_findings protocol side is_unfinished (a ∷ contents) (b ∷ others) pair same =
    let outcome = same_outcome protocol side is_unfinished a b pair same.0 in
    ap (λ (o : Outcome). o.findings ++ contents_findings protocol side is_unfinished contents o.pair) outcome
    ∙ ap (λ fs. (content_outcome protocol side is_unfinished b pair).findings ++ fs) (same_findings protocol side is_unfinished contents others (content_outcome protocol side is_unfinished b pair).pair same.1)

pub same_kept : (protocol : Protocol) (side : Side) (is_unfinished : Bool) (contents others : List (ℕ × Frame)) (pair : Pair) → HaveSameValues contents others →
    behind_contents protocol side is_unfinished contents pair ≡ behind_contents protocol side is_unfinished others pair
same_kept protocol side is_unfinished [] [] pair same = refl
same_kept protocol side is_unfinished [] (b ∷ others) pair same = absurd same
same_kept protocol side is_unfinished (a ∷ contents) [] pair same = absurd same
same_kept protocol side is_unfinished (a ∷ contents) (b ∷ others) pair same =
    ap (λ (o : Outcome). behind_contents protocol side is_unfinished contents o.pair) (same_outcome protocol side is_unfinished a b pair same.0)
    ∙ same_kept protocol side is_unfinished contents others (content_outcome protocol side is_unfinished b pair).pair same.1

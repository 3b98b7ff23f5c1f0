-- A judge that sees what lines say, one by one.
use Rattle.std.proofs.Common.{◌≡◌, ◌≢◌, ℕ, List, [], ◌∷◌, ◌++◌, Option, Some, None, option_map, refl, sym, ap, ◌∙◌, subst, append_assoc, append-nil}
use Rattle.std.specs.Prelude.{option_and_then}
use Rattle.std.specs.Option.{option_to_list}
use Rattle.conversation_judge.specs.Judged.{Judged}
use Rattle.conversation_rules.specs.Judging.{Seen}
use Rattle.conversation_rules.specs.declared.finding.Finding.{Finding}
use Rattle.recorded_talks.specs.Recorded.{said_by}
use Rattle.recorded_talks.specs.Replayed.{seen_in, protocol_by, framing_by, limits, Finds}
use Rattle.recorded_talks.specs.Replays.{SeesMore, Sees, untold, with_untold}
use Rattle.recorded_talks.specs.declared.options.TalkOptions.{TalkOptions}

seen_more : (lines : List (List ℕ)) (line : List ℕ) (seen : List Seen) (said : Option Seen) → seen_in lines ≡ Some seen → said_by line ≡ Some said → seen_in (lines ++ line ∷ []) ≡ Some (seen ++ option_to_list said)
seen_more [] line seen said are is =
    let none : [] ≡ seen = (let e : Some [] ≡ Some seen = are in cc) in
    ap (option_and_then (λ said. option_map (λ seen. option_to_list said ++ seen) (Some []))) is
    ∙ ap (λ all. Some all) (append-nil (option_to_list said) ∙ ap (λ before. before ++ option_to_list said) none)
seen_more (first ∷ lines) line seen said are is = go (said_by first) (seen_in lines) refl are (λ others e. seen_more lines line others said e is)
  where
    go : (of_first : Option (Option Seen)) (of_lines : Option (List Seen)) → seen_in lines ≡ of_lines → option_and_then (λ said. option_map (λ seen. option_to_list said ++ seen) of_lines) of_first ≡ Some seen
        → ((others : List Seen) → seen_in lines ≡ Some others → seen_in (lines ++ line ∷ []) ≡ Some (others ++ option_to_list said))
        → option_and_then (λ said. option_map (λ seen. option_to_list said ++ seen) (seen_in (lines ++ line ∷ []))) of_first ≡ Some (seen ++ option_to_list said)
    go None of_lines e h again = absurd (let e : None ≡ Some seen = h in cc)
    go (Some one) None e h again = absurd (let e : None ≡ Some seen = h in cc)
    go (Some one) (Some others) e h again =
        let same : option_to_list one ++ others ≡ seen = (let e : Some (option_to_list one ++ others) ≡ Some seen = h in cc) in
        ap (option_map (λ seen. option_to_list one ++ seen)) (again others e)
        ∙ ap (λ all. Some all) (sym (append_assoc (option_to_list one) others (option_to_list said)) ∙ ap (λ before. before ++ option_to_list said) same)

pub sees_line : (options : TalkOptions) (lines : List (List ℕ)) (told : List Finding) (a b : Judged) (line : List ℕ) (said : Option Seen) → said_by line ≡ Some said → SeesMore a b (option_to_list said)
    → Sees options lines told (Some a) → Sees options (lines ++ line ∷ []) told (Some b)
sees_line options [] told a b line said is more sees = absurd sees
sees_line options (first ∷ lines) told a b line said is more (head, seen, of, are, stands) =
    (head, seen ++ option_to_list said, of, seen_more lines line seen said are is, more (protocol_by options head) (framing_by options head) limits seen told stands)

pub sees_first : (options : TalkOptions) (lines : List (List ℕ)) (told : List Finding) (line : List ℕ) (judge : Option Judged) → Sees options (line ∷ []) [] judge → Sees options lines told None → Sees options (lines ++ line ∷ []) told judge
sees_first options [] told line judge first none = subst (λ told. Sees options (line ∷ []) told judge) (sym none) first
sees_first options (other ∷ lines) told line judge first none = absurd none

-- all is told
pub sees_told : (options : TalkOptions) (lines : List (List ℕ)) (told : List Finding) (judge : Option Judged) → Sees options lines told judge → Sees options lines (told ++ untold judge) (with_untold [] judge)
sees_told options [] told None sees = append-nil told ∙ sees
sees_told options [] told (Some judge) sees = absurd sees
sees_told options (first ∷ lines) told None sees = absurd sees
sees_told options (first ∷ lines) told (Some judge) (head, seen, of, are, stands) =
    (head, seen, of, are, record { rules = stands.rules; state = stands.state; findings = stands.findings ∙ sym (append-nil (told ++ judge.untold)) })

pub none_untold : (judge : Option Judged) → untold (with_untold [] judge) ≡ []
none_untold None = refl
none_untold (Some judge) = refl

pub finds : (options : TalkOptions) (lines : List (List ℕ)) (told : List Finding) (judge : Option Judged) → lines ≢ [] → untold judge ≡ [] → Sees options lines told judge → Finds options lines told
finds options [] told judge some none sees = absurd (some refl)
finds options (first ∷ lines) told None some none sees = absurd sees
finds options (first ∷ lines) told (Some judge) some none (head, seen, of, are, stands) = (head, seen, of, are, stands.findings ∙ ap (λ others. told ++ others) none ∙ append-nil told)

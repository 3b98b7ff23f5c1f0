-- A recording that is taken and told piece by piece.
use Rattle.std.proofs.Common.{◌≡◌, ℕ, suc, drop, length, arith, List, [], ◌∷◌, ◌++◌, Option, Some, None, codes, refl, sym, ap, ◌∙◌, subst, append_assoc, append-nil}
use Rattle.std.proofs.KnownBytes.{Appends-trans}
use Rattle.std.specs.Io.KnownBytes.{Appends, Consumes, Keeps}
use Rattle.content_streams.specs.Lines.{parts}
use Rattle.content_streams.proofs.LineTexts.{parts-some}
use Rattle.conversation_judge.specs.Judged.{Judged}
use Rattle.conversation_rules.specs.declared.finding.Finding.{Finding}
use Rattle.recorded_talks.specs.Counted.{none, with_one}
use Rattle.recorded_talks.specs.Replayed.{findings_text, counted, Talk}
use Rattle.recorded_talks.specs.Replays.{Sees, Replays, Went, Ended, untold, with_untold}
use Rattle.recorded_talks.specs.Told.{finding_text, counts_text}
use Rattle.recorded_talks.specs.declared.counts.Counts.{Counts}
use Rattle.recorded_talks.specs.declared.options.TalkOptions.{TalkOptions}
use Rattle.recorded_talks.specs.declared.replay.Replay.{Replay}
use Rattle.recorded_talks.proofs.Seeing.{sees_told, none_untold, finds}

counted_more : (found more : List Finding) (counts : Counts) → counted (found ++ more) counts ≡ counted more (counted found counts)
counted_more [] more counts = refl
counted_more (it ∷ found) more counts = counted_more found more (with_one it.level counts)

text_more : (found more : List Finding) → findings_text (found ++ more) ≡ findings_text found ++ findings_text more
text_more [] more = refl
text_more (it ∷ found) more =
    let line = finding_text it ++ codes "\n" in
    ap (λ text. line ++ text) (text_more found more) ∙ sym (append_assoc line (findings_text found) (findings_text more))

appends_none : (known : Option (List ℕ)) → Appends known known []
appends_none None = tt
appends_none (Some bytes) = sym (append-nil bytes)

pub consumes_none : (known : Option (List ℕ)) → Consumes known known []
consumes_none None = tt
consumes_none (Some bytes) = refl

pub appends_kept : (before mid after : Option (List ℕ)) (bytes : List ℕ) → Appends before mid bytes → Keeps mid after → Appends before after bytes
appends_kept None mid after bytes appended kept = tt
appends_kept (Some xs) None after bytes appended kept = absurd appended
appends_kept (Some xs) (Some ys) None bytes appended kept = absurd kept
appends_kept (Some xs) (Some ys) (Some zs) bytes appended kept = kept ∙ appended

twice : (found others : List Finding) (judge : Option Judged) → with_untold found (with_untold others judge) ≡ with_untold found judge
twice found others None = refl
twice found others (Some judge) = refl

pub told_next : (a b c : Replay) (found others : List Finding) → b ≡ record a { judge = with_untold others a.judge } → c ≡ record b { judge = with_untold found b.judge } → c ≡ record a { judge = with_untold found a.judge }
told_next a b c found others is next = next ∙ ap (λ (r : Replay). record r { judge = with_untold found r.judge }) is ∙ ap (λ (j : Option Judged). record a { judge = j }) (twice found others a.judge)

-- where nothing is dropped by dropping one, there is none
pub none_left : (found : List Finding) → found ≡ drop 1 found → found ≡ []
none_left [] is = refl
none_left (it ∷ found) is = absurd (let e : suc (length found) ≡ length found = ap (λ (l : List Finding). length l) is in omega (arith, e))

pub told_all : (options : TalkOptions) (text left : List ℕ) (told : List Finding) (a b : Replay) → b ≡ record a { judge = with_untold [] a.judge } → Replays options text left told a → Replays options text left (told ++ untold a.judge) b
told_all options text left told a b is replays = subst (λ r. Replays options text left (told ++ untold a.judge) r) (sym is)
    (record { lines = replays.lines; is_of = replays.is_of; parted = replays.parted; sees = sees_told options replays.lines told a.judge replays.sees })

pub stays : (a : Replay) (counts : Counts) (known : Option (List ℕ)) → Went a a counts counts known known [] []
stays a counts known = record {
  replays = λ options text told replays. subst (λ text. Replays options text [] (told ++ []) a) (sym (append-nil text)) (subst (λ told. Replays options text [] told a) (sym (append-nil told)) replays);
  is_counted = refl;
  is_written = appends_none known;
}

pub went_on : (a b c : Replay) (counts counts' counts'' : Counts) (before mid after : Option (List ℕ)) (more more' : List ℕ) (found found' : List Finding)
    → Went a b counts counts' before mid more found → Went b c counts' counts'' mid after more' found' → Went a c counts counts'' before after (more ++ more') (found ++ found')
went_on a b c counts counts' counts'' before mid after more more' found found' first second = record {
  replays = λ options text told replays.
      let both = second.replays options (text ++ more) (told ++ found) (first.replays options text told replays) in
      subst (λ text. Replays options text [] (told ++ (found ++ found')) c) (append_assoc text more more')
      (subst (λ told. Replays options ((text ++ more) ++ more') [] told c) (append_assoc told found found') both);
  is_counted = second.is_counted ∙ ap (counted found') first.is_counted ∙ sym (counted_more found found' counts);
  is_written = subst (Appends before after) (sym (text_more found found')) (Appends-trans before mid after (findings_text found) (findings_text found') first.is_written second.is_written);
}

pub piece_went : (a mid b : Replay) (counts counts' : Counts) (before after : Option (List ℕ)) (piece : List ℕ)
    → ((options : TalkOptions) (text : List ℕ) (told : List Finding) → Replays options text [] told a → Replays options (text ++ piece) [] told mid)
    → b ≡ record mid { judge = with_untold [] mid.judge } → counts' ≡ counted (untold mid.judge) counts → Appends before after (findings_text (untold mid.judge))
    → Went a b counts counts' before after piece (untold mid.judge)
piece_went a mid b counts counts' before after piece taken is is_counted is_written = record {
  replays = λ options text told replays. told_all options (text ++ piece) [] told mid b is (taken options text told replays);
  is_counted = is_counted;
  is_written = is_written;
}

pub end_went : (a mid b : Replay) (counts counts' : Counts) (before after : Option (List ℕ))
    → ((options : TalkOptions) (text : List ℕ) (told : List Finding) → Replays options text [] told a → Sees options (parts text) told mid.judge)
    → b ≡ record mid { judge = with_untold [] mid.judge } → counts' ≡ counted (untold mid.judge) counts → Appends before after (findings_text (untold mid.judge))
    → Ended a b counts counts' before after (untold mid.judge)
end_went a mid b counts counts' before after taken is is_counted is_written =
    let same : b.judge ≡ with_untold [] mid.judge = ap (λ (r : Replay). r.judge) is in
    record {
      sees = λ options text told replays. subst (Sees options (parts text) (told ++ untold mid.judge)) (sym same) (sees_told options (parts text) told mid.judge (taken options text told replays));
      none_left = ap untold same ∙ none_untold mid.judge;
      is_counted = is_counted;
      is_written = is_written;
    }

-- all of it
pub talk_over : (options : TalkOptions) (a b c : Replay) (counts counts' counts'' : Counts) (before mid late after : Option (List ℕ)) (text : List ℕ) (found found' : List Finding)
    → Replays options [] [] [] a → counts ≡ none → Went a b counts counts' before mid text found → Ended b c counts' counts'' mid late found' → Appends late after (counts_text counts'' ++ codes "\n")
    → (written : List ℕ) × Talk options text counts'' written × Appends before after written
talk_over options a b c counts counts' counts'' before mid late after text found found' begins is_none went ended last =
    let all = found ++ found' in
    let line = counts_text counts'' ++ codes "\n" in
    let sees = ended.sees options text found (went.replays options [] [] begins) in
    let findings = subst (Appends before late) (sym (text_more found found')) (Appends-trans before mid late (findings_text found) (findings_text found') went.is_written ended.is_written) in (
      findings_text all ++ line,
      record {
        found = all;
        finds = finds options (parts text) all c.judge (parts-some text) ended.none_left sees;
        is_counted = ended.is_counted ∙ ap (counted found') (went.is_counted ∙ ap (counted found) is_none) ∙ sym (counted_more found found' none);
        is_written = refl;
      },
      Appends-trans before late after (findings_text all) line findings last,
    )

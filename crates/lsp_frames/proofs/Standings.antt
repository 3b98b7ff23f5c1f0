-- How a decoder stands after a piece more.
use Rattle.std.proofs.Common.{◌≡◌, ℕ, ◌-◌, ◌≤◌, false, eqb, List, [], ◌∷◌, ◌++◌, length, Result, Ok, Err, refl, ap, sym, ◌∙◌, subst, arith, append-nil}
use Rattle.std.proofs.lemmas.Grind.{common_steps}
use Rattle.lsp_frames.specs.Lines.{no_fields}
use Rattle.lsp_frames.specs.Heads.{HeadRead, Reading, Ends, Breaks, Unended, Step, Goes, Completes, Shows, step, head_from, head_at}
use Rattle.std.specs.Result.{IfOk}
use Rattle.lsp_frames.specs.Feeds.{fed_frames}
use Rattle.lsp_frames.specs.declared.fed.Fed.{Fed}
use Rattle.lsp_frames.specs.Frames.{Faulty, Whole, front}
use Rattle.lsp_frames.specs.Contents as contents
use Rattle.lsp_frames.specs.Contents.{Standing, IsContents, end_of}
use Rattle.lsp_frames.specs.Decoding.{Decoding, Open, Broken, IsOpen, StandsAfter, end_known, known}
use Rattle.lsp_frames.specs.Inner.Partials.{Gives, HasNoFrame, known_read, read_at, read_on}
use Rattle.lsp_frames.specs.declared.frame.Frame.{Frame}
use Rattle.lsp_frames.specs.declared.frame.FrameFault.{FrameFault}
use Rattle.lsp_frames.specs.declared.frame.FrameFault.TheVariants.{Truncated}
use Rattle.lsp_frames.specs.declared.frame.End.TheVariants.{Fault}
use Rattle.lsp_frames.specs.declared.line.Fields.{Fields}
use Rattle.lsp_frames.specs.declared.partial.Stage.{Stage}
use Rattle.lsp_frames.specs.declared.partial.Stage.TheVariants as stages
use Rattle.lsp_frames.proofs.Reading.{after_step, head_from-cons, head_from-nil}
use Rattle.lsp_frames.proofs.Fronts.{front_ends, front_breaks, front_unended, content_less, ends_stay, breaks_stay, unended_goes_on}
use Rattle.lsp_frames.proofs.Streams.{fault_stays, goes_on, only_contents}

-- what is read with more bytes behind is what all of them say
pub read_on_is : (limit : ℕ) (bytes more : List ℕ) → read_on limit (head_at limit bytes) more ≡ head_at limit (bytes ++ more)
read_on_is limit bytes more = go (head_at limit bytes) refl
  where
    go : (r : HeadRead) → head_at limit bytes ≡ r → read_on limit r more ≡ head_at limit (bytes ++ more)
    go (Ends n foreign rest) e = sym (ends_stay limit bytes more n foreign rest e)
    go (Breaks fault) e = sym (breaks_stay limit bytes more fault e)
    go (Unended reading) e = sym (unended_goes_on limit bytes more reading e)

-- frames that are whole one after another are the contents

pub record HasGiven (limit : ℕ) (bytes : List ℕ) (frames : List Frame) (last : HeadRead) : Type 0 where
  pub left : Standing
  pub contents : IsContents limit bytes frames left
  pub known : known_read last ≡ known limit left

pub gives_contents : (limit : ℕ) (bytes : List ℕ) (frames : List Frame) (last : HeadRead) → Gives limit (head_at limit bytes) frames last → HasGiven limit bytes frames last
unfolding front
gives_contents limit bytes [] last h = go (head_at limit bytes) refl h.0
  where
    go : (r : HeadRead) → head_at limit bytes ≡ r → HasNoFrame r → HasGiven limit bytes [] last
    go (Ends n foreign rest) e less = record {
      left = contents.Open bytes;
      contents = (front_ends limit bytes n foreign rest e ∙ content_less n foreign rest less, refl);
      known = ap known_read (h.1 ∙ e) ∙ ap Open (sym e);
    }
    go (Breaks fault) e less = record { left = contents.Broken fault; contents = front_breaks limit bytes fault e; known = ap known_read (h.1 ∙ e) }
    go (Unended reading) e less = record {
      left = contents.Open bytes;
      contents = (front_unended limit bytes reading e, refl);
      known = ap known_read (h.1 ∙ e) ∙ ap Open (sym e);
    }
gives_contents limit bytes (frame ∷ frames) last h =
    let others : HasGiven limit h.0 frames last = gives_contents limit h.0 frames last h.2 in
    record { left = others.left; contents = (h.0, whole, others.contents); known = others.known }
  where
    whole : front limit bytes ≡ Whole frame h.0
    whole = h.1

-- what a decoder holds, where it stands in a frame, or behind a fault

read_is : (stage : Stage) (held : List ℕ) (read : HeadRead) → known_read (read_at stage held) ≡ Open read → read_at stage held ≡ read
read_is (stages.Head place) held read e = cc
read_is (stages.Content n foreign) held read e = cc
read_is (stages.Ended fault) held read e = cc

pub is_ended : (stage : Stage) (held : List ℕ) (fault : FrameFault) → known_read (read_at stage held) ≡ Broken fault → stage ≡ stages.Ended fault
is_ended (stages.Head place) held fault e = cc
is_ended (stages.Content n foreign) held fault e = cc
is_ended (stages.Ended other) held fault e = (let same : other ≡ fault = cc in ap stages.Ended same)

pub is_open : (stage : Stage) (held : List ℕ) → ((fault : FrameFault) → stage ≡ stages.Ended fault → ⊥) → IsOpen (known_read (read_at stage held))
is_open (stages.Head place) held none = tt
is_open (stages.Content n foreign) held none = tt
is_open (stages.Ended fault) held none = absurd (none fault refl)

-- behind a fault
pub stands_broken : (decoder : Decoding) (bytes piece : List ℕ) (frames given : List Frame) (fault : FrameFault) → decoder.standing ≡ Broken fault → given ≡ [] → StandsAfter decoder bytes frames → StandsAfter decoder (bytes ++ piece) (frames ++ given)
stands_broken decoder bytes piece frames given fault e f h = go h.0 h.1 h.2
  where
    go : (left : Standing) → IsContents decoder.limit bytes frames left → decoder.standing ≡ known decoder.limit left → StandsAfter decoder (bytes ++ piece) (frames ++ given)
    go (contents.Open rest) k l = (let clash : Broken fault ≡ Open (head_at decoder.limit rest) = sym e ∙ l in cc)
    go (contents.Broken other) k l =
        let P : List Frame → Type 0 = λ xs. IsContents decoder.limit (bytes ++ piece) xs (contents.Broken other) in
        (contents.Broken other, subst P (sym (ap (λ (xs : List Frame). frames ++ xs) f ∙ append-nil frames)) (fault_stays decoder.limit bytes piece frames other k), l)

-- in a frame
pub stands_open : (limit : ℕ) (stage : Stage) (held bytes piece : List ℕ) (frames given : List Frame) (last : HeadRead) → ((fault : FrameFault) → stage ≡ stages.Ended fault → ⊥) → Gives limit (read_on limit (read_at stage held) piece) given last →
    StandsAfter (record { limit = limit; standing = known_read (read_at stage held) }) bytes frames → StandsAfter (record { limit = limit; standing = known_read last }) (bytes ++ piece) (frames ++ given)
stands_open limit stage held bytes piece frames given last none h before = go before.0 before.1 before.2
  where
    go : (left : Standing) → IsContents limit bytes frames left → known_read (read_at stage held) ≡ known limit left → StandsAfter (record { limit = limit; standing = known_read last }) (bytes ++ piece) (frames ++ given)
    go (contents.Broken fault) k l = absurd (none fault (is_ended stage held fault l))
    go (contents.Open rest) k l =
        let P : HeadRead → Type 0 = λ r. Gives limit r given last in
        let read : read_on limit (read_at stage held) piece ≡ head_at limit (rest ++ piece) = ap (λ (r : HeadRead). read_on limit r piece) (read_is stage held (head_at limit rest) l) ∙ read_on_is limit rest piece in
        let all : HasGiven limit (rest ++ piece) given last = gives_contents limit (rest ++ piece) given last (subst P read h) in
        (all.left, goes_on limit bytes piece frames rest given all.left k all.contents, all.known)

-- before the first byte
pub stands_first : (limit : ℕ) → StandsAfter (record { limit = limit; standing = Open (head_at limit []) }) [] []
unfolding head_at
stands_first limit = (contents.Open [], (front_unended limit [] _ none, refl), refl)
  where
    none : head_at limit [] ≡ Unended (record { fields = no_fields; line = []; room = 4096 })
    none = head_from-nil limit no_fields [] 4096

-- the end

room_is_left : (limit : ℕ) (fields : Fields) (line : List ℕ) (room : ℕ) (bytes : List ℕ) (reading : Reading) → head_from limit fields line room bytes ≡ Unended reading → reading.room ≤ room - length bytes
room_is_left limit fields line room [] reading h =
    let e : Unended (record { fields = fields; line = line; room = room }) ≡ Unended reading = sym (head_from-nil limit fields line room) ∙ h in
    let same : room ≡ reading.room = cc in
    omega arith
room_is_left limit fields line room (b ∷ bytes) reading h =
    go (step limit fields line room b) (sym (head_from-cons limit fields line room b bytes) ∙ h) (λ next more e. room_is_left limit next more (room - 1) bytes reading e)
  where
    go : (s : Step) → after_step limit room bytes s ≡ Unended reading → ((next : Fields) (more : List ℕ) → head_from limit next more (room - 1) bytes ≡ Unended reading → reading.room ≤ room - 1 - length bytes) → reading.room ≤ room - length (b ∷ bytes)
    go (Goes next more) f again = (let rest : reading.room ≤ room - 1 - length bytes = again next more f in omega arith)
    go (Completes n foreign) f again = cc
    go (Shows fault) f again = cc

pub end_is : (limit : ℕ) (bytes : List ℕ) (frames : List Frame) (left : Standing) → IsContents limit bytes frames left → end_known (known limit left) ≡ end_of left
unfolding head_at
end_is limit bytes frames (contents.Broken fault) h = refl
end_is limit bytes frames (contents.Open []) h = go
  where
    go : end_known (Open (head_at limit [])) ≡ end_of (contents.Open [])
    go = ap (λ (r : HeadRead). end_known (Open r)) (head_from-nil limit no_fields [] 4096)
end_is limit bytes frames (contents.Open (b ∷ rest)) h = go (head_at limit (b ∷ rest)) refl
  where
    go : (r : HeadRead) → head_at limit (b ∷ rest) ≡ r → end_known (Open (head_at limit (b ∷ rest))) ≡ Fault Truncated
    go (Ends n foreign more) e = ap (λ (r : HeadRead). end_known (Open r)) e
    go (Breaks fault) e = ap (λ (r : HeadRead). end_known (Open r)) e
    go (Unended reading) e =
        let less : reading.room ≤ 4096 - length (b ∷ rest) = room_is_left limit no_fields [] 4096 (b ∷ rest) reading e in
        let other : eqb reading.room 4096 ≡ false = grind (arith, common_steps) in
        ap (λ (r : HeadRead). end_known (Open r)) e ∙ grind (arith, common_steps)

pub end_of_contents : (decoder : Decoding) (bytes : List ℕ) (frames : List Frame) (left : Standing) → StandsAfter decoder bytes frames → IsContents decoder.limit bytes frames left → end_known decoder.standing ≡ end_of left
end_of_contents decoder bytes frames left h k =
    let same : h.0 ≡ left = (only_contents decoder.limit bytes frames frames h.0 left h.1 k).1 in
    ap end_known (h.2 ∙ ap (known decoder.limit) same) ∙ end_is decoder.limit bytes frames left k

-- with a fault or in a frame

stands_either : (limit : ℕ) (stage : Stage) (held bytes piece : List ℕ) (frames given : List Frame) (last : HeadRead) → Gives limit (read_on limit (read_at stage held) piece) given last →
    StandsAfter (record { limit = limit; standing = known_read (read_at stage held) }) bytes frames → StandsAfter (record { limit = limit; standing = known_read last }) (bytes ++ piece) (frames ++ given)
stands_either limit (stages.Head place) held bytes piece frames given last h before = stands_open limit (stages.Head place) held bytes piece frames given last (λ fault e. cc) h before
stands_either limit (stages.Content n foreign) held bytes piece frames given last h before = stands_open limit (stages.Content n foreign) held bytes piece frames given last (λ fault e. cc) h before
stands_either limit (stages.Ended fault) held bytes piece frames [] last h before =
    let P : HeadRead → Type 0 = λ r. StandsAfter (record { limit = limit; standing = known_read r }) (bytes ++ piece) (frames ++ []) in
    subst P (sym h.1) (stands_broken (record { limit = limit; standing = Broken fault }) bytes piece frames [] fault refl refl before)
stands_either limit (stages.Ended fault) held bytes piece frames (frame ∷ given) last h before =
    let clash : Faulty fault ≡ Whole frame h.0 = h.1 in cc

pub fed_stands : {E : Type 0} (result : Result Fed E) (limit : ℕ) (stage : Stage) (held bytes piece : List ℕ) (frames : List Frame) (last : HeadRead) →
    IfOk result (λ given. Gives limit (read_on limit (read_at stage held) piece) (fed_frames given) last) →
    StandsAfter (record { limit = limit; standing = known_read (read_at stage held) }) bytes frames →
    IfOk result (λ given. StandsAfter (record { limit = limit; standing = known_read last }) (bytes ++ piece) (frames ++ fed_frames given))
fed_stands (Ok given) limit stage held bytes piece frames last h before = stands_either limit stage held bytes piece frames (fed_frames given) last h before
fed_stands (Err e) limit stage held bytes piece frames last h before = tt

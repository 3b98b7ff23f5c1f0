-- What is left of the texts after more are put, after they are taken back, and after a take.
use Rattle.std.proofs.Common.{◌≡◌, ◌≢◌, ℕ, ◌+◌, ◌≤◌, List, [], ◌∷◌, ◌++◌, length, take, drop, nat_le, true, refl, ap, sym, ◌∙◌, subst, arith, append-nil, length-append, length-drop}
use Rattle.std.proofs.lemmas.Grind.{common_steps, flat_map-append}
use Rattle.std.proofs.lemmas.List.{drop-append-le, drop-drop, take-append-drop}
use Rattle.std.proofs.Math.Seq.{take-add, take-append_seam}
use Rattle.content_streams.specs.declared.framing.Framing.{Framing}
use Rattle.content_streams.specs.declared.framing.Framing.TheVariants.{Frames, Lines, Contents}
use Rattle.outbox.specs.Output.{Output, OnlyPutSince, framed, bytes_of_texts, full_count, next_bytes, bytes_given, count_given, fitting_text}
use Rattle.outbox.specs.Inner.{bytes_left, texts_left, IsKept, IsMarked}

-- more texts

-- the bytes that are kept of one more text
abbrev pub more_bytes : Framing → List (List ℕ) → List ℕ
more_bytes Frames more = bytes_of_texts Frames more
more_bytes Lines more = bytes_of_texts Lines more
more_bytes Contents more = []

-- the texts that are kept of one more
abbrev pub more_texts : Framing → List (List ℕ) → List (List ℕ)
more_texts Frames more = []
more_texts Lines more = []
more_texts Contents more = more

pub bytes_more : (framing : Framing) (texts more : List (List ℕ)) (taken : ℕ) → taken ≤ full_count framing texts
    → bytes_left framing (texts ++ more) taken ≡ bytes_left framing texts taken ++ more_bytes framing more
bytes_more Frames texts more taken within =
    ap (drop taken) (flat_map-append (framed Frames) texts more) ∙ drop-append-le taken (bytes_of_texts Frames texts) (bytes_of_texts Frames more) within
bytes_more Lines texts more taken within =
    ap (drop taken) (flat_map-append (framed Lines) texts more) ∙ drop-append-le taken (bytes_of_texts Lines texts) (bytes_of_texts Lines more) within
bytes_more Contents texts more taken within = refl

pub texts_more : (framing : Framing) (texts more : List (List ℕ)) (taken : ℕ) → taken ≤ full_count framing texts
    → texts_left framing (texts ++ more) taken ≡ texts_left framing texts taken ++ more_texts framing more
texts_more Frames texts more taken within = refl
texts_more Lines texts more taken within = refl
texts_more Contents texts more taken within = drop-append-le taken texts more within

pub full_more : (framing : Framing) (texts more : List (List ℕ)) (taken : ℕ) → taken ≤ full_count framing texts → taken ≤ full_count framing (texts ++ more)
full_more Frames texts more taken within =
    omega (arith, ap length (flat_map-append (framed Frames) texts more), length-append (bytes_of_texts Frames texts) (bytes_of_texts Frames more))
full_more Lines texts more taken within =
    omega (arith, ap length (flat_map-append (framed Lines) texts more), length-append (bytes_of_texts Lines texts) (bytes_of_texts Lines more))
full_more Contents texts more taken within = omega (arith, length-append texts more)

-- one more text, in Frames and Lines by its bytes
pub kept_bytes : (framing : Framing) (texts : List (List ℕ)) (text : List ℕ) (taken : ℕ) (bytes : List ℕ) (kept : List (List ℕ))
    → framing ≢ Contents → IsKept framing texts taken bytes kept → IsKept framing (texts ++ text ∷ []) taken (bytes ++ framed framing text) kept
kept_bytes Frames texts text taken bytes kept stream is = record {
  bytes = ap (λ b. b ++ framed Frames text) is.bytes ∙ ap (λ last. bytes_left Frames texts taken ++ last) (sym (append-nil (framed Frames text))) ∙ sym (bytes_more Frames texts (text ∷ []) taken is.within);
  texts = is.texts;
  within = full_more Frames texts (text ∷ []) taken is.within;
}
kept_bytes Lines texts text taken bytes kept stream is = record {
  bytes = ap (λ b. b ++ framed Lines text) is.bytes ∙ ap (λ last. bytes_left Lines texts taken ++ last) (sym (append-nil (framed Lines text))) ∙ sym (bytes_more Lines texts (text ∷ []) taken is.within);
  texts = is.texts;
  within = full_more Lines texts (text ∷ []) taken is.within;
}
kept_bytes Contents texts text taken bytes kept stream is = absurd (stream refl)

-- and in Contents by itself
pub kept_text : (texts : List (List ℕ)) (text : List ℕ) (taken : ℕ) (bytes : List ℕ) (kept : List (List ℕ))
    → IsKept Contents texts taken bytes kept → IsKept Contents (texts ++ text ∷ []) taken bytes (kept ++ text ∷ [])
kept_text texts text taken bytes kept is = record {
  bytes = is.bytes;
  texts = ap (λ ts. ts ++ text ∷ []) is.texts ∙ sym (texts_more Contents texts (text ∷ []) taken is.within);
  within = full_more Contents texts (text ∷ []) taken is.within;
}

-- back to fewer texts

-- where two outputs are other two
pub seen_since : (before now seen_before seen_now : Output) → before ≡ seen_before → now ≡ seen_now
    → OnlyPutSince seen_before seen_now → OnlyPutSince before now
seen_since before now seen_before seen_now was is since =
    subst (λ o. OnlyPutSince o now) (sym was) (subst (λ o. OnlyPutSince seen_before o) (sym is) since)

pub bytes_fit : (framing : Framing) (texts now : List (List ℕ)) (taken count : ℕ) (bytes : List ℕ) (kept : List (List ℕ)) (marked : ℕ)
    → take (length texts) now ≡ texts → IsMarked framing texts taken count marked → IsKept framing now taken bytes kept
    → count ≤ length bytes
bytes_fit framing texts now taken count bytes kept marked front mark is =
    let more = drop (length texts) now in
    let whole : now ≡ texts ++ more = sym (take-append-drop (length texts) now) ∙ ap (λ ts. ts ++ more) front in
    let are : bytes ≡ bytes_left framing texts taken ++ more_bytes framing more =
    is.bytes ∙ ap (λ ts. bytes_left framing ts taken) whole ∙ bytes_more framing texts more taken mark.within in
    omega (arith, mark.bytes, ap length are, length-append (bytes_left framing texts taken) (more_bytes framing more))

pub kept_back : (framing : Framing) (texts now : List (List ℕ)) (taken count marked : ℕ) (bytes : List ℕ) (kept : List (List ℕ))
    → take (length texts) now ≡ texts → IsMarked framing texts taken count marked → IsKept framing now taken bytes kept
    → IsKept framing texts taken (take count bytes) (take marked kept)
kept_back framing texts now taken count marked bytes kept front mark is =
    let more = drop (length texts) now in
    let whole : now ≡ texts ++ more = sym (take-append-drop (length texts) now) ∙ ap (λ ts. ts ++ more) front in
    let left = bytes_left framing texts taken in
    let others = texts_left framing texts taken in
    let are : bytes ≡ left ++ more_bytes framing more =
    is.bytes ∙ ap (λ ts. bytes_left framing ts taken) whole ∙ bytes_more framing texts more taken mark.within in
    let stay : kept ≡ others ++ more_texts framing more =
    is.texts ∙ ap (λ ts. texts_left framing ts taken) whole ∙ texts_more framing texts more taken mark.within in
    record {
      bytes = ap (λ n. take n bytes) mark.bytes ∙ ap (take (length left)) are ∙ take-append_seam left (more_bytes framing more);
      texts = ap (λ n. take n kept) mark.texts ∙ ap (take (length others)) stay ∙ take-append_seam others (more_texts framing more);
      within = mark.within;
    }

-- after a take in Contents

pub kept_after : (texts : List (List ℕ)) (taken : ℕ) (bytes text : List ℕ) (rest kept : List (List ℕ))
    → drop taken texts ≡ text ∷ rest → IsKept Contents texts taken bytes kept → IsKept Contents texts (taken + 1) bytes rest
kept_after texts taken bytes text rest kept left is =
    let next : drop (taken + 1) texts ≡ rest = sym (drop-drop 1 taken texts) ∙ ap (drop 1) left in
    record {
      bytes = is.bytes;
      texts = sym next;
      within = omega (arith, is.within, ap length left, length-drop taken texts);
    }

-- a text has room for itself
pub text_given : (texts : List (List ℕ)) (taken room : ℕ) (text : List ℕ) (rest : List (List ℕ))
    → drop taken texts ≡ text ∷ rest → length text ≤ room → fitting_text room (drop taken texts) ≡ text ∷ []
text_given texts taken room text rest left fits =
    let is : nat_le (length text) room ≡ true = grind (arith, common_steps) in
    ap (λ ts. fitting_text room ts) left ∙ rw is

-- the laws

pub next_more : (framing : Framing) (texts : List (List ℕ)) (text : List ℕ) (taken : ℕ) → framing ≢ Contents → taken ≤ full_count framing texts
    → next_bytes framing (texts ++ text ∷ []) taken ≡ next_bytes framing texts taken ++ framed framing text
next_more Frames texts text taken stream within =
    bytes_more Frames texts (text ∷ []) taken within ∙ ap (λ last. bytes_left Frames texts taken ++ last) (append-nil (framed Frames text))
next_more Lines texts text taken stream within =
    bytes_more Lines texts (text ∷ []) taken within ∙ ap (λ last. bytes_left Lines texts taken ++ last) (append-nil (framed Lines text))
next_more Contents texts text taken stream within = absurd (stream refl)

-- what a take gives goes on where the takes before it ended
taken_more : (bytes : List ℕ) (taken room : ℕ)
    → take (taken + length (take room (drop taken bytes))) bytes ≡ take taken bytes ++ take room (drop taken bytes)
taken_more bytes taken room =
    let left = drop taken bytes in
    take-add taken (length (take room left)) bytes
    ∙ ap (λ more. take taken bytes ++ take (length (take room left)) more) (sym (take-append-drop room left))
    ∙ ap (λ more. take taken bytes ++ more) (take-append_seam (take room left) (drop room left))

pub taken_given : (framing : Framing) (texts : List (List ℕ)) (taken room : ℕ) → framing ≢ Contents
    → take (taken + count_given framing texts taken room) (bytes_of_texts framing texts)
    ≡ take taken (bytes_of_texts framing texts) ++ bytes_given framing texts taken room
taken_given Frames texts taken room stream = taken_more (bytes_of_texts Frames texts) taken room
taken_given Lines texts taken room stream = taken_more (bytes_of_texts Lines texts) taken room
taken_given Contents texts taken room stream = absurd (stream refl)

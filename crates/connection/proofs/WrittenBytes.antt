-- A front of what is written: the texts that are whole in it, and a part of the next one.
use Rattle.std.proofs.Common.{◌≡◌, ℕ, zero, suc, ◌+◌, ◌-◌, ◌<◌, ◌≤◌, nat_le, Bool, true, false, cond, List, [], ◌∷◌, ◌++◌, length, take, refl, sym, ap, ◌∙◌, arith, append_assoc}
use Rattle.std.proofs.lemmas.Bool.Decides.{nat_tests}
use Rattle.std.proofs.lemmas.List.{length-append, take-append-le, take_all}
use Rattle.std.specs.Prelude.{⊤}
use Rattle.lsp_frames.specs.declared.limits.TheConstants.{LONGEST_CONTENT}
use Rattle.content_streams.specs.declared.framing.Framing.{Framing}
use Rattle.content_streams.specs.declared.framing.Framing.TheVariants.{Frames, Lines, Contents}
use Rattle.outbox.specs.Output.{framed, bytes_of_texts, full_count}
use Rattle.connection.specs.BackToBack.{text_of, Message, whole_in, whole_count, AllFit}
use Rattle.connection_messages.specs.declared.cancels.Cancels.{Cancels}
use Rattle.std.proofs.Common.{map, Option}
use Rattle.connection.proofs.SaidSound.{AreSound}
use Rattle.connection.proofs.SoundTexts.{LineLaws, IsWhole, message_whole}

abbrev pub AreWhole : ℕ → List (List ℕ) → Type 0
AreWhole limit [] = ⊤
AreWhole limit (t ∷ ts) = IsWhole limit t × AreWhole limit ts

pub messages_whole : LineLaws → (cancels : Option Cancels) (limit : ℕ) (ms : List Message) → AreSound cancels ms → AllFit limit (map text_of ms) → AreWhole limit (map text_of ms)
messages_whole laws cancels limit [] sound fit = tt
messages_whole laws cancels limit (m ∷ ms) sound fit = (message_whole laws cancels limit m sound.0 fit.0, messages_whole laws cancels limit ms sound.1 fit.1)

pub limit_is : (limit : ℕ) (ts : List (List ℕ)) → AllFit limit ts → limit ≤ LONGEST_CONTENT
limit_is limit [] fit = fit
limit_is limit (t ∷ ts) fit = limit_is limit ts fit.1

pub first_whole : (limit n : ℕ) (ts : List (List ℕ)) → AreWhole limit ts → AreWhole limit (take n ts)
first_whole limit zero ts whole = tt
first_whole limit (suc n) [] whole = tt
first_whole limit (suc n) (t ∷ ts) whole = (whole.0, first_whole limit n ts whole.1)

-- nothing, or a front of a text as it is written, and less than the whole
pub data IsPart (framing : Framing) (limit : ℕ) : List ℕ → Type 0 where
  nothing : IsPart framing limit []
  part : (t : List ℕ) (m : ℕ) → IsWhole limit t → m < length (framed framing t) → IsPart framing limit (take m (framed framing t))

pub record IsCut (framing : Framing) (limit n : ℕ) (ts : List (List ℕ)) : Type 0 where
  pub tail : List ℕ
  pub bytes : take n (bytes_of_texts framing ts) ≡ bytes_of_texts framing (take (whole_in framing n ts) ts) ++ tail
  pub part : IsPart framing limit tail

take-over : (n : ℕ) (xs ys : List ℕ) → length xs ≤ n → take n (xs ++ ys) ≡ xs ++ take (n - length xs) ys
take-over n [] ys h = ap (λ m. take m ys) (let same : n ≡ n - 0 = omega arith in same)
take-over zero (x ∷ xs) ys h = absurd (omega arith)
take-over (suc n) (x ∷ xs) ys h = ap (λ t. x ∷ t) (take-over n xs ys (omega arith) ∙ ap (λ m. xs ++ take m ys) (let same : n - length xs ≡ suc n - suc (length xs) = omega arith in same))

take-none : (n : ℕ) → take {A = ℕ} n [] ≡ []
take-none zero = refl
take-none (suc n) = refl

plus_one : (k : ℕ) (t : List ℕ) (ts : List (List ℕ)) → take (k + 1) (t ∷ ts) ≡ t ∷ take k ts
plus_one k t ts = ap (λ m. take m (t ∷ ts)) (let same : k + 1 ≡ suc k = omega arith in same)

cut_more : (framing : Framing) (limit n : ℕ) (t : List ℕ) (ts : List (List ℕ)) → length (framed framing t) ≤ n → IsCut framing limit (n - length (framed framing t)) ts
    → (k : ℕ) → k ≡ whole_in framing (n - length (framed framing t)) ts + 1
    → (tail : List ℕ) × ((take n (framed framing t ++ bytes_of_texts framing ts) ≡ bytes_of_texts framing (take k (t ∷ ts)) ++ tail) × IsPart framing limit tail)
cut_more framing limit n t ts h cut k is =
    let less = n - length (framed framing t) in (
      cut.tail,
      (
        take-over n (framed framing t) (bytes_of_texts framing ts) h
            ∙ ap (λ xs. framed framing t ++ xs) cut.bytes
            ∙ sym (append_assoc (framed framing t) (bytes_of_texts framing (take (whole_in framing (n - length (framed framing t)) ts) ts)) cut.tail)
            ∙ ap (λ us. bytes_of_texts framing us ++ cut.tail) (sym (ap (λ m. take m (t ∷ ts)) is ∙ plus_one (whole_in framing (n - length (framed framing t)) ts) t ts)),
        cut.part,
      ),
    )

pub cut : (framing : Framing) (limit n : ℕ) (ts : List (List ℕ)) → AreWhole limit ts → IsCut framing limit n ts
cut framing limit n [] whole = record { tail = []; bytes = take-none n ∙ sym (none (whole_in framing n [])); part = nothing }
  where
    none : (k : ℕ) → bytes_of_texts framing (take k []) ++ [] ≡ []
    none zero = refl
    none (suc k) = refl
cut framing limit n (t ∷ ts) whole = go (nat_le (length (framed framing t)) n) refl (cut framing limit (n - length (framed framing t)) ts whole.1)
  where
    k : Bool → ℕ
    k b = cond b (whole_in framing (n - length (framed framing t)) ts + 1) 0

    go : (b : Bool) → nat_le (length (framed framing t)) n ≡ b → IsCut framing limit (n - length (framed framing t)) ts → IsCut framing limit n (t ∷ ts)
    go true is rest =
        let within : length (framed framing t) ≤ n = grind (arith, nat_tests) in
        let count : whole_in framing n (t ∷ ts) ≡ whole_in framing (n - length (framed framing t)) ts + 1 = ap k is in
        let more = cut_more framing limit n t ts within rest (whole_in framing n (t ∷ ts)) count in
        record { tail = more.0; bytes = more.1.0; part = more.1.1 }
    go false is rest =
        let short : n < length (framed framing t) = grind (arith, nat_tests) in
        let count : whole_in framing n (t ∷ ts) ≡ 0 = ap k is in
        record {
          tail = take n (framed framing t);
          bytes = take-append-le n (framed framing t) (bytes_of_texts framing ts) (omega (arith, short)) ∙ ap (λ m. bytes_of_texts framing (take m (t ∷ ts)) ++ take n (framed framing t)) (sym count);
          part = part t n whole.0 short;
        }

-- where all bytes have come, all texts are whole
all_whole : (framing : Framing) (n : ℕ) (ts : List (List ℕ)) → length (bytes_of_texts framing ts) ≤ n → whole_in framing n ts ≡ length ts
all_whole framing n [] h = refl
all_whole framing n (t ∷ ts) h = go (nat_le (length (framed framing t)) n) refl (λ few. all_whole framing (n - length (framed framing t)) ts few)
  where
    size : length (framed framing t ++ bytes_of_texts framing ts) ≡ length (framed framing t) + length (bytes_of_texts framing ts)
    size = length-append (framed framing t) (bytes_of_texts framing ts)

    go : (b : Bool) → nat_le (length (framed framing t)) n ≡ b → (length (bytes_of_texts framing ts) ≤ n - length (framed framing t) → whole_in framing (n - length (framed framing t)) ts ≡ length ts)
        → whole_in framing n (t ∷ ts) ≡ suc (length ts)
    go true is rest =
        ap (λ b. cond b (whole_in framing (n - length (framed framing t)) ts + 1) 0) is
        ∙ ap (λ m. m + 1) (rest (omega (arith, size, h)))
        ∙ (let same : length ts + 1 ≡ suc (length ts) = omega arith in same)
    go false is rest = let short : n < length (framed framing t) = grind (arith, nat_tests) in absurd (omega (arith, size, h, short))

pub all_taken : (framing : Framing) (n : ℕ) (ts : List (List ℕ)) → full_count framing ts ≤ n → take (whole_count framing n ts) ts ≡ ts
all_taken Frames n ts h = take_all (whole_in Frames n ts) ts (let is = all_whole Frames n ts h in omega (arith, is))
all_taken Lines n ts h = take_all (whole_in Lines n ts) ts (let is = all_whole Lines n ts h in omega (arith, is))
all_taken Contents n ts h = take_all n ts h

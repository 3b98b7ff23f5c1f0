-- One call of a device, and then the next.
use Rattle.std.proofs.Common.{◌≡◌, ℕ, zero, suc, ◌+◌, ◌<◌, List, [], ◌∷◌, ◌++◌, length, take, drop, get_or, Option, Some, None, Ok, Vec, map, refl, ap, sym, ◌∙◌, subst, arith, append_assoc, length-take, length-drop}
use Rattle.std.proofs.lemmas.List.{take-append-drop, take_min, take-take, drop-drop, drop-take, drop_more}
use Rattle.std.specs.declared.alloc.Global.{Global}
use Rattle.std.specs.Io.KnownBytes.{Appends}
use Rattle.lsp_frames.specs.Devices.{Ending, Finished, GivesNext, GivesFrontOf}
use Rattle.lsp_frames.specs.MemDevices.{bytes_of, from_first_byte, first_piece, behind_bytes, pieces_from}

-- bytes that are put one part after another

take_two_parts : (bytes : List ℕ) (k n : ℕ) → take (k + n) bytes ≡ take k bytes ++ take n (drop k bytes)
take_two_parts bytes k n =
    sym (take-append-drop k (take (k + n) bytes)) ∙ ap (λ (xs : List ℕ). xs ++ drop k (take (k + n) bytes)) (take-take k (k + n) bytes (omega arith))
    ∙ ap (λ (xs : List ℕ). take k bytes ++ xs) (drop-take k n bytes)

appends_both : (a b c : Option (List ℕ)) (front back : List ℕ) → Appends a b front → Appends b c back → Appends a c (front ++ back)
appends_both None b c front back p q = tt
appends_both (Some x) None c front back p q = elim p [ ]
appends_both (Some x) (Some y) None front back p q = elim q [ ]
appends_both (Some x) (Some y) (Some z) front back p q = q ∙ ap (λ l. l ++ back) p ∙ append_assoc x front back

pub appends_more : (a b c : Option (List ℕ)) (bytes part : List ℕ) (k n : ℕ) → part ≡ drop k bytes → Appends a b (take k bytes) → Appends b c (take n part) → Appends a c (take (k + n) bytes)
appends_more a b c bytes part k n part_is front back =
    let both : Appends a c (take k bytes ++ take n part) = appends_both a b c (take k bytes) (take n part) front back in
    let P : List ℕ → Type 0 = λ xs. Appends a c xs in
    subst P (ap (λ (xs : List ℕ). take k bytes ++ take n xs) part_is ∙ sym (take_two_parts bytes k n)) both

-- pieces in order

pub first_byte_here : (pieces : List (Vec ℕ Global)) (at start : ℕ) (piece : Vec ℕ Global) → at < length pieces → piece ≡ get_or pieces at piece → start < length piece.items → from_first_byte (pieces_from pieces at start) ≡ pieces_from pieces at start
first_byte_here pieces at start piece inside is more =
    let here : drop at pieces ≡ piece ∷ drop (at + 1) pieces = drop_more pieces at piece inside ∙ ap (λ (p : Vec ℕ Global). p ∷ drop (at + 1) pieces) (sym is) in
    let rest : List (List ℕ) = map (λ (p : Vec ℕ Global). p.items) (drop (at + 1) pieces) in
    let some : 0 < length (drop start piece.items) = omega (arith, length-drop start piece.items) in
    let same : pieces_from pieces at start ≡ drop start piece.items ∷ map (λ (p : Vec ℕ Global). p.items) (drop (at + 1) pieces) = ap (λ (ps : List (Vec ℕ Global)). behind_bytes start (map (λ (p : Vec ℕ Global). p.items) ps)) here in
    ap from_first_byte same ∙ go (drop start piece.items) (map (λ (p : Vec ℕ Global). p.items) (drop (at + 1) pieces)) some ∙ sym same
  where
    go : (front : List ℕ) (rest : List (List ℕ)) → 0 < length front → from_first_byte (front ∷ rest) ≡ front ∷ rest
    go [] rest h = let bad : ⊥ = omega arith in elim bad [ ]
    go (b ∷ bytes) rest h = refl

pub behind_pieces : (pieces : List (Vec ℕ Global)) (at start n : ℕ) → pieces_from pieces at (start + n) ≡ behind_bytes n (pieces_from pieces at start)
behind_pieces pieces at start n = go (drop at pieces)
  where
    go : (rest : List (Vec ℕ Global)) → behind_bytes (start + n) (map (λ (piece : Vec ℕ Global). piece.items) rest) ≡ behind_bytes n (behind_bytes start (map (λ (piece : Vec ℕ Global). piece.items) rest))
    go [] = refl
    go (piece ∷ rest) = ap (λ (front : List ℕ). front ∷ map (λ (p : Vec ℕ Global). p.items) rest) (sym (drop-drop n start piece.items))

-- what a source in memory gives

bytes_of_from_first_byte : (pieces : List (List ℕ)) → bytes_of (from_first_byte pieces) ≡ bytes_of pieces
bytes_of_from_first_byte [] = refl
bytes_of_from_first_byte ([] ∷ pieces) = bytes_of_from_first_byte pieces
bytes_of_from_first_byte ((b ∷ bytes) ∷ pieces) = refl

bytes_of_first : (pieces : List (List ℕ)) (n : ℕ) → bytes_of pieces ≡ take n (first_piece pieces) ++ bytes_of (behind_bytes n pieces)
bytes_of_first [] zero = refl
bytes_of_first [] (suc n) = refl
bytes_of_first (piece ∷ pieces) n = ap (λ (xs : List ℕ). xs ++ bytes_of pieces) (sym (take-append-drop n piece)) ∙ append_assoc (take n piece) (drop n piece) (bytes_of pieces)

none_from_first_byte : (pieces : List (List ℕ)) → first_piece (from_first_byte pieces) ≡ [] → from_first_byte pieces ≡ []
none_from_first_byte [] h = refl
none_from_first_byte ([] ∷ pieces) h = none_from_first_byte pieces h
none_from_first_byte ((b ∷ bytes) ∷ pieces) h = cc

gives_more : (before after : List ℕ) (got bytes : List ℕ) (ending : Ending) → before ≡ got ++ after → GivesFrontOf after bytes ending → GivesFrontOf before (got ++ bytes) ending
gives_more before after got bytes ending e gives = record {
  front = (gives.front.0, e ∙ ap (λ (xs : List ℕ). got ++ xs) gives.front.1 ∙ sym (append_assoc got bytes gives.front.0));
  whole = λ end. ap (λ (xs : List ℕ). got ++ xs) (gives.whole end) ∙ sym e;
}

gives_all : (before : List ℕ) → before ≡ [] → GivesFrontOf before [] Finished
gives_all before e = record { front = ([], e); whole = λ end. sym e }

pub piece_given : (pieces later : List (List ℕ)) (size n : ℕ) (room : List ℕ) → 0 < size → n ≡ length (take size (first_piece (from_first_byte pieces))) → take n room ≡ take size (first_piece (from_first_byte pieces)) → later ≡ behind_bytes n (from_first_byte pieces)
    → GivesNext (GivesFrontOf (bytes_of pieces)) (GivesFrontOf (bytes_of later)) (Ok n) room
piece_given pieces later size n room some count got rest = (
  λ none. gives_all (bytes_of pieces) (sym (bytes_of_from_first_byte pieces) ∙ ap bytes_of (none_from_first_byte pieces (go (first_piece (from_first_byte pieces)) size some (sym count ∙ none)))),
  λ more bytes ending gift. gives_more (bytes_of pieces) (bytes_of later) (take n room) bytes ending
      (sym (bytes_of_from_first_byte pieces) ∙ bytes_of_first (from_first_byte pieces) n ∙ ap (λ (xs : List ℕ). xs ++ bytes_of (behind_bytes n (from_first_byte pieces))) (same_front (first_piece (from_first_byte pieces)) size count ∙ sym got) ∙ ap (λ (ps : List (List ℕ)). take n room ++ bytes_of ps) (sym rest)) gift,
)
  where
    go : (front : List ℕ) (k : ℕ) → 0 < k → length (take k front) ≡ 0 → front ≡ []
    go [] k h e = refl
    go (b ∷ bytes) zero h e = let bad : ⊥ = omega arith in elim bad [ ]
    go (b ∷ bytes) (suc k) h e = cc

    same_front : (front : List ℕ) (k : ℕ) → n ≡ length (take k front) → take n front ≡ take k front
    same_front front k e = ap (λ (m : ℕ). take m front) (e ∙ length-take k front) ∙ take_min k front

-- What a reader has sent so far, and what its source still gives.
use Rattle.std.proofs.Common.{◌≡◌, ℕ, List, [], ◌∷◌, ◌++◌, refl, sym, ap, subst, ◌∙◌, append_assoc, append-nil, ◌⊎◌, inl, inr, Result, Ok, Err}
use Rattle.std.specs.Prelude.{OnOk, OnErr}
use Rattle.lsp_frames.specs.Devices.{Ending, Unfinished, Gift}
use Rattle.rtrb.specs.Ring.{SameProducer}
use Rattle.rtrb.specs.declared.producer.Producer.{Producer}
use Rattle.rpc_peer.specs.declared.arrival.Arrival.{Arrival}
use Rattle.rpc_peer.specs.declared.arrival.Arrival.TheVariants.{Piece, End}
use Rattle.rpc_peer.specs.declared.arrival.InputEnd.{InputEnd}
use Rattle.rpc_peer.specs.Arriving.{Reads, EndsBy, GivesArrival, bytes_of, ending_of, ending_by}

-- ---- where a list with one more item may be cut

-- behind the item, or before it
pub data Cut {A : Type 0} (xs : List A) (x : A) (front rest : List A) : Type 0 where
  Behind : rest ≡ [] → front ≡ xs ++ x ∷ [] → Cut xs x front rest
  Before : (more : List A) → xs ≡ front ++ more → rest ≡ more ++ x ∷ [] → Cut xs x front rest

pub cut : {A : Type 0} (xs : List A) (x : A) (front rest : List A) → xs ++ x ∷ [] ≡ front ++ rest → Cut xs x front rest
cut xs x [] rest e = Before xs refl (sym e)
cut [] x (f ∷ []) rest e = Behind (cc) (cc)
cut [] x (f ∷ (g ∷ fs)) rest e = absurd (cc)
cut (y ∷ ys) x (f ∷ fs) rest e =
    let tails : ys ++ x ∷ [] ≡ fs ++ rest = cc in
    let heads : y ≡ f = cc in
    elim (cut ys x fs rest tails) [ Behind none all ↦ Behind none (cc) | Before more is end ↦ Before more (cc) end ]

-- ---- the bytes of what was sent

bytes-piece : (xs : List Arrival) (bytes : List ℕ) → bytes_of (xs ++ Piece bytes ∷ []) ≡ bytes_of xs ++ bytes
bytes-piece [] bytes = append-nil bytes
bytes-piece (Piece first ∷ xs) bytes = ap (λ more. first ++ more) (bytes-piece xs bytes) ∙ sym (append_assoc first (bytes_of xs) bytes)
bytes-piece (End end ∷ xs) bytes = bytes-piece xs bytes

bytes-end : (xs : List Arrival) (end : InputEnd) → bytes_of (xs ++ End end ∷ []) ≡ bytes_of xs
bytes-end [] end = refl
bytes-end (Piece first ∷ xs) end = ap (λ more. first ++ more) (bytes-end xs end)
bytes-end (End other ∷ xs) end = bytes-end xs end

-- ---- a reader goes on

-- Of a source that has given `start` from the first, and gives `now` from here on, these pieces were sent, and no end.
pub record ReadsOn (start now : Gift) (sent : List Arrival) : Type 0 where
  pub so_far : (front rest : List Arrival) → sent ≡ front ++ rest → start (bytes_of front) Unfinished
  pub unended : (front rest : List Arrival) (end : InputEnd) → sent ≡ front ++ End end ∷ rest → ⊥
  pub on : (bytes : List ℕ) (ending : Ending) → now bytes ending → start (bytes_of sent ++ bytes) ending

no-front : (front rest : List Arrival) → [] ≡ front ++ rest → front ≡ []
no-front [] rest e = refl
no-front (x ∷ front) rest e = absurd (cc)

no-end : (front rest : List Arrival) (end : InputEnd) → [] ≡ front ++ End end ∷ rest → ⊥
no-end [] rest end e = cc
no-end (x ∷ front) rest end e = cc

pub reads-nothing : (start : Gift) (sent : List Arrival) → sent ≡ [] → start [] Unfinished → ReadsOn start start sent
reads-nothing start sent none first = subst (λ s. ReadsOn start start s) (sym none) (record {
  so_far = λ front rest e. subst (λ f. start (bytes_of f) Unfinished) (sym (no-front front rest e)) first;
  unended = no-end;
  on = λ bytes ending has. has;
})

-- What is behind the cut begins with an end: that is the item itself, or it was there before.
end-inside : (sent front rest more : List Arrival) (x : Arrival) (end : InputEnd) → sent ≡ front ++ more → End end ∷ rest ≡ more ++ x ∷ []
    → ((front ≡ sent) × (End end ≡ x) × (rest ≡ [])) ⊎ ((others : List Arrival) × (sent ≡ front ++ End end ∷ others))
end-inside sent front rest [] x end is e = inl (sym (is ∙ append-nil front), (cc), (cc))
end-inside sent front rest (m ∷ more) x end is e = let first : m ≡ End end = cc in inr (more, is ∙ ap (λ y. front ++ y ∷ more) first)

module _ (start now : Gift) (sent : List Arrival) (reads : ReadsOn start now sent) where
  pub is-read : Reads start sent
  is-read = record {
    so_far = reads.so_far;
    ended = λ front rest end e. absurd (reads.unended front rest end e);
  }

  module _ (after : Gift) (bytes : List ℕ) (gives : GivesArrival now after (Piece bytes)) (first : after [] Unfinished) where
    so-far-piece : (front rest : List Arrival) → Cut sent (Piece bytes) front rest → start (bytes_of front) Unfinished
    so-far-piece front rest (Behind none all) =
        subst (λ b. start b Unfinished) (sym (ap bytes_of all ∙ bytes-piece sent bytes))
        (reads.on bytes Unfinished (subst (λ b. now b Unfinished) (append-nil bytes) (gives [] Unfinished first)))
    so-far-piece front rest (Before more is end) = reads.so_far front more is

    piece-no-end : (front rest : List Arrival) (end : InputEnd) → Cut sent (Piece bytes) front (End end ∷ rest) → ⊥
    piece-no-end front rest end (Behind none all) = cc
    piece-no-end front rest end (Before more is last) = elim (end-inside sent front rest more (Piece bytes) end is last) [
      | inl here ↦ let e = here.1 in cc
      | inr there ↦ reads.unended front there.0 end there.1
    ]

    pub reads-piece : ReadsOn start after (sent ++ Piece bytes ∷ [])
    reads-piece = record {
      so_far = λ front rest e. so-far-piece front rest (cut sent (Piece bytes) front rest e);
      unended = λ front rest end e. piece-no-end front rest end (cut sent (Piece bytes) front (End end ∷ rest) e);
      on = λ more ending has.
          subst (λ b. start b ending) (sym (ap (λ b. b ++ more) (bytes-piece sent bytes) ∙ append_assoc (bytes_of sent) bytes more))
          (reads.on (bytes ++ more) ending (gives more ending has));
    }

  module _ (end : InputEnd) (gives : now [] (ending_by end)) where
    so-far-end : (front rest : List Arrival) → Cut sent (End end) front rest → start (bytes_of front) Unfinished
    so-far-end front rest (Behind none all) =
        subst (λ b. start b Unfinished) (sym (ap bytes_of all ∙ bytes-end sent end)) (reads.so_far sent [] (sym (append-nil sent)))
    so-far-end front rest (Before more is last) = reads.so_far front more is

    whole : start (bytes_of sent) (ending_by end)
    whole = subst (λ b. start b (ending_by end)) (append-nil (bytes_of sent)) (reads.on [] (ending_by end) gives)

    same-end : (other : InputEnd) → End other ≡ End end → other ≡ end
    same-end other e = cc

    ended-there : (front rest : List Arrival) (other : InputEnd) → Cut sent (End end) front (End other ∷ rest)
        → (rest ≡ []) × start (bytes_of front) (ending_by other)
    ended-there front rest other (Behind none all) = absurd (cc)
    ended-there front rest other (Before more is last) = elim (end-inside sent front rest more (End end) other is last) [
      | inl here ↦ (here.2, subst (λ o. start (bytes_of front) (ending_by o)) (sym (same-end other here.1)) (subst (λ f. start (bytes_of f) (ending_by end)) (sym here.0) whole))
      | inr there ↦ absurd (reads.unended front there.0 other there.1)
    ]

    pub reads-end : Reads start (sent ++ End end ∷ [])
    reads-end = record {
      so_far = λ front rest e. so-far-end front rest (cut sent (End end) front rest e);
      ended = λ front rest other e. ended-there front rest other (cut sent (End end) front (End other ∷ rest) e);
    }

    -- whether the end was sent or not
    pub reads-or-ended : {A B : Type 0} (result : Result A B) (after : List Arrival)
        → OnOk result (after ≡ sent ++ End end ∷ []) → OnErr result (after ≡ sent) → Reads start after
    reads-or-ended (Ok done) after if_sent if_not = subst (λ s. Reads start s) (sym if_sent) reads-end
    reads-or-ended (Err stopped) after if_sent if_not = subst (λ s. Reads start s) (sym if_not) is-read

-- An end that was sent is the last item.
pub ends-if : {A B : Type 0} (sent after : List Arrival) (end : InputEnd) (result : Result A B)
    → OnOk result (after ≡ sent ++ End end ∷ []) → OnOk result (EndsBy after)
ends-if sent after end (Ok done) last = record { front = sent; end = end; last = last }
ends-if sent after end (Err stopped) last = tt

-- ---- the producer's end

pub same-again : {T A P : Type 0} (a b c : Producer T A P) → SameProducer a b → SameProducer b c → SameProducer a c
same-again a b c first next =
    let f = first.0 in
    let n = next.0 in
    ((n.0 ∙ f.0, n.1 ∙ f.1, n.2 ∙ f.2, n.3 ∙ f.3), next.1 ∙ first.1)

-- ---- what has arrived of it

-- Where an end has arrived, it stands somewhere.
pub record HasEnd (arrived : List Arrival) : Type 0 where
  pub front : List Arrival
  pub end : InputEnd
  pub rest : List Arrival
  pub all : arrived ≡ front ++ End end ∷ rest
  pub ending : ending_of arrived ≡ ending_by end
  pub bytes : bytes_of arrived ≡ bytes_of front ++ bytes_of rest

first-end : (arrived : List Arrival) → (ending_of arrived ≡ Unfinished) ⊎ HasEnd arrived
first-end [] = inl refl
first-end (Piece bytes ∷ arrived) = elim (first-end arrived) [
  | inl none ↦ inl none
  | inr has ↦ inr (record {
    front = Piece bytes ∷ has.front;
    end = has.end;
    rest = has.rest;
    all = ap (λ l. Piece bytes ∷ l) has.all;
    ending = has.ending;
    bytes = ap (λ l. bytes ++ l) has.bytes ∙ sym (append_assoc bytes (bytes_of has.front) (bytes_of has.rest));
  })
]
first-end (End end ∷ arrived) = inr (record { front = []; end = end; rest = arrived; all = refl; ending = refl; bytes = refl })

nothing-left : (more rest : List Arrival) → more ++ rest ≡ [] → more ≡ []
nothing-left [] rest e = refl
nothing-left (x ∷ more) rest e = absurd (cc)

pub arrived-was-given : (gave : Gift) (sent arrived rest : List Arrival) → Reads gave sent → sent ≡ arrived ++ rest → gave (bytes_of arrived) (ending_of arrived)
arrived-was-given gave sent arrived rest reads e = elim (first-end arrived) [
  | inl none ↦ subst (λ ending. gave (bytes_of arrived) ending) (sym none) (reads.so_far arrived rest e)
  | inr has ↦
      let there = reads.ended has.front (has.rest ++ rest) has.end (e ∙ ap (λ l. l ++ rest) has.all ∙ append_assoc has.front (End has.end ∷ has.rest) rest) in
      let no_more = nothing-left has.rest rest there.0 in
      let bytes : bytes_of arrived ≡ bytes_of has.front = has.bytes ∙ ap (λ l. bytes_of has.front ++ bytes_of l) no_more ∙ append-nil (bytes_of has.front) in
      subst (λ ending. gave (bytes_of arrived) ending) (sym has.ending) (subst (λ b. gave b (ending_by has.end)) (sym bytes) there.1)
]

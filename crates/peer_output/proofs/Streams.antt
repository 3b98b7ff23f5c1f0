-- What stays where a stream goes on: works, replies and cancels.
use Rattle.std.proofs.Common.{arith, ◌-◌, ◌≡◌, ℕ, zero, suc, ◌==◌, ◌<◌, ◌≤◌, List, [], ◌∷◌, ◌++◌, Bool, true, false, cond, ◌||◌, Option, Some, None, is_some, unwrap_or, ◌⊎◌, inl, inr, refl, sym, ap, ◌∙◌}
use Rattle.std.proofs.lemmas.Bool.{cases_lt}
use Rattle.std.specs.Cmp.{unsigned_Decides}
use Rattle.std.specs.List.{list_any}
use Rattle.std.specs.Option.{option_and_then, option_map_or}
use Rattle.rpc_messages.specs.Entry.{SeenEntry, call, reply, stray, invalid}
use Rattle.rpc_messages.specs.Numbering.{numbers_in}
use Rattle.rpc_messages.specs.Replies.{call_numbered, after_call, reply_to, replies}
use Rattle.rpc_messages.specs.declared.call.Call.{Call}
use Rattle.message_ids.specs.declared.id.Id.{Id}
use Rattle.rpc_messages.specs.declared.reply.Reply.{Reply}
use Rattle.rpc_messages.specs.declared.reply.Reply.TheVariants.{Standard}
use Rattle.message_ids.specs.declared.standard.Standard.TheVariants.{NoReply}
use Rattle.rpc_messages.proofs.Stream.{call_numbered-front, call_numbered-unknown, after_call-append, after_call-append_later, reply_to-append_found}
use Rattle.method_steps.specs.Steps.{MethodTable}
use Rattle.handler_future.specs.Evaluation.{Replies}
use Rattle.handler_future.specs.Front.{Heard, AgreesWith, is_heard, heard_replies}
use Rattle.handler_future.proofs.Heards.{find-append, find-stays}
use Rattle.peer_output.specs.Work.{work, work_for}
use Rattle.peer_output.specs.Cancelled.{Begins, cancels, request_id, is_cancelled}
use Rattle.peer_output.specs.Later.{MayBecome, IsHeardFrom}
use Rattle.peer_output.proofs.Fronts.{begins-same, begins-on}

-- ---- later streams

pub becomes-longer : {A : Type 0} (is_over : Bool) (so_far later : List A) → MayBecome is_over so_far later → Begins so_far later
becomes-longer true so_far later h = begins-same so_far later (sym h)
becomes-longer false so_far later h = h

-- what is later than a longer stream is later than the stream
pub later-longer : {A : Type 0} (is_over : Bool) (so_far longer later : List A) → Begins so_far longer → MayBecome is_over longer later → MayBecome false so_far later
later-longer is_over so_far longer later h k = begins-on so_far longer later h (becomes-longer is_over longer later k)

-- ---- works

pub work-stays : (table : MethodTable) (entries later : List SeenEntry) (n : ℕ) → n ≤ numbers_in entries → Begins entries later → work table later n ≡ work table entries n
work-stays table entries later zero h b = refl
work-stays table entries later (suc n) h b =
    ap (λ es. work_for table (call_numbered (suc n) es)) b.joined ∙ ap (work_for table) (call_numbered-front (suc n) entries b.rest h)

-- ---- cancels

or-true : (a b : Bool) → a ≡ true → (a || b) ≡ true
or-true true b h = refl
or-true false b h = cc

any-append_if : (a b c : Bool) → (b ≡ true → c ≡ true) → (a || b) ≡ true → (a || c) ≡ true
any-append_if true b c more h = refl
any-append_if false b c more h = more h

any-append : {A : Type 0} (test : A → Bool) (xs ys : List A) → list_any test xs ≡ true → list_any test (xs ++ ys) ≡ true
any-append test [] ys h = cc
any-append test (x ∷ xs) ys h = any-append_if (test x) (list_any test xs) (list_any test (xs ++ ys)) (any-append test xs ys) h

cancelled_more : (id : Option Id) (es fs : List SeenEntry) → option_map_or (λ i. list_any (cancels i) es) id false ≡ true
    → option_map_or (λ i. list_any (cancels i) (es ++ fs)) id false ≡ true
cancelled_more None es fs h = h
cancelled_more (Some id) es fs h = any-append (cancels id) es fs h

cancelled_none : (c : Option Call) (es : List SeenEntry) → c ≡ None → option_map_or (λ i. list_any (cancels i) es) (option_and_then (λ (d : Call). d.id) c) false ≡ true → ⊥
cancelled_none None es is h = cc
cancelled_none (Some c) es is h = cc

-- a cancelled call has come
pub cancelled-known : (entries : List SeenEntry) (n : ℕ) → is_cancelled entries n ≡ true → n ≤ numbers_in entries
cancelled-known entries n h = by_place (cases_lt (numbers_in entries) n)
  where
    by_place : (numbers_in entries < n) ⊎ (n ≤ numbers_in entries) → n ≤ numbers_in entries
    by_place (inl unknown) = absurd (cancelled_none (call_numbered n entries) (after_call n entries) (call_numbered-unknown n entries unknown) h)
    by_place (inr known) = known

cancelled-joined : (entries more : List SeenEntry) (n : ℕ) → n ≤ numbers_in entries → is_cancelled entries n ≡ true → is_cancelled (entries ++ more) n ≡ true
cancelled-joined entries more n known h =
    ap (λ (c : Option Call). option_map_or (λ i. list_any (cancels i) (after_call n (entries ++ more))) (option_and_then (λ (d : Call). d.id) c) false) (call_numbered-front n entries more known)
    ∙ ap (λ es. option_map_or (λ i. list_any (cancels i) es) (request_id entries n) false) (after_call-append n entries more known)
    ∙ cancelled_more (request_id entries n) (after_call n entries) more h

-- a cancel reaches what it reached
pub cancelled-stays : (entries later : List SeenEntry) (n : ℕ) → Begins entries later → is_cancelled entries n ≡ true → is_cancelled later n ≡ true
cancelled-stays entries later n b h = ap (λ es. is_cancelled es n) b.joined ∙ cancelled-joined entries b.rest n (cancelled-known entries n h) h

-- ---- replies

-- the reply to a call stays
pub reply-stays : (n t : ℕ) (r : Reply) (entries later : List SeenEntry) → n ≤ numbers_in entries → Begins entries later → reply_to n t entries ≡ Some r → replies later n t ≡ r
reply-stays n t r entries later known b h =
    ap (λ es. replies es n t) b.joined ∙ ap (λ (o : Option Reply). unwrap_or o (Standard NoReply)) (reply_to-append_found n t r entries b.rest known h)

heard_one : (u t : ℕ) (r : Reply) (R : Replies) (b : Bool) → (u == t) ≡ b → R u ≡ r → is_some (cond b (Some r) None) ≡ true → R t ≡ unwrap_or (cond b (Some r) None) (Standard NoReply)
heard_one u t r R true is same h = ap R (sym ((unsigned_Decides u t).0 is)) ∙ same
heard_one u t r R false is same h = cc

agrees-push : (heard : Heard) (u : ℕ) (r : Reply) (R : Replies) → AgreesWith heard R → R u ≡ r → (t : ℕ) (b : Bool) → is_heard heard t ≡ b
    → is_heard (heard ++ (u, r) ∷ []) t ≡ true → R t ≡ heard_replies (heard ++ (u, r) ∷ []) t
agrees-push heard u r R agrees same t true is h =
    agrees.same t is ∙ ap (λ (o : Option Reply). unwrap_or o (Standard NoReply)) (sym (find-stays heard ((u, r) ∷ []) t is))
agrees-push heard u r R agrees same t false is h =
    let found = find-append heard ((u, r) ∷ []) t is in
    heard_one u t r R (u == t) refl same (ap is_some (sym found) ∙ h) ∙ ap (λ (o : Option Reply). unwrap_or o (Standard NoReply)) (sym found)

-- one more reply that stands in the stream may be heard
pub heard-push : (is_over : Bool) (entries : List SeenEntry) (n : ℕ) (heard : Heard) (t : ℕ) (r : Reply) → IsHeardFrom is_over entries n heard
    → ((later : List SeenEntry) → MayBecome is_over entries later → replies later n t ≡ r) → IsHeardFrom is_over entries n (heard ++ (t, r) ∷ [])
heard-push is_over entries n heard t r from same later becomes =
    record { same = λ u h. agrees-push heard t r (replies later n) (from later becomes) (same later becomes) u (is_heard heard u) refl h }

-- while the input goes on, the first reply; once it is over, also `No reply`
pub reply-certain : (is_over : Bool) (entries : List SeenEntry) (n t : ℕ) (r : Reply) → n ≤ numbers_in entries → reply_to n t entries ≡ Some r
    → (later : List SeenEntry) → MayBecome is_over entries later → replies later n t ≡ r
reply-certain is_over entries n t r known h later becomes = reply-stays n t r entries later known (becomes-longer is_over entries later becomes) h

pub reply-certain_over : (entries : List SeenEntry) (n t : ℕ) (later : List SeenEntry) → MayBecome true entries later → replies later n t ≡ replies entries n t
reply-certain_over entries n t later same = ap (λ es. replies es n t) same

-- ---- what was heard

pub heard-nothing : (is_over : Bool) (entries : List SeenEntry) (n : ℕ) → IsHeardFrom is_over entries n []
heard-nothing is_over entries n later becomes = record { same = λ t h. cc }

pub heard-longer : (is_over : Bool) (entries longer : List SeenEntry) (n : ℕ) (heard : Heard) → Begins entries longer
    → IsHeardFrom false entries n heard → IsHeardFrom is_over longer n heard
heard-longer is_over entries longer n heard b h later becomes = h later (later-longer is_over entries longer later b becomes)

-- ---- a cancel, over one more entry

or-none : (b : Bool) → (b || false) ≡ b
or-none true = refl
or-none false = refl

or-on : (a b c : Bool) → (a || (b || c)) ≡ ((a || b) || c)
or-on true b c = refl
or-on false b c = refl

any-push : {A : Type 0} (test : A → Bool) (xs : List A) (y : A) → list_any test (xs ++ y ∷ []) ≡ (list_any test xs || test y)
any-push test [] y = or-none (test y)
any-push test (x ∷ xs) y = ap (λ b. test x || b) (any-push test xs y) ∙ or-on (test x) (list_any test xs) (test y)

reached-push : (id : Option Id) (es : List SeenEntry) (e : SeenEntry) → option_map_or (λ i. list_any (cancels i) (es ++ e ∷ [])) id false
    ≡ (option_map_or (λ i. list_any (cancels i) es) id false || option_map_or (λ i. cancels i e) id false)
reached-push None es e = refl
reached-push (Some id) es e = any-push (cancels id) es e

-- of a call that has come
pub cancelled-push : (entries : List SeenEntry) (e : SeenEntry) (n : ℕ) → n ≤ numbers_in entries
    → is_cancelled (entries ++ e ∷ []) n ≡ (is_cancelled entries n || option_map_or (λ i. cancels i e) (request_id entries n) false)
cancelled-push entries e n known =
    ap (λ (c : Option Call). option_map_or (λ i. list_any (cancels i) (after_call n (entries ++ e ∷ []))) (option_and_then (λ (d : Call). d.id) c) false) (call_numbered-front n entries (e ∷ []) known)
    ∙ ap (λ es. option_map_or (λ i. list_any (cancels i) es) (request_id entries n) false) (after_call-append n entries (e ∷ []) known)
    ∙ reached-push (request_id entries n) (after_call n entries) e

after-one : (k : ℕ) (e : SeenEntry) → after_call (suc k) (e ∷ []) ≡ []
after-one zero (call c) = refl
after-one (suc k) (call c) = refl
after-one k (reply m u r) = refl
after-one k stray = refl
after-one k invalid = refl

none-reached : (id : Option Id) → option_map_or (λ (i : Id). list_any (cancels i) []) id false ≡ false
none-reached None = refl
none-reached (Some id) = refl

-- of the call that it is, and of those that haven't come
pub cancelled-push_later : (entries : List SeenEntry) (e : SeenEntry) (n : ℕ) → numbers_in entries < n → is_cancelled (entries ++ e ∷ []) n ≡ false
cancelled-push_later entries e n later =
    let place : n - numbers_in entries ≡ suc (n - numbers_in entries - 1) = omega arith in
    ap (λ es. option_map_or (λ i. list_any (cancels i) es) (request_id (entries ++ e ∷ []) n) false)
    (after_call-append_later n entries (e ∷ []) later ∙ ap (λ k. after_call k (e ∷ [])) place ∙ after-one (n - numbers_in entries - 1) e)
    ∙ none-reached (request_id (entries ++ e ∷ []) n)

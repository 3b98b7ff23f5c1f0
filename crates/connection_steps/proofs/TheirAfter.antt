-- The calls that are open after one more thing happened.
use Rattle.std.proofs.Common.{◌≡◌, ℕ, ◌<◌, ◌≤◌, ◌==◌, List, [], ◌∷◌, ◌++◌, length, Bool, true, false, cond, not, refl, sym, ap, subst, ◌∙◌, append-nil, Option}
use Rattle.std.proofs.lemmas.List.Elements.{filter-append}
use Rattle.connection_messages.specs.declared.answer.Answer.{Answer}
use Rattle.connection_messages.specs.declared.entry.Entry.{Entry}
use Rattle.connection_messages.specs.declared.outgoing.Outgoing.{Outgoing}
use Rattle.connection_history.specs.declared.close.Close.{Close}
use Rattle.connection_history.specs.Stream.{calls_in, is_cancelled}
use Rattle.connection_history.specs.History.{Happening, called, called_all, noticed, withdrew, answered, ended, History, units_of, units_at, stream, is_open}
use Rattle.connection_history.proofs.OpenCalls.{stream-said, open-called, open-called_all, open-noticed, open-withdrew, open-ended, open-answered, open-answered_other}
use Rattle.connection_history.proofs.Tests.{same, apart}
use Rattle.open_calls.specs.declared.their_call.TheirCall.{TheirCall}
use Rattle.open_calls.specs.Numbered.{without}
use Rattle.open_calls.specs.Theirs.{TheirState}
use Rattle.connection_steps.specs.States.{theirs_of}
use Rattle.connection_steps.proofs.TheirSites.{sites_in, sites_of, seen_as, seen, all_seen, theirs-seen, AreSites, all-are}
use Rattle.connection_messages.specs.declared.cancels.Cancels.{Cancels}

-- ---- what is seen the same

-- calls that are open in both histories, and cancelled in both, are seen the same
pub seen-agree : (g h : History) (es : List Entry) (ss : List (ℕ × TheirCall)) → AreSites es ss
    → ((k : ℕ) → 0 < k → k ≤ length (calls_in es) → is_open k g ≡ is_open k h)
    → ((k : ℕ) → 0 < k → k ≤ length (calls_in es) → is_cancelled k (stream g) ≡ is_cancelled k (stream h))
    → all_seen g ss ≡ all_seen h ss
seen-agree g h es [] are opens hits = refl
seen-agree g h es (s ∷ ss) are opens hits =
    λ i. seen_as (opens s.0 are.0.some are.0.within i) (hits s.0 are.0.some are.0.within i) s ++ seen-agree g h es ss are.1 opens hits i

seen-same : (g h : History) (ss : List (ℕ × TheirCall)) → stream g ≡ stream h → ((k : ℕ) → is_open k g ≡ is_open k h) → all_seen g ss ≡ all_seen h ss
seen-same g h [] streams opens = refl
seen-same g h (s ∷ ss) streams opens = λ i. seen_as (opens s.0 i) (is_cancelled s.0 (streams i)) s ++ seen-same g h ss streams opens i

-- the state of a history, by what is seen
pub theirs-from : (g : History) (came : ℕ) (calls : List (ℕ × TheirCall)) → length (calls_in (stream g)) ≡ came → all_seen g (sites_of g) ≡ calls
    → theirs_of g ≡ (let s : TheirState = record { came = came; calls = calls } in s)
theirs-from g came calls count are = λ i. record { came = count i; calls = (theirs-seen g 0 1 (units_of g) ∙ are) i }

-- what brings the same, and leaves the same open, has the same state
pub theirs-same : (g h : History) → sites_of g ≡ sites_of h → stream g ≡ stream h → ((k : ℕ) → is_open k g ≡ is_open k h) → theirs_of g ≡ theirs_of h
theirs-same g h sites streams opens =
    theirs-from g (length (calls_in (stream h))) (theirs_of h).calls (ap (λ es. length (calls_in es)) streams)
    (ap (all_seen g) sites ∙ seen-same g h (sites_of h) streams opens ∙ sym (theirs-seen h 0 1 (units_of h)))

-- ---- what the host says

sites-said : (past : History) (h : Happening) → units_at h ≡ [] → sites_of (h ∷ past) ≡ sites_of past
sites-said past h none = ap (λ us. sites_in 0 1 (units_of past ++ us)) none ∙ ap (sites_in 0 1) (append-nil (units_of past))

said : (past : History) (h : Happening) → units_at h ≡ [] → ((k : ℕ) → is_open k (h ∷ past) ≡ is_open k past) → theirs_of (h ∷ past) ≡ theirs_of past
said past h none opens = theirs-same (h ∷ past) past (sites-said past h none) (stream-said past h none) opens

-- a call of ours leaves theirs as they are
pub after-called : (past : History) (number : ℕ) (o : Outgoing) → theirs_of (called number o ∷ past) ≡ theirs_of past
after-called past number o = said past (called number o) refl (λ k. open-called k past number o)

-- so do several
pub after-called_all : (past : History) (number : ℕ) (os : List Outgoing) → theirs_of (called_all number os ∷ past) ≡ theirs_of past
after-called_all past number os = said past (called_all number os) refl (λ k. open-called_all k past number os)

-- a notification of ours
pub after-noticed : (past : History) (o : Outgoing) → theirs_of (noticed o ∷ past) ≡ theirs_of past
after-noticed past o = said past (noticed o) refl (λ k. open-noticed k past o)

-- a withdrawal
pub after-withdrew : (past : History) (by : Cancels) (key : ℕ) → theirs_of (withdrew by key ∷ past) ≡ theirs_of past
after-withdrew past by key = said past (withdrew by key) refl (λ k. open-withdrew k past by key)

-- the end of the input
pub after-ended : (past : History) (close : Close) → theirs_of (ended close ∷ past) ≡ theirs_of past
after-ended past close = said past (ended close) refl (λ k. open-ended k past close)

-- ---- an answer

kept_or_gone : (m : ℕ) (s : ℕ × TheirCall) (test opened now hit : Bool) → (m == s.0) ≡ test → (test ≡ true → now ≡ false) → (test ≡ false → now ≡ opened)
    → seen_as now hit s ≡ without m (seen_as opened hit s)
kept_or_gone m s true true now hit is gone kept =
    ap (λ b. seen_as b hit s) (gone refl) ∙ sym (ap (λ b. cond (not b) ((s.0, record s.1 { is_cancelled = hit }) ∷ []) []) is)
kept_or_gone m s true false now hit is gone kept = ap (λ b. seen_as b hit s) (gone refl)
kept_or_gone m s false true now hit is gone kept =
    ap (λ b. seen_as b hit s) (kept refl) ∙ sym (ap (λ b. cond (not b) ((s.0, record s.1 { is_cancelled = hit }) ∷ []) []) is)
kept_or_gone m s false false now hit is gone kept = ap (λ b. seen_as b hit s) (kept refl)

answered-seen : (past : History) (m : ℕ) (a : Option Answer) (es : List Entry) (ss : List (ℕ × TheirCall)) → AreSites es ss
    → all_seen (answered m a ∷ past) ss ≡ without m (all_seen past ss)
answered-seen past m a es [] are = refl
answered-seen past m a es (s ∷ ss) are =
    let hit : is_cancelled s.0 (stream (answered m a ∷ past)) ≡ is_cancelled s.0 (stream past) = ap (is_cancelled s.0) (stream-said past (answered m a) refl) in
    (λ i. seen_as (is_open s.0 (answered m a ∷ past)) (hit i) s ++ answered-seen past m a es ss are.1 i)
    ∙ ap (λ l. l ++ without m (all_seen past ss))
    (kept_or_gone m s (m == s.0) (is_open s.0 past) (is_open s.0 (answered m a ∷ past)) (is_cancelled s.0 (stream past)) refl
    (λ here. subst (λ n. is_open s.0 (answered n a ∷ past) ≡ false) (sym (same m s.0 here)) (open-answered s.0 past a are.0.some))
    (λ other. open-answered_other s.0 m past a (apart m s.0 other)))
    ∙ sym (filter-append (λ (e : ℕ × TheirCall). not (m == e.0)) (seen past s) (all_seen past ss))

-- a call that is answered isn't open any more
pub after-answered : (past : History) (m : ℕ) (a : Option Answer)
    → theirs_of (answered m a ∷ past) ≡ record (theirs_of past) { calls = without m (theirs_of past).calls }
after-answered past m a =
    theirs-from (answered m a ∷ past) (length (calls_in (stream past))) (without m (theirs_of past).calls)
    (ap (λ es. length (calls_in es)) (stream-said past (answered m a) refl))
    (ap (all_seen (answered m a ∷ past)) (sites-said past (answered m a) refl)
    ∙ answered-seen past m a (stream past) (sites_of past) (all-are past)
    ∙ ap (without m) (sym (theirs-seen past 0 1 (units_of past))))

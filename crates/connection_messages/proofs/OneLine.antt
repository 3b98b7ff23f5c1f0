-- No text that goes out has a line feed.
use Rattle.std.proofs.Common.{ℕ, suc, ◌+◌, ◌<◌, ◌≤◌, ◌^◌, List, [], ◌∷◌, length, None, false, subst, arith}
use Rattle.std.specs.Prelude.{⊤}
use Rattle.std.specs.List.{join_with_byte}
use Rattle.message_ids.specs.declared.id.Id.{Id}
use Rattle.connection_messages.specs.ReadBack.{IsSayable, AreSayable, IsId, IsAnswer, AreAnswers, answer_texts, IsLine}
use Rattle.connection_messages.specs.Texts.{answer_text, batch_text, call_text, call_texts, calls_text, notice_text, withdrawal_text}
use Rattle.connection_messages.specs.declared.answer.Answer.{Answer}
use Rattle.connection_messages.specs.declared.cancels.Cancels.{Cancels}
use Rattle.connection_messages.specs.declared.outgoing.Outgoing.{Outgoing}
use Rattle.connection_messages.proofs.AnswersBack.{answer_is}
use Rattle.connection_messages.proofs.Lines.{line_append, json_line}
use Rattle.connection_messages.proofs.SaidBack.{params_of, call_value, call_value_text, call_whole, notice_value, notice_value_text, notice_whole, withdrawal_value, withdrawal_value_text, withdrawal_whole}

pub call_line : (k : ℕ) (o : Outgoing) → k < 2 ^ 64 → IsSayable o → IsLine (call_text k o)
call_line k o fits sayable =
    let h = params_of o.params sayable.params in
    subst IsLine (call_value_text k o h.value h.is) (json_line (call_value k o.method h.value) (call_whole k o h fits sayable.method).numbers)

pub notice_line : (o : Outgoing) → IsSayable o → IsLine (notice_text o)
notice_line o sayable =
    let h = params_of o.params sayable.params in
    subst IsLine (notice_value_text o h.value h.is) (json_line (notice_value o.method h.value) (notice_whole o h sayable.method).numbers)

pub withdrawal_line : (by : Cancels) (k : ℕ) → k < 2 ^ 64 → IsLine (withdrawal_text by k)
withdrawal_line by k fits = subst IsLine (withdrawal_value_text by k) (json_line (withdrawal_value by k) (withdrawal_whole by k fits).numbers)

pub answer_line : (id : Id) (a : Answer) → IsId id → IsAnswer a → IsLine (answer_text id a)
answer_line id a is answer =
    let it = answer_is (record { cancels = None; most_entries = None; null_params = false }) id a is answer in
    subst IsLine it.is (json_line it.value it.whole.numbers)

-- ---- batches

abbrev AreLines : List (List ℕ) → Type 0
AreLines [] = ⊤
AreLines (t ∷ ts) = IsLine t × AreLines ts

joined_line : (ts : List (List ℕ)) → AreLines ts → IsLine (join_with_byte 44 ts)
joined_line [] lines = tt
joined_line (t ∷ []) lines = lines.0
joined_line (t ∷ u ∷ us) lines = line_append t (44 ∷ join_with_byte 44 (u ∷ us)) lines.0 (λ e. omega (arith, e), joined_line (u ∷ us) lines.1)

batch_line : (ts : List (List ℕ)) → AreLines ts → IsLine (batch_text ts)
batch_line ts lines = (λ e. omega (arith, e), line_append (join_with_byte 44 ts) (93 ∷ []) (joined_line ts lines) (λ e. omega (arith, e), tt))

call_lines : (k : ℕ) (os : List Outgoing) → k + length os ≤ 2 ^ 64 → AreSayable os → AreLines (call_texts k os)
call_lines k [] fits are = tt
call_lines k (o ∷ os) fits are =
    let few : k + suc (length os) ≤ 2 ^ 64 = fits in
    (call_line k o (omega (arith, few)) are.0, call_lines (k + 1) os (omega (arith, few)) are.1)

pub calls_line : (k : ℕ) (os : List Outgoing) → k + length os ≤ 2 ^ 64 → AreSayable os → IsLine (calls_text k os)
calls_line k os fits are = batch_line (call_texts k os) (call_lines k os fits are)

answer_lines : (all : List (Id × Answer)) → AreAnswers all → AreLines (answer_texts all)
answer_lines [] are = tt
answer_lines (a ∷ more) are = (answer_line a.0 a.1 are.0 are.1, answer_lines more are.2)

pub answers_line : (all : List (Id × Answer)) → AreAnswers all → IsLine (batch_text (answer_texts all))
answers_line all are = batch_line (answer_texts all) (answer_lines all are)

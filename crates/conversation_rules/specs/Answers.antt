-- What answers break by what is owed (JSON-RPC 2.0, sections 4.1, 5 and 6; LSP and MCP, cancellation), and what they settle.
use Rattle.std.specs.Prelude.{ℕ, ◌&&◌, ◌||◌, not, List, [], ◌∷◌, ◌++◌, length, ◌==◌, nat_lt, suc, Bool, true, false, Option, Some, None, is_some, if◌then◌else◌}
use Rattle.std.specs.List.{list_any}
use Rattle.std.specs.Option.{option_map_or, is_none}
use Rattle.conversation_reading.specs.declared.entry.Entry.{Entry}
use Rattle.conversation_reading.specs.declared.entry.WrittenId.{WrittenId}
use Rattle.conversation_rules.specs.Amounts.{is_null}
use Rattle.conversation_rules.specs.Dues as dues
use Rattle.conversation_rules.specs.Dues.{may_be_refused, has_cancelled, settled, settled_batch, array_target, found_batch, unreadable_target}
use Rattle.conversation_rules.specs.Entries.{is_well, is_between, code_of, may_lack_id}
use Rattle.conversation_rules.specs.Matching.{named_target, null_target, parse_error_target}
use Rattle.conversation_rules.specs.Owed.{Due}
use Rattle.conversation_rules.specs.Protocols.{is_lsp, is_mcp}
use Rattle.conversation_rules.specs.Speakers.{found, found_if, one_less}
use Rattle.conversation_rules.specs.declared.finding.Finding.{Finding}
use Rattle.conversation_rules.specs.declared.finding.Message.{Message}
use Rattle.conversation_rules.specs.declared.finding.Rule.TheVariants as rules
use Rattle.conversation_rules.specs.declared.found.Fit.{Fit}
use Rattle.conversation_rules.specs.declared.found.Found.{Found}
use Rattle.conversation_rules.specs.declared.found.Found.TheVariants.{Whole, Entry as EntryFit}
use Rattle.conversation_rules.specs.declared.found.Target.{Target}
use Rattle.conversation_rules.specs.declared.level.Level.{Level}
use Rattle.conversation_rules.specs.declared.level.Level.TheVariants.{Must, Should, Note}
use Rattle.conversation_rules.specs.declared.protocol.Protocol.{Protocol}
use Rattle.conversation_rules.specs.declared.reply.Refusals.{Refusals}
use Rattle.conversation_rules.specs.declared.reply.Reply.{Reply}
use Rattle.conversation_rules.specs.declared.reply.Sight.{Sight}
use Rattle.conversation_rules.specs.declared.reply.Stray.{Stray}

-- whether an entry's error says that its request was cancelled, where no open request with its id was
abbrev pub says_cancelled : Entry → Bool
says_cancelled entry = option_map_or (is_between 32800 32800) (code_of entry) false

abbrev pub is_uncalled : Protocol → List Due → Entry → Bool
is_uncalled protocol owed entry = is_lsp protocol && says_cancelled entry && not (option_map_or (λ id. has_cancelled id owed) entry.id false)

-- it is under the id null: an answer by all rules, or an error that may be without an id
abbrev pub may_refuse : Protocol → Entry → Bool
may_refuse protocol entry = (is_well entry.kind && option_map_or is_null entry.id false) || may_lack_id protocol entry.there

-- what is looked at of an answer that stands at a place, beside its id
abbrev pub reply_of : Protocol → List Due → ℕ → Entry → Reply
reply_of protocol owed at entry = record { at = at; is_well = is_well entry.kind; may_refuse = may_refuse protocol entry; code = code_of entry; is_uncalled = is_uncalled protocol owed entry }

abbrev pub has_code : ℕ → Reply → Bool
has_code size reply = option_map_or (is_between size size) reply.code false

-- where the judge couldn't read, it accuses nobody
abbrev pub or_note : Bool → Level → Level
or_note is_broken level = if is_broken then Note else level

-- ---- after-cancel and cancelled-code, of the entry that an answer is for

abbrev pub cancelled_code_level : Sight → Level
cancelled_code_level sight = if sight.has_unreadable then Note else or_note sight.is_broken Should

abbrev pub fit_findings : Protocol → Sight → Message → Reply → Fit → List Finding
fit_findings protocol sight message reply fit =
    if fit.is_request && reply.is_well
    then found_if reply.is_uncalled (found message reply.at rules.CancelledCode (cancelled_code_level sight))
    ++ found_if (is_mcp protocol && fit.is_cancelled) (found message reply.at rules.AfterCancel Note)
    else []

-- ---- not-owed: an answer, or an array, that fits nothing. Where an unreadable content is left, the peer may have read it.

abbrev pub stray_of : Reply → Stray
stray_of reply = record { at = reply.at; is_well = reply.is_well }

abbrev pub not_owed_level : Sight → Bool → Level
not_owed_level sight may_be_read = if may_be_read then Note else or_note sight.is_broken Must

-- a broken answer is told by its own rule alone
abbrev pub not_owed : Message → Level → Stray → List Finding
not_owed message level stray = found_if stray.is_well (found message stray.at rules.NotOwed level)

abbrev pub each_not_owed : Message → Level → List Stray → List Finding
each_not_owed message level [] = []
each_not_owed message level (stray ∷ strays) = not_owed message level stray ++ each_not_owed message level strays

abbrev pub are_told : List Stray → Bool
are_told strays = list_any (λ stray. stray.is_well) strays

abbrev pub not_owed_findings : Sight → Message → List Stray → List Due → List Finding
not_owed_findings sight message strays owed = if are_told strays then each_not_owed message (not_owed_level sight (is_some (unreadable_target owed))) strays else []

abbrev pub behind_not_owed : List Stray → List Due → List Due
behind_not_owed strays owed = if are_told strays then settled (unreadable_target owed) owed else owed

-- ---- an answer with the id null, alone, that fits nothing. Its side may have refused a content whole for its limits: a batch,
-- as one of too many entries (JSON-RPC 2.0, section 6: a batch that isn't recognized is answered by a single response), or one
-- that nests deep (RFC 8259, section 9). Which one isn't known, so all stay owed. Each such answer counts for one of those that
-- are open, or else for an array on which nothing is owed. An answer that is no error counts too: an error may have taken what
-- it is for.

abbrev pub refuses_open : Refusals → List Due → Bool
refuses_open refusals owed = may_be_refused owed && nat_lt refusals.refused (length owed)

abbrev pub refuses : Sight → Reply → List Due → Bool
refuses sight reply owed = reply.may_refuse && (refuses_open sight.refusals owed || not (sight.refusals.unowed == 0))

abbrev pub unfit_findings : Sight → Message → Reply → List Due → List Finding
unfit_findings sight message reply owed = if refuses sight reply owed then found_if reply.is_well (found message reply.at rules.NotOwed Note) else not_owed_findings sight message (stray_of reply ∷ []) owed

abbrev pub one_refused : Refusals → List Due → Refusals
one_refused refusals owed = if refuses_open refusals owed then record refusals { refused = suc refusals.refused } else record refusals { unowed = one_less refusals.unowed }

abbrev pub refused_by : Sight → Reply → List Due → Refusals
refused_by sight reply owed = if refuses sight reply owed then one_refused sight.refusals owed else sight.refusals

-- ---- a single answer

-- it may be for a content that is refused whole, or that couldn't be read
abbrev pub is_unsure : Sight → Reply → List Due → Bool
is_unsure sight reply owed = refuses sight reply owed || (reply.may_refuse && is_some (unreadable_target owed))

-- with the id null
abbrev pub target_of_null : Sight → Reply → List Due → Option Target
target_of_null sight reply owed = if has_code 32700 reply then parse_error_target (is_unsure sight reply owed) owed else null_target (has_code 32600 reply) (is_unsure sight reply owed) owed

abbrev pub target_of_id : Sight → Reply → List Due → WrittenId → Option Target
target_of_id sight reply owed id = if is_null id then target_of_null sight reply owed else named_target id owed

-- with an id that can't be read it fits nothing
abbrev pub target_of : Sight → Reply → Option WrittenId → List Due → Option Target
target_of sight reply id owed = option_map_or (target_of_id sight reply owed) id None

abbrev pub single_fit_findings : Protocol → Sight → Message → Reply → Fit → List Finding
single_fit_findings protocol sight message reply fit =
    found_if (fit.in_batch && reply.is_well) (found message reply.at rules.NotAsArray (or_note sight.is_broken Should)) ++ fit_findings protocol sight message reply fit

-- by what it is found for, and what is still owed then
abbrev pub single_findings_of : Protocol → Sight → Message → Reply → List Due → Option Found → List Finding
single_findings_of protocol sight message reply rest None = unfit_findings sight message reply rest
single_findings_of protocol sight message reply rest (Some Whole) = []
single_findings_of protocol sight message reply rest (Some (EntryFit fit)) = single_fit_findings protocol sight message reply fit

abbrev pub rest_of : Sight → Reply → Option WrittenId → List Due → List Due
rest_of sight reply id owed = settled (target_of sight reply id owed) owed

abbrev pub single_findings : Protocol → Sight → Message → Reply → Option WrittenId → List Due → List Finding
single_findings protocol sight message reply id owed = single_findings_of protocol sight message reply (rest_of sight reply id owed) (dues.found (target_of sight reply id owed) owed)

-- what refuses a content settles none
abbrev pub behind_unfit : Sight → Reply → List Due → List Due
behind_unfit sight reply owed = if refuses sight reply owed then owed else behind_not_owed (stray_of reply ∷ []) owed

abbrev pub behind_found : Sight → Reply → List Due → Option Found → List Due
behind_found sight reply rest None = behind_unfit sight reply rest
behind_found sight reply rest (Some found) = rest

abbrev pub refused_behind : Sight → Reply → List Due → Option Found → Refusals
refused_behind sight reply rest None = refused_by sight reply rest
refused_behind sight reply rest (Some found) = sight.refusals

abbrev pub refused_behind_single : Sight → Reply → Option WrittenId → List Due → Refusals
refused_behind_single sight reply id owed = refused_behind sight reply (rest_of sight reply id owed) (dues.found (target_of sight reply id owed) owed)

abbrev pub behind_single : Sight → Reply → Option WrittenId → List Due → List Due
behind_single sight reply id owed = behind_found sight reply (rest_of sight reply id owed) (dues.found (target_of sight reply id owed) owed)

-- ---- the answers of an array that is a batch's, each with the entry that it takes

abbrev pub taken_findings : Protocol → Sight → Message → Reply → Option Fit → List Finding
taken_findings protocol sight message reply fit = option_map_or (fit_findings protocol sight message reply) fit []

abbrev pub array_findings : Protocol → Sight → Message → List Reply → List (Option Fit) → List Finding
array_findings protocol sight message [] fits = []
array_findings protocol sight message (reply ∷ replies) [] = []
array_findings protocol sight message (reply ∷ replies) (fit ∷ fits) = taken_findings protocol sight message reply fit ++ array_findings protocol sight message replies fits

abbrev pub are_well : List Reply → Bool
are_well replies = list_any (λ reply. reply.is_well) replies

-- that others stand among them
abbrev pub among_findings : Sight → Message → Bool → List Reply → List Finding
among_findings sight message are_alone replies = found_if (not are_alone && are_well replies) (found message 0 rules.NotAsArray (or_note sight.is_broken Should))

-- ---- an array that is no batch's: each of its answers is looked at by itself, and codes play no part but for -32600

abbrev pub target_in_array_of_id : Reply → List Due → WrittenId → Option Target
target_in_array_of_id reply owed id = if is_null id then null_target (has_code 32600 reply) false owed else named_target id owed

abbrev pub target_in_array : Reply → Option WrittenId → List Due → Option Target
target_in_array reply id owed = option_map_or (target_in_array_of_id reply owed) id None

-- What has come of the answers so far: what is still owed, what was found, those that fit nothing, and whether it was told that
-- they are no batch's.
pub record Each : Type 0 where
  pub owed : List Due
  pub findings : List Finding
  pub strays : List Stray
  pub is_told : Bool

abbrev pub apart_findings : Protocol → Sight → Message → Reply → Bool → Fit → List Finding
apart_findings protocol sight message reply is_told fit =
    found_if (reply.is_well && not is_told) (found message 0 rules.NotAsArray (or_note sight.is_broken Should)) ++ fit_findings protocol sight message reply fit

abbrev pub with_found : Protocol → Sight → Message → Reply → Each → List Due → Option Found → Each
with_found protocol sight message reply each rest None = record { owed = rest; findings = each.findings; strays = each.strays ++ stray_of reply ∷ []; is_told = each.is_told }
with_found protocol sight message reply each rest (Some Whole) = record { owed = rest; findings = each.findings; strays = each.strays; is_told = each.is_told }
with_found protocol sight message reply each rest (Some (EntryFit fit)) =
    record { owed = rest; findings = each.findings ++ apart_findings protocol sight message reply each.is_told fit; strays = each.strays; is_told = each.is_told || reply.is_well }

abbrev pub with_reply : Protocol → Sight → Message → Reply → Option WrittenId → Each → Each
with_reply protocol sight message reply id each =
    with_found protocol sight message reply each (settled (target_in_array reply id each.owed) each.owed) (dues.found (target_in_array reply id each.owed) each.owed)

abbrev pub each_of : Protocol → Sight → Message → List Reply → List (Option WrittenId) → Each → Each
each_of protocol sight message [] ids each = each
each_of protocol sight message (reply ∷ replies) [] each = each
each_of protocol sight message (reply ∷ replies) (id ∷ ids) each = each_of protocol sight message replies ids (with_reply protocol sight message reply id each)

-- those that fit nothing, one by one
abbrev pub strays_findings : Sight → Message → List Stray → List Due → List Finding
strays_findings sight message [] owed = []
strays_findings sight message (stray ∷ strays) owed = not_owed_findings sight message (stray ∷ []) owed ++ strays_findings sight message strays (behind_not_owed (stray ∷ []) owed)

abbrev pub behind_strays : List Stray → List Due → List Due
behind_strays [] owed = owed
behind_strays (stray ∷ strays) owed = behind_strays strays (behind_not_owed (stray ∷ []) owed)

-- where none fits, the array is one
abbrev pub rest_findings : Sight → Message → Bool → List Stray → List Due → List Finding
rest_findings sight message none_fits strays owed = if none_fits then not_owed_findings sight message strays owed else strays_findings sight message strays owed

abbrev pub behind_rest : Bool → List Stray → List Due → List Due
behind_rest none_fits strays owed = if none_fits then behind_not_owed strays owed else behind_strays strays owed

abbrev pub new_each : List Due → Each
new_each owed = record { owed = owed; findings = []; strays = []; is_told = false }

abbrev pub none_fits : List Reply → Each → Bool
none_fits replies each = length each.strays == length replies

abbrev pub each_findings : Sight → Message → List Reply → Each → List Finding
each_findings sight message replies each = each.findings ++ rest_findings sight message (none_fits replies each) each.strays each.owed

abbrev pub behind_each : List Reply → Each → List Due
behind_each replies each = behind_rest (none_fits replies each) each.strays each.owed

-- ---- all answers of an array

abbrev pub answers_findings_of : Protocol → Sight → Message → Bool → List Reply → List (Option WrittenId) → List Due → Option (List (Option Fit)) → List Finding
answers_findings_of protocol sight message are_alone replies ids rest (Some fits) = among_findings sight message are_alone replies ++ array_findings protocol sight message replies fits
answers_findings_of protocol sight message are_alone replies ids rest None = each_findings sight message replies (each_of protocol sight message replies ids (new_each rest))

abbrev pub batch_rest : List (Option WrittenId) → List Due → List Due
batch_rest ids owed = settled_batch (array_target ids owed) owed

abbrev pub answers_findings : Protocol → Sight → Message → Bool → List Reply → List (Option WrittenId) → List Due → List Finding
answers_findings protocol sight message are_alone replies ids owed = answers_findings_of protocol sight message are_alone replies ids (batch_rest ids owed) (found_batch ids owed)

abbrev pub behind_answers_of : Protocol → Sight → Message → List Reply → List (Option WrittenId) → List Due → Option (List (Option Fit)) → List Due
behind_answers_of protocol sight message replies ids rest None = behind_each replies (each_of protocol sight message replies ids (new_each rest))
behind_answers_of protocol sight message replies ids rest (Some fits) = rest

abbrev pub behind_answers : Protocol → Sight → Message → List Reply → List (Option WrittenId) → List Due → List Due
behind_answers protocol sight message replies ids owed = behind_answers_of protocol sight message replies ids (batch_rest ids owed) (found_batch ids owed)

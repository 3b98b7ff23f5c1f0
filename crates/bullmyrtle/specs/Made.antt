-- What it answers to make a new one.
use Rattle.std.specs.Prelude.{◌≡◌, ◌⊎◌, ℕ, ◌==◌, nat_le, ℤ, pos, negsuc, zero, suc, Bool, true, false, Option, Some, None, option_and_then, if◌then◌else◌, ⊤}
use Rattle.connection_messages.specs.declared.cancels.Cancels.{Cancels}
use Rattle.connection_messages.specs.declared.cancels.Cancels.TheVariants.{Lsp, Mcp}
use Rattle.connection_history.specs.declared.order.Order.{Order}
use Rattle.connection_history.specs.declared.order.Order.TheVariants.{AsAnswered, AsCame}
use Rattle.content_streams.specs.declared.framing.Framing.{Framing}
use Rattle.content_streams.specs.declared.framing.Framing.TheVariants.{Frames, Lines, Contents}
use Rattle.lsp_frames.specs.declared.limits.TheConstants.{LARGEST_CONTENT, LONGEST_CONTENT}
use Rattle.connection.specs.Settings.{Chosen}
use Rattle.bullmyrtle.specs.declared.settings.Options.{Options}
use Rattle.host_calls.specs.declared.hosted.HostedConnection.{HostedConnection}
use Rattle.host_calls.specs.Hosting as fresh
use Rattle.bullmyrtle.specs.Held.{Held}

abbrev pub framing_of : ℕ → Option Framing
framing_of n = if n == 0 then Some Frames else (if n == 1 then Some Lines else (if n == 2 then Some Contents else None))

abbrev pub order_of : ℕ → Option Order
order_of n = if n == 0 then Some AsAnswered else (if n == 1 then Some AsCame else None)

-- 0 stands for the usual number
abbrev pub or_usual : ℕ → ℕ → ℕ
or_usual usual n = if n == 0 then usual else n

-- ---- what bm_open makes one with

abbrev pub cancels_of : ℕ → Option (Option Cancels)
cancels_of n = if n == 0 then Some None else (if n == 1 then Some (Some Lsp) else (if n == 2 then Some (Some Mcp) else None))

abbrev pub flag_of : ℕ → Option Bool
flag_of n = if n == 0 then Some false else (if n == 1 then Some true else None)

-- 0 stands for 100,000, and the greatest for any number
abbrev pub entries_of : ℕ → Option ℕ
entries_of n = if n == 0 then Some 100000 else (if n == 4294967295 then None else Some n)

abbrev of_all : Options → Framing → Order → Option Cancels → Bool → Bool → Option Chosen
of_all o framing order cancels broken nulls =
    if nat_le o.content LONGEST_CONTENT then Some (record {
      framing = framing;
      order = order;
      cancels = cancels;
      most_entries = entries_of o.entries;
      null_params = nulls;
      tells_broken = broken;
      content = or_usual LARGEST_CONTENT o.content;
      calls = or_usual 18446744073709551615 o.calls;
    }) else None

abbrev of_framing : Options → Framing → Option Chosen
of_framing o framing =
    option_and_then (λ order. option_and_then (λ cancels. option_and_then (λ broken. option_and_then (of_all o framing order cancels broken) (flag_of o.null_params)) (flag_of o.broken)) (cancels_of o.cancels)) (order_of o.order)

-- the connection's settings, where there are such: a struct of another size says nothing
abbrev pub chosen_by : Options → Option Chosen
chosen_by o = if o.size == 40 then option_and_then (of_framing o) (framing_of o.framing) else None

-- ---- what is answered

-- it has these settings, nothing has happened yet, and nothing is lent
abbrev pub IsFresh : Option Chosen → HostedConnection → Type 0
IsFresh asked h = (c : Chosen) × (asked ≡ Some c) × fresh.IsFresh c h

-- BM_SETTINGS where there are no such settings, and else BM_OK or BM_NO_MEMORY
abbrev pub IsMade : Option Chosen → ℤ → Type 0
IsMade asked code = ((c : Chosen) × (asked ≡ Some c) × ((code ≡ pos 0) ⊎ (code ≡ pos 1))) ⊎ ((asked ≡ None) × (code ≡ pos 7))

-- what there is after an answer: at BM_OK a fresh value
abbrev pub IsGivenBy : Option Chosen → ℤ → Option Held → Type 0
IsGivenBy asked (pos zero) None = ⊥
IsGivenBy asked (pos zero) (Some v) = IsFresh asked v
IsGivenBy asked (pos (suc n)) None = ⊤
IsGivenBy asked (pos (suc n)) (Some v) = ⊥
IsGivenBy asked (negsuc n) None = ⊤
IsGivenBy asked (negsuc n) (Some v) = ⊥

abbrev pub Given : Option Chosen → ℤ → Type 0
Given asked code = (m : Option Held) × IsGivenBy asked code m

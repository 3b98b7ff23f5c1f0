-- What a judge is made with.
use Rattle.std.specs.Prelude.{ℕ, ◌==◌, ◌&&◌, nat_le, Option, Some, None, option_and_then, if◌then◌else◌}
use Rattle.content_streams.specs.declared.framing.Framing.{Framing}
use Rattle.content_streams.specs.declared.framing.Framing.TheVariants.{Frames, Lines, Contents}
use Rattle.conversation_rules.specs.declared.protocol.Protocol.{Protocol}
use Rattle.conversation_rules.specs.declared.protocol.Protocol.TheVariants.{JsonRpc, Lsp, Mcp, Mcp20250618, Mcp20250326, Mcp20241105}
use Rattle.lsp_frames.specs.declared.limits.TheConstants.{LARGEST_CONTENT}
use Rattle.judge_calls.specs.declared.options.Asked.{Asked}
use Rattle.judge_calls.specs.declared.options.JudgeOptions.{JudgeOptions}

abbrev pub protocol_of : ℕ → Option Protocol
protocol_of n =
    if n == 0 then Some JsonRpc else (if n == 1 then Some Lsp else (if n == 2 then Some Mcp else
    (if n == 3 then Some Mcp20250618 else (if n == 4 then Some Mcp20250326 else (if n == 5 then Some Mcp20241105 else None)))))

abbrev pub framing_of : ℕ → Option Framing
framing_of n = if n == 0 then Some Frames else (if n == 1 then Some Lines else (if n == 2 then Some Contents else None))

-- 0 stands for the usual one
abbrev pub or_usual : ℕ → ℕ → ℕ
or_usual usual n = if n == 0 then usual else n

abbrev of_both : JudgeOptions → Protocol → Framing → Asked
of_both o protocol framing = record { protocol = protocol; framing = framing; limits = record { content = or_usual LARGEST_CONTENT o.content; ids = or_usual 1000000 o.ids } }

abbrev of_whole : JudgeOptions → Option Asked
of_whole o = option_and_then (λ protocol. option_and_then (λ framing. Some (of_both o protocol framing)) (framing_of o.framing)) (protocol_of o.rules)

-- what is asked for, where there is such a judge: a struct of another size says nothing
abbrev pub asked_by : JudgeOptions → Option Asked
asked_by o = if (o.size == 20) && nat_le o.content LARGEST_CONTENT then of_whole o else None

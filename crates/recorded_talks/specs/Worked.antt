-- Lines whose meaning a reader sees.
use Rattle.std.specs.Prelude.{◌≡◌, [], ◌∷◌, Some, None, codes}
use Rattle.content_streams.specs.declared.framing.Framing.TheVariants.{Lines, Contents}
use Rattle.conversation_rules.specs.Judging.{Wrote, Closed, Failed}
use Rattle.conversation_rules.specs.declared.protocol.Protocol.TheVariants.{Lsp, Mcp, Mcp20250326}
use Rattle.conversation_rules.specs.declared.side.Side.TheVariants.{Client, Server}
use Rattle.recorded_talks.specs.Recorded.{head_of, said_by}

-- what first lines say
pub record WorkedHeads : Type 0 where
  pub usual : head_of (codes "judge 1 lsp lines") ≡ Some (record { protocol = Lsp; framing = Lines })
  pub blanks : head_of (codes "judge 1 mcp:2025-03-26 contents  ") ≡ Some (record { protocol = Mcp20250326; framing = Contents })
  pub newest : head_of (codes "judge 1 mcp:2025-11-25 lines") ≡ Some (record { protocol = Mcp; framing = Lines })
  pub other_version : head_of (codes "judge 2 lsp lines") ≡ None
  pub other_rules : head_of (codes "judge 1 http lines") ≡ None
  pub other_framing : head_of (codes "judge 1 jsonrpc words") ≡ None
  pub remark : head_of (codes "# a remark") ≡ None

-- what the others say: `{` and an LF are the bytes 7b and 0a
pub record WorkedLines : Type 0 where
  pub bytes : said_by (codes "> 7b0A") ≡ Some (Some (Wrote Client (123 ∷ 10 ∷ [])))
  pub time : said_by (codes "< 7b # 3") ≡ Some (Some (Wrote Server (123 ∷ [])))
  pub closed : said_by (codes "< closed #3600012") ≡ Some (Some (Closed Server))
  pub failed : said_by (codes "> failed ") ≡ Some (Some (Failed Client))
  pub no_bytes : said_by (codes "> # 5") ≡ Some (Some (Wrote Client []))
  pub empty : said_by [] ≡ Some None
  pub remark : said_by (codes "# > zz") ≡ Some None
  pub digit_too_few : said_by (codes "> 7b7") ≡ None
  pub no_digit : said_by (codes "> 7g") ≡ None
  pub no_blank : said_by (codes ">7b") ≡ None
  pub no_side : said_by (codes "= 7b") ≡ None
  pub other_end : said_by (codes "> ended") ≡ None
  pub no_time : said_by (codes "> 7b # 1x") ≡ None
  pub long_time : said_by (codes "> 7b # 1234567890123456") ≡ None
  pub no_text : said_by (35 ∷ 255 ∷ []) ≡ None

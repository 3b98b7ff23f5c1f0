use Rattle.std.proofs.Common.{◌≡◌, ◌≢◌, ap, refl, sym}
use Rattle.lsp_frames.specs.declared.frame.FrameFault.{FrameFault}
use Rattle.lsp_frames.specs.declared.frame.FrameFault.TheVariants.{BadHead, BadLength, TwoLengths, TooLarge, NoLength, HeadTooLong, Truncated, LongLength}
use Rattle.stream_session.specs.Promise.{told}
use Rattle.stream_session.proofs.stream.told.Goals as goal

others_stay : (fault : FrameFault) → fault ≢ LongLength → fault ≡ told fault
others_stay BadHead other = refl
others_stay BadLength other = refl
others_stay TwoLengths other = refl
others_stay TooLarge other = refl
others_stay NoLength other = refl
others_stay HeadTooLong other = refl
others_stay Truncated other = refl
others_stay LongLength other = absurd (other refl)

pub returns-in-LongLength : goal.returns-in-LongLength
returns-in-LongLength c = sym (ap told c.in-LongLength.is)

pub returns-in_default : goal.returns-in_default
returns-in_default c = others_stay c.args.fault c.in_default.not-LongLength

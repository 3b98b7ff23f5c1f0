use Rattle.content_streams.specs.Lines.{is_lf}
use Rattle.content_streams.proofs.LineFeeds.{first_is_position}
use Rattle.content_streams.proofs.line_feed.place_of_lf.Goals as goal

pub returns-clause-position : goal.returns-clause-position
returns-clause-position c = first_is_position is_lf c.args.bytes.now c.memchr.result c.memchr.ensures

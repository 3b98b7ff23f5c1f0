-- Each text is that of its error.
use Rattle.message_ids.specs.declared.standard.Standard.TheVariants.{ParseError, InvalidRequest, MethodNotFound, InvalidParams, InternalError, Cancelled, NoReply, InvalidReply}
use Rattle.message_texts.proofs.Fixed.{written-of}
use Rattle.message_texts.proofs.answers.fixed_error_text.Goals as goal

pub returns-in-ParseError : goal.returns-in-ParseError
returns-in-ParseError c = written-of ParseError c.args.standard c.in-ParseError.is

pub returns-in-InvalidRequest : goal.returns-in-InvalidRequest
returns-in-InvalidRequest c = written-of InvalidRequest c.args.standard c.in-InvalidRequest.is

pub returns-in-MethodNotFound : goal.returns-in-MethodNotFound
returns-in-MethodNotFound c = written-of MethodNotFound c.args.standard c.in-MethodNotFound.is

pub returns-in-InvalidParams : goal.returns-in-InvalidParams
returns-in-InvalidParams c = written-of InvalidParams c.args.standard c.in-InvalidParams.is

pub returns-in-InternalError : goal.returns-in-InternalError
returns-in-InternalError c = written-of InternalError c.args.standard c.in-InternalError.is

pub returns-in-Cancelled : goal.returns-in-Cancelled
returns-in-Cancelled c = written-of Cancelled c.args.standard c.in-Cancelled.is

pub returns-in-NoReply : goal.returns-in-NoReply
returns-in-NoReply c = written-of NoReply c.args.standard c.in-NoReply.is

pub returns-in-InvalidReply : goal.returns-in-InvalidReply
returns-in-InvalidReply c = written-of InvalidReply c.args.standard c.in-InvalidReply.is

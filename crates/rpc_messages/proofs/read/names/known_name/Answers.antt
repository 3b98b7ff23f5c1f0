use Rattle.std.proofs.Common.{codes, refl}
use Rattle.rpc_messages.proofs.Named.{lex-version, lex-method, lex-params, lex-result, lex-id, named, from_rest}
use Rattle.rpc_messages.proofs.read.names.known_name.Goals as goal

pub returns-then-begins-clause-name : goal.returns-then-begins-clause-name
returns-then-begins-clause-name c =
    (codes "jsonrpc", named c.args.text.now (codes "\"jsonrpc\":") (codes "jsonrpc") c.args.at lex-version (from_rest c.args.text.now (codes "\"jsonrpc\":") c.args.at (c.if-begins.ensures.stands refl)) refl, refl)

pub returns-then-begins-2-clause-name : goal.returns-then-begins-2-clause-name
returns-then-begins-2-clause-name c =
    (codes "method", named c.args.text.now (codes "\"method\":") (codes "method") c.args.at lex-method (from_rest c.args.text.now (codes "\"method\":") c.args.at (c.if-begins-2.ensures.stands refl)) refl, refl)

pub returns-then-begins-3-clause-name : goal.returns-then-begins-3-clause-name
returns-then-begins-3-clause-name c =
    (codes "params", named c.args.text.now (codes "\"params\":") (codes "params") c.args.at lex-params (from_rest c.args.text.now (codes "\"params\":") c.args.at (c.if-begins-3.ensures.stands refl)) refl, refl)

pub returns-then-begins-4-clause-name : goal.returns-then-begins-4-clause-name
returns-then-begins-4-clause-name c =
    (codes "result", named c.args.text.now (codes "\"result\":") (codes "result") c.args.at lex-result (from_rest c.args.text.now (codes "\"result\":") c.args.at (c.if-begins-4.ensures.stands refl)) refl, refl)

pub returns-then-begins_short-clause-name : goal.returns-then-begins_short-clause-name
returns-then-begins_short-clause-name c =
    (codes "id", named c.args.text.now (codes "\"id\":") (codes "id") c.args.at lex-id (from_rest c.args.text.now (codes "\"id\":") c.args.at (c.if-begins_short.ensures.stands refl)) refl, refl)

use Rattle.std.proofs.Common.{◌≡◌, sym, ◌∙◌}
use Rattle.std.specs.Prelude.{codes}
use Rattle.std.proofs.lemmas.Slice.Eq.{bytes_eq-Decides}
use Rattle.connection_messages.proofs.Enveloped.{version_is}
use Rattle.connection_messages.proofs.read.compact.has_version_2.Goals as goal

pub returns-in-Some : goal.returns-in-Some
returns-in-Some c is j numbers names =
    let same : c.in-Some.version.now ≡ codes "\"2.0\"" = (bytes_eq-Decides c.in-Some.version.now (codes "\"2.0\"")).0 (sym c.is_word.ensures ∙ is) in
    version_is c.args.envelope.now.version c.in-Some.version j c.in-Some.is same numbers names.version

-- The versions of tables.
use Rattle.std.specs.Prelude.{ℤ, pos, codes, Option, Some, None, option_and_then, if◌then◌else◌}
use Rattle.std.specs.Ordering.{int_eq}
use Rattle.toml.specs.Data.{as_integer, get_member, Members}
use Rattle.table_reading.specs.declared.version.Version.{Version}
use Rattle.table_reading.specs.declared.version.Version.TheVariants as version

-- the version of that number
abbrev pub version_numbered : ℤ → Option Version
version_numbered z = if int_eq z (pos 1) then Some version.One else if int_eq z (pos 2) then Some version.Two else None

-- the version that the document's `version` names
abbrev pub version_of : Members → Option Version
version_of top = option_and_then version_numbered (option_and_then as_integer (get_member (codes "version") top))

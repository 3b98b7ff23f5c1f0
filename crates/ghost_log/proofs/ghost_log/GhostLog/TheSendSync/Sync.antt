-- A log owns nothing, so threads may share it.
use denote.Param.Send.{IsSync, part_keyless}
use Rattle.ghost_log.specs.contracts.ghost_log.GhostLog.{the_row}
use Rattle.ghost_log.proofs.ghost_log.GhostLog.TheSendSync.Send.{send}

pub sync : IsSync the_row
sync = record { shared = λ d b o κ q. part_keyless the_row send q d b o }

use denote.RattleType.{RattleType}
use denote.Param.Send.{IsSync}
use Rattle.am_block_row.proofs.Crossing.{row-sync}
use Rattle.am_block_row.specs.contracts.Row.{the_row}

pub sync : (R : RattleType) → IsSync R → IsSync (the_row R)
sync = row-sync

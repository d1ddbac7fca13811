use denote.RattleType.{RattleType}
use denote.Param.Send.{IsSend}
use Rattle.am_block_row.proofs.Crossing.{row-send}
use Rattle.am_block_row.specs.contracts.Row.{the_row}

pub send : (R : RattleType) → IsSend R → IsSend (the_row R)
send = row-send

-- What a body stands for, and what its parts keep.
use Rattle.std.specs.Prelude.{◌≡◌}
use Rattle.am_block.specs.Pools.{IsBlock, size}
use Rattle.am_handlers.specs.Handlers.{IsTable as IsHandlers}
use Rattle.am_translate.specs.Tables.{IsTable}
use Rattle.am_endpoint_body.specs.Views.{View, body_over}
use Rattle.am_endpoint_body.specs.declared.Body.TheInside.{Inside}

abbrev pub view_of : Inside → View
view_of b = record { pool = b.translate.pool; body = body_over b.tag b.sum b.accepted b.translate b.handlers b.block; flights = b.block.in_flight }

pub record IsSound (b : Inside) : Type 0 where
  pub block : IsBlock b.block
  pub slots : size b.block ≡ 80
  pub table : IsTable b.translate
  pub handlers : IsHandlers b.handlers

-- A transfer, with its block as a list.
use Rattle.std.specs.Prelude.{ℕ, ◌+◌, ◌≤◌, List, length}
use Rattle.am_names.specs.declared.EndpointId.{EndpointId}

pub record TransferLists : Type 0 where
  pub dest : EndpointId
  pub offset : ℕ
  pub bytes : List ℕ

-- The block has 1 to 512 bytes, and ends at most where a segment may end.
pub record IsFitting (t : TransferLists) : Type 0 where
  pub some : 1 ≤ length t.bytes
  pub few : length t.bytes ≤ 512
  pub ends : t.offset + length t.bytes ≤ 65_536

use Rattle.std.proofs.Common.{◌≡◌, ℕ, Some, [], length}
use Rattle.std.specs.Prelude.{slice_get}
use Rattle.std.specs.Global.{Vec}
use Rattle.am_wire.specs.declared.receiving.LinkIn.{LinkIn}
use Rattle.am_wire.proofs.all_links.spreading.open_columns.Given as goal

abbrev pub invariant-loop-node : goal.invariant-loop-node
invariant-loop-node l =
    record {
      all : length l.columns.items ≡ l._node;
      none : (k : ℕ) (column : Vec LinkIn) → slice_get l.columns.items k ≡ Some column → column.items ≡ [];
    }

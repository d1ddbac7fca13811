-- The links of all nodes, closed.
use Rattle.std.specs.Prelude.{◌≡◌, ℕ, Some, List, ◌∷◌, ◌++◌, length, slice_get}
use Rattle.std.specs.Global.{Vec}
use Rattle.am_wire.specs.Links.{IsLink, emitted, received, released}
use Rattle.am_wire.specs.declared.closing.LinkRecord.{LinkRecord}
use Rattle.am_wire.specs.declared.receiving.LinkIn.{LinkIn}
use Rattle.am_wire.specs.declared.sending.LinkOut.{LinkOut}

-- what went over the link of these two ends
pub record IsRecordOf (o : LinkOut) (i : LinkIn) (r : LinkRecord) : Type 0 where
  pub emitted' : r.emitted.items ≡ emitted o
  pub received' : r.received.items ≡ received i
  pub shaped : r.received.items ++ r.left.items ≡ released o

-- ---- the links from a node, where the other end of each is the first one that is left at its node

pub record IsLinkedRow (outs : List LinkOut) (ins : List (Vec LinkIn)) : Type 0 where
  pub all : length outs ≡ length ins
  pub each : (to : ℕ) (o : LinkOut) (is : Vec LinkIn) → slice_get outs to ≡ Some o → slice_get ins to ≡ Some is → (i : LinkIn) × (rest : List LinkIn) × (is.items ≡ i ∷ rest) × IsLink o i

-- each was closed, and its other end is gone
pub record IsRowClosed (outs : List LinkOut) (ins : List (Vec LinkIn)) (records : List LinkRecord) (ins' : List (Vec LinkIn)) : Type 0 where
  pub all : length records ≡ length outs
  pub left : length ins' ≡ length ins
  pub each : (to : ℕ) (o : LinkOut) (is is' : Vec LinkIn) (r : LinkRecord) → slice_get outs to ≡ Some o → slice_get ins to ≡ Some is → slice_get ins' to ≡ Some is' → slice_get records to ≡ Some r → (i : LinkIn) × (is.items ≡ i ∷ is'.items) × IsRecordOf o i r

-- ---- the links of all nodes

-- there is one from each node to each, with both its ends
pub record AreLinkedEnds (outs : List (Vec LinkOut)) (ins : List (Vec LinkIn)) : Type 0 where
  pub all : length ins ≡ length outs
  pub rows : (from : ℕ) (os : Vec LinkOut) → slice_get outs from ≡ Some os → length os.items ≡ length outs
  pub columns : (to : ℕ) (is : Vec LinkIn) → slice_get ins to ≡ Some is → length is.items ≡ length outs
  pub each : (from to : ℕ) (os : Vec LinkOut) (is : Vec LinkIn) (o : LinkOut) (i : LinkIn) → slice_get outs from ≡ Some os → slice_get ins to ≡ Some is → slice_get os.items to ≡ Some o → slice_get is.items from ≡ Some i → IsLink o i

pub record AreClosed (outs : List (Vec LinkOut)) (ins : List (Vec LinkIn)) (records : List (Vec LinkRecord)) : Type 0 where
  pub all : length records ≡ length outs
  pub rows : (from : ℕ) (os : Vec LinkOut) (rs : Vec LinkRecord) → slice_get outs from ≡ Some os → slice_get records from ≡ Some rs → length rs.items ≡ length os.items
  pub each : (from to : ℕ) (os : Vec LinkOut) (is : Vec LinkIn) (rs : Vec LinkRecord) (o : LinkOut) (i : LinkIn) (r : LinkRecord) → slice_get outs from ≡ Some os → slice_get ins to ≡ Some is → slice_get records from ≡ Some rs → slice_get os.items to ≡ Some o → slice_get is.items from ≡ Some i → slice_get rs.items to ≡ Some r → IsRecordOf o i r

-- A row may cross threads where its items may, and a deed where its allocator may.
use Rattle.std.specs.Prelude.{ℕ, ◌+◌, List, [], ◌∷◌, Option, Some, None}
use Rattle.std.specs.Mem.{type_size}
use base.Fraction.{full_share}
use base.Shift.{Keyless}
use denote.RattleType.{RattleType}
use denote.RawPtr.{Ptr, block_ptr, null_ptr}
use denote.Struct.Struct.{exits_of}
use denote.Struct.Owning.{shape, fields, to}
use denote.Exit.{Exit, unchanged, leaves, hidden, under}
use denote.Param.Send.{IsSend, IsSync, Quiet, Frees, Common, AllSend, part_keyless, owning_send, struct_send, struct_sync, sendable}
use Rattle.std.specs.declared.alloc.Allocator.{Ghosts}
use Rattle.am_block_row.specs.Ownership.{places, places_lent, row_owned, row_lent}
use Rattle.am_block_row.specs.contracts.Row as Row
use Rattle.am_block_row.specs.contracts.Deed as Deed

quiet : {X Y : Type 0} (to : X → Y) (e : Exit Y) → Quiet e → Quiet (hidden (under to e))
quiet to unchanged q = λ x w. tt
quiet to (leaves L l S s r) q = λ x. q (to x)

module _ (R : RattleType) where
  places-keyless : IsSend R → (b o : ℕ) (cs : List (Option R.Denot)) → Keyless (places R b o cs)
  places-keyless s b o [] = tt
  places-keyless s b o (None ∷ cs) = (tt, places-keyless s b (o + type_size R) cs)
  places-keyless s b o (Some x ∷ cs) = (part_keyless R s full_share x b o, places-keyless s b (o + type_size R) cs)

  row-keyless : IsSend R → (p : Ptr) (cs : List (Option R.Denot)) → Keyless (row_owned R p cs)
  row-keyless s null_ptr cs = tt
  row-keyless s (block_ptr b o) cs = (tt, places-keyless s b o cs)

  places-common : IsSync R → (b o : ℕ) (cs : List (Option R.Denot)) → Common (places_lent R b o cs)
  places-common s b o [] κ = tt
  places-common s b o (None ∷ cs) κ = (tt, places-common s b (o + type_size R) cs κ)
  places-common s b o (Some x ∷ cs) κ = (s.shared x b o κ, places-common s b (o + type_size R) cs κ)

  row-common : IsSync R → (p : Ptr) (cs : List (Option R.Denot)) → Common (row_lent R p cs)
  row-common s null_ptr cs κ = tt
  row-common s (block_ptr b o) cs κ = (tt, places-common s b o cs κ)

  pub row-send : IsSend R → IsSend (Row.the_row R)
  row-send s =
      let it = Row.the_type R in
      let all : AllSend (fields it) = (search sendable, tt) in
      owning_send it all (λ d. row-keyless s d.at d.places) (λ k. quiet (to it) (exits_of k (fields it)) ((struct_send (shape it) all).leaving k))

  pub row-sync : IsSync R → IsSync (Row.the_row R)
  row-sync s =
      let it = Row.the_type R in
      record { shared = λ d b o κ. ((struct_sync (shape it) (search sendable, tt)).shared (to it d) b o κ, row-common s d.at d.places κ) }

  module _ (A : RattleType) (g : Ghosts A.Denot) where
    pub deed-send : Frees g g.dealloc_token → IsSend (Deed.the_row R A g)
    deed-send f =
        let it = Deed.the_type R A g in
        let all : AllSend (fields it) = (search sendable, tt) in
        owning_send it all (λ d. f.frees d.alloc _ d.at) (λ k. quiet (to it) (exits_of k (fields it)) ((struct_send (shape it) all).leaving k))

    pub deed-sync : IsSync (Deed.the_row R A g)
    deed-sync =
        let it = Deed.the_type R A g in
        record { shared = λ d b o κ. ((struct_sync (shape it) (search sendable, tt)).shared (to it d) b o κ, tt) }

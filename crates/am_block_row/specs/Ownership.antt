-- What memory a row of places is, at items of the row R.
use Rattle.std.specs.Prelude.{ℕ, ◌+◌, ◌*◌, ◌^◌, List, [], ◌∷◌, length, Option, Some, None}
use Rattle.std.specs.Mem.{type_size}
use base.Fraction.{full_share}
use base.Fml.{Lft, Fml, ftrue, ffalse, fsep, flt, froom}
use mir.Syntax.{Ty, ty_array}
use mir.Raw.{raw}
use denote.RattleType.{RattleType}
use denote.Memory.{lone, part_at, shared_of}
use denote.Sharing.{nothing, said, beside}
use denote.RawPtr.{Ptr, block_ptr, null_ptr}

module _ (R : RattleType) where
  -- where place i of the row at p lies
  abbrev pub place_at : Ptr → ℕ → Ptr
  place_at (block_ptr b o) i = block_ptr b (i * type_size R + o)
  place_at null_ptr i = null_ptr

  -- a place, o bytes into the block b: an item or room for one
  abbrev pub place : ℕ → ℕ → Option R.Denot → Fml
  place b o None = froom (raw (lone R.mir)) b o
  place b o (Some x) = part_at R full_share x b o

  -- places side by side
  abbrev pub places : ℕ → ℕ → List (Option R.Denot) → Fml
  places b o [] = ftrue
  places b o (c ∷ cs) = fsep (place b o c) (places b (o + type_size R) cs)

  -- they take fewer than 2 ^ 63 bytes
  abbrev pub fits : List (Option R.Denot) → Fml
  fits cs = flt (length cs * type_size R) (2 ^ 63)

  abbrev pub row_owned : Ptr → List (Option R.Denot) → Fml
  row_owned (block_ptr b o) cs = fsep (fits cs) (places b o cs)
  row_owned null_ptr cs = ffalse

  -- what a `&` to a row shows of a place: its item
  abbrev pub place_lent : ℕ → ℕ → Option R.Denot → Lft → Fml
  place_lent b o None = nothing
  place_lent b o (Some x) = shared_of R x b o

  abbrev pub places_lent : ℕ → ℕ → List (Option R.Denot) → Lft → Fml
  places_lent b o [] = nothing
  places_lent b o (c ∷ cs) = beside (place_lent b o c) (places_lent b (o + type_size R) cs)

  abbrev pub row_lent : Ptr → List (Option R.Denot) → Lft → Fml
  row_lent (block_ptr b o) cs = beside (said (fits cs)) (places_lent b o cs)
  row_lent null_ptr cs = said ffalse

  -- the right to free a block of n places, by the allocator's token
  abbrev pub deed_owned : (Ty → Ptr → Fml) → Ptr → ℕ → Fml
  deed_owned token p n = token (raw (ty_array (lone R.mir) n)) p

-- A borrow of a row makes a `&` to it, which shows each item.
use Prim.Native.Nat.{ℕ, ◌+◌}
use Rattle.std.specs.Prelude.{List, [], ◌∷◌, Option, Some, None}
use Rattle.std.specs.Mem.{type_size}
use seplogic.Ra.Ura.{Ura}
use base.Fml.{Lft, Incl, ftrue, ffalse}
use types.Logic.{Logic}
use denote.RattleType.{RattleType, RowLaws}
use denote.Param.Laws.{Laws}
use denote.RawPtr.{Ptr, block_ptr, null_ptr}
use denote.Sharing.{ShrLaws, said}
use denote.SharingLaws.{beside_shr_laws, nothing_shr_laws, said_shr_laws}
use denote.Shares.{Shares-less}
use denote.Struct.Lending.{Lends, Lends-both, Lends-nothing, Lends-said, Lends-false}
use Rattle.am_block_row.specs.Ownership.{place, places, place_lent, places_lent, fits, row_owned, row_lent}

module _ (R : RattleType) (L : RowLaws R) where
  place_lent_laws : (b o : ℕ) (c : Option R.Denot) → ShrLaws (place_lent R b o c)
  place_lent_laws b o None = nothing_shr_laws
  place_lent_laws b o (Some x) = L x b o

  places_lent_laws : (b o : ℕ) (cs : List (Option R.Denot)) → ShrLaws (places_lent R b o cs)
  places_lent_laws b o [] = nothing_shr_laws
  places_lent_laws b o (c ∷ cs) = beside_shr_laws _ _ (place_lent_laws b o c) (places_lent_laws b (o + type_size R) cs)

  pub row_lent_laws : (p : Ptr) (cs : List (Option R.Denot)) → ShrLaws (row_lent R p cs)
  row_lent_laws null_ptr cs = said_shr_laws ffalse tt
  row_lent_laws (block_ptr b o) cs = beside_shr_laws _ _ (said_shr_laws (fits R cs) tt) (places_lent_laws b o cs)

module _ {M : Type 1} {𝓤 : Ura M} (𝓛 : Logic 𝓤) (l : Lft) (R : RattleType) (L : Laws R) (within : Incl l R.lives) where
  place-lends : (b o : ℕ) (c : Option R.Denot) → Lends 𝓛 (place R b o c) (place_lent R b o c) l
  place-lends b o None = Lends-nothing 𝓛 (place R b o None) l
  place-lends b o (Some x) = λ κ ts. Shares-less 𝓛 R R.lives l within (L.shares 𝓛) x κ ts b o

  places-lend : (b o : ℕ) (cs : List (Option R.Denot)) → Lends 𝓛 (places R b o cs) (places_lent R b o cs) l
  places-lend b o [] = Lends-nothing 𝓛 ftrue l
  places-lend b o (c ∷ cs) =
      let next = o + type_size R in
      Lends-both 𝓛 (place R b o c) (places R b next cs) (place_lent R b o c) (places_lent R b next cs) l (place-lends b o c) (places-lend b next cs)

  pub row-lends : (p : Ptr) (cs : List (Option R.Denot)) → Lends 𝓛 (row_owned R p cs) (row_lent R p cs) l
  row-lends null_ptr cs = Lends-false 𝓛 (said ffalse) l
  row-lends (block_ptr b o) cs = Lends-both 𝓛 (fits R cs) (places R b o cs) (said (fits R cs)) (places_lent R b o cs) l (Lends-said 𝓛 (fits R cs) tt l)
      (places-lend b o cs)

-- A `&` to a row shows each item.
use mathlib.Core.List.{[], ◌++◌}
use base.Fml.{Incl-trans}
use contract.BorrowLft.{meet_⊑_left}
use denote.RattleType.{RattleType}
use denote.RawPtr.{RawPtr}
use denote.Param.Laws.{Laws}
use denote.Param.Shared.{copy_shared}
use denote.Struct.Laws.{field_copy}
use denote.Struct.Lending.{of_Lends}
use Rattle.std.specs.contracts.marker.PhantomData as marker
use Rattle.am_block_row.specs.contracts.Row as made
use Rattle.am_block_row.proofs.Row.TheLaw.Statement.{statement}
use Rattle.am_block_row.proofs.Lending.{row_lent_laws, row-lends}

pub shares : (R : RattleType) (L : Laws R) → statement R L
shares R L =
    let within = Incl-trans (meet_⊑_left (R.lives ++ []) _) (meet_⊑_left R.lives []) in
    of_Lends (made.struct R) (made.the_codes R.Denot R.coded (marker.the_row RawPtr).coded) (made.the_heap R) (made.the_lent R)
    (λ d p. row_lent_laws R L.shr_laws d.at d.places) (copy_shared (marker.the_field RawPtr) (field_copy (marker.the_type RawPtr) tt), tt)
    (λ M 𝓤 𝓛 d p. row-lends 𝓛 (made.the_row R).lives R L within d.at d.places)

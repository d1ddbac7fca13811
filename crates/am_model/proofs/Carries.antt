-- A carry that the definitions give may arrive at its destination, and a receipt that decides too.
use Rattle.std.proofs.Common.{◌≡◌, true, ◌&&◌, refl}
use Rattle.std.proofs.lemmas.Bool.{and_parts}
use Rattle.am_office_entries.specs.declared.Call.{Call}
use Rattle.am_office_entries.specs.declared.Call.TheVariants as Calls
use Rattle.am_model.specs.History.{are_credits_in_range, is_byte, is_call_in_range, is_kind_in_range, is_eight_bytes}
use Rattle.am_model.specs.Layout.{Layout, declared}
use Rattle.am_model.specs.Allowed.{are_numbers_in_range}

-- a call whose numbers are in range in a layout may be made there
pub numbers_in_range : (layout : Layout) (c : Call) → is_call_in_range layout c ≡ true → are_numbers_in_range layout.pool c ≡ true
numbers_in_range layout (Calls.Map index name tag credits) h =
    (and_parts (is_byte index && declared layout name && is_eight_bytes tag.0) (are_credits_in_range layout.pool credits) h).1
numbers_in_range layout (Calls.SetHandler index kind) h = (and_parts (is_byte index) (is_kind_in_range kind) h).1
numbers_in_range layout c h = refl

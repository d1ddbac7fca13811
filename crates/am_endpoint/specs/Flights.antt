-- The slot of a message in flight that an entry settles.
use Rattle.std.specs.Prelude.{◌≡◌, ℕ, Option, None, Some, List}
use Rattle.am_names.specs.declared.Serial.{Serial}
use Rattle.am_endpoint_body.specs.Flights.{slot_of}
use Rattle.am_model.specs.declared.Flying.{Flying}

-- this is the slot of the first message in flight that has the serial, where there is a serial
abbrev pub IsSlotOf : Option Serial → List Flying → List ℕ → ℕ → Type 0
IsSlotOf None flying flights slot = ⊥
IsSlotOf (Some serial) flying flights slot = slot_of serial flying flights ≡ Some slot

-- What a seat knows and holds, and at whose table it sits: clauses say so by these words, wherever the seat keeps it.
use Rattle.std.specs.Prelude.{◌≡◌, ℕ, List, Option}
use Rattle.atomic_table.specs.Table.{Me}
use Rattle.atomic_table.specs.Seated.{TableId}
use Rattle.am_places.specs.declared.board.Pass.{Pass}
use Rattle.am_places.specs.declared.places.Places.{Places}
use Rattle.am_places.specs.declared.places.Seat.{Seat}

-- its pass, and what is in its hand: each book that it took, by the endpoint's position, the last one first
abbrev pub me_of : {B I T : Type 0} {g : _} → Seat B I T g → Me (Option B) (Pass I T)
me_of seat = seat.token.me

abbrev pub pass_of : {B I T : Type 0} {g : _} → Seat B I T g → Pass I T
pass_of seat = seat.token.me.0

abbrev pub hand_of : {B I T : Type 0} {g : _} → Seat B I T g → List (ℕ × Option B)
hand_of seat = seat.token.me.1

-- the table of these places, at which their seats sit
abbrev pub table_in : {B I T : Type 0} → Places B I T → TableId
table_in places = places.board.shared.table_id

abbrev pub SitsAt : {B I T : Type 0} {g : _} → Places B I T → Seat B I T g → Type 0
SitsAt places seat = seat.token.table_id ≡ table_in places

-- it sits where it sat, and has the mark that it had
abbrev pub StaysSeated : {B I T : Type 0} {g : _} → Seat B I T g → Seat B I T g → Type 0
StaysSeated old new = (new.token.table_id ≡ old.token.table_id) × (new.mark ≡ old.mark)

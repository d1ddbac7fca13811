-- What each worker keeps before its first turn.
use Rattle.std.specs.Prelude.{◌≡◌, ◌≢◌, ℕ, ◌+◌, true, None, List, [], map}
use Rattle.am_names.specs.declared.EndpointId.{EndpointId}
use Rattle.am_names.specs.declared.NodeId.{NodeId}
use Rattle.am_names.specs.Names.{same_end}
use Rattle.am_endpoint_body.specs.declared.settings.EndSettings.{EndSettings}
use Rattle.am_swap_device.specs.Memory.{Store}
use Rattle.am_model.specs.Endpoint.{fresh, is_on_disk}
use Rattle.am_model.specs.Layout.{AllAre, AreApart}
use Rattle.am_driver_moves.specs.Pages.{HoldsBody}
use Rattle.am_workers_laws.specs.declared.books.EndBook.{EndBook}
use Rattle.am_scenario_types.specs.Lists.{ScenarioLists}
use Rattle.am_model_scripts.specs.Layout.{layout_of}
use Rattle.am_workers_laws.specs.Invariants.Seats.{IsBorn}
use Rattle.am_workers_laws.specs.Invariants.Stands.{fresh_pass}
use Rattle.am_workers_laws.specs.Invariants.Works.{InterfaceWorks, ThreadWorks}

abbrev pub ids_of : List EndBook → List EndpointId
ids_of books = map (λ (b : EndBook). b.end.value.settings.id) books

-- the books of a node before its first turn: no endpoint has two, each was born as the layout says, and none has an entry
pub record AreFresh (s : ScenarioLists) (books : List EndBook) : Type 0 where
  pub apart : AreApart same_end (ids_of books)
  pub born : AllAre (λ (b : EndBook). IsBorn (layout_of s) b.end.value.settings) books
  pub none : AllAre (λ (b : EndBook). b.end.value.log ≡ []) books

-- where an endpoint begins on disk, the swap holds the image of the body that it begins with
abbrev pub IsOpenIn : Store → EndSettings → Type 0
IsOpenIn swap set = is_on_disk set.place ≡ true → HoldsBody swap set.pool set.id (fresh set.tag set.place).body

-- a thread, and an interface, at a seat that was just made and is not the driver's
abbrev pub ThreadsBegin : Type 0
ThreadsBegin = (s : ScenarioLists) (books : List EndBook) (named : List EndpointId) (thread k seats frames : ℕ) → AreFresh s books → k + 1 ≢ seats → ThreadWorks s (ids_of books) thread 0 0 0 (fresh_pass books named k seats frames)

abbrev pub InterfacesBegin : Type 0
InterfacesBegin = (s : ScenarioLists) (books : List EndBook) (named : List EndpointId) (node : NodeId) (k seats frames : ℕ) → AreFresh s books → k + 1 ≢ seats → InterfaceWorks s (ids_of books) node 0 [] (λ (to : NodeId). []) (λ (from : NodeId). []) None (fresh_pass books named k seats frames)

-- No log is longer than it may be.
use Rattle.std.specs.Prelude.{slice_get}
use Rattle.std.specs.List.{filter, position}
use Rattle.std.proofs.Common.{◌≡◌, ℕ, ◌<◌, ◌≤◌, true, false, List, map, length, Option, Some, None, refl, ap, ◌∙◌, arith}
use Rattle.am_lemmas.proofs.Lists.{slice_get-None}
use Rattle.am_names.specs.declared.EndpointId.{EndpointId}
use Rattle.am_names.specs.declared.NodeId.{NodeId}
use Rattle.am_office_entries.specs.declared.Entry.{Entry}
use Rattle.am_office_entries.specs.Entries.{touches, touches_node}
use Rattle.am_model.specs.Layout.{Layout, declared}
use Rattle.am_model.proofs.Alls.{all_at}
use Rattle.am_endpoint.specs.View.{EndpointView}
use Rattle.am_iface.specs.View.{InterfaceView}
use Rattle.am_driver_moves.specs.Logs.{kept}
use Rattle.am_machine.specs.Ends.{is_of, setting_in}
use Rattle.am_machine.specs.Interfaces.{AreInterfaces}
use Rattle.am_machine.specs.Kept.{IsShort, IsTied}
use Rattle.am_machine.proofs.Applied.{IsHere, own_here}
use Rattle.am_machine.proofs.Joint.{interface_there}
use Rattle.am_machine.proofs.Looks.{end_unknown}
use Rattle.am_machine.proofs.Places.{found}
use Rattle.am_machine.proofs.Tied.{kept_at}

-- no log of an endpoint is longer than its settings have it
pub end_short : (layout : Layout) (vs : List EndpointView) (journal : List Entry) (e : EndpointId) → layout.ends ≡ map setting_in (map kept vs) →
    IsTied layout (map kept vs) journal → declared layout e ≡ true → length (filter (touches e) journal) ≤ layout.log
end_short layout vs journal e ends tied known = by_place (position (is_of e) vs) refl
  where
    by_place : (o : Option ℕ) → position (is_of e) vs ≡ o → length (filter (touches e) journal) ≤ layout.log
    by_place None at = absurd (let both : false ≡ true = end_unknown layout vs e ends at ∙ known in cc)
    by_place (Some k) at =
        let f = found vs e k at in
        let one = f.view in
        let here : IsHere vs e k one = record { at = f.at; id = f.id; within = f.within } in
        let own = own_here layout vs journal e k one tied here in
        let few : length one.log ≤ one.settings.log = all_at IsShort (map kept vs) k (kept one) tied.short (kept_at vs k one f.at) in
        omega (arith, few, own.limit, ap (λ (xs : List Entry). length xs) (own.log ∙ ap (λ (d : EndpointId). filter (touches d) journal) f.id))

-- so is that of the interface of each node
pub node_short : (layout : Layout) (journal : List Entry) (is : List InterfaceView) (node : NodeId) → AreInterfaces layout journal is → layout.direct ≡ false →
    node.0 < layout.nodes → length (filter (touches_node node) journal) ≤ layout.log
node_short layout journal is node are packet lt =
    let there = interface_there layout journal is node are packet lt in
    by_interface (slice_get is node.0) refl there
  where
    by_interface : (o : Option InterfaceView) → slice_get is node.0 ≡ o → node.0 < length is → length (filter (touches_node node) journal) ≤ layout.log
    by_interface None at there = absurd (omega (arith, slice_get-None is node.0 at, there))
    by_interface (Some i) at there =
        let one = are.each node.0 i at in
        omega (arith, one.bounded, ap (λ (xs : List Entry). length xs) one.part)

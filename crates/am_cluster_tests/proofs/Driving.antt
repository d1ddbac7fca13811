-- A driver can drive with any disk where its one endpoint isn't on its own.
use Rattle.std.specs.Prelude.{◌≡◌, ℕ, zero, suc, Option, None, Some, List, [], ◌∷◌, slice_get}
use Rattle.std.proofs.Common.{sym, ap, ◌∙◌, subst}
use mathlib.Core.Option.{some}
use lib.ListN.{get_elem?}
use Rattle.am_names.specs.declared.NodeId.{NodeId}
use Rattle.am_endpoint_body.specs.declared.settings.EndSettings.{EndSettings}
use Rattle.am_endpoint.specs.View.{state_by}
use Rattle.am_swap_device.specs.Causes.{Device}
use Rattle.am_swap_device.specs.Memory.{Store, device_of, held_for}
use Rattle.am_swap_image.specs.Image.{image}
use Rattle.am_driver_moves.specs.Choice.Lists.{ViewLists}
use Rattle.am_driver_moves.specs.declared.choice.EndView.{EndView}
use Rattle.am_places.specs.Rule.{joined, known_at}
use Rattle.am_scenario_types.specs.Lists.{ScenarioLists}
use Rattle.am_cluster_opening.specs.Crews.{IsCrew}
use Rattle.am_cluster_opening.specs.declared.crew.NodeCrew.{NodeCrew}
use Rattle.am_workers_laws.specs.Invariants.Drives.{CanDrive, KnowsPlace}
use Rattle.am_workers_laws.specs.Invariants.Seats.{EndPass}

-- the one line of a view
one_line : (line l : EndView) (k : ℕ) → slice_get (line ∷ []) k ≡ Some l → l ≡ line
one_line line l zero at = cc
one_line line l (suc k) at = absurd (let none : ◌≡◌ {A = Option EndView} None (Some l) = at in cc)

not_held : (held : Option (List ℕ)) (bytes : List ℕ) → held ≡ None → held ≡ Some bytes → ⊥
not_held held bytes none is = let both : ◌≡◌ {A = Option (List ℕ)} None (Some bytes) = sym none ∙ is in cc

pub can_with : (frames : ℕ) (node : NodeId) (view : ViewLists) (swap : Store) (device : Device) (line : EndView) (v : EndPass) → view.ends ≡ line ∷ [] →
    held_for swap.held line.id ≡ None → CanDrive frames node view (device_of swap) v → CanDrive frames node view device v
can_with frames node view swap device line v one none c =
    record {
      last = c.last;
      marked = c.marked;
      drives = c.drives;
      all = c.all;
      wide = c.wide;
      framed = c.framed;
      sized = c.sized;
      owned = c.owned;
      homes = c.homes;
      apart = c.apart;
      each = knows;
    }
  where
    knows : (k : ℕ) (set : EndSettings) (l : EndView) → get_elem? v.births k ≡ some set → slice_get view.ends k ≡ Some l →
        KnowsPlace v.frames device v.mark k set l (known_at k v)
    knows k set l at shown =
        let w = c.each k set l at shown in
        let here : l ≡ line = one_line line l k (sym (ap (λ (ls : List EndView). slice_get ls k) one) ∙ shown) in
        let id : line.id ≡ set.id = sym (ap (λ (e : EndView). e.id) here) ∙ ap (λ (e : EndView). e.id) w.shows in
        record {
          shows = w.shows;
          lies = record {
            fits = w.lies.fits;
            network = w.lies.network;
            disk = λ on. absurd (not_held (held_for swap.held set.id) (image (state_by set (joined (known_at k v).seen)).body)
                (ap (held_for swap.held) (sym id) ∙ none) (w.lies.disk on).held);
          };
          own = w.own;
          once = w.once;
        }

-- the driver of a crew with one endpoint, of which its own disk holds nothing, can drive with any disk
pub crew_can : (s : ScenarioLists) (node : NodeId) (turns : ℕ) (c : NodeCrew) (device : Device) (line : EndView) → IsCrew s node turns c →
    c.driver.view.ends ≡ line ∷ [] → held_for c.driver.swap.held line.id ≡ None → CanDrive c.places.frames node c.driver.view device c.driver.seat.token.me.0
crew_can s node turns c device line crew one none =
    subst (λ (n : ℕ). CanDrive n node c.driver.view device c.driver.seat.token.me.0) (sym crew.frames)
    (can_with s.frames node c.driver.view c.driver.swap device line c.driver.seat.token.me.0 one none crew.driver.works.can)

-- An endpoint of a cluster, by its place.
use Rattle.std.specs.Prelude.{slice_get, slice_index_or}
use Rattle.std.proofs.Common.{◌≡◌, ℕ, ◌<◌, List, map, length, Some, refl, sym, ap, ◌∙◌}
use Rattle.std.proofs.lemmas.List.{length-map}
use Rattle.am_lemmas.proofs.Lists.{slice_get-map_Some}
use Rattle.std.proofs.lemmas.Option.{slice_get-get_or}
use Rattle.am_office_entries.specs.declared.Entry.{Entry}
use Rattle.am_model.specs.History.{state_of}
use Rattle.am_model.specs.Layout.{EndSetting, Layout}
use Rattle.am_endpoint.specs.View.{EndpointView, state_after}
use Rattle.am_driver_moves.specs.Logs.{kept}
use Rattle.am_machine.specs.Ends.{setting_in}
use Rattle.am_machine.specs.Kept.{IsTied}
use Rattle.am_machine.proofs.Applied.{IsHere, state_here}

pub record IsPlaced (layout : Layout) (journal : List Entry) (k : ℕ) (one : EndpointView) : Type 0 where
  pub setting : slice_get layout.ends k ≡ Some (setting_in (kept one))
  pub state : state_after one ≡ state_of layout journal one.settings.id

pub end_placed : (layout : Layout) (vs : List EndpointView) (journal : List Entry) (k : ℕ) (one : EndpointView) → layout.ends ≡ map setting_in (map kept vs) →
    IsTied layout (map kept vs) journal → k < length vs → one ≡ slice_index_or vs k one → IsPlaced layout journal k one
end_placed layout vs journal k one ends tied within value =
    let got : slice_get vs k ≡ Some one = slice_get-get_or vs k one within ∙ ap Some (sym value) in
    let here : IsHere vs one.settings.id k one = record { at = got; id = refl; within = within } in
    record {
      setting = ap (λ (ss : List EndSetting). slice_get ss k) ends
          ∙ slice_get-map_Some setting_in (map kept vs) k (kept one) (slice_get-map_Some kept vs k one got);
      state = state_here layout vs journal one.settings.id k one tied here;
    }

-- there are as many settings as endpoints
pub as_many : (layout : Layout) (vs : List EndpointView) → layout.ends ≡ map setting_in (map kept vs) → length layout.ends ≡ length vs
as_many layout vs ends = ap (λ (ss : List EndSetting). length ss) ends ∙ length-map (map kept vs) setting_in ∙ length-map vs kept

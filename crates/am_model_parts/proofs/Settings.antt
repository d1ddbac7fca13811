-- Each node has an interface and a driver with the layout's settings.
use Rattle.std.specs.Prelude.{slice_index_or, nat_lt}
use Rattle.std.specs.List.{find}
use Rattle.std.proofs.Common.{◌≡◌, ℕ, ◌≤◌, Bool, true, false, cond, List, [], ◌∷◌, length, Some, None, refl, sym, ◌∙◌, arith, eqb-true, ltb-true, ltb-false}
use Rattle.std.proofs.lemmas.List.{get_or_past}
use Rattle.std.proofs.lemmas.List.FromFn.{get_or-map-range_with_len, length-map-range_with_len}
use Rattle.am_names.specs.declared.EndpointId.{EndpointId}
use Rattle.am_names.specs.declared.NodeId.{NodeId}
use Rattle.am_names.specs.Names.{same_end}
use Rattle.am_office_entries.specs.declared.Entry.{Entry}
use Rattle.am_model.specs.Layout.{AllAre, EndSetting, IsLawful, IsSettingLawful, Layout, has_id, home, home_by}
use Rattle.am_model_parts.specs.Interface.{home_in}
use Rattle.am_model_parts.specs.Together.{IsDriverPart, IsPart, driver_in, homes_of, interface_in}

-- an endpoint with a number above 255 isn't declared
home_beyond : (layout : Layout) (ss : List EndSetting) → AllAre (IsSettingLawful layout) ss → (e : EndpointId) → 256 ≤ e.0 → home_by (find (has_id e) ss) ≡ None
home_beyond layout [] all e large = refl
home_beyond layout (s ∷ ss) all e large = by_test (same_end e s.id) refl (home_beyond layout ss all.1 e large)
  where
    by_test : (b : Bool) → same_end e s.id ≡ b → home_by (find (has_id e) ss) ≡ None → home_by (cond b (Some s) (find (has_id e) ss)) ≡ None
    by_test true is more = absurd (omega (arith, large, all.0.id, eqb-true e.0 s.id.0 is))
    by_test false is more = more

home_same : (layout : Layout) → IsLawful layout → (node : NodeId) (past : List Entry) (e : EndpointId) →
    home_in (interface_in layout node past) e ≡ home layout e
home_same layout lawful node past e = by_size (nat_lt e.0 256) refl
  where
    by_size : (b : Bool) → nat_lt e.0 256 ≡ b → slice_index_or (homes_of layout) e.0 None ≡ home layout e
    by_size true is = get_or-map-range_with_len (λ (number : ℕ). home layout (record { 0 = number })) 0 256 e.0 e.0 None (ltb-true e.0 256 is) (omega arith)
    by_size false is =
        let large : 256 ≤ e.0 = ltb-false e.0 256 is in
        let size : length (homes_of layout) ≡ 256 = length-map-range_with_len (λ (number : ℕ). home layout (record { 0 = number })) 0 256 in
        get_or_past (homes_of layout) e.0 None (omega (arith, large, size)) ∙ sym (home_beyond layout layout.ends lawful.ends e large)

pub interface_there : (layout : Layout) (past : List Entry) (node : NodeId) → IsLawful layout → layout.direct ≡ false →
    IsPart layout past (interface_in layout node past)
interface_there layout past node lawful packet =
    record {
      settings =
          record {
            packet = packet;
            once = lawful.ids;
            channels = refl;
            tries = refl;
            bounces = refl;
            homes = home_same layout lawful node past;
          };
      log = refl;
    }

pub driver_there : (layout : Layout) (past : List Entry) (node : NodeId) → IsLawful layout → layout.direct ≡ false →
    IsDriverPart layout past (driver_in layout node past)
driver_there layout past node lawful packet =
    record { settings = record { packet = packet; once = lawful.ids; ends = refl; faults = refl }; log = refl }

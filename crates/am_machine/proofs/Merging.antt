-- The journal that a cluster keeps is the one that its logs merge into.
use Rattle.std.specs.Prelude.{slice_get, Some, None}
use Rattle.std.specs.List.{list_any}
use Rattle.std.proofs.Common.{◌≡◌, ⊎_elim, ℕ, zero, suc, ◌<◌, Bool, true, false, List, [], ◌∷◌, ◌++◌, length, map, refl, sym, ap, ◌∙◌, subst, true≢false, arith}
use Rattle.std.proofs.Common.{if◌then◌else◌}
use Rattle.am_lemmas.proofs.Lists.{slice_get-Some}
use Rattle.am_names.specs.declared.EndpointId.{EndpointId}
use Rattle.am_names.specs.declared.NodeId.{NodeId}
use Rattle.am_names.specs.Names.{same_end}
use Rattle.am_office_entries.specs.declared.Event.{Event}
use Rattle.am_office_entries.specs.declared.Event.TheVariants as Events
use Rattle.am_office_entries.specs.declared.Outcome.{Outcome}
use Rattle.am_office_entries.specs.declared.Entry.{Entry}
use Rattle.am_office_entries.specs.Entries.{ends_touched, is_node, node_touched, touches, touches_node}
use Rattle.am_model.specs.History.{EachAfter, MayFollow, failing}
use Rattle.am_model.specs.Layout.{AllAre, EndSetting, Layout, declared, node_at}
use Rattle.am_model.proofs.Alls.{all_by_place, all_append}
use Rattle.am_model.proofs.Names.{same_end-is}
use Rattle.am_iface.specs.View.{InterfaceView}
use Rattle.am_swap_device.specs.Memory.{Store}
use Rattle.am_model_merge.specs.Logs.{IsRising}
use Rattle.am_model_merge.specs.Merged.{entries_of}
use Rattle.am_model_merge.proofs.Sorted.{Has, contains_has, filter_has, has_contains, has_first, has_last}
use Rattle.am_laws_cluster.proofs.HomePlaces.{condition_holds}
use Rattle.am_machine_journal.specs.Merge.Joined.{AreOne, HaveJust}
use Rattle.am_machine_journal.proofs.OneJournal.{are_one, merged_is}
use Rattle.am_endpoint.specs.View.{EndpointView}
use Rattle.am_machine.specs.Node.Parts.{log_of}
use Rattle.am_driver_moves.specs.Logs.{EndLog, kept}
use Rattle.am_machine.specs.Ends.{setting_in}
use Rattle.am_machine.specs.Interfaces.{IsInterface}
use Rattle.am_machine.specs.Kept.{IsKept, IsOwn, end_logs, interface_logs, journal_by, logs_in}
use Rattle.am_machine.proofs.PartLogs.{IsPartOf, OfEnd, OfNode, all_rise, are_among, entries_left, entries_right, got_mapped, setting_there, touched}
use Rattle.am_machine.proofs.Tied.{own_at}

-- ---- each log is a part of the journal

end_parts : (layout : Layout) (journal : List Entry) (es : List EndLog) → AllAre (IsOwn layout journal) es → AllAre (IsPartOf journal) (end_logs es)
end_parts layout journal [] h = tt
end_parts layout journal (e ∷ es) h = (OfEnd e.settings.id h.0.log, end_parts layout journal es h.1)

interface_parts : (layout : Layout) (journal : List Entry) (is : List InterfaceView) →
    AllAre (λ (i : InterfaceView). (node : NodeId) × IsInterface layout journal node i) is → AllAre (IsPartOf journal) (interface_logs is)
interface_parts layout journal [] h = tt
interface_parts layout journal (i ∷ is) h = (OfNode h.0.0 h.0.1.part, interface_parts layout journal is h.1)

parts : (layout : Layout) (es : List EndLog) (journal : List Entry) (is : List InterfaceView) (ss : List Store) → IsKept layout es journal is ss →
    AllAre (IsPartOf journal) (logs_in es is)
parts layout es journal is ss k =
    all_append (IsPartOf journal) (end_logs es) (interface_logs is) (end_parts layout journal es k.tied.own)
    (interface_parts layout journal is (all_by_place (λ (i : InterfaceView). (node : NodeId) × IsInterface layout journal node i) is
    (λ n i at. (node_at n, k.interfaces'.each n i at))))

-- ---- each entry stands in a log

-- after which entries one of a history came
follows : (layout : Layout) (past xs : List Entry) (x : Entry) → EachAfter (MayFollow layout) past xs → Has xs x →
    (before : List Entry) × MayFollow layout before x
follows layout past [] x each h = absurd h
follows layout past (y ∷ xs) x each h =
    ⊎_elim (λ (here : y ≡ x). (past, subst (MayFollow layout past) here each.0)) (λ (there : Has xs x). follows layout (past ++ y ∷ []) xs x each.1 there) h

-- in the direct network no interface is touched
no_interface : (layout : Layout) (past : List Entry) (event : Event) (n : NodeId) → layout.direct ≡ true → failing layout past event ≡ None →
    is_node n (node_touched event) ≡ true → ⊥
no_interface layout past (Events.Bind node end) n direct may h = condition_holds _ _ layout.direct direct may
no_interface layout past (Events.Expire node peer channel) n direct may h = condition_holds _ _ layout.direct direct may
no_interface layout past (Events.Receive node peer number) n direct may h = condition_holds _ _ layout.direct direct may
no_interface layout past event n direct may h = true≢false (sym h)

end_there : (es : List EndLog) (k : ℕ) (e : EndLog) (x : Entry) → slice_get es k ≡ Some e → Has e.log x → Has (entries_of (end_logs es)) x
end_there [] k e x at h = absurd (cc)
end_there (d ∷ es) zero e x at h = let same : d ≡ e = cc in has_first d.log (entries_of (end_logs es)) x (subst (λ (f : EndLog). Has f.log x) (sym same) h)
end_there (d ∷ es) (suc k) e x at h = has_last d.log (entries_of (end_logs es)) x (end_there es k e x at h)

interface_there : (is : List InterfaceView) (k : ℕ) (i : InterfaceView) (x : Entry) → slice_get is k ≡ Some i → Has i.log x →
    Has (entries_of (interface_logs is)) x
interface_there [] k i x at h = absurd (cc)
interface_there (j ∷ is) zero i x at h = let same : j ≡ i = cc in
    has_first j.log (entries_of (interface_logs is)) x (subst (λ (f : InterfaceView). Has f.log x) (sym same) h)
interface_there (j ∷ is) (suc k) i x at h = has_last j.log (entries_of (interface_logs is)) x (interface_there is k i x at h)

module _ (layout : Layout) (es : List EndLog) (journal : List Entry) (is : List InterfaceView) (ss : List Store) (ends : layout.ends ≡ map setting_in es)
    (k : IsKept layout es journal is ss) where
  in_end : (x : Entry) (e : EndpointId) → Has journal x → declared layout e ≡ true → touches e x ≡ true → Has (entries_of (logs_in es is)) x
  in_end x e h known on =
      let s = setting_there e layout.ends known in
      let d = got_mapped setting_in es s.0 s.1.0 (ap (λ (l : List EndSetting). slice_get l s.0) (sym ends) ∙ s.1.1.0) in
      let own = own_at layout es journal s.0 d.0 k.tied.own d.1.0 in
      let id : d.0.settings.id ≡ e = ap (λ (t : EndSetting). t.id) d.1.1 ∙ sym (same_end-is e s.1.0.id s.1.1.1) in
      entries_left (end_logs es) (interface_logs is) x
      (end_there es s.0 d.0 x d.1.0
      (subst (λ (l : List Entry). Has l x) (sym own.log) (filter_has (touches d.0.settings.id) journal x h (ap (λ (f : EndpointId). touches f x) id ∙ on))))

  in_node : (x : Entry) (n : NodeId) → Has journal x → layout.direct ≡ false → n.0 < layout.nodes → touches_node n x ≡ true → Has (entries_of (logs_in es is)) x
  in_node x n h packet lt on =
      let all : length is ≡ layout.nodes = k.interfaces'.all ∙ ap (λ (b : Bool). if b then 0 else layout.nodes) packet in
      let i = slice_get-Some is n.0 (omega (arith, lt, all)) in
      let own = k.interfaces'.each n.0 i.0 i.1 in
      entries_right (end_logs es) (interface_logs is) x
      (interface_there is n.0 i.0 x i.1 (subst (λ (l : List Entry). Has l x) (sym own.part) (filter_has (touches_node (node_at n.0)) journal x h on)))

  stands : (x : Entry) → Has journal x → Has (entries_of (logs_in es is)) x
  stands x h =
      let f = follows layout [] journal x k.tied.history h in
      ⊎_elim
      (λ (t : (e : EndpointId) × ((declared layout e ≡ true) × ((o : Outcome) → list_any (same_end e) (ends_touched x.event o) ≡ true))). in_end x t.0 h t.1.0
      (t.1.1 x.outcome))
      (λ (t : (n : NodeId) × ((n.0 < layout.nodes) × (is_node n (node_touched x.event) ≡ true))). by_network f.0 t.0 h f.1.enabled t.1.0 t.1.1 layout.direct
      refl)
      (touched layout x.event f.1.in_range)
    where
      by_network : (before : List Entry) (n : NodeId) → Has journal x → failing layout before x.event ≡ None → n.0 < layout.nodes →
          is_node n (node_touched x.event) ≡ true → (t : Bool) → layout.direct ≡ t → Has (entries_of (logs_in es is)) x
      by_network before n has may lt on true direct = absurd (no_interface layout before x.event n direct may on)
      by_network before n has may lt on false packet = in_node x n has packet lt on

  just : HaveJust journal (logs_in es is)
  just =
      record {
        own = are_among journal (logs_in es is) (parts layout es journal is ss k);
        all = λ x c. has_contains (entries_of (logs_in es is)) x (stands x (contains_has journal x c));
      }

  pub kept_merges : journal_by es is ≡ journal
  kept_merges = merged_is journal (logs_in es is) k.tied.ordered just

  -- so they can be merged
  pub logs_rise : AllAre IsRising (logs_in es is)
  logs_rise = all_rise layout journal (logs_in es is) k.tied.history (parts layout es journal is ss k)

  pub logs_one : AreOne (entries_of (logs_in es is))
  logs_one = are_one journal (entries_of (logs_in es is)) k.tied.ordered (are_among journal (logs_in es is) (parts layout es journal is ss k))

-- ---- the logs as they are gathered

pub end_logs_are : (vs : List EndpointView) → map log_of vs ≡ end_logs (map kept vs)
end_logs_are [] = refl
end_logs_are (v ∷ vs) = ap (λ (ls : List (List Entry)). v.log ∷ ls) (end_logs_are vs)

-- The parts of a cluster put together.
use Rattle.std.specs.Prelude.{fold, max, nat_lt, slice_get, Contains}
use Rattle.std.specs.List.{All, AllPairs}
use Rattle.std.specs.Global.{Vec}
use Rattle.std.proofs.Common.{◌≡◌, ℕ, zero, suc, ◌<◌, ◌≤◌, ◌^◌, Bool, true, false, cond, Option, Some, None, List, [], ◌∷◌, ◌++◌, length, map, reverse, refl}
use Rattle.std.proofs.Common.{sym, ap, ◌∙◌, subst, arith, ltb-true}
use Rattle.std.proofs.lemmas.List.{length-map, reverse-reverse}
use Rattle.std.proofs.lemmas.Bool.{and_parts}
use Rattle.std.proofs.lemmas.Option.{slice_get-get_or}
use Rattle.std.proofs.lemmas.List.Sorted.{Contains-permutation, IsPermutation-reverse, IsPermutation-sym}
use Rattle.am_names.specs.declared.Packet.{Packet}
use Rattle.am_office_entries.specs.declared.Outcome.{Outcome}
use Rattle.am_office_entries.specs.declared.Event.TheVariants as Events
use Rattle.am_office_entries.specs.declared.Event.{Event}
use Rattle.am_office_entries.specs.declared.Entry.{Entry}
use Rattle.am_office_entries.specs.Entries.{emitted_in, emitted_of}
use Rattle.am_model.specs.History.{EachAfter, MayFollow, is_in_range}
use Rattle.am_model.specs.Layout.{AllAre, EndSetting, IsLawful, IsSettingLawful, Layout, declared, node_at}
use Rattle.am_model.specs.Merge.{is_ordered}
use Rattle.am_model.proofs.Alls.{all_at, all_by_place}
use Rattle.am_model_drain.specs.Made.{later_stamp}
use Rattle.am_endpoint.specs.View.{EndpointView}
use Rattle.am_iface.specs.View.{InterfaceView}
use Rattle.am_swap_device.specs.Memory.{Store}
use Rattle.am_model_scripts.specs.Layout.{fault_of, layout_of, setting_of}
use Rattle.am_machine_journal.specs.Index.View.{AreNodes, IsEarly, IsBetweenNodes}
use Rattle.am_lemmas.proofs.Lists.{All-slice_get as all_got}
use Rattle.am_machine_journal.proofs.Standing.{behind}
use Rattle.am_model_merge.specs.Logs.{IsRising}
use Rattle.am_model_merge.specs.Merged.{entries_of}
use Rattle.am_model_merge.proofs.Inserting.{sorted_ordered}
use Rattle.am_machine_journal.specs.Merge.Joined.{AreOne}
use Rattle.am_machine_journal.proofs.OneJournal.{are_one}
use Rattle.am_machine.specs.declared.node.NodePart.{NodePart}
use Rattle.am_machine.specs.Node.Gathered.{AreDeclared, AreOfGroups}
use Rattle.am_machine.specs.Node.Gathered as gathered
use Rattle.am_machine.specs.Node.Packets.{GoesWithin}
use Rattle.am_machine.specs.Node.Parts.{all_logs, journal_of}
use Rattle.am_machine.specs.Node.Taken.{ends_of, iface_of, swap_of, turned}
use Rattle.am_scenario_types.specs.declared.parts.EndLine.{EndLine}
use Rattle.am_scenario_types.specs.declared.parts.FaultLine.{FaultLine}
use Rattle.am_scenario_types.specs.Lists.{ScenarioLists}
use Rattle.am_driver_moves.specs.Logs.{EndLog, kept}
use Rattle.am_machine.specs.Ends.{setting_in}
use Rattle.am_machine.specs.Interfaces.{AreInterfaces, IsInterface}
use Rattle.am_machine.specs.Kept.{IsKept, IsOwn, IsShort, IsTied, layout_in}
use Rattle.am_machine.specs.Parting.{settings_from}
use Rattle.am_machine.specs.Parts.{AreNodeParts, CanUnite}
use Rattle.am_machine.specs.Swaps.{AreSwaps, IsSwap}
use Rattle.am_machine.proofs.Beginnings.{rise_apart}
use Rattle.am_machine.proofs.Between.{emits_between}
use Rattle.am_machine.proofs.PartLogs.{all_parts, all_rise, are_among, got_mapped}

-- ---- what the merge asks for

pub ordered : (parts : List NodePart) → is_ordered (journal_of parts) ≡ true
ordered parts = sorted_ordered (entries_of (all_logs parts))

pub rising : (s : ScenarioLists) (parts : List NodePart) → CanUnite s parts → AllAre IsRising (all_logs parts)
rising s parts can = all_rise (layout_of s) (journal_of parts) (all_logs parts) can.history (all_parts (layout_of s) (journal_of parts) parts can.apart)

pub one_each : (s : ScenarioLists) (parts : List NodePart) → CanUnite s parts → AreOne (entries_of (all_logs parts))
one_each s parts can = are_one (journal_of parts) (entries_of (all_logs parts)) (ordered parts)
    (are_among (journal_of parts) (all_logs parts) (all_parts (layout_of s) (journal_of parts) parts can.apart))

-- ---- the entries are those of a cluster of at most 16 nodes

event_nodes : (layout : Layout) (event : Event) → layout.nodes ≤ 16 → is_in_range layout event ≡ true → AreNodes event
event_nodes layout (Events.Receive node peer number) few h =
    let nodes = and_parts (nat_lt node.0 layout.nodes) (nat_lt peer.0 layout.nodes) (and_parts _ _ (and_parts _ _ h).0).0 in
    let a = ltb-true node.0 layout.nodes nodes.0 in
    let b = ltb-true peer.0 layout.nodes nodes.1 in
    (omega (arith, a, few), omega (arith, b, few))
event_nodes layout (Events.PageOut node end) few h = let a = ltb-true node.0 layout.nodes (and_parts (declared layout end) _ h).1 in omega (arith, a, few)
event_nodes layout (Events.PageIn node end) few h = let a = ltb-true node.0 layout.nodes (and_parts (declared layout end) _ h).1 in omega (arith, a, few)
event_nodes layout event few h = tt

entry_within : (layout : Layout) (past : List Entry) (x : Entry) → IsLawful layout → MayFollow layout past x → GoesWithin x
entry_within layout past x lawful may =
    record {
      nodes = event_nodes layout x.event lawful.nodes.1 may.in_range;
      packet = by_packet (emitted_of x) refl;
    }
  where
    by_packet : (o : Option Packet) → emitted_of x ≡ o → IsBetweenNodes o
    by_packet None is = tt
    by_packet (Some p) is =
        let b = emits_between layout past x.stamp x.event lawful may.in_range p (ap (λ (o : Outcome). emitted_in x.stamp x.event o) (sym may.outcome) ∙ is) in
        let from = b.from in
        let to = b.to in
        let few = lawful.nodes.1 in
        (omega (arith, from, few), omega (arith, to, few))

pub all_within : (layout : Layout) (past xs : List Entry) → IsLawful layout → EachAfter (MayFollow layout) past xs → AllAre GoesWithin xs
all_within layout past [] lawful each = tt
all_within layout past (x ∷ xs) lawful each = (entry_within layout past x lawful each.0, all_within layout (past ++ x ∷ []) xs lawful each.1)

-- ---- the endpoints of each node are those that are declared there

groups_at : (groups : List (Vec EndpointView)) (parts : List NodePart) (k : ℕ) (g : Vec EndpointView) → map ends_of groups ≡ map turned parts →
    slice_get groups k ≡ Some g → (p : NodePart) × ((slice_get parts k ≡ Some p) × (g.items ≡ reverse p.ends.items))
groups_at groups parts k g same at =
    let r = got_mapped turned parts k g.items (ap (λ (l : List (List EndpointView)). slice_get l k) (sym same) ∙ mapped groups k at) in
    (r.0, (r.1.0, sym r.1.1))
  where
    mapped : (gs : List (Vec EndpointView)) (j : ℕ) → slice_get gs j ≡ Some g → slice_get (map ends_of gs) j ≡ Some g.items
    mapped [] j e = absurd (cc)
    mapped (h ∷ gs) zero e = let same' : h ≡ g = cc in ap (λ (v : Vec EndpointView). Some v.items) same'
    mapped (h ∷ gs) (suc j) e = mapped gs j e

lines_below : (n : ℕ) (layout : Layout) (lines : List EndLine) → layout.nodes ≡ n → AllAre (IsSettingLawful layout) (map setting_of lines) →
    AllAre (λ (line : EndLine). line.node.0 < n) lines
lines_below n layout [] is h = tt
lines_below n layout (line ∷ lines) is h = (let lt = h.0.node in omega (arith, lt, is), lines_below n layout lines is h.1)

pub are_declared : (s : ScenarioLists) (journal : List Entry) (parts : List NodePart) (groups : List (Vec EndpointView)) → IsLawful (layout_of s) →
    AreNodeParts (layout_of s) journal parts → map ends_of groups ≡ map turned parts → AreDeclared s.ends groups
are_declared s journal parts groups lawful a same =
    record {
      nodes =
          (let g = length-map groups ends_of in
          let p = length-map parts turned in
          let e = ap (λ (l : List (List EndpointView)). length l) same in
          let all = a.all in
          lines_below (length groups) (layout_of s) s.ends (omega (arith, g, p, e, all)) lawful.ends);
      each = λ k g at.
          (let r = groups_at groups parts k g same at in
          ap (λ (l : List EndpointView). map gathered.setting_in (reverse l)) r.1.1 ∙ ap (map gathered.setting_in) (reverse-reverse r.0.ends.items)
          ∙ (a.each k r.0 r.1.0).ends');
    }

-- ---- what the cluster keeps

early : (journal : List Entry) → AllAre (λ (x : Entry). x.stamp ≤ 2 ^ 63) journal → IsEarly journal
early journal low = let most = below 0 journal (omega arith) low in omega (arith, most)
  where
    below : (a : ℕ) (xs : List Entry) → a ≤ 2 ^ 63 → AllAre (λ (x : Entry). x.stamp ≤ 2 ^ 63) xs → fold later_stamp a xs ≤ 2 ^ 63
    below a [] le h = le
    below a (x ∷ xs) le h = let here = h.0 in below (max a x.stamp) xs (omega (arith, le, here)) h.1

got_contains : {X : Type 0} (xs : List X) (x : X) → Contains xs x → (k : ℕ) × (slice_get xs k ≡ Some x)
got_contains {X} xs x c = (c.0, slice_get-get_or xs c.0 x c.1 ∙ ap (λ (y : X). Some y) c.2)

contains_got : {X : Type 0} (xs : List X) (k : ℕ) (x : X) → slice_get xs k ≡ Some x → Contains xs x
contains_got [] k x at = absurd (cc)
contains_got {X} (y ∷ xs) zero x at = let same : y ≡ x = cc in subst (λ (z : X). Contains (y ∷ xs) z) same (0, omega arith, refl)
contains_got (y ∷ xs) (suc k) x at = behind y xs x (contains_got xs k x at)

contains_reversed : (xs : List EndpointView) (x : EndpointView) → Contains (reverse xs) x → Contains xs x
contains_reversed xs x c = Contains-permutation (reverse xs) xs x (IsPermutation-sym xs (reverse xs) (IsPermutation-reverse xs)) c

kept_all : (P : EndLog → Type 0) (vs : List EndpointView) → AllAre (λ (v : EndpointView). P (kept v)) vs → AllAre P (map kept vs)
kept_all P [] h = tt
kept_all P (v ∷ vs) h = (h.0, kept_all P vs h.1)

module _ (s : ScenarioLists) (faults : List FaultLine) (parts : List NodePart) (groups : List (Vec EndpointView)) (vs : List EndpointView)
    (is : List InterfaceView) (ws : List Store) where
  -- what the parts are put together from
  pub record IsUnited : Type 0 where
    pub lawful : IsLawful (layout_of s)
    pub rise : AllPairs (λ (a b : EndLine). a.id.0 < b.id.0) s.ends
    pub packet : (layout_of s).direct ≡ false
    pub can : CanUnite s parts
    pub faults' : faults ≡ s.faults
    pub groups' : map ends_of groups ≡ map turned parts
    pub interfaces' : is ≡ map iface_of parts
    pub swaps' : ws ≡ map swap_of parts
    pub settings : map gathered.setting_in vs ≡ map setting_of s.ends
    pub own : AreOfGroups groups vs
    pub short : All (λ (v : EndpointView). length v.log ≤ v.settings.log) vs

  module _ (u : IsUnited) where
    same_settings : map setting_in (map kept vs) ≡ map setting_of s.ends
    same_settings = mapped vs ∙ u.settings
      where
        mapped : (xs : List EndpointView) → map setting_in (map kept xs) ≡ map gathered.setting_in xs
        mapped [] = refl
        mapped (x ∷ xs) = ap (λ (l : List EndSetting). gathered.setting_in x ∷ l) (mapped xs)

    pub same_layout : layout_in (settings_from s) faults (map kept vs) ≡ layout_of s
    same_layout = λ i. record (layout_of s) { ends = same_settings i; faults = map fault_of (u.faults' i) }

    own_end : (v : EndpointView) → Contains vs v → IsOwn (layout_of s) (journal_of parts) (kept v)
    own_end v c =
        let r = u.own v c in
        let p = groups_at groups parts r.0 r.1.0 u.groups' r.1.1.0 in
        let there = contains_reversed p.0.ends.items v (subst (λ (l : List EndpointView). Contains l v) p.1.1 r.1.1.1) in
        let at = got_contains p.0.ends.items v there in
        all_at (λ (w : EndpointView). IsOwn (layout_of s) (journal_of parts) (kept w)) p.0.ends.items at.0 v (u.can.apart.each r.0 p.0 p.1.0).own at.1

    all_own : AllAre (IsOwn (layout_of s) (journal_of parts)) (map kept vs)
    all_own = kept_all (IsOwn (layout_of s) (journal_of parts)) vs (all_by_place (λ (v : EndpointView). IsOwn (layout_of s) (journal_of parts) (kept v)) vs
        (λ k v at. own_end v (contains_got vs k v at)))

    -- the line of an endpoint
    line_of : (k : ℕ) (e : EndLog) → slice_get (map kept vs) k ≡ Some e → (line : EndLine) × ((slice_get s.ends k ≡ Some line) × (line.id ≡ e.settings.id))
    line_of k e at =
        let m = mapped_at (map kept vs) k at in
        let r = got_mapped setting_of s.ends k (setting_in e) (ap (λ (l : List EndSetting). slice_get l k) (sym same_settings) ∙ m) in
        (r.0, (r.1.0, ap (λ (t : EndSetting). t.id) r.1.1))
      where
        mapped_at : (es : List EndLog) (j : ℕ) → slice_get es j ≡ Some e → slice_get (map setting_in es) j ≡ Some (setting_in e)
        mapped_at [] j h = absurd (cc)
        mapped_at (d ∷ es) zero h = let same : d ≡ e = cc in ap (λ (f : EndLog). Some (setting_in f)) same
        mapped_at (d ∷ es) (suc j) h = mapped_at es j h

    tied : IsTied (layout_of s) (map kept vs) (journal_of parts)
    tied =
        record {
          lawful = u.lawful;
          history = u.can.history;
          early = early (journal_of parts) u.can.low;
          ordered = ordered parts;
          own = all_own;
          short = kept_all IsShort vs (all_by_place (λ (v : EndpointView). IsShort (kept v)) vs
              (λ k v at. all_got (λ (w : EndpointView). IsShort (kept w)) vs k v u.short at));
          apart = λ j k d e at_d at_e same.
              (let a = line_of j d at_d in
              let b = line_of k e at_e in
              rise_apart s.ends j k a.0 b.0 u.rise a.1.0 b.1.0 (a.1.1 ∙ same ∙ sym b.1.1));
        }

    count : ◌≡◌ {A = ℕ} (cond (layout_of s).direct 0 (layout_of s).nodes) (layout_of s).nodes
    count = ap (λ (b : Bool). cond b 0 (layout_of s).nodes) u.packet

    interfaces : AreInterfaces (layout_of s) (journal_of parts) is
    interfaces =
        record {
          each = λ k i at.
              (let r = got_mapped iface_of parts k i (ap (λ (l : List InterfaceView). slice_get l k) (sym u.interfaces') ∙ at) in
              subst (IsInterface (layout_of s) (journal_of parts) (node_at k)) r.1.1 (u.can.apart.each k r.0 r.1.0).interface);
          all = ap (λ (l : List InterfaceView). length l) u.interfaces' ∙ length-map parts iface_of ∙ u.can.apart.all ∙ sym count;
        }

    swaps : AreSwaps (layout_of s) (journal_of parts) ws
    swaps =
        record {
          each = λ k w at.
              (let r = got_mapped swap_of parts k w (ap (λ (l : List Store). slice_get l k) (sym u.swaps') ∙ at) in
              subst (IsSwap (layout_of s) (journal_of parts) (node_at k)) r.1.1 (u.can.apart.each k r.0 r.1.0).disk);
          all = ap (λ (l : List Store). length l) u.swaps' ∙ length-map parts swap_of ∙ u.can.apart.all ∙ sym count;
        }

    pub is_kept : IsKept (layout_in (settings_from s) faults (map kept vs)) (map kept vs) (journal_of parts) is ws
    is_kept = subst (λ (l : Layout). IsKept l (map kept vs) (journal_of parts) is ws) (sym same_layout) (record {
      tied = tied;
      interfaces' = interfaces;
      swaps' = swaps;
    })

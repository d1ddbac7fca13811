-- What each node has at the end of the phase is its part of the journal that all logs merge into.
use Rattle.std.specs.Prelude.{slice_get}
use Rattle.std.specs.List.{filter, range_with_len}
use Rattle.std.proofs.Common.{◌≡◌, inl, inr, ℕ, zero, suc, ◌+◌, ◌<◌, Bool, true, false, cond, List, [], ◌∷◌, ◌++◌, map, length, Some, refl, sym, ap, ◌∙◌, subst}
use Rattle.std.proofs.Common.{arith, eq-eqb}
use lib.ListN.{get_elem?}
use mathlib.Core.Option.{some}
use Rattle.am_lemmas.proofs.Lists.{map_twice}
use Rattle.am_machine.proofs.Looks.{receipt_touches}
use Rattle.am_names.specs.declared.NodeId.{NodeId}
use Rattle.am_office_entries.specs.declared.Entry.{Entry}
use Rattle.am_office_entries.specs.Entries.{touches_node}
use Rattle.am_endpoint_body.specs.declared.settings.EndSettings.{EndSettings}
use Rattle.am_endpoint.specs.View.{EndpointView}
use Rattle.am_model.specs.Channels.{emitted}
use Rattle.am_model.specs.Layout.{AllAre, EndSetting, node_at}
use Rattle.am_machine_journal.specs.Index.View.{is_receipt, receipts}
use Rattle.am_model.specs.History.{page_calls}
use Rattle.am_model_parts.specs.Together.{ends_of}
use Rattle.am_model_parts.proofs.Moves.{pages_own}
use Rattle.am_model_parts.proofs.Parts.{emitted_own}
use Rattle.am_model_parts.proofs.Within.{count_within}
use Rattle.am_driver_moves.specs.Logs.{kept}
use Rattle.am_machine.specs.Ends.{setting_in}
use Rattle.am_machine.specs.Kept.{IsOwn}
use Rattle.am_machine.specs.Parts.{IsNodePart}
use Rattle.am_machine.specs.Swaps.{IsSwap}
use Rattle.am_model_merge.specs.Merged.{merged}
use Rattle.am_machine.specs.declared.node.NodePart.{NodePart}
use Rattle.am_machine.specs.Node.Parts.{all_logs, log_of, logs_of_part}
use Rattle.am_scenario_types.specs.Lists.{ScenarioLists}
use Rattle.am_scenario_types.specs.declared.parts.Network.TheVariants as Networks
use Rattle.am_model_scripts.specs.Layout.{layout_of}
use Rattle.am_workers_laws.specs.declared.books.EndBook.{EndBook}
use Rattle.am_workers_laws.specs.Phases.Makers.{Driver, Interface, Maker, Thread}
use Rattle.am_workers_laws.specs.Invariants.Seats.{AreBorn, EndPass, KnowsNode, setting_by}
use Rattle.am_workers_laws.specs.Ended.{IsEnded, KeepsAs, RunEnd, all_lists, lists_of, node_lists}
use Rattle.am_workers_laws.specs.Laws.{IsPhaseAtEnd}
use Rattle.am_workers_laws.proofs.Passes.{IsIn, births_same, each_in}
use Rattle.am_workers_laws.proofs.HomesDone.{any_end}
use Rattle.am_workers_laws.proofs.BooksDone.{knows}
use Rattle.am_workers_laws.proofs.Done.{IsDriverAt, iface, log_is}
use Rattle.am_workers_laws.proofs.EndsDone.{ends_are_a_phase, in_got}
use Rattle.am_cluster_running.specs.Uniting.Ended.{IsPartEnd}
use Rattle.am_cluster_running.proofs.Disk.{held_at_end}
use Rattle.am_workers_laws.specs.Books.Ends.{end_in}
use Rattle.am_machine.specs.Node.Gathered.{is_declared_at}

-- ---- words on lists

all_mapped : {X Y : Type 0} (f : X → Y) (P : Y → Type 0) (xs : List X) → AllAre (λ (x : X). P (f x)) xs → AllAre P (map f xs)
all_mapped f P [] h = tt
all_mapped f P (x ∷ xs) h = (h.0, all_mapped f P xs h.1)

-- ---- the settings

same_settings : (books : List EndBook) (births : List EndSettings) → length books ≡ length births →
    ((k : ℕ) (b : EndBook) → slice_get books k ≡ Some b → get_elem? births k ≡ some b.end.value.settings) →
    map (λ (b : EndBook). b.end.value.settings) books ≡ births
same_settings [] [] all h = refl
same_settings [] (x ∷ xs) all h = absurd (omega (arith, all))
same_settings (b ∷ bs) [] all h = absurd (omega (arith, all))
same_settings (b ∷ bs) (x ∷ xs) all h =
    let head : x ≡ b.end.value.settings = (let first = h 0 b refl in cc) in
    let tail = same_settings bs xs (omega (arith, all)) (λ k c at. h (suc k) c at) in
    λ i. sym head i ∷ tail i

births_are : (s : ScenarioLists) (r : RunEnd) (end : IsEnded s r) (node : NodeId) (d : node.0 < s.nodes) (k : ℕ) (b : EndBook) →
    slice_get (r.nodes node).books k ≡ Some b → get_elem? (r.nodes node).keeper.pass.births k ≡ some b.end.value.settings
births_are s r end node d k b at =
    let out = (end.nodes node d).taken k b at in
    subst (λ (births : List EndSettings). get_elem? births k ≡ some b.end.value.settings) (out.knows.births
    ∙ births_same (r.nodes node).keeper.pass (r.nodes node).others) out.comes.born

-- ---- the lists of all parts

same_logs : (s : ScenarioLists) (r : RunEnd) (node : NodeId) (p : NodePart) → IsPartEnd s r node p → logs_of_part p ≡ node_lists r node
same_logs s r node p e =
    λ i. (ap (map log_of) e.ends' ∙ map_twice end_in log_of (r.nodes node).books) i ++ e.log i ∷ []

pub same_lists : (s : ScenarioLists) (r : RunEnd) (ps : List NodePart) (a n : ℕ) → length ps ≡ n →
    ((k : ℕ) (p : NodePart) → slice_get ps k ≡ Some p → (m : ℕ) → m ≡ a + k → IsPartEnd s r (node_at m) p) →
    all_logs ps ≡ lists_of r (map node_at (range_with_len a n))
same_lists s r [] a zero all each = refl
same_lists s r [] a (suc n) all each = absurd (omega (arith, all))
same_lists s r (p ∷ ps) a zero all each = absurd (omega (arith, all))
same_lists s r (p ∷ ps) a (suc n) all each =
    let head = same_logs s r (node_at a) p (each 0 p refl a (omega arith)) in
    let tail = same_lists s r ps (a + 1) n (omega (arith, all)) (λ k q at m is. each (suc k) q at m (omega (arith, is))) in
    λ i. head i ++ tail i

-- ---- receipts

-- ---- a declared endpoint of the node

there_at : (node : NodeId) (ss : List EndSetting) (k : ℕ) (set : EndSetting) → slice_get ss k ≡ Some set → set.node ≡ node →
    IsIn (map (λ (t : EndSetting). t.id) (filter (is_declared_at node) ss)) set.id
there_at node [] k set at is = absurd (cc)
there_at node (t ∷ ts) zero set at is =
    let here : t ≡ set = cc in
    let test : is_declared_at node t ≡ true = eq-eqb node.0 t.node.0 (ap (λ (n : NodeId). n.0) (sym is ∙ ap (λ (u : EndSetting). u.node) (sym here))) in
    subst (λ (b : Bool). IsIn (map (λ (u : EndSetting). u.id) (cond b (t ∷ filter (is_declared_at node) ts) (filter (is_declared_at node) ts))) set.id)
    (sym test) (inl (ap (λ (u : EndSetting). u.id) here))
there_at node (t ∷ ts) (suc k) set at is = by_test (is_declared_at node t) (there_at node ts k set at is)
  where
    by_test : (b : Bool) → IsIn (map (λ (u : EndSetting). u.id) (filter (is_declared_at node) ts)) set.id →
        IsIn (map (λ (u : EndSetting). u.id) (cond b (t ∷ filter (is_declared_at node) ts) (filter (is_declared_at node) ts))) set.id
    by_test true m = inr m
    by_test false m = m

-- ---- a part

-- the keeper was told how the endpoints of its node were born
born_as : (s : ScenarioLists) (r : RunEnd) (node : NodeId) (k : Maker) (v : EndPass) → KeepsAs s r node k v → AreBorn (layout_of s) v
born_as s r node (Thread t) v h = h.works.born
born_as s r node (Interface n) v h = h.1.works.born
born_as s r node (Driver n) v h = h.1.works.born

module _ (s : ScenarioLists) (r : RunEnd) (end : IsEnded s r) (node : NodeId) (d : node.0 < s.nodes) where
  abbrev journal : List Entry
  journal = merged (all_lists s r)

  phase : IsPhaseAtEnd s r
  phase = ends_are_a_phase s r end

  -- the interface's log is its part of the journal
  own_log : r.made (Interface node) ≡ filter (touches_node node) (merged (all_lists s r))
  own_log = sym (phase.merges.merged.of_nodes node)

  keeper_knows : KnowsNode (ends_of (layout_of s) node) (r.made (r.nodes node).keeper.maker) (r.nodes node).keeper.pass
  keeper_knows = knows s r node (end.nodes node d) (r.nodes node).keeper (inl refl)

  settings : map (λ (b : EndBook). b.end.value.settings) (r.nodes node).books ≡ (r.nodes node).keeper.pass.births
  settings = same_settings (r.nodes node).books (r.nodes node).keeper.pass.births ((end.nodes node d).all
      ∙ sym keeper_knows.all) (λ k b at. births_are s r end node d k b at)

  own_end : (b : EndBook) → IsIn (r.nodes node).books b → IsOwn (layout_of s) (merged (all_lists s r)) (kept b.end.value)
  own_end b h =
      let q = in_got (r.nodes node).books b h in
      let birth = births_are s r end node d q.place b q.at in
      let born = born_as s r node (r.nodes node).keeper.maker (r.nodes node).keeper.pass (end.nodes node d).keeps.0 q.place b.end.value.settings birth in
      let id = keeper_knows.births q.place b.end.value.settings birth in
      record {
        opening = sym born.opens;
        log = sym (phase.merges.merged.of_ends b.end.value.settings.id ∙ log_is s r end node q.place b.end.value.settings.id b id q.at);
        limit = born.limit;
        bounces = born.bounces;
        pool = born.pool;
      }

  all_own : AllAre (λ (b : EndBook). IsOwn (layout_of s) (merged (all_lists s r)) (kept b.end.value)) (r.nodes node).books
  all_own = each_in (λ (b : EndBook). IsOwn (layout_of s) (merged (all_lists s r)) (kept b.end.value)) (r.nodes node).books own_end

  its_disk : s.network ≡ Networks.Packet → (f : IsDriverAt s r node) → IsSwap (layout_of s) (merged (all_lists s r)) node (r.nodes node).disk
  its_disk packet f =
      record {
        fails = f.end.works.fails;
        calls = f.end.works.calls ∙ ap (page_calls node) (f.end.same ∙ sym (phase.merges.of_drivers node)) ∙ pages_own node journal;
        bodies =
            λ k set at is on.
            held_at_end s r end node f set.id journal packet (any_end set.id (ends_of (layout_of s) node) (there_at node (layout_of s).ends k set at is))
            phase.good.history
            (phase.merges.merged.of_ends set.id) on;
      }

  pub node_part : (p : NodePart) → s.network ≡ Networks.Packet → IsDriverAt s r node → IsPartEnd s r node p →
      IsNodePart (layout_of s) (merged (all_lists s r)) node p
  node_part p packet f e =
      record {
        is_node = e.is_node;
        ends' =
            ap (map (λ (v : EndpointView). setting_in (kept v))) e.ends'
            ∙ map_twice end_in (λ (v : EndpointView). setting_in (kept v)) (r.nodes node).books
            ∙ sym (map_twice (λ (b : EndBook). b.end.value.settings) setting_by (r.nodes node).books)
            ∙ ap (map setting_by) settings
            ∙ e.declared;
        own =
            subst (AllAre (λ (v : EndpointView). IsOwn (layout_of s) journal (kept v))) (sym e.ends')
            (all_mapped end_in (λ (v : EndpointView). IsOwn (layout_of s) journal (kept v)) (r.nodes node).books all_own);
        interface =
            record {
              is_node = e.set.is_node;
              nodes = e.set.nodes;
              channels = e.set.channels;
              tries = e.set.tries;
              bounces = e.set.bounces;
              limit = e.set.limit;
              homes = e.set.homes;
              part = e.log ∙ own_log;
              bounded = e.set.bounded;
            };
        disk = subst (IsSwap (layout_of s) journal node) (sym e.disk) (its_disk packet f);
        all_emitted = e.all_emitted;
        emitted' = λ k vs at. e.emitted' k vs at ∙ (iface s r end node d).end.works.emits (node_at k) ∙ ap (emitted node (node_at k)) own_log
            ∙ emitted_own node (node_at k) journal;
        all_received = e.all_received;
        received' =
            λ k n at.
            e.received' k n at ∙ ap (receipts (node_at k) node) own_log
            ∙ count_within (λ (x : Entry). is_receipt (node_at k) node x.event) (touches_node node) (λ x h. receipt_touches (node_at k) node x.event h) journal;
      }

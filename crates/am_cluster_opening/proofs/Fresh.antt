-- The endpoints, the disk and the books of a node as they begin, by the cluster's part of the node.
use Rattle.std.specs.Prelude.{slice_get, filter, find, count_by}
use Rattle.std.proofs.Common.{◌≡◌, ℕ, ◌+◌, ◌<◌, ◌≤◌, ◌==◌, Bool, true, false, cond, Option, Some, None, List, [], ◌∷◌, length, map, refl, sym, ap, ◌∙◌, subst}
use Rattle.std.proofs.Common.{arith, eqb-true}
use Rattle.std.proofs.lemmas.List.Sums.{length-filter, sum_by-cons}
use Rattle.am_lemmas.proofs.Numbers.{eqb_commutes}
use Rattle.am_lemmas.proofs.Lists.{map_twice}
use Rattle.am_names.specs.declared.NodeId.{NodeId}
use Rattle.am_names.specs.Names.{same_node}
use Rattle.am_office_entries.specs.declared.Entry.{Entry}
use Rattle.am_workers_laws.specs.Books.Books.{IsBook, stands_at}
use Rattle.am_workers_laws.specs.declared.books.EndBook.{EndBook}
use Rattle.am_endpoint.specs.View.{EndpointView, state_after, state_by}
use Rattle.am_model.specs.Endpoint.{State, fresh, is_on_disk}
use Rattle.am_model.specs.History.{state_of}
use Rattle.am_model.specs.Layout.{AllAre, EndSetting, IsLawful, Layout, has_id, opening, opening_by, opening_place}
use Rattle.am_model_merge.specs.Logs.{IsRising}
use Rattle.am_model_parts.specs.Together.{ends_of}
use Rattle.am_driver_moves.specs.Logs.{kept}
use Rattle.am_driver_moves.specs.Pages.{HoldsBody}
use Rattle.am_machine.specs.Ends.{setting_in}
use Rattle.am_machine.specs.Kept.{IsOwn}
use Rattle.am_machine.specs.Parts.{IsNodePart}
use Rattle.am_machine.specs.declared.node.NodePart.{NodePart}
use Rattle.am_workers_laws.specs.Phases.Lying.{rests}
use Rattle.am_places.specs.Codes.{place_code}
use Rattle.am_scenario_types.specs.declared.parts.ThreadLine.{ThreadLine}
use Rattle.am_scenario_types.specs.Lawful as lawful
use Rattle.am_scenario_types.specs.Lists.{ScenarioLists}
use Rattle.am_workers_laws.specs.Invariants.Seats.{IsBorn}
use Rattle.am_cluster_opening.specs.Node.Openings.{IsFreshDisk, births_of, thread_ids}
use Rattle.am_cluster_opening.proofs.Lists.{all_got, got_all, got_kept, got_map, length_map, map_all}
use Rattle.am_machine.specs.Node.Gathered.{is_declared_at}
use Rattle.am_workers_laws.specs.Invariants.Begins.{IsOpenIn}

-- ---- an endpoint

module _ (layout : Layout) (ok : IsLawful layout) (e : EndpointView) (own : IsOwn layout [] (kept e)) where
  pub no_log : e.log ≡ []
  no_log = own.log

  pub is_book : IsBook e
  is_book =
      record {
        few = subst (λ (l : List Entry). length l ≤ e.settings.log) (sym no_log) (omega arith);
        limit = (let same = own.limit in let most = ok.log.1 in omega (arith, same, most));
        rising = subst IsRising (sym no_log) tt;
        rests = ap (rests e.settings.id (fresh e.settings.tag e.settings.place)) no_log;
      }

  pub is_born : IsBorn layout e.settings
  is_born = record { opens = sym own.opening; limit = own.limit; bounces = own.bounces; pool = own.pool }

  pub opens_fresh : state_after e ≡ fresh e.settings.tag e.settings.place
  opens_fresh = ap (state_by e.settings) no_log

by_disk : (direct disk : Bool) → direct ≡ false → place_code (opening_place direct disk) < 2
by_disk true disk packet = absurd (cc)
by_disk false true packet = omega arith
by_disk false false packet = omega arith

opens_homely : (layout : Layout) (o : Option EndSetting) → layout.direct ≡ false → place_code (opening_by layout o).head.place < 2
opens_homely layout None packet = omega arith
opens_homely layout (Some setting) packet = by_disk layout.direct setting.disk packet

-- it is on the host or on disk
pub is_homely : (layout : Layout) (ok : IsLawful layout) (e : EndpointView) → layout.direct ≡ false → IsOwn layout [] (kept e) → stands_at e < 2
is_homely layout ok e packet own =
    let opened : place_code (opening layout e.settings.id).head.place < 2 = opens_homely layout (find (has_id e.settings.id) layout.ends) packet in
    let same : stands_at e ≡ place_code (opening layout e.settings.id).head.place = ap (λ (s : State). place_code s.head.place) (opens_fresh layout ok e own)
    ∙ ap (λ (s : State). place_code s.head.place) (sym own.opening) in
    omega (arith, opened, same)

-- ---- the endpoints of a node

node_is : (a b : NodeId) → same_node a b ≡ true → b ≡ a
node_is a b h = let e : a.0 ≡ b.0 = eqb-true a.0 b.0 h in λ i. record { 0 = sym e i }

kept_at : (node : NodeId) (xs : List EndSetting) → AllAre (λ (s : EndSetting). s.node ≡ node) (filter (is_declared_at node) xs)
kept_at node [] = tt
kept_at node (x ∷ xs) = by_test (same_node node x.node) refl (kept_at node xs)
  where
    by_test : (b : Bool) → same_node node x.node ≡ b → AllAre (λ (s : EndSetting). s.node ≡ node) (filter (is_declared_at node) xs) →
        AllAre (λ (s : EndSetting). s.node ≡ node) (cond b (x ∷ filter (is_declared_at node) xs) (filter (is_declared_at node) xs))
    by_test true is more = (node_is node x.node is, more)
    by_test false is more = more

module _ (layout : Layout) (node : NodeId) (p : NodePart) (ok : IsLawful layout) (part : IsNodePart layout [] node p) where
  abbrev setting_at : EndpointView → EndSetting
  setting_at e = setting_in (kept e)

  pub part_ids : map (λ (e : EndpointView). e.settings.id) p.ends.items ≡ ends_of layout node
  part_ids = sym (map_twice setting_at (λ (t : EndSetting). t.id) p.ends.items) ∙ ap (map (λ (t : EndSetting). t.id)) part.ends'

  pub part_books : AllAre IsBook p.ends.items
  part_books = all_got IsBook p.ends.items (λ k e at. is_book layout ok e (got_all (λ (v : EndpointView). IsOwn layout [] (kept v)) p.ends.items k e part.own
      at))

  pub part_at : (k : ℕ) (e : EndpointView) → slice_get p.ends.items k ≡ Some e → IsOwn layout [] (kept e)
  part_at k e at = got_all (λ (v : EndpointView). IsOwn layout [] (kept v)) p.ends.items k e part.own at

  pub part_home : (k : ℕ) (e : EndpointView) → slice_get p.ends.items k ≡ Some e → e.settings.node ≡ node
  part_home k e at =
      got_all (λ (t : EndSetting). t.node ≡ node) (filter (is_declared_at node) layout.ends) k (setting_at e) (kept_at node layout.ends)
      (subst (λ (l : List EndSetting). slice_get l k ≡ Some (setting_at e)) part.ends' (got_map setting_at p.ends.items k e at))

  pub part_few : length p.ends.items ≤ 64
  part_few =
      let same : length (map setting_at p.ends.items) ≡ length (filter (is_declared_at node) layout.ends) = ap length part.ends' in
      let mapped = length_map setting_at p.ends.items in
      let counted = length-filter (is_declared_at node) layout.ends in
      let room = ok.room node in
      omega (arith, same, mapped, counted, room)

  -- the disk has what begins there
  part_disk_at : (k : ℕ) (e : EndpointView) → slice_get p.ends.items k ≡ Some e → IsOpenIn p.swap e.settings
  part_disk_at k e at on =
      let own = part_at k e at in
      let there : slice_get (filter (is_declared_at node) layout.ends) k ≡ Some (setting_at e) =
      subst (λ (l : List EndSetting). slice_get l k ≡ Some (setting_at e)) part.ends' (got_map setting_at p.ends.items k e at) in
      let among = got_kept (is_declared_at node) layout.ends k (setting_at e) there in
      let opens : state_of layout [] e.settings.id ≡ fresh e.settings.tag e.settings.place = own.opening in
      let held : HoldsBody p.swap layout.pool e.settings.id (state_of layout [] e.settings.id).body =
      part.disk.bodies among.0 (setting_at e) among.1 (part_home k e at) (ap (λ (t : State). is_on_disk t.head.place) opens ∙ on) in
      subst (λ (o : Option ℕ). HoldsBody p.swap o e.settings.id (fresh e.settings.tag e.settings.place).body) (sym own.pool)
      (subst (λ (t : State). HoldsBody p.swap layout.pool e.settings.id t.body) opens held)

  pub part_disk : (books : List EndBook) → map (λ (b : EndBook). b.end.value) books ≡ p.ends.items → IsFreshDisk layout node (births_of books) p.swap
  part_disk books are =
      record {
        fails = part.disk.fails;
        calls = part.disk.calls;
        holds =
            subst (AllAre (IsOpenIn p.swap)) (births_by are)
            (map_all (λ (e : EndpointView). e.settings) (IsOpenIn p.swap) p.ends.items (all_got (λ (e : EndpointView). IsOpenIn p.swap e.settings) p.ends.items
            part_disk_at));
      }
    where
      births_by : map (λ (b : EndBook). b.end.value) books ≡ p.ends.items → map (λ (e : EndpointView). e.settings) p.ends.items ≡ births_of books
      births_by are = ap (map (λ (e : EndpointView). e.settings)) (sym are) ∙ map_twice (λ (b : EndBook). b.end.value) (λ (e : EndpointView). e.settings) books

-- ---- the threads of a node

count_threads : (node : NodeId) (xs : List ThreadLine) → count_by (λ (t : ThreadLine). same_node node t.node) xs ≡ count_by (λ (t : ThreadLine). t.node.0 ==
    node.0) xs
count_threads node [] = refl
count_threads node (x ∷ xs) =
    sum_by-cons (λ (t : ThreadLine). cond (same_node node t.node) 1 0) x xs
    ∙ (λ i. cond (eqb_commutes node.0 x.node.0 i) 1 0 + count_threads node xs i)
    ∙ sym (sum_by-cons (λ (t : ThreadLine). cond (t.node.0 == node.0) 1 0) x xs)

pub few_threads : (s : ScenarioLists) (node : NodeId) → lawful.IsLawful s → length (thread_ids s.threads node) ≤ 4
few_threads s node ok =
    let mapped = length_map (λ (t : ThreadLine). t.id) (filter (λ (t : ThreadLine). same_node node t.node) s.threads) in
    let counted = length-filter (λ (t : ThreadLine). same_node node t.node) s.threads in
    let same = count_threads node s.threads in
    let most = ok.threads_of_a_node node.0 in
    omega (arith, mapped, counted, same, most)

pub count_low : (s : ScenarioLists) (node : NodeId) (n : ℕ) (ids : List ℕ) (lines : List ThreadLine) → lawful.IsLawful s → n ≡ length ids →
    ids ≡ thread_ids lines node → lines ≡ s.threads → n ≤ 4
count_low s node n ids lines ok all are same =
    let e : length ids ≡ length (thread_ids s.threads node) = ap length are ∙ ap (λ (ls : List ThreadLine). length (thread_ids ls node)) same in
    let few = few_threads s node ok in
    omega (arith, all, e, few)

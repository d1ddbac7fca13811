-- The parts of a cluster that is taken apart.
use Rattle.std.specs.Prelude.{slice_get}
use Rattle.std.specs.List.{filter}
use Rattle.std.specs.Global.{Vec}
use Rattle.std.proofs.Common.{◌≡◌, ℕ, zero, suc, ◌<◌, Bool, true, false, cond, Some, List, [], ◌∷◌, ◌++◌, length, map, refl, sym, ap, ◌∙◌, subst, arith}
use Rattle.std.proofs.lemmas.Option.{slice_get_within}
use Rattle.am_lemmas.proofs.Lists.{slice_get-Some}
use Rattle.am_names.specs.declared.Packet.{Packet}
use Rattle.am_office_entries.specs.declared.Entry.{Entry}
use Rattle.am_model.specs.Layout.{AllAre, EndSetting, IsLawful, IsSettingLawful, Layout, node_at}
use Rattle.am_endpoint.specs.View.{EndpointView}
use Rattle.am_iface.specs.View.{InterfaceView}
use Rattle.am_swap_device.specs.Memory.{Store}
use Rattle.am_machine.specs.declared.node.NodePart.{NodePart}
use Rattle.am_machine.specs.declared.node.shells.Shell.{Shell}
use Rattle.am_machine.specs.Node.Dealt.{AreDealt, FitsShells}
use Rattle.am_machine.specs.Node.Parts.{part_of, parts_of}
use Rattle.am_machine.specs.Node.Shells.{AreShells, is_at}
use Rattle.am_driver_moves.specs.Logs.{kept}
use Rattle.am_machine.specs.Ends.{setting_in}
use Rattle.am_machine.specs.Interfaces.{AreInterfaces}
use Rattle.am_machine.specs.Kept.{IsOwn}
use Rattle.am_machine.specs.Parts.{AreNodeParts, IsNodePart}
use Rattle.am_machine.specs.Swaps.{AreSwaps}
use Rattle.am_machine.specs.Node.Gathered.{is_declared_at}

-- ---- there is room for all endpoints

nodes_below : (n : ℕ) (layout : Layout) (vs : List EndpointView) → layout.nodes ≡ n → AllAre (IsSettingLawful layout) (map setting_in (map kept vs)) →
    AllAre (λ (v : EndpointView). v.settings.node.0 < n) vs
nodes_below n layout [] is h = tt
nodes_below n layout (v ∷ vs) is h = (let lt = h.0.node in omega (arith, lt, is), nodes_below n layout vs is h.1)

pub has_room : (layout : Layout) (journal : List Entry) (vs : List EndpointView) (shells : List Shell) → layout.ends ≡ map setting_in (map kept vs) →
    IsLawful layout → AreShells vs journal layout.nodes layout.nodes shells → FitsShells vs shells
has_room layout journal vs shells ends lawful a =
    record {
      nodes = nodes_below (length shells) layout vs (sym a.all) (subst (AllAre (IsSettingLawful layout)) ends lawful.ends);
      room = λ k s at. (let is = a.each k s at in let none = ap (λ (l : List EndpointView). length l) is.none in let items = s.ends.ok.0 in
          let room = is.room in omega (arith, none, items, room));
    }

-- ---- each part

got_parts : (ss : List Shell) (is : List InterfaceView) (ws : List Store) (k : ℕ) (p : NodePart) → slice_get (parts_of ss is ws) k ≡ Some p →
    (s : Shell) × ((i : InterfaceView) × ((w : Store) × ((slice_get ss k ≡ Some s) × ((slice_get is k ≡ Some i) ×
    ((slice_get ws k ≡ Some w) × (p ≡ part_of s i w))))))
got_parts [] is ws k p at = absurd (cc)
got_parts (s ∷ ss) [] ws k p at = absurd (cc)
got_parts (s ∷ ss) (i ∷ is) [] k p at = absurd (cc)
got_parts (s ∷ ss) (i ∷ is) (w ∷ ws) zero p at = (s, (i, (w, (refl, (refl, (refl, (let same : part_of s i w ≡ p = cc in sym same)))))))
got_parts (s ∷ ss) (i ∷ is) (w ∷ ws) (suc k) p at = got_parts ss is ws k p at

parts_length : (ss : List Shell) (is : List InterfaceView) (ws : List Store) → length is ≡ length ss → length ws ≡ length ss →
    length (parts_of ss is ws) ≡ length ss
parts_length [] is ws a b = refl
parts_length (s ∷ ss) [] ws a b = absurd (omega (arith, a))
parts_length (s ∷ ss) (i ∷ is) [] a b = absurd (omega (arith, b))
parts_length (s ∷ ss) (i ∷ is) (w ∷ ws) a b = let more = parts_length ss is ws (omega (arith, a)) (omega (arith, b)) in omega (arith, more)

-- the endpoints of a node are those that are declared there
declared_there : (k : ℕ) (vs : List EndpointView) → map (λ (v : EndpointView). setting_in (kept v)) (filter (is_at (node_at k)) vs) ≡ filter
    (is_declared_at (node_at k)) (map setting_in (map kept vs))
declared_there k [] = refl
declared_there k (v ∷ vs) = by_test (is_at (node_at k) v) (declared_there k vs)
  where
    by_test : (b : Bool) → map (λ (w : EndpointView). setting_in (kept w)) (filter (is_at (node_at k)) vs) ≡ filter (is_declared_at (node_at k))
        (map setting_in (map kept vs)) → map (λ (w : EndpointView). setting_in (kept w))
        (cond b (v ∷ filter (is_at (node_at k)) vs) (filter (is_at (node_at k)) vs)) ≡ cond b
        (setting_in (kept v) ∷ filter (is_declared_at (node_at k)) (map setting_in (map kept vs)))
        (filter (is_declared_at (node_at k)) (map setting_in (map kept vs)))
    by_test true more = ap (λ (ss : List EndSetting). setting_in (kept v) ∷ ss) more
    by_test false more = more

own_there : (layout : Layout) (journal : List Entry) (k : ℕ) (vs : List EndpointView) → AllAre (IsOwn layout journal) (map kept vs) →
    AllAre (λ (v : EndpointView). IsOwn layout journal (kept v)) (filter (is_at (node_at k)) vs)
own_there layout journal k [] h = tt
own_there layout journal k (v ∷ vs) h = by_test (is_at (node_at k) v) (own_there layout journal k vs h.1)
  where
    by_test : (b : Bool) → AllAre (λ (w : EndpointView). IsOwn layout journal (kept w)) (filter (is_at (node_at k)) vs) →
        AllAre (λ (w : EndpointView). IsOwn layout journal (kept w)) (cond b (v ∷ filter (is_at (node_at k)) vs) (filter (is_at (node_at k)) vs))
    by_test true more = (h.0, more)
    by_test false more = more

module _ (layout : Layout) (journal : List Entry) (vs : List EndpointView) (shells dealt : List Shell) (is : List InterfaceView) (ws : List Store) where
  -- what a cluster of the packet network and its shells are
  pub record IsTakenApart : Type 0 where
    pub packet : layout.direct ≡ false
    pub ends' : layout.ends ≡ map setting_in (map kept vs)
    pub own : AllAre (IsOwn layout journal) (map kept vs)
    pub interfaces' : AreInterfaces layout journal is
    pub swaps' : AreSwaps layout journal ws
    pub opened : AreShells vs journal layout.nodes layout.nodes shells
    pub dealt' : AreDealt vs shells dealt

  pub same_lengths : IsTakenApart → (length is ≡ length dealt) × (length ws ≡ length dealt)
  same_lengths t =
      let count : ◌≡◌ {A = ℕ} (cond layout.direct 0 layout.nodes) layout.nodes = ap (λ (b : Bool). cond b 0 layout.nodes) t.packet in
      let i = t.interfaces'.all in
      let w = t.swaps'.all in
      let opened = t.opened.all in
      let dealt'' = t.dealt'.all in
      (i ∙ count ∙ sym (dealt'' ∙ opened), w ∙ count ∙ sym (dealt'' ∙ opened))

  module _ (t : IsTakenApart) where
    is_part : (k : ℕ) (s : Shell) (i : InterfaceView) (w : Store) → slice_get dealt k ≡ Some s → slice_get is k ≡ Some i → slice_get ws k ≡ Some w →
        k < length shells → IsNodePart layout journal (node_at k) (part_of s i w)
    is_part k s i w at_s at_i at_w lt =
        let r = slice_get-Some shells k lt in
        let o = t.opened.each k r.0 r.1 in
        let f = t.dealt'.each k r.0 s r.1 at_s in
        let ends : s.ends.items ≡ filter (is_at (node_at k)) vs = f.ends' ∙ ap (λ (l : List EndpointView). l ++ filter (is_at (node_at k)) vs) o.none in
        let emitted = ap (λ (v : Vec (Vec Packet)). v.items) f.emitted' in
        let received = ap (λ (v : Vec ℕ). v.items) f.received' in
        record {
          is_node = f.node' ∙ o.is_node;
          ends' = ap (map (λ (v : EndpointView). setting_in (kept v))) ends ∙ declared_there k vs ∙ ap (filter (is_declared_at (node_at k))) (sym t.ends');
          own = subst (AllAre (λ (v : EndpointView). IsOwn layout journal (kept v))) (sym ends) (own_there layout journal k vs t.own);
          interface = t.interfaces'.each k i at_i;
          disk = t.swaps'.each k w at_w;
          all_emitted = ap (λ (l : List (Vec Packet)). length l) emitted ∙ o.emitted'.all;
          emitted' = λ j ps at. o.emitted'.each j ps (ap (λ (l : List (Vec Packet)). slice_get l j) (sym emitted) ∙ at);
          all_received = ap (λ (l : List ℕ). length l) received ∙ o.received'.all;
          received' = λ j n at. o.received'.each j n (ap (λ (l : List ℕ). slice_get l j) (sym received) ∙ at);
        }

    pub are_parts : AreNodeParts layout journal (parts_of dealt is ws)
    are_parts =
        let lengths = same_lengths t in
        let all = parts_length dealt is ws lengths.0 lengths.1 in
        record {
          all = all ∙ t.dealt'.all ∙ t.opened.all;
          each = λ k p at.
              (let r = got_parts dealt is ws k p at in
              let lt = slice_get_within dealt k r.0 r.1.1.1.0 in
              let same = t.dealt'.all in
              subst (IsNodePart layout journal (node_at k)) (sym r.1.1.1.1.1.1) (is_part k r.0 r.1.0 r.1.1.0 r.1.1.1.0 r.1.1.1.1.0 r.1.1.1.1.1.0
              (omega (arith, lt, same))));
        }

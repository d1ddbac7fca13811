-- The interfaces of a cluster, one entry more.
use Rattle.std.specs.Prelude.{slice_get, slice_set}
use Rattle.std.specs.List.{filter}
use Rattle.std.proofs.Common.{◌≡◌, ⊎_elim, ℕ, ◌<◌, Bool, true, false, cond, List, [], ◌∷◌, ◌++◌, length, Some, None, refl, sym, ap, ◌∙◌, subst, arith, eqb-true}
use Rattle.std.proofs.Common.{eq-eqb, if◌then◌else◌}
use Rattle.std.proofs.lemmas.List.{append-nil, length_push, length-set}
use Rattle.std.proofs.lemmas.List.Elements.{filter-append}
use Rattle.am_lemmas.proofs.Lists.{slice_get-set_cases}
use Rattle.am_names.specs.declared.NodeId.{NodeId}
use Rattle.am_names.specs.Names.{same_node}
use Rattle.am_office_entries.specs.declared.Entry.{Entry}
use Rattle.am_office_entries.specs.Entries.{is_node, node_touched, touches_node}
use Rattle.am_model.specs.Layout.{Layout, node_at}
use Rattle.am_iface.specs.View.{InterfaceView}
use Rattle.am_machine.specs.Interfaces.{AreInterfaces, IsInterface}

part_push : (node : NodeId) (journal : List Entry) (x : Entry) (t : Bool) → touches_node node x ≡ t →
    filter (touches_node node) (journal ++ x ∷ []) ≡ (if t then filter (touches_node node) journal ++ x ∷ [] else filter (touches_node node) journal)
part_push node journal x t is = filter-append (touches_node node) journal (x ∷ []) ∙ rw is (by_test t)
  where
    by_test : (b : Bool) → filter (touches_node node) journal ++ cond b (x ∷ []) [] ≡ (if b then filter (touches_node node) journal ++ x ∷ [] else filter
        (touches_node node) journal)
    by_test true = refl
    by_test false = append-nil (filter (touches_node node) journal)

-- one that an entry doesn't touch
untouched : (layout : Layout) (journal : List Entry) (x : Entry) (node : NodeId) (i : InterfaceView) → touches_node node x ≡ false →
    IsInterface layout journal node i → IsInterface layout (journal ++ x ∷ []) node i
untouched layout journal x node i off is =
    record {
      is_node = is.is_node;
      nodes = is.nodes;
      channels = is.channels;
      tries = is.tries;
      bounces = is.bounces;
      limit = is.limit;
      homes = is.homes;
      part = is.part ∙ sym (part_push node journal x false off);
      bounded = is.bounded;
    }

-- an entry that touches no interface
pub interfaces_same : (layout : Layout) (journal : List Entry) (x : Entry) (is : List InterfaceView) → node_touched x.event ≡ None →
    AreInterfaces layout journal is → AreInterfaces layout (journal ++ x ∷ []) is
interfaces_same layout journal x is none are =
    record {
      each = λ k i at. untouched layout journal x (node_at k) i (ap (is_node (node_at k)) none) (are.each k i at);
      all = are.all;
    }

nodes_differ : (k : ℕ) (node : NodeId) → (k ≡ node.0 → ⊥) → same_node (node_at k) node ≡ false
nodes_differ k node apart = by_test (same_node (node_at k) node) refl
  where
    by_test : (t : Bool) → same_node (node_at k) node ≡ t → t ≡ false
    by_test true is = absurd (apart (eqb-true k node.0 is))
    by_test false is = refl

-- an entry more in the log of the one that it touches
pub interfaces_more : (layout : Layout) (journal : List Entry) (x : Entry) (is : List InterfaceView) (node : NodeId) (i j : InterfaceView) →
    node_touched x.event ≡ Some node → slice_get is node.0 ≡ Some i → length i.log < layout.log → j ≡ record i { log = i.log ++ x ∷ [] } →
    AreInterfaces layout journal is → AreInterfaces layout (journal ++ x ∷ []) (slice_set is node.0 j)
interfaces_more layout journal x is node i j touched at room more are =
    record {
      each = λ k d got. ⊎_elim (here k d) (there k d) (slice_get-set_cases is node.0 k j d got);
      all = length-set is node.0 j ∙ are.all;
    }
  where
    old : IsInterface layout journal (node_at node.0) i
    old = are.each node.0 i at

    on : touches_node (node_at node.0) x ≡ true
    on = ap (is_node (node_at node.0)) touched ∙ eq-eqb node.0 node.0 refl

    grown : IsInterface layout (journal ++ x ∷ []) (node_at node.0) (record i { log = i.log ++ x ∷ [] })
    grown =
        record {
          is_node = old.is_node;
          nodes = old.nodes;
          channels = old.channels;
          tries = old.tries;
          bounces = old.bounces;
          limit = old.limit;
          homes = old.homes;
          part = ap (λ (xs : List Entry). xs ++ x ∷ []) old.part ∙ sym (part_push (node_at node.0) journal x true on);
          bounded = (let longer = length_push i.log x in omega (arith, longer, room));
        }

    here : (k : ℕ) (d : InterfaceView) → (k ≡ node.0) × (d ≡ j) → IsInterface layout (journal ++ x ∷ []) (node_at k) d
    here k d both =
        subst (λ (n : ℕ). IsInterface layout (journal ++ x ∷ []) (node_at n) d) (sym both.0)
        (subst (IsInterface layout (journal ++ x ∷ []) (node_at node.0)) (sym (both.1 ∙ more)) grown)

    there : (k : ℕ) (d : InterfaceView) → (k ≡ node.0 → ⊥) × (slice_get is k ≡ Some d) → IsInterface layout (journal ++ x ∷ []) (node_at k) d
    there k d both = untouched layout journal x (node_at k) d (ap (is_node (node_at k)) touched ∙ nodes_differ k node both.0) (are.each k d both.1)

-- the same of another layout that is the same, and another journal
pub interfaces_moved : (old new : Layout) (journal longer : List Entry) (is : List InterfaceView) → old ≡ new → journal ≡ longer →
    AreInterfaces old journal is → AreInterfaces new longer is
interfaces_moved old new journal longer is same more are = coe 0 1 (k. AreInterfaces (same k) (more k) is) are

-- The logs of the nodes' parts, and the journal that they are parts of.
use Rattle.std.specs.Prelude.{nat_lt, not, slice_get}
use Rattle.std.specs.List.{filter, list_all, list_any}
use Rattle.std.proofs.Common.{◌≡◌, ◌⊎◌, inl, inr, ⊎_elim, ℕ, zero, suc, ◌<◌, Bool, true, false, cond, ◌||◌, ◌&&◌, Option, Some, None, List, [], ◌∷◌, ◌++◌, map}
use Rattle.std.proofs.Common.{refl, sym, ap, ◌∙◌, subst, arith, eqb-true, eq-eqb, ltb-true, true≢false}
use Rattle.std.proofs.lemmas.Bool.{and_parts, or_right, or_left}
use Rattle.am_lemmas.proofs.Lists.{slice_get-Some}
use Rattle.am_names.specs.declared.EndpointId.{EndpointId}
use Rattle.am_names.specs.declared.NodeId.{NodeId}
use Rattle.am_names.specs.Names.{same_end}
use Rattle.am_office_entries.specs.declared.Event.{Event}
use Rattle.am_office_entries.specs.declared.Event.TheVariants as Events
use Rattle.am_office_entries.specs.declared.Outcome.{Outcome}
use Rattle.am_office_entries.specs.declared.Entry.{Entry}
use Rattle.am_office_entries.specs.Entries.{ends_touched, is_node, node_touched, share_part, shares_node, touches, touches_node}
use Rattle.am_model.specs.History.{EachAfter, IsHistory, MayFollow, is_in_range, is_later, is_taken_before}
use Rattle.am_model.specs.Layout.{AllAre, EndSetting, IsLawful, IsSettingLawful, Layout, declared, has_id, node_at}
use Rattle.am_model.proofs.Names.{same_end-is, same_end-first}
use Rattle.am_model.proofs.Alls.{all_at, all_by_place, all_append}
use Rattle.am_endpoint.specs.View.{EndpointView}
use Rattle.am_model_merge.specs.Logs.{IsRising}
use Rattle.am_model_merge.specs.Merged.{entries_of}
use Rattle.am_model_merge.proofs.Sorted.{Has, all_has, contains_has, filter_has, has_contains, has_filter, has_first, has_last, has_append}
use Rattle.am_machine_journal.specs.Merge.Joined.{AreAmong, HaveJust}
use Rattle.am_machine.specs.declared.node.NodePart.{NodePart}
use Rattle.am_machine.specs.Node.Parts.{all_logs, log_of, logs_of_part}
use Rattle.am_driver_moves.specs.Logs.{kept}
use Rattle.am_machine.specs.Ends.{setting_in}
use Rattle.am_machine.specs.Kept.{IsOwn}
use Rattle.am_machine.specs.Parts.{AreNodeParts, IsNodePart}
use Rattle.am_machine.specs.Node.Gathered.{is_declared_at}

-- ---- each log is a part of the journal

pub data IsPartOf (journal : List Entry) (log : List Entry) : Type 0 where
  OfEnd : (e : EndpointId) → log ≡ filter (touches e) journal → IsPartOf journal log
  OfNode : (node : NodeId) → log ≡ filter (touches_node node) journal → IsPartOf journal log

ends_of : (layout : Layout) (journal : List Entry) (vs : List EndpointView) → AllAre (λ (e : EndpointView). IsOwn layout journal (kept e)) vs →
    AllAre (IsPartOf journal) (map log_of vs)
ends_of layout journal [] h = tt
ends_of layout journal (v ∷ vs) h = (OfEnd v.settings.id h.0.log, ends_of layout journal vs h.1)

of_parts : (layout : Layout) (journal : List Entry) (parts : List NodePart) →
    AllAre (λ (p : NodePart). (node : NodeId) × IsNodePart layout journal node p) parts → AllAre (IsPartOf journal) (all_logs parts)
of_parts layout journal [] h = tt
of_parts layout journal (p ∷ parts) h =
    all_append (IsPartOf journal) (logs_of_part p) (all_logs parts)
    (all_append (IsPartOf journal) (map log_of p.ends.items) (p.iface.log ∷ []) (ends_of layout journal p.ends.items h.0.1.own)
    (OfNode h.0.0 h.0.1.interface.part, tt))
    (of_parts layout journal parts h.1)

pub all_parts : (layout : Layout) (journal : List Entry) (parts : List NodePart) → AreNodeParts layout journal parts →
    AllAre (IsPartOf journal) (all_logs parts)
all_parts layout journal parts a = of_parts layout journal parts (all_by_place (λ (p : NodePart). (node : NodeId) × IsNodePart layout journal node p) parts
    (λ k p at. (node_at k, a.each k p at)))

of_journal : (journal log : List Entry) (x : Entry) → IsPartOf journal log → Has log x → Has journal x
of_journal journal log x (OfEnd e is) h = (has_filter (touches e) journal x (subst (λ (l : List Entry). Has l x) is h)).0
of_journal journal log x (OfNode node is) h = (has_filter (touches_node node) journal x (subst (λ (l : List Entry). Has l x) is h)).0

among : (journal : List Entry) (logs : List (List Entry)) → AllAre (IsPartOf journal) logs → (x : Entry) → Has (entries_of logs) x → Has journal x
among journal [] all x h = absurd h
among journal (log ∷ logs) all x h =
    ⊎_elim (λ (here : Has log x). of_journal journal log x all.0 here) (λ (there : Has (entries_of logs) x). among journal logs all.1 x there)
    (has_append log (entries_of logs) x h)

pub are_among : (journal : List Entry) (logs : List (List Entry)) → AllAre (IsPartOf journal) logs → AreAmong journal (entries_of logs)
are_among journal logs all x c = has_contains journal x (among journal logs all x (contains_has (entries_of logs) x c))

-- ---- stamps rise in each part of a history

any_touches : (e : EndpointId) (z : Entry) (es : List EndpointId) → touches e z ≡ true → list_any (same_end e) es ≡ true →
    list_any (λ (d : EndpointId). touches d z) es ≡ true
any_touches e z [] is h = absurd (true≢false (sym h))
any_touches e z (d ∷ es) is h = by_test (same_end e d) refl h (any_touches e z es is)
  where
    by_test : (b : Bool) → same_end e d ≡ b → (b || list_any (same_end e) es) ≡ true → (list_any (same_end e) es ≡ true →
        list_any (λ (f : EndpointId). touches f z) es ≡ true) → (touches d z || list_any (λ (f : EndpointId). touches f z) es) ≡ true
    by_test true same g more = ap (λ (b : Bool). b || list_any (λ (f : EndpointId). touches f z) es)
        (ap (λ (f : EndpointId). touches f z) (sym (same_end-is e d same)) ∙ is)
    by_test false other g more = or_true (touches d z) (list_any (λ (f : EndpointId). touches f z) es) (more g)
      where
        or_true : (a b : Bool) → b ≡ true → (a || b) ≡ true
        or_true true b h = refl
        or_true false b h = h

share_end : (e : EndpointId) (y z : Entry) → touches e y ≡ true → touches e z ≡ true → share_part y z ≡ true
share_end e y z a b = or_left (list_any (λ (d : EndpointId). touches d z) (ends_touched y.event y.outcome)) (shares_node (node_touched y.event) z)
    (any_touches e z (ends_touched y.event y.outcome) b a)

share_node : (n : NodeId) (y z : Entry) → touches_node n y ≡ true → touches_node n z ≡ true → share_part y z ≡ true
share_node n y z a b = or_right (list_any (λ (d : EndpointId). touches d z) (ends_touched y.event y.outcome)) (shares_node (node_touched y.event) z)
    (by_node (node_touched y.event) a)
  where
    by_node : (o : Option NodeId) → is_node n o ≡ true → shares_node o z ≡ true
    by_node None h = absurd (true≢false (sym h))
    by_node (Some m) h =
        let number = eqb-true n.0 m.0 h in
        let same : n ≡ m = (λ i. record { 0 = number i }) in
        ap (λ (k : NodeId). touches_node k z) (sym same) ∙ b

module _ (layout : Layout) (q : Entry → Bool) (shares : (y z : Entry) → q y ≡ true → q z ≡ true → share_part y z ≡ true) where
  above_it : (x y : Entry) (past : List Entry) → Has past x → q x ≡ true → q y ≡ true → is_later past y ≡ true → x.stamp < y.stamp
  above_it x y past has at_x at_y later =
      let parts = and_parts (list_all (λ (z : Entry). not (share_part y z) || nat_lt z.stamp y.stamp) past) (is_taken_before y.stamp past y.event) later in
      let test = all_has (λ (z : Entry). not (share_part y z) || nat_lt z.stamp y.stamp) past x parts.0 has in
      ltb-true x.stamp y.stamp (sym (ap (λ (b : Bool). not b || nat_lt x.stamp y.stamp) (shares y x at_y at_x)) ∙ test)

  all_above : (x : Entry) (past xs : List Entry) → Has past x → q x ≡ true → EachAfter (MayFollow layout) past xs →
      AllAre (λ (y : Entry). x.stamp < y.stamp) (filter q xs)
  all_above x past [] has at each = tt
  all_above x past (y ∷ xs) has at each = by_test (q y) refl (all_above x (past ++ y ∷ []) xs (has_first past (y ∷ []) x has) at each.1)
    where
      by_test : (b : Bool) → q y ≡ b → AllAre (λ (z : Entry). x.stamp < z.stamp) (filter q xs) →
          AllAre (λ (z : Entry). x.stamp < z.stamp) (cond b (y ∷ filter q xs) (filter q xs))
      by_test true is more = (above_it x y past has at is each.0.later, more)
      by_test false is more = more

  pub rises : (past xs : List Entry) → EachAfter (MayFollow layout) past xs → IsRising (filter q xs)
  rises past [] each = tt
  rises past (x ∷ xs) each = by_test (q x) refl (rises (past ++ x ∷ []) xs each.1)
    where
      by_test : (b : Bool) → q x ≡ b → IsRising (filter q xs) → IsRising (cond b (x ∷ filter q xs) (filter q xs))
      by_test true is more = (all_above x (past ++ x ∷ []) xs (has_last past (x ∷ []) x (inl refl)) is each.1, more)
      by_test false is more = more

part_rises : (layout : Layout) (journal log : List Entry) → IsHistory layout journal → IsPartOf journal log → IsRising log
part_rises layout journal log history (OfEnd e is) = subst IsRising (sym is) (rises layout (touches e) (share_end e) [] journal history)
part_rises layout journal log history (OfNode node is) = subst IsRising (sym is) (rises layout (touches_node node) (share_node node) [] journal history)

pub all_rise : (layout : Layout) (journal : List Entry) (logs : List (List Entry)) → IsHistory layout journal → AllAre (IsPartOf journal) logs →
    AllAre IsRising logs
all_rise layout journal [] history all = tt
all_rise layout journal (log ∷ logs) history all = (part_rises layout journal log history all.0, all_rise layout journal logs history all.1)

-- ---- each entry stands in a log

-- a part that an event touches whatever comes of it: an endpoint that is declared, or one of the interfaces
abbrev pub Touched : Layout → Event → Type 0
Touched layout event = ((e : EndpointId) × ((declared layout e ≡ true) × ((o : Outcome) → list_any (same_end e) (ends_touched event o) ≡ true))) ⊎
    ((n : NodeId) × ((n.0 < layout.nodes) × (is_node n (node_touched event) ≡ true)))

pub touched : (layout : Layout) (event : Event) → is_in_range layout event ≡ true → Touched layout event
touched layout (Events.Call actor end call) h = inl (end, ((and_parts _ (declared layout end) (and_parts _ _ h).0).1, λ o. same_end-first end []))
touched layout (Events.Want actor end) h = inl (end, ((and_parts _ (declared layout end) h).1, λ o. same_end-first end []))
touched layout (Events.Carry end) h = inl (end, (h, λ o. same_end-first end _))
touched layout (Events.Bind node end) h = inl (end, ((and_parts (declared layout end) _ h).0, λ o. same_end-first end []))
touched layout (Events.Expire node peer channel) h =
    inr (
      node,
      (
        ltb-true node.0 layout.nodes (and_parts (nat_lt node.0 layout.nodes) _ (and_parts (nat_lt node.0 layout.nodes && nat_lt peer.0 layout.nodes) _
            h).0).0,
        eq-eqb node.0 node.0 refl,
      ),
    )
touched layout (Events.Receive node peer number) h =
    inr (
      node,
      (
        ltb-true node.0 layout.nodes (and_parts (nat_lt node.0 layout.nodes) _ (and_parts (nat_lt node.0 layout.nodes && nat_lt peer.0 layout.nodes) _
            (and_parts _ _ h).0).0).0,
        eq-eqb node.0 node.0 refl,
      ),
    )
touched layout (Events.Drain node end) h = inl (end, ((and_parts (declared layout end) _ h).0, λ o. same_end-first end []))
touched layout (Events.Unload node end) h = inl (end, ((and_parts (declared layout end) _ h).0, λ o. same_end-first end []))
touched layout (Events.Load node end frame) h = inl (end, ((and_parts (declared layout end) _ (and_parts _ _ h).0).0, λ o. same_end-first end []))
touched layout (Events.PageOut node end) h = inl (end, ((and_parts (declared layout end) _ h).0, λ o. same_end-first end []))
touched layout (Events.PageIn node end) h = inl (end, ((and_parts (declared layout end) _ h).0, λ o. same_end-first end []))

ranged : (layout : Layout) (past xs : List Entry) (x : Entry) → EachAfter (MayFollow layout) past xs → Has xs x → is_in_range layout x.event ≡ true
ranged layout past [] x each h = absurd h
ranged layout past (y ∷ xs) x each h =
    ⊎_elim (λ (here : y ≡ x). subst (λ (w : Entry). is_in_range layout w.event ≡ true) here each.0.in_range)
    (λ (there : Has xs x). ranged layout (past ++ y ∷ []) xs x each.1 there) h

-- the setting of an endpoint that is declared
pub setting_there : (e : EndpointId) (ss : List EndSetting) → list_any (has_id e) ss ≡ true →
    (k : ℕ) × ((s : EndSetting) × ((slice_get ss k ≡ Some s) × (same_end e s.id ≡ true)))
setting_there e [] h = absurd (true≢false (sym h))
setting_there e (s ∷ ss) h = by_test (same_end e s.id) refl h (setting_there e ss)
  where
    by_test : (b : Bool) → same_end e s.id ≡ b → (b || list_any (has_id e) ss) ≡ true → (list_any (has_id e) ss ≡ true →
        (k : ℕ) × ((t : EndSetting) × ((slice_get ss k ≡ Some t) × (same_end e t.id ≡ true)))) →
        (k : ℕ) × ((t : EndSetting) × ((slice_get (s ∷ ss) k ≡ Some t) × (same_end e t.id ≡ true)))
    by_test true is g more = (0, (s, (refl, is)))
    by_test false is g more = let r = more g in (suc r.0, (r.1.0, r.1.1))

got_filter : {X : Type 0} (p : X → Bool) (xs : List X) (k : ℕ) (x : X) → slice_get xs k ≡ Some x → p x ≡ true → (j : ℕ) × (slice_get (filter p xs) j ≡ Some x)
got_filter p [] k x at is = absurd (cc)
got_filter {X} p (y ∷ xs) zero x at is = let same : y ≡ x = cc in (
  0,
  ap (λ (b : Bool). slice_get (cond b (y ∷ filter p xs) (filter p xs)) 0) (ap p same ∙ is)
      ∙ ap (λ (z : X). Some z) same,
)
got_filter {X} p (y ∷ xs) (suc k) x at is = by_test (p y) (got_filter p xs k x at is)
  where
    by_test : (b : Bool) → (j : ℕ) × (slice_get (filter p xs) j ≡ Some x) → (j : ℕ) × (slice_get (cond b (y ∷ filter p xs) (filter p xs)) j ≡ Some x)
    by_test true r = (suc r.0, r.1)
    by_test false r = r

pub got_mapped : {X Y : Type 0} (f : X → Y) (xs : List X) (k : ℕ) (y : Y) → slice_get (map f xs) k ≡ Some y → (x : X) × ((slice_get xs k ≡ Some x) × (f x ≡ y))
got_mapped f [] k y at = absurd (cc)
got_mapped f (x ∷ xs) zero y at = (x, (refl, (let same : f x ≡ y = cc in same)))
got_mapped f (x ∷ xs) (suc k) y at = got_mapped f xs k y at

-- the log of an endpoint or of an interface is among those of the node
log_there : (vs : List EndpointView) (k : ℕ) (v : EndpointView) (x : Entry) → slice_get vs k ≡ Some v → Has v.log x → Has (entries_of (map log_of vs)) x
log_there [] k v x at h = absurd (cc)
log_there (w ∷ vs) zero v x at h = let same : w ≡ v = cc in has_first w.log (entries_of (map log_of vs)) x
    (subst (λ (u : EndpointView). Has u.log x) (sym same) h)
log_there (w ∷ vs) (suc k) v x at h = has_last w.log (entries_of (map log_of vs)) x (log_there vs k v x at h)

pub entries_left : (ls bs : List (List Entry)) (x : Entry) → Has (entries_of ls) x → Has (entries_of (ls ++ bs)) x
entries_left [] bs x h = absurd h
entries_left (a ∷ ls) bs x h =
    ⊎_elim (λ (here : Has a x). has_first a (entries_of (ls ++ bs)) x here) (λ (there : Has (entries_of ls) x). has_last a (entries_of (ls ++ bs)) x
    (entries_left ls bs x there)) (has_append a (entries_of ls) x h)

pub entries_right : (ls bs : List (List Entry)) (x : Entry) → Has (entries_of bs) x → Has (entries_of (ls ++ bs)) x
entries_right [] bs x h = h
entries_right (a ∷ ls) bs x h = has_last a (entries_of (ls ++ bs)) x (entries_right ls bs x h)

part_there : (parts : List NodePart) (k : ℕ) (p : NodePart) (x : Entry) → slice_get parts k ≡ Some p → Has (entries_of (logs_of_part p)) x →
    Has (entries_of (all_logs parts)) x
part_there [] k p x at h = absurd (cc)
part_there (q ∷ parts) zero p x at h =
    let same : q ≡ p = cc in
    entries_left (logs_of_part q) (all_logs parts) x (subst (λ (r : NodePart). Has (entries_of (logs_of_part r)) x) (sym same) h)
part_there (q ∷ parts) (suc k) p x at h = entries_right (logs_of_part q) (all_logs parts) x (part_there parts k p x at h)

module _ (layout : Layout) (journal : List Entry) (parts : List NodePart) (lawful : IsLawful layout) (history : IsHistory layout journal)
    (a : AreNodeParts layout journal parts) where
  in_node : (x : Entry) (n : NodeId) → Has journal x → n.0 < layout.nodes → touches_node n x ≡ true → Has (entries_of (all_logs parts)) x
  in_node x n h lt is =
      let p = slice_get-Some parts n.0 (let all = a.all in omega (arith, lt, all)) in
      let part = a.each n.0 p.0 p.1 in
      part_there parts n.0 p.0 x p.1
      (entries_right (map log_of p.0.ends.items) (p.0.iface.log ∷ []) x
      (has_first p.0.iface.log [] x (subst (λ (l : List Entry). Has l x) (sym part.interface.part) (filter_has (touches_node (node_at n.0)) journal x h is))))

  in_end : (x : Entry) (e : EndpointId) → Has journal x → declared layout e ≡ true → touches e x ≡ true → Has (entries_of (all_logs parts)) x
  in_end x e h known is =
      let s = setting_there e layout.ends known in
      let node = s.1.0.node in
      let lt = (all_at (IsSettingLawful layout) layout.ends s.0 s.1.0 lawful.ends s.1.1.0).node in
      let p = slice_get-Some parts node.0 (let all = a.all in omega (arith, lt, all)) in
      let part = a.each node.0 p.0 p.1 in
      let there = got_filter (is_declared_at (node_at node.0)) layout.ends s.0 s.1.0 s.1.1.0 (eq-eqb node.0 node.0 refl) in
      let v = got_mapped (λ (w : EndpointView). setting_in (kept w)) p.0.ends.items there.0 s.1.0 (ap (λ (l : List EndSetting). slice_get l there.0) part.ends'
      ∙ there.1) in
      let id : v.0.settings.id ≡ e = ap (λ (t : EndSetting). t.id) v.1.1 ∙ sym (same_end-is e s.1.0.id s.1.1.1) in
      let own = all_at (λ (w : EndpointView). IsOwn layout journal (kept w)) p.0.ends.items there.0 v.0 part.own v.1.0 in
      part_there parts node.0 p.0 x p.1
      (entries_left (map log_of p.0.ends.items) (p.0.iface.log ∷ []) x
      (log_there p.0.ends.items there.0 v.0 x v.1.0
      (subst (λ (l : List Entry). Has l x) (sym own.log) (filter_has (touches v.0.settings.id) journal x h (ap (λ (d : EndpointId). touches d x) id ∙ is)))))

  stands : (x : Entry) → Has journal x → Has (entries_of (all_logs parts)) x
  stands x h =
      ⊎_elim
      (λ (t : (e : EndpointId) × ((declared layout e ≡ true) × ((o : Outcome) → list_any (same_end e) (ends_touched x.event o) ≡ true))). in_end x t.0 h t.1.0
      (t.1.1 x.outcome))
      (λ (t : (n : NodeId) × ((n.0 < layout.nodes) × (is_node n (node_touched x.event) ≡ true))). in_node x t.0 h t.1.0 t.1.1)
      (touched layout x.event (ranged layout [] journal x history h))

  -- the logs have just the entries of the journal
  pub have_just : HaveJust journal (all_logs parts)
  have_just =
      record {
        own = are_among journal (all_logs parts) (all_parts layout journal parts a);
        all = λ x c. has_contains (entries_of (all_logs parts)) x (stands x (contains_has journal x c));
      }

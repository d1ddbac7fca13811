-- A received packet is the one that is due on its link.
use Rattle.std.specs.Prelude.{slice_get, is_some}
use Rattle.std.specs.List.{filter, filter_map, cons_option}
use Rattle.std.proofs.Common.{◌≡◌, ℕ, zero, suc, ◌+◌, ◌<◌, ◌≤◌, Bool, true, false, cond, ◌&&◌, List, [], ◌∷◌, ◌++◌, map, length, Option, Some, None, refl, sym}
use Rattle.std.proofs.Common.{ap, ◌∙◌, subst, arith, if◌then◌else◌}
use Rattle.std.proofs.lemmas.List.Elements.{filter-append}
use Rattle.am_names.specs.declared.NodeId.{NodeId}
use Rattle.am_names.specs.declared.Packet.{Packet}
use Rattle.am_names.specs.declared.Packet.TheVariants as Packets
use Rattle.am_names.specs.Names.{same_node}
use Rattle.am_office_entries.specs.declared.Event.{Event}
use Rattle.am_office_entries.specs.declared.Event.TheVariants as Events
use Rattle.am_office_entries.specs.declared.Entry.{Entry}
use Rattle.am_office_entries.specs.Entries.{emitted_of, is_node, node_touched, touches_node}
use Rattle.am_model.specs.Layout.{AllAre}
use Rattle.am_model.specs.Channels.{emitted, is_on_link}
use Rattle.am_model.specs.Merge.{is_ordered}
use Rattle.am_model.specs.Packets as model
use Rattle.am_model.proofs.Names.{same_node-refl}
use Rattle.am_model.proofs.Stamps.{emitted_stamp, stamp_in}
use Rattle.am_model_parts.proofs.Growing.{emitted_append}
use Rattle.am_model_parts.proofs.Parts.{emitted_own}
use Rattle.am_scenario_plan.specs.declared.plan.LinkFault.{LinkFault}
use Rattle.am_scenario_plan.specs.declared.plan.LinkFault.TheVariants.{Lose, Repeat, Late}
use Rattle.am_scenario_plan.specs.Shape.{at_once, fault_at, late_from, number_of, released_by, shape, shape_after, stamp_of, stamped}
use Rattle.am_scenario_plan.proofs.Shapes.{begins_alike}
use Rattle.am_scenario_types.specs.Lists.{ScenarioLists}
use Rattle.am_model_merge.specs.Logs.{Logs, MergesInto}
use Rattle.am_model_scripts.specs.Links.{IsReceiptInOrder, due, number_received, numbers_released, received}
use Rattle.am_workers_laws.specs.Phases.Crew.{AreReceipts, IsLinkOf, is_receipt}
use Rattle.am_workers_laws.proofs.Splits.{filter_within, not_below}

-- ---- what an emission releases is stamped by it

-- none of the packets is stamped below
abbrev pub AreFrom : ℕ → List Packet → Type 0
AreFrom t ps = AllAre (λ (p : Packet). t ≤ stamp_of p) ps

from_both : (t : ℕ) (ps qs : List Packet) → AreFrom t ps → AreFrom t qs → AreFrom t (ps ++ qs)
from_both t [] qs a b = b
from_both t (p ∷ ps) qs a b = (a.0, from_both t ps qs a.1 b)

at_once_from : (t : ℕ) (fault : Option LinkFault) (p : Packet) → t ≤ stamp_of p → AreFrom t (at_once fault p)
at_once_from t None p h = (h, tt)
at_once_from t (Some Repeat) p h = (h, (h, tt))
at_once_from t (Some Lose) p h = tt
at_once_from t (Some (Late by)) p h = tt

stamp_is : (n : ℕ) (p : Packet) → stamp_of (stamped n p) ≡ n
stamp_is n (Packets.Parcel p) = refl
stamp_is n (Packets.Answer p) = refl

stamped_from : (t n : ℕ) (ps : List Packet) → t ≤ n → AreFrom t (map (stamped n) ps)
stamped_from t n [] h = tt
stamped_from t n (p ∷ ps) h = (let is : stamp_of (stamped n p) ≡ n = stamp_is n p in omega (arith, is, h), stamped_from t n ps h)

shape_from : (t : ℕ) (fault : ℕ → Option LinkFault) (before ps : List Packet) → AreFrom t ps → AreFrom t (shape_after fault before ps)
shape_from t fault before [] h = tt
shape_from t fault before (p ∷ ps) h =
    from_both t (released_by fault before p) (shape_after fault (before ++ p ∷ []) ps)
    (from_both t (at_once (fault (length before + 1)) p) (map (stamped (stamp_of p)) (late_from fault (length before + 1) 1 before))
    (at_once_from t (fault (length before + 1)) p h.0) (stamped_from t (stamp_of p) (late_from fault (length before + 1) 1 before) h.0))
    (shape_from t fault (before ++ p ∷ []) ps h.1)

pub same_stamp : (p : Packet) → stamp_of p ≡ model.stamp_of p
same_stamp (Packets.Parcel p) = refl
same_stamp (Packets.Answer p) = refl

pub emitted_from : (from to : NodeId) (t : ℕ) (xs : List Entry) → AllAre (λ (y : Entry). t ≤ y.stamp) xs → AreFrom t (emitted from to xs)
emitted_from from to t [] h = tt
emitted_from from to t (x ∷ xs) h =
    keep (emitted_of x) (let is : stamp_in x.stamp (emitted_of x) ≡ x.stamp = emitted_stamp x.stamp x.event x.outcome in
    omega (arith, is, h.0)) (emitted_from from to t xs h.1)
  where
    by_test : (b : Bool) (p : Packet) → t ≤ stamp_of p → AreFrom t (filter (is_on_link from to) (filter_map emitted_of xs)) →
        AreFrom t (cond b (p ∷ filter (is_on_link from to) (filter_map emitted_of xs)) (filter (is_on_link from to) (filter_map emitted_of xs)))
    by_test true p le more = (le, more)
    by_test false p le more = more

    keep : (o : Option Packet) → t ≤ stamp_in x.stamp o → AreFrom t (filter (is_on_link from to) (filter_map emitted_of xs)) →
        AreFrom t (filter (is_on_link from to) (cons_option o (filter_map emitted_of xs)))
    keep None le more = more
    keep (Some p) le more = by_test (is_on_link from to p) p (let is : stamp_of p ≡ model.stamp_of p = same_stamp p in omega (arith, is, le)) more

-- ---- places of lists

pub got_from : (t : ℕ) (ps : List Packet) (k : ℕ) (p : Packet) → AreFrom t ps → slice_get ps k ≡ Some p → t ≤ stamp_of p
got_from t [] k p h at = absurd (cc)
got_from t (q ∷ ps) zero p h at = let same : q ≡ p = cc in subst (λ (r : Packet). t ≤ stamp_of r) same h.0
got_from t (q ∷ ps) (suc k) p h at = got_from t ps k p h.1 at

-- a packet that is stamped below all later ones stands among the earlier ones
early : (t : ℕ) (ps qs : List Packet) (k : ℕ) (p : Packet) → slice_get (ps ++ qs) k ≡ Some p → AreFrom t qs → stamp_of p < t → slice_get ps k ≡ Some p
early t [] qs k p at h less = absurd (let le : t ≤ stamp_of p = got_from t qs k p h at in omega (arith, le, less))
early t (q ∷ ps) qs zero p at h less = at
early t (q ∷ ps) qs (suc k) p at h less = early t ps qs k p at h less

got_left : (ps qs : List Packet) (k : ℕ) (p : Packet) → slice_get ps k ≡ Some p → slice_get (ps ++ qs) k ≡ Some p
got_left [] qs k p at = absurd (cc)
got_left (q ∷ ps) qs zero p at = at
got_left (q ∷ ps) qs (suc k) p at = got_left ps qs k p at

got_mapped : (ps : List Packet) (k : ℕ) (p : Packet) → slice_get ps k ≡ Some p → slice_get (map number_of ps) k ≡ Some (number_of p)
got_mapped [] k p at = absurd (cc)
got_mapped (q ∷ ps) zero p at = let same : q ≡ p = cc in ap (λ (r : Packet). Some (number_of r)) same
got_mapped (q ∷ ps) (suc k) p at = got_mapped ps k p at

counted : (from to : NodeId) (xs : List Entry) → length (received from to xs) ≡ length (filter (is_receipt from to) xs)
counted from to [] = refl
counted from to (x ∷ xs) = by_number (number_received from to x.event) (counted from to xs)
  where
    by_number : (o : Option ℕ) → length (received from to xs) ≡ length (filter (is_receipt from to) xs) →
        length (cons_option o (received from to xs)) ≡ length (cond (is_some o) (x ∷ filter (is_receipt from to) xs) (filter (is_receipt from to) xs))
    by_number None h = h
    by_number (Some k) h = ap suc h

-- ---- the packet of a receipt

-- the packet that an entry receives, and its place
pub record IsReceiptOf (from to : NodeId) (got : List Packet) (place : ℕ) (x : Entry) : Type 0 where
  pub packet : Packet
  pub at : slice_get got place ≡ Some packet
  pub number : number_received from to x.event ≡ Some (number_of packet)
  pub later : stamp_of packet < x.stamp

receipt_at : (from to : NodeId) (got : List Packet) (past : List Entry) (x : Entry) (rest : List Entry) → AreReceipts from to got (past ++ x ∷ rest) →
    IsReceiptOf from to got (length past) x
receipt_at from to [] [] x rest h = absurd h
receipt_at from to (p ∷ got) [] x rest h = record { packet = p; at = refl; number = h.0; later = h.1 }
receipt_at from to [] (y ∷ past) x rest h = absurd h
receipt_at from to (p ∷ got) (y ∷ past) x rest h =
    let r = receipt_at from to got past x rest h.2 in record { packet = r.packet; at = r.at; number = r.number; later = r.later }

receipt_touches : (from to : NodeId) (x : Entry) → is_receipt from to x ≡ true → touches_node to x ≡ true
receipt_touches from to x h = by_event x.event h
  where
    by_test : (a b : Bool) (number : ℕ) → is_some (if a && b then Some number else None) ≡ true → b ≡ true
    by_test true true number g = refl
    by_test true false number g = absurd (cc)
    by_test false true number g = refl
    by_test false false number g = absurd (cc)

    by_event : (e : Event) → is_some (number_received from to e) ≡ true → is_node to (node_touched e) ≡ true
    by_event (Events.Receive node peer number) g = by_test (same_node from peer) (same_node to node) number g
    by_event e g = absurd (cc)

number_here : (peer node : NodeId) (number : ℕ) → number_received peer node (Events.Receive node peer number) ≡ Some number
number_here peer node number = λ i. if same_node-refl peer i && same_node-refl node i then Some number else None

-- the journal, cut where an entry receives
split_receipts : (from to : NodeId) (past : List Entry) (x : Entry) (rest : List Entry) → is_receipt from to x ≡ true →
    filter (is_receipt from to) (past ++ x ∷ rest) ≡ filter (is_receipt from to) past ++ x ∷ filter (is_receipt from to) rest
split_receipts from to past x rest is =
    filter-append (is_receipt from to) past (x ∷ rest) ∙ (λ i. filter (is_receipt from to) past ++ cond (is i) (x ∷ filter (is_receipt from to) rest)
    (filter (is_receipt from to) rest))

receipt_due : (s : ScenarioLists) (logs : Logs) (journal : List Entry) (past : List Entry) (x : Entry) (rest : List Entry) (peer node : NodeId) (number : ℕ) →
    MergesInto logs journal → IsLinkOf s logs peer node → past ++ x ∷ rest ≡ journal → x.event ≡ Events.Receive node peer number →
    due s peer node past ≡ Some number
receipt_due s logs journal past x rest peer node number merges link whole is =
    ap (slice_get (numbers_released s peer node past)) (counted peer node past)
    ∙ got_mapped (shape s.plan peer node (emitted peer node past)) place r.packet here
    ∙ sym r.number
    ∙ ap (number_received peer node) is
    ∙ number_here peer node number
  where
    place : ℕ
    place = length (filter (is_receipt peer node) past)

    receives : is_receipt peer node x ≡ true
    receives = ap (λ (e : Event). is_some (number_received peer node e)) is ∙ ap is_some (number_here peer node number)

    own_receipts : filter (is_receipt peer node) (logs.node node) ≡ filter (is_receipt peer node) past ++ x ∷ filter (is_receipt peer node) rest
    own_receipts =
        ap (filter (is_receipt peer node)) (sym (merges.merged.of_nodes node))
        ∙ filter_within (is_receipt peer node) (touches_node node) (receipt_touches peer node) journal
        ∙ ap (filter (is_receipt peer node)) (sym whole)
        ∙ split_receipts peer node past x rest receives

    r : IsReceiptOf peer node link.got place x
    r = receipt_at peer node link.got (filter (is_receipt peer node) past) x (filter (is_receipt peer node) rest)
        (subst (AreReceipts peer node link.got) own_receipts link.receipts)

    -- the packets of the link, those before the entry and those from it on
    sent : emitted peer node (logs.node peer) ≡ emitted peer node past ++ emitted peer node (x ∷ rest)
    sent =
        ap (emitted peer node) (sym (merges.merged.of_nodes peer))
        ∙ emitted_own peer node journal
        ∙ ap (emitted peer node) (sym whole)
        ∙ emitted_append peer node past (x ∷ rest)

    later : List Packet
    later = shape_after (fault_at s.plan peer node) (emitted peer node past) (emitted peer node (x ∷ rest))

    all : shape s.plan peer node (emitted peer node past) ++ later ≡ link.got ++ link.left
    all = sym (begins_alike s.plan peer node (emitted peer node past) (emitted peer node (x ∷ rest))) ∙ ap (shape s.plan peer node) (sym sent) ∙ link.shaped

    at : slice_get (shape s.plan peer node (emitted peer node past) ++ later) place ≡ Some r.packet
    at = ap (λ (ps : List Packet). slice_get ps place) all ∙ got_left link.got link.left place r.packet r.at

    here : slice_get (shape s.plan peer node (emitted peer node past)) place ≡ Some r.packet
    here =
        early x.stamp (shape s.plan peer node (emitted peer node past)) later place r.packet at
        (shape_from x.stamp (fault_at s.plan peer node) (emitted peer node past) (emitted peer node (x ∷ rest))
        (emitted_from peer node x.stamp (x ∷ rest) (not_below past x rest (ap is_ordered whole ∙ merges.merged.ordered))))
        r.later

pub in_order_at : (s : ScenarioLists) (logs : Logs) (journal : List Entry) (past : List Entry) (x : Entry) (rest : List Entry) → MergesInto logs journal →
    ((from to : NodeId) → IsLinkOf s logs from to) → past ++ x ∷ rest ≡ journal → IsReceiptInOrder s past x.event
in_order_at s logs journal past x rest merges links whole = by_event x.event refl
  where
    by_event : (e : Event) → x.event ≡ e → IsReceiptInOrder s past e
    by_event (Events.Receive node peer number) is = receipt_due s logs journal past x rest peer node number merges (links peer node) whole is
    by_event e is = tt

-- What an emission and a receipt make of the work of a link.
use Rattle.std.proofs.Common.{◌≡◌, ℕ, zero, suc, ◌+◌, ◌-◌, ◌*◌, ◌<◌, ◌≤◌, Bool, true, false, cond, List, [], ◌∷◌, ◌++◌, map, length, Option, Some, None, refl}
use Rattle.std.proofs.Common.{sym, ap, ◌∙◌, arith, eqb-true, ltb-true, ltb-false, length-append, append-nil, if◌then◌else◌}
use Rattle.std.specs.Prelude.{◌==◌, ◌&&◌, nat_lt, sum_by, drop, filter, slice_get, option_map}
use Rattle.std.specs.List.{cons_option}
use Rattle.std.proofs.lemmas.Bool.{and_from, and_parts}
use Rattle.std.proofs.lemmas.List.Sums.{sum_by-cons, sum_by-append, sum_by-take-drop}
use Rattle.am_laws_runs.proofs.Receipts.{at_once_so}
use Rattle.am_names.specs.declared.NodeId.{NodeId}
use Rattle.am_names.specs.declared.Packet.{Packet}
use Rattle.am_names.specs.declared.Packet.TheVariants as Packets
use Rattle.am_names.specs.Names.{same_node}
use Rattle.am_office_entries.specs.declared.Event.{Event}
use Rattle.am_office_entries.specs.declared.Event.TheVariants as Events
use Rattle.am_office_entries.specs.declared.Entry.{Entry}
use Rattle.am_office_entries.specs.Entries.{emitted_of}
use Rattle.am_model.specs.Layout.{Layout, AllAre}
use Rattle.am_model.specs.Channels.{emitted, is_on_link}
use Rattle.am_model.specs.History.{IsHistory}
use Rattle.am_model.proofs.Ends.{was_emitted}
use Rattle.am_model.proofs.Received.{bit}
use Rattle.am_model.proofs.Alls.{all_at, all_by_place, all_append}
use Rattle.am_model.proofs.Names.{same_node-is, same_node-refl}
use Rattle.am_scenario_plan.specs.declared.plan.LinkFault.{LinkFault}
use Rattle.am_scenario_plan.specs.declared.plan.LinkFault.TheVariants.{Lose, Repeat, Late}
use Rattle.am_scenario_plan.specs.Shape.{fault_at, at_once, is_late_until, late_from, stamped, stamp_of, number_of, released_by, shape_after, shape}
use Rattle.am_scenario_plan.proofs.Shapes.{one_packet_more}
use Rattle.am_scenario_types.specs.Lists.{ScenarioLists}
use Rattle.am_model_scripts.specs.Links.{nodes_of, number_received, received}
use Rattle.am_model_scripts.proofs.Links.{emitted_push, received_push}
use Rattle.am_model_scripts.proofs.Lists.{some_mapped}
use Rattle.am_laws_runs.specs.Turns.Work.{packet_copy, is_still_late, still_late}
use Rattle.am_laws_runs.proofs.TurnCounts.{counted}
use Rattle.am_laws_runs.proofs.Sums.{pairs_more}
use Rattle.am_model.specs.Packets.{from_of, receiver_of}

-- what the packets of a link are still to cause, of which so many were received
abbrev pub link_left : ScenarioLists → NodeId → NodeId → List Packet → ℕ → ℕ
link_left s from to sent n =
    sum_by (packet_copy s) (drop n (shape s.plan from to sent)) + sum_by (packet_copy s) (still_late (fault_at s.plan from to) (length sent) 1 sent)

-- ---- lists without their beginning

drop_append : {X : Type 0} (w : X → ℕ) (n : ℕ) (xs ys : List X) → sum_by w (drop n (xs ++ ys)) ≤ sum_by w (drop n xs) + sum_by w ys
drop_append w zero xs ys = omega (arith, sum_by-append w xs ys)
drop_append w (suc n) [] ys = omega (arith, sum_by-take-drop w ys (suc n))
drop_append w (suc n) (x ∷ xs) ys = drop_append w n xs ys

drop_one : {X : Type 0} (w : X → ℕ) (n : ℕ) (xs : List X) (x : X) → slice_get xs n ≡ Some x → sum_by w (drop (suc n) xs) + w x ≡ sum_by w (drop n xs)
drop_one w n [] x e = absurd (cc)
drop_one w zero (y ∷ ys) x e =
    let same : y ≡ x = cc in
    omega (arith, sum_by-cons w y ys, ap w same)
drop_one w (suc n) (y ∷ ys) x e = drop_one w n ys x e

-- ---- late packets

stamped_copy : (s : ScenarioLists) (stamp : ℕ) (p : Packet) → packet_copy s (stamped stamp p) ≡ packet_copy s p
stamped_copy s stamp (Packets.Parcel p) = refl
stamped_copy s stamp (Packets.Answer p) = refl

stamped_copies : (s : ScenarioLists) (stamp : ℕ) (ps : List Packet) → sum_by (packet_copy s) (map (stamped stamp) ps) ≡ sum_by (packet_copy s) ps
stamped_copies s stamp [] = refl
stamped_copies s stamp (p ∷ ps) =
    omega (
      arith,
      stamped_copies s stamp ps,
      stamped_copy s stamp p,
      sum_by-cons (packet_copy s) p ps,
      sum_by-cons (packet_copy s) (stamped stamp p) (map (stamped stamp) ps),
    )

-- a packet that was late comes out now, or is late still
late_bits : (n place : ℕ) (o : Option LinkFault) → bit (is_late_until (n + 1) place o) + bit (is_still_late (n + 1) place o) ≤ bit (is_still_late n place o)
late_bits n place None = omega arith
late_bits n place (Some Lose) = omega arith
late_bits n place (Some Repeat) = omega arith
late_bits n place (Some (Late by)) = by_tests (place + by == n + 1) (nat_lt (n + 1) (place + by)) (nat_lt n (place + by)) refl refl refl
  where
    by_tests : (a b c : Bool) → (place + by == n + 1) ≡ a → nat_lt (n + 1) (place + by) ≡ b → nat_lt n (place + by) ≡ c → bit a + bit b ≤ bit c
    by_tests true true c is low was = absurd (omega (arith, eqb-true (place + by) (n + 1) is, ltb-true (n + 1) (place + by) low))
    by_tests true false true is low was = omega arith
    by_tests true false false is low was = absurd (omega (arith, eqb-true (place + by) (n + 1) is, ltb-false n (place + by) was))
    by_tests false true true is low was = omega arith
    by_tests false true false is low was = absurd (omega (arith, ltb-true (n + 1) (place + by) low, ltb-false n (place + by) was))
    by_tests false false c is low was = omega arith

late_sums : {X : Type 0} (w : X → ℕ) (p : X) (xs ys zs : List X) (a b c : Bool) → bit a + bit b ≤ bit c → sum_by w xs + sum_by w ys ≤ sum_by w zs →
    sum_by w (if a then p ∷ xs else xs) + sum_by w (if b then p ∷ ys else ys) ≤ sum_by w (if c then p ∷ zs else zs)
late_sums w p xs ys zs true true true low h = absurd (omega (arith, low))
late_sums w p xs ys zs true true false low h = absurd (omega (arith, low))
late_sums w p xs ys zs true false true low h = omega (arith, h, sum_by-cons w p xs, sum_by-cons w p zs)
late_sums w p xs ys zs true false false low h = absurd (omega (arith, low))
late_sums w p xs ys zs false true true low h = omega (arith, h, sum_by-cons w p ys, sum_by-cons w p zs)
late_sums w p xs ys zs false true false low h = absurd (omega (arith, low))
late_sums w p xs ys zs false false true low h = omega (arith, h, sum_by-cons w p zs)
late_sums w p xs ys zs false false false low h = h

late_balance : (s : ScenarioLists) (fault : ℕ → Option LinkFault) (n place : ℕ) (ps : List Packet) →
    sum_by (packet_copy s) (late_from fault (n + 1) place ps) + sum_by (packet_copy s) (still_late fault (n + 1) place ps) ≤ sum_by (packet_copy s)
    (still_late fault n place ps)
late_balance s fault n place [] = omega arith
late_balance s fault n place (p ∷ ps) =
    late_sums (packet_copy s) p (late_from fault (n + 1) (place + 1) ps) (still_late fault (n + 1) (place + 1) ps) (still_late fault n (place + 1) ps)
    (is_late_until (n + 1) place (fault place)) (is_still_late (n + 1) place (fault place)) (is_still_late n place (fault place))
    (late_bits n place (fault place)) (late_balance s fault n (place + 1) ps)

-- the last packet, where it is late
abbrev new_late : (ℕ → Option LinkFault) → ℕ → ℕ → Packet → List Packet
new_late fault n place p = if is_still_late n place (fault place) then p ∷ [] else []

still_push : (w : Packet → ℕ) (fault : ℕ → Option LinkFault) (n place j : ℕ) (ps : List Packet) (p : Packet) → j ≡ place + length ps →
    sum_by w (still_late fault n place (ps ++ p ∷ [])) ≡ sum_by w (still_late fault n place ps) + sum_by w (new_late fault n j p)
still_push w fault n place j [] p at =
    let same : place ≡ j = omega (arith, at) in
    let here : sum_by w (new_late fault n place p) ≡ sum_by w (new_late fault n j p) = ap (λ (k : ℕ). sum_by w (new_late fault n k p)) same in
    omega (arith, here)
still_push w fault n place j (x ∷ xs) p at =
    by_test (is_still_late n place (fault place)) (still_push w fault n (place + 1) j xs p (omega (arith, at)))
  where
    by_test : (b : Bool) → sum_by w (still_late fault n (place + 1) (xs ++ p ∷ [])) ≡ sum_by w (still_late fault n (place + 1) xs) + sum_by w
        (new_late fault n j p) → sum_by w (if b then x ∷ still_late fault n (place + 1) (xs ++ p ∷ []) else still_late fault n (place + 1) (xs ++ p ∷ [])) ≡
        sum_by w (if b then x ∷ still_late fault n (place + 1) xs else still_late fault n (place + 1) xs) + sum_by w (new_late fault n j p)
    by_test true h =
        omega (arith, h, sum_by-cons w x (still_late fault n (place + 1) (xs ++ p ∷ [])), sum_by-cons w x (still_late fault n (place + 1) xs))
    by_test false h = h

-- ---- an emission

-- a packet comes out twice at most
own_copies : (w : Packet → ℕ) (n place : ℕ) (p : Packet) (o : Option LinkFault) →
    sum_by w (at_once o p) + sum_by w (if is_still_late n place o then p ∷ [] else []) ≤ 2 * w p
own_copies w n place p None = omega arith
own_copies w n place p (Some Repeat) = omega arith
own_copies w n place p (Some Lose) = omega arith
own_copies w n place p (Some (Late by)) = by_test (nat_lt n (place + by))
  where
    by_test : (b : Bool) → sum_by w [] + sum_by w (if b then p ∷ [] else []) ≤ 2 * w p
    by_test true = omega arith
    by_test false = omega arith

-- an emission makes at most two copies of the packet more
pub emits : (s : ScenarioLists) (from to : NodeId) (sent : List Packet) (p : Packet) (n : ℕ) →
    link_left s from to (sent ++ p ∷ []) n ≤ link_left s from to sent n + 2 * packet_copy s p
emits s from to sent p n =
    omega (arith, all, outs, dropped, apart, late, kept, balance, own_copies w (j) j p (fault j))
  where
    w : Packet → ℕ
    w = packet_copy s

    fault : ℕ → Option LinkFault
    fault = fault_at s.plan from to

    j : ℕ
    j = length sent + 1

    out : List Packet
    out = released_by fault sent p

    all : sum_by w (drop n (shape s.plan from to (sent ++ p ∷ []))) ≡ sum_by w (drop n (shape s.plan from to sent ++ out))
    all = ap (λ (ps : List Packet). sum_by w (drop n ps)) (one_packet_more s.plan from to sent p)

    dropped : sum_by w (drop n (shape s.plan from to sent ++ out)) ≤ sum_by w (drop n (shape s.plan from to sent)) + sum_by w out
    dropped = drop_append w n (shape s.plan from to sent) out

    outs : sum_by w out ≡ sum_by w (at_once (fault j) p) + sum_by w (map (stamped (stamp_of p)) (late_from fault j 1 sent))
    outs = sum_by-append w (at_once (fault j) p) (map (stamped (stamp_of p)) (late_from fault j 1 sent))

    apart : sum_by w (map (stamped (stamp_of p)) (late_from fault j 1 sent)) ≡ sum_by w (late_from fault j 1 sent)
    apart = stamped_copies s (stamp_of p) (late_from fault j 1 sent)

    late : sum_by w (still_late fault (length (sent ++ p ∷ [])) 1 (sent ++ p ∷ [])) ≡ sum_by w (still_late fault j 1 (sent ++ p ∷ []))
    late = ap (λ (k : ℕ). sum_by w (still_late fault k 1 (sent ++ p ∷ []))) (length-append sent (p ∷ []))

    kept : sum_by w (still_late fault j 1 (sent ++ p ∷ [])) ≡ sum_by w (still_late fault j 1 sent) + sum_by w (new_late fault j j p)
    kept = still_push w fault j 1 j sent p (omega arith)

    balance : sum_by w (late_from fault j 1 sent) + sum_by w (still_late fault j 1 sent) ≤ sum_by w (still_late fault (length sent) 1 sent)
    balance = late_balance s fault (length sent) 1 sent

-- ---- a receipt

-- a receipt leaves a copy of the packet less
pub takes : (s : ScenarioLists) (from to : NodeId) (sent : List Packet) (n m : ℕ) (r : Packet) → m ≡ n + 1 → slice_get (shape s.plan from to sent) n ≡ Some r →
    link_left s from to sent m + packet_copy s r ≤ link_left s from to sent n
takes s from to sent n m r next e =
    let more : m ≡ suc n = omega (arith, next) in
    let same : sum_by (packet_copy s) (drop m (shape s.plan from to sent)) ≡ sum_by (packet_copy s) (drop (suc n) (shape s.plan from to sent)) =
    ap (λ (k : ℕ). sum_by (packet_copy s) (drop k (shape s.plan from to sent))) more in
    omega (arith, same, drop_one (packet_copy s) n (shape s.plan from to sent) r e)

-- ---- what is released is what was emitted

late_all : (P : Packet → Type 0) → ((stamp : ℕ) (p : Packet) → P p → P (stamped stamp p)) →
    (stamp : ℕ) (fault : ℕ → Option LinkFault) (now place : ℕ) (ps : List Packet) → AllAre P ps → AllAre P (map (stamped stamp) (late_from fault now place ps))
late_all P keeps stamp fault now place [] h = tt
late_all P keeps stamp fault now place (p ∷ ps) h = by_test (is_late_until now place (fault place)) (late_all P keeps stamp fault now (place + 1) ps h.1)
  where
    by_test : (b : Bool) → AllAre P (map (stamped stamp) (late_from fault now (place + 1) ps)) →
        AllAre P (map (stamped stamp) (if b then p ∷ late_from fault now (place + 1) ps else late_from fault now (place + 1) ps))
    by_test true later = (keeps stamp p h.0, later)
    by_test false later = later

shape_all : (P : Packet → Type 0) → ((stamp : ℕ) (p : Packet) → P p → P (stamped stamp p)) → (fault : ℕ → Option LinkFault) (before ps : List Packet) →
    AllAre P before → AllAre P ps → AllAre P (shape_after fault before ps)
shape_all P keeps fault before [] h k = tt
shape_all P keeps fault before (p ∷ ps) h k =
    all_append P (released_by fault before p) (shape_after fault (before ++ p ∷ []) ps)
    (all_append P (at_once (fault (length before + 1)) p) (map (stamped (stamp_of p)) (late_from fault (length before + 1) 1 before))
    (at_once_so P (fault (length before + 1)) p k.0)
    (late_all P keeps (stamp_of p) fault (length before + 1) 1 before h))
    (shape_all P keeps fault (before ++ p ∷ []) ps (all_append P before (p ∷ []) h (k.0, tt)) k.1)

-- the emitted packet of its number makes the same work
abbrev IsCopy : ScenarioLists → List Packet → Packet → Type 0
IsCopy s sent r = option_map (packet_copy s) (slice_get sent (number_of r - 1)) ≡ Some (packet_copy s r)

stamped_is_copy : (s : ScenarioLists) (sent : List Packet) (stamp : ℕ) (p : Packet) → IsCopy s sent p → IsCopy s sent (stamped stamp p)
stamped_is_copy s sent stamp (Packets.Parcel p) h = h
stamped_is_copy s sent stamp (Packets.Answer p) h = h

on_link : (from to : NodeId) (p : Packet) → is_on_link from to p ≡ true → (from ≡ from_of p) × (to ≡ receiver_of p)
on_link from to (Packets.Parcel p) h =
    let both = and_parts (same_node from p.from) (same_node to p.to) h in (same_node-is from p.from both.0, same_node-is to p.to both.1)
on_link from to (Packets.Answer p) h =
    let both = and_parts (same_node from p.from) (same_node to p.to) h in (same_node-is from p.from both.0, same_node-is to p.to both.1)

all_copies : (s : ScenarioLists) (layout : Layout) (past : List Entry) (from to : NodeId) → IsHistory layout past →
    AllAre (IsCopy s (emitted from to past)) (emitted from to past)
all_copies s layout past from to h = all_by_place (IsCopy s (emitted from to past)) (emitted from to past) (λ k p e. at k p e)
  where
    at : (k : ℕ) (p : Packet) → slice_get (emitted from to past) k ≡ Some p → IsCopy s (emitted from to past) p
    at k p e =
        let was = was_emitted from to past k p e in
        let link = on_link from to p was.1 in
        let there : slice_get (emitted (from_of p) (receiver_of p) past) (number_of p - 1) ≡ Some p = (counted layout past h).placed p was.0 in
        let same : emitted from to past ≡ emitted (from_of p) (receiver_of p) past = λ i. emitted (link.0 i) (link.1 i) past in
        ap (λ (ps : List Packet). option_map (packet_copy s) (slice_get ps (number_of p - 1))) same ∙ ap (option_map (packet_copy s)) there

number_at : (ps : List Packet) (k n : ℕ) → slice_get (map number_of ps) k ≡ Some n → (r : Packet) × (slice_get ps k ≡ Some r) × (number_of r ≡ n)
number_at [] k n e = absurd (cc)
number_at (p ∷ ps) zero n e = (p, refl, cc)
number_at (p ∷ ps) (suc k) n e = number_at ps k n e

-- a packet that is due: the released one, and the emitted one that is received
pub record IsNextDue (s : ScenarioLists) (from to : NodeId) (sent : List Packet) (k number : ℕ) : Type 0 where
  pub released' : Packet
  pub at : slice_get (shape s.plan from to sent) k ≡ Some released'
  pub emitted' : Packet
  pub got : slice_get sent (number - 1) ≡ Some emitted'
  pub copy : packet_copy s emitted' ≡ packet_copy s released'

pub due_is : (s : ScenarioLists) (layout : Layout) (past : List Entry) (from to : NodeId) (k number : ℕ) → IsHistory layout past →
    slice_get (map number_of (shape s.plan from to (emitted from to past))) k ≡ Some number → IsNextDue s from to (emitted from to past) k number
due_is s layout past from to k number h e =
    let r = number_at (shape s.plan from to (emitted from to past)) k number e in
    let sent : List Packet = emitted from to past in
    let all : AllAre (IsCopy s sent) (shape s.plan from to sent) =
    shape_all (IsCopy s sent) (λ stamp p i. stamped_is_copy s sent stamp p i) (fault_at s.plan from to) [] sent tt (all_copies s layout past from to h) in
    let is : IsCopy s sent r.0 = all_at (IsCopy s sent) (shape s.plan from to sent) k r.0 all r.1 in
    let one = some_mapped (packet_copy s) (slice_get sent (number_of r.0 - 1)) (packet_copy s r.0) is in
    record {
      released' = r.0;
      at = r.1;
      emitted' = one.0;
      got = ap (λ (n : ℕ). slice_get sent (n - 1)) (sym r.2) ∙ one.1;
      copy = one.2;
    }

-- ---- all links

-- what all links are still to cause, where so was emitted and so many were received
abbrev pub links_work : ScenarioLists → (NodeId → NodeId → List Packet) → (NodeId → NodeId → ℕ) → ℕ
links_work s sent taken =
    sum_by (λ (from : NodeId). sum_by (λ (to : NodeId). link_left s from to (sent from to) (taken from to)) (nodes_of s)) (nodes_of s)

-- what is emitted from each node to each
abbrev pub sent_by : List Entry → NodeId → NodeId → List Packet
sent_by past from to = emitted from to past

-- how many were received
abbrev pub taken_by : List Entry → NodeId → NodeId → ℕ
taken_by past from to = length (received from to past)

emitted_own : (past : List Entry) (x : Entry) (p : Packet) → emitted_of x ≡ Some p →
    emitted (from_of p) (receiver_of p) (past ++ x ∷ []) ≡ emitted (from_of p) (receiver_of p) past ++ p ∷ []
emitted_own past x p is =
    emitted_push (from_of p) (receiver_of p) past x
    ∙ ap (λ (ps : List Packet). emitted (from_of p) (receiver_of p) past ++ ps)
    (ap (λ (o : Option Packet). filter (is_on_link (from_of p) (receiver_of p)) (cons_option o [])) is ∙ ap (λ (b : Bool). cond b (p ∷ []) []) (own p))
  where
    own : (q : Packet) → is_on_link (from_of q) (receiver_of q) q ≡ true
    own (Packets.Parcel q) = and_from (same_node q.from q.from) (same_node q.to q.to) (same_node-refl q.from) (same_node-refl q.to)
    own (Packets.Answer q) = and_from (same_node q.from q.from) (same_node q.to q.to) (same_node-refl q.from) (same_node-refl q.to)

emitted_other : (from to : NodeId) (past : List Entry) (x : Entry) (p : Packet) → emitted_of x ≡ Some p →
    (same_node from (from_of p) && same_node to (receiver_of p)) ≡ false → emitted from to (past ++ x ∷ []) ≡ emitted from to past
emitted_other from to past x p is apart =
    emitted_push from to past x
    ∙ (ap (λ (ps : List Packet). emitted from to past ++ ps)
    (ap (λ (o : Option Packet). filter (is_on_link from to) (cons_option o [])) is ∙ ap (λ (b : Bool). cond b (p ∷ []) []) (other p apart))
    ∙ append-nil (emitted from to past))
  where
    other : (q : Packet) → (same_node from (from_of q) && same_node to (receiver_of q)) ≡ false → is_on_link from to q ≡ false
    other (Packets.Parcel q) h = h
    other (Packets.Answer q) h = h

-- an emission makes at most two copies more
pub links_emit : (s : ScenarioLists) (past : List Entry) (x : Entry) (p : Packet) (taken : NodeId → NodeId → ℕ) → emitted_of x ≡ Some p →
    (from_of p).0 < s.nodes → (receiver_of p).0 < s.nodes → links_work s (sent_by (past ++ x ∷ [])) taken ≤ links_work s (sent_by past) taken + 2 * packet_copy
    s p
links_emit s past x p taken is low high =
    let more = pairs_more s (λ (a b : NodeId). link_left s a b (sent_by past a b) (taken a b))
    (λ (a b : NodeId). link_left s a b (sent_by (past ++ x ∷ []) a b) (taken a b)) 0 (2 * packet_copy s p) (from_of p) (receiver_of p) low high others
    here in
    omega (arith, more)
  where
    others : (a b : NodeId) → (same_node a (from_of p) && same_node b (receiver_of p)) ≡ false →
        link_left s a b (sent_by (past ++ x ∷ []) a b) (taken a b) ≤ link_left s a b (sent_by past a b) (taken a b)
    others a b apart =
        let same = ap (λ (ps : List Packet). link_left s a b ps (taken a b)) (emitted_other a b past x p is apart) in
        omega (arith, same)

    here : link_left s (from_of p) (receiver_of p) (sent_by (past ++ x ∷ []) (from_of p) (receiver_of p)) (taken (from_of p) (receiver_of p)) + 0 ≤ link_left s
        (from_of p) (receiver_of p) (sent_by past (from_of p) (receiver_of p)) (taken (from_of p) (receiver_of p)) + 2 * packet_copy s p
    here =
        let same = ap (λ (ps : List Packet). link_left s (from_of p) (receiver_of p) ps (taken (from_of p) (receiver_of p))) (emitted_own past x p is) in
        omega (arith, same, emits s (from_of p) (receiver_of p) (sent_by past (from_of p) (receiver_of p)) p (taken (from_of p) (receiver_of p)))

-- without an emission nothing changes
pub links_still : (s : ScenarioLists) (past : List Entry) (x : Entry) (taken : NodeId → NodeId → ℕ) → emitted_of x ≡ None →
    links_work s (sent_by (past ++ x ∷ [])) taken ≡ links_work s (sent_by past) taken
links_still s past x taken is =
    λ i. sum_by (λ (from : NodeId). sum_by (λ (to : NodeId). link_left s from to (same from to i) (taken from to)) (nodes_of s)) (nodes_of s)
  where
    same : (from to : NodeId) → emitted from to (past ++ x ∷ []) ≡ emitted from to past
    same from to =
        emitted_push from to past x
        ∙ (ap (λ (o : Option Packet). emitted from to past ++ filter (is_on_link from to) (cons_option o [])) is ∙ append-nil (emitted from to past))

-- an entry that is no receipt takes nothing
pub links_untaken : (s : ScenarioLists) (past : List Entry) (x : Entry) (sent : NodeId → NodeId → List Packet) →
    ((from to : NodeId) → number_received from to x.event ≡ None) → links_work s sent (taken_by (past ++ x ∷ [])) ≡ links_work s sent (taken_by past)
links_untaken s past x sent none =
    λ i. sum_by (λ (from : NodeId). sum_by (λ (to : NodeId). link_left s from to (sent from to) (length (same from to i))) (nodes_of s)) (nodes_of s)
  where
    same : (from to : NodeId) → received from to (past ++ x ∷ []) ≡ received from to past
    same from to = received_push from to past x ∙ (ap (λ (o : Option ℕ). received from to past ++ cons_option o []) (none from to)
        ∙ append-nil (received from to past))

-- a receipt takes a copy of the packet that is due
pub links_take : (s : ScenarioLists) (past : List Entry) (x : Entry) (node peer : NodeId) (number : ℕ) (r : Packet) →
    x.event ≡ Events.Receive node peer number → peer.0 < s.nodes → node.0 < s.nodes →
    slice_get (shape s.plan peer node (emitted peer node past)) (length (received peer node past)) ≡ Some r →
    links_work s (sent_by past) (taken_by (past ++ x ∷ [])) + packet_copy s r ≤ links_work s (sent_by past) (taken_by past)
links_take s past x node peer number r is low high e =
    let less = pairs_more s (λ (a b : NodeId). link_left s a b (sent_by past a b) (taken_by past a b))
    (λ (a b : NodeId). link_left s a b (sent_by past a b) (taken_by (past ++ x ∷ []) a b)) (packet_copy s r) 0 peer node low high others here in
    omega (arith, less)
  where
    got : (a b : NodeId) → received a b (past ++ x ∷ []) ≡ received a b past ++ cons_option (if same_node a peer && same_node b node then Some number else None)
        []
    got a b = received_push a b past x ∙ ap (λ (v : Event). received a b past ++ cons_option (number_received a b v) []) is

    others : (a b : NodeId) → (same_node a peer && same_node b node) ≡ false →
        link_left s a b (sent_by past a b) (taken_by (past ++ x ∷ []) a b) ≤ link_left s a b (sent_by past a b) (taken_by past a b)
    others a b apart =
        let same : received a b (past ++ x ∷ []) ≡ received a b past = got a b
        ∙ (ap (λ (t : Bool). received a b past ++ cons_option (if t then Some number else None) []) apart ∙ append-nil (received a b past)) in
        let level = ap (λ (ns : List ℕ). link_left s a b (sent_by past a b) (length ns)) same in
        omega (arith, level)

    here : link_left s peer node (sent_by past peer node) (taken_by (past ++ x ∷ []) peer node) + packet_copy s r ≤ link_left s peer node
        (sent_by past peer node) (taken_by past peer node) + 0
    here =
        let own : (same_node peer peer && same_node node node) ≡ true =
        and_from (same_node peer peer) (same_node node node) (same_node-refl peer) (same_node-refl node) in
        let one : received peer node (past ++ x ∷ []) ≡ received peer node past ++ number ∷ [] = got peer node
        ∙ ap (λ (t : Bool). received peer node past ++ cons_option (if t then Some number else None) []) own in
        let longer : length (received peer node (past ++ x ∷ [])) ≡ length (received peer node past) + 1 = ap length one
        ∙ length-append (received peer node past) (number ∷ []) in
        omega (arith, takes s peer node (emitted peer node past) (length (received peer node past)) (length (received peer node (past ++ x ∷ []))) r longer e)

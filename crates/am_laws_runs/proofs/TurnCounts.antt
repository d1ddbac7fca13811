-- The packets of a link stand at their numbers there, and what is received there was emitted before.
use Rattle.std.proofs.Common.{◌≡◌, ⊎_elim, ℕ, zero, suc, ◌-◌, ◌≤◌, Bool, true, false, cond, ◌||◌, List, [], ◌∷◌, ◌++◌, length, Option, Some, None, refl, sym}
use Rattle.std.proofs.Common.{ap, ◌∙◌, arith, true≢false, eqb-true, ltb-false, length-append, if◌then◌else◌}
use Rattle.std.specs.Prelude.{◌&&◌, ◌==◌, nat_lt, filter, slice_get}
use Rattle.std.specs.List.{cons_option}
use Rattle.std.proofs.lemmas.Bool.{and_from, and_parts}
use Rattle.am_lemmas.proofs.Lists.{slice_get-append_left}
use Rattle.am_names.specs.declared.NodeId.{NodeId}
use Rattle.am_names.specs.declared.Packet.{Packet}
use Rattle.am_names.specs.declared.Packet.TheVariants as Packets
use Rattle.am_names.specs.Names.{same_node}
use Rattle.am_office_entries.specs.declared.Condition.TheVariants as Needs
use Rattle.am_office_entries.specs.declared.Event.{Event}
use Rattle.am_office_entries.specs.declared.Event.TheVariants as Events
use Rattle.am_office_entries.specs.declared.Entry.{Entry}
use Rattle.am_office_entries.specs.Entries.{emitted_of}
use Rattle.am_model.specs.Layout.{Layout}
use Rattle.am_model.specs.Channels.{emitted, is_on_link}
use Rattle.am_model.specs.History.{MayFollow, IsHistory, failing, next_number}
use Rattle.am_model.proofs.Each.{over_each}
use Rattle.am_model.proofs.Ends.{EmittedIn, emitted_more}
use Rattle.am_model.proofs.Names.{same_node-is, same_node-refl}
use Rattle.am_laws_cluster.proofs.Flights.{second_none}
use Rattle.am_scenario_plan.specs.Shape.{number_of}
use Rattle.am_model_scripts.specs.Links.{number_received, received}
use Rattle.am_model_scripts.proofs.Links.{emitted_push, received_push}
use Rattle.am_laws_runs.specs.Turns.Endings.{is_among}
use Rattle.am_laws_runs.proofs.Receipts.{packet_next}
use Rattle.am_model.specs.Packets.{from_of, receiver_of}

-- ---- among

pub among_append : (n : ℕ) (xs ys : List ℕ) → is_among n (xs ++ ys) ≡ (is_among n xs || is_among n ys)
among_append n [] ys = refl
among_append n (x ∷ xs) ys = by_test (x == n) (among_append n xs ys)
  where
    by_test : (b : Bool) → is_among n (xs ++ ys) ≡ (is_among n xs || is_among n ys) → (b || is_among n (xs ++ ys)) ≡ ((b || is_among n xs) || is_among n ys)
    by_test true h = refl
    by_test false h = h

-- ---- what was emitted on a link stands at its number

slice_last : {X : Type 0} (xs : List X) (k : ℕ) (x : X) → k ≡ length xs → slice_get (xs ++ x ∷ []) k ≡ Some x
slice_last [] zero x h = refl
slice_last [] (suc k) x h = absurd (omega (arith, h))
slice_last (y ∷ xs) zero x h = absurd (omega (arith, h))
slice_last (y ∷ xs) (suc k) x h = slice_last xs k x (omega (arith, h))

-- the packets of a link stand at their numbers, and a number that was received there was emitted
pub record IsCounted (past : List Entry) : Type 0 where
  pub placed : (p : Packet) → EmittedIn p past → slice_get (emitted (from_of p) (receiver_of p) past) (number_of p - 1) ≡ Some p
  pub below : (from to : NodeId) (n : ℕ) → is_among n (received from to past) ≡ true → n ≤ length (emitted from to past)

-- what an entry emits on the packet's link, where it emits the packet
own_emission : (p : Packet) (x : Entry) → emitted_of x ≡ Some p → emitted (from_of p) (receiver_of p) (x ∷ []) ≡ p ∷ []
own_emission p x is =
    ap (λ (o : Option Packet). filter (is_on_link (from_of p) (receiver_of p)) (cons_option o [])) is ∙ ap (λ (b : Bool). cond b (p ∷ []) []) (own p)
  where
    own : (q : Packet) → is_on_link (from_of q) (receiver_of q) q ≡ true
    own (Packets.Parcel q) = and_from (same_node q.from q.from) (same_node q.to q.to) (same_node-refl q.from) (same_node-refl q.to)
    own (Packets.Answer q) = and_from (same_node q.from q.from) (same_node q.to q.to) (same_node-refl q.from) (same_node-refl q.to)

placed_more : (layout : Layout) (past : List Entry) (x : Entry) → MayFollow layout past x → IsCounted past → (p : Packet) → EmittedIn p (past ++ x ∷ []) →
    slice_get (emitted (from_of p) (receiver_of p) (past ++ x ∷ [])) (number_of p - 1) ≡ Some p
placed_more layout past x may k p h =
    ap (λ (ps : List Packet). slice_get ps (number_of p - 1)) (emitted_push (from_of p) (receiver_of p) past x)
    ∙ ⊎_elim (λ (old : EmittedIn p past). slice_get-append_left (emitted (from_of p) (receiver_of p) past) (emitted (from_of p) (receiver_of p) (x ∷ []))
    (number_of p - 1) p (k.placed p old))
    (λ (new : emitted_of x ≡ Some p).
    let number : number_of p ≡ next_number (from_of p) (receiver_of p) past = packet_next layout past x may p new in
    ap (λ (ps : List Packet). slice_get (emitted (from_of p) (receiver_of p) past ++ ps) (number_of p - 1)) (own_emission p x new)
    ∙ slice_last (emitted (from_of p) (receiver_of p) past) (number_of p - 1) p (omega (arith, number)))
    (emitted_more p past x h)

-- a number that an event receives was emitted
pub receipt_below : (layout : Layout) (past : List Entry) (from to : NodeId) (n : ℕ) (event : Event) → failing layout past event ≡ None →
    is_among n (cons_option (number_received from to event) []) ≡ true → n ≤ length (emitted from to past)
receipt_below layout past from to n (Events.Receive node peer number) may h = by_link (same_node from peer && same_node to node) refl h
  where
    by_number : from ≡ peer → to ≡ node → (b : Bool) → (number == n) ≡ b → (b || false) ≡ true → n ≤ length (emitted from to past)
    by_number one two true is j =
        let low = ltb-false (length (emitted peer node past)) number (second_none layout.direct (nat_lt (length (emitted peer node past)) number)
        Needs.NotPacket Needs.NoPacket may) in
        let same : number ≡ n = eqb-true number n is in
        let link : length (emitted from to past) ≡ length (emitted peer node past) = ap (λ (f : NodeId). length (emitted f to past)) one
        ∙ ap (λ (t : NodeId). length (emitted peer t past)) two in
        omega (arith, low, same, link)
    by_number one two false is j = absurd (true≢false (sym j))

    by_link : (b : Bool) → (same_node from peer && same_node to node) ≡ b → is_among n (cons_option (if b then Some number else None) []) ≡ true →
        n ≤ length (emitted from to past)
    by_link true is j =
        let parts = and_parts (same_node from peer) (same_node to node) is in
        by_number (same_node-is from peer parts.0) (same_node-is to node parts.1) (number == n) refl j
    by_link false is j = absurd (true≢false (sym j))
receipt_below layout past from to n event may h = absurd (true≢false (sym h))

below_more : (layout : Layout) (past : List Entry) (x : Entry) → MayFollow layout past x → IsCounted past → (from to : NodeId) (n : ℕ) →
    is_among n (received from to (past ++ x ∷ [])) ≡ true → n ≤ length (emitted from to (past ++ x ∷ []))
below_more layout past x may k from to n h =
    by_test (is_among n (received from to past)) refl (sym (ap (is_among n) (received_push from to past x)
    ∙ among_append n (received from to past) (cons_option (number_received from to x.event) [])) ∙ h)
  where
    longer : length (emitted from to past) ≤ length (emitted from to (past ++ x ∷ []))
    longer =
        let whole : length (emitted from to (past ++ x ∷ [])) ≡ length (emitted from to past ++ emitted from to (x ∷ [])) =
        ap length (emitted_push from to past x) in
        omega (arith, whole, length-append (emitted from to past) (emitted from to (x ∷ [])))

    by_test : (b : Bool) → is_among n (received from to past) ≡ b → (b || is_among n (cons_option (number_received from to x.event) [])) ≡ true →
        n ≤ length (emitted from to (past ++ x ∷ []))
    by_test true is j = omega (arith, longer, k.below from to n is)
    by_test false is j = omega (arith, longer, receipt_below layout past from to n x.event may.enabled j)

pub counted : (layout : Layout) (past : List Entry) → IsHistory layout past → IsCounted past
counted layout past h =
    over_each (MayFollow layout) IsCounted (λ xs x k may. record { placed = placed_more layout xs x may k; below = below_more layout xs x may k }) [] past
    (record { placed = λ p h. absurd h; below = λ from to n h. absurd (true≢false (sym h)) }) h

-- a number that goes out now was not received before, nor is received now
pub not_yet : (layout : Layout) (past : List Entry) (x : Entry) → IsHistory layout past → MayFollow layout past x → (p : Packet) → emitted_of x ≡ Some p →
    is_among (number_of p) (received (from_of p) (receiver_of p) (past ++ x ∷ [])) ≡ true → ⊥
not_yet layout past x h may p new got =
    by_test (is_among (number_of p) (received (from_of p) (receiver_of p) past)) refl
    (sym (ap (is_among (number_of p)) (received_push (from_of p) (receiver_of p) past x)
    ∙ among_append (number_of p) (received (from_of p) (receiver_of p) past) (cons_option (number_received (from_of p) (receiver_of p) x.event) [])) ∙ got)
  where
    is_above : number_of p ≤ length (emitted (from_of p) (receiver_of p) past) → ⊥
    is_above low =
        let number : number_of p ≡ next_number (from_of p) (receiver_of p) past = packet_next layout past x may p new in
        omega (arith, number, low)

    by_test : (b : Bool) → is_among (number_of p) (received (from_of p) (receiver_of p) past) ≡ b →
        (b || is_among (number_of p) (cons_option (number_received (from_of p) (receiver_of p) x.event) [])) ≡ true → ⊥
    by_test true is j = is_above ((counted layout past h).below (from_of p) (receiver_of p) (number_of p) is)
    by_test false is j = is_above (receipt_below layout past (from_of p) (receiver_of p) (number_of p) x.event may.enabled j)

-- what receives a number now is its receipt
pub received_now : (from to : NodeId) (n : ℕ) (event : Event) → is_among n (cons_option (number_received from to event) []) ≡ true →
    event ≡ Events.Receive to from n
received_now from to n (Events.Receive node peer number) h = by_link (same_node from peer && same_node to node) refl h
  where
    by_number : from ≡ peer → to ≡ node → (b : Bool) → (number == n) ≡ b → (b || false) ≡ true → Events.Receive node peer number ≡ Events.Receive to from n
    by_number one two true is j = λ i. Events.Receive (sym two i) (sym one i) (eqb-true number n is i)
    by_number one two false is j = absurd (true≢false (sym j))

    by_link : (b : Bool) → (same_node from peer && same_node to node) ≡ b → is_among n (cons_option (if b then Some number else None) []) ≡ true →
        Events.Receive node peer number ≡ Events.Receive to from n
    by_link true is j =
        let parts = and_parts (same_node from peer) (same_node to node) is in
        by_number (same_node-is from peer parts.0) (same_node-is to node parts.1) (number == n) refl j
    by_link false is j = absurd (true≢false (sym j))
received_now from to n event h = absurd (true≢false (sym h))

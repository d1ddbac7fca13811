-- What is read off a journal, one entry more.
use Rattle.std.specs.Prelude.{max, nat_lt, slice_get, slice_set, slice_index_or, replicate, IfSome}
use Rattle.std.specs.List.{All}
use Rattle.std.proofs.Common.{◌≡◌, ⊎_elim, ℕ, zero, suc, ◌+◌, ◌*◌, ◌<◌, ◌^◌, ◌==◌, Bool, true, false, cond, ◌&&◌, List, [], ◌∷◌, ◌++◌, map, length, Option}
use Rattle.std.proofs.Common.{Some, None, true≢false, refl, sym, ap, ◌∙◌, arith, eq-eqb, eqb-true, ltb-true, ltb-false}
use Rattle.std.proofs.lemmas.List.{append-nil, length-set}
use Rattle.std.proofs.lemmas.List.Sums.{fold-append, sum_by_push, count_by-le-length}
use Rattle.std.proofs.lemmas.Option.{slice_get_within, slice_get-get_or}
use Rattle.std.specs.Global.{Vec}
use mathlib.Core.Bool.{and_comm}
use Rattle.am_lemmas.proofs.Lists.{slice_get-set_cases, Some-slice_get_map, All-slice_get}
use Rattle.am_names.specs.declared.NodeId.{NodeId}
use Rattle.am_names.specs.declared.Packet.{Packet}
use Rattle.am_names.specs.declared.Packet.TheVariants as Packets
use Rattle.am_office_entries.specs.declared.Event.{Event}
use Rattle.am_office_entries.specs.declared.Event.TheVariants as Events
use Rattle.am_office_entries.specs.declared.Entry.{Entry}
use Rattle.am_office_entries.specs.Entries.{emitted_of}
use Rattle.am_model.specs.Channels.{emitted}
use Rattle.am_model.proofs.Received.{bit}
use Rattle.am_model.specs.Layout.{node_at}
use Rattle.am_model_parts.proofs.Growing.{emitted_append, on_link}
use Rattle.am_model_drain.specs.Made.{later_stamp}
use Rattle.am_machine_journal.specs.Index.Kept.{items_of}
use Rattle.am_machine_journal.specs.Index.Places.{link, link_of, receipt_place, counted, delivered}
use Rattle.am_machine_journal.specs.Index.View.{AreNodes, AreRead, CanCount, HasRoomFor, IndexView, IsIndexOf, Readings, greatest_stamp, is_receipt, received_in}
use Rattle.am_machine_journal.specs.Index.View.{receipts, IsBetweenNodes}

-- the greatest stamp, one entry more
pub greatest_push : (xs : List Entry) (x : Entry) → greatest_stamp (xs ++ x ∷ []) ≡ max (greatest_stamp xs) x.stamp
greatest_push xs x = fold-append later_stamp 0 xs (x ∷ [])

-- ---- one more at a place

abbrev is_there : Option ℕ → ℕ → Bool
is_there None k = false
is_there (Some j) k = k == j

same_number : (k j : ℕ) → (k ≡ j → ⊥) → (k == j) ≡ false
same_number k j apart = by_test (k == j) refl
  where
    by_test : (t : Bool) → (k == j) ≡ t → t ≡ false
    by_test true is = absurd (apart (eqb-true k j is))
    by_test false is = refl

counted_got : (place : Option ℕ) (ns : List ℕ) (k n : ℕ) → slice_get (counted place ns) k ≡ Some n →
    (m : ℕ) × (slice_get ns k ≡ Some m) × (n ≡ m + bit (is_there place k))
counted_got None ns k n h = (n, h, omega arith)
counted_got (Some j) ns k n h = ⊎_elim here there (slice_get-set_cases ns j k (slice_index_or ns j 0 + 1) n h)
  where
    within : k < length ns
    within = let lt = slice_get_within (slice_set ns j (slice_index_or ns j 0 + 1)) k n h in let same = length-set ns j (slice_index_or ns j 0 + 1) in
        omega (arith, lt, same)

    here : (k ≡ j) × (n ≡ slice_index_or ns j 0 + 1) → (m : ℕ) × (slice_get ns k ≡ Some m) × (n ≡ m + bit (k == j))
    here both = (
      slice_index_or ns k 0,
      slice_get-get_or ns k 0 within,
      both.1 ∙ ap (λ (i : ℕ). slice_index_or ns i 0 + 1) (sym both.0)
          ∙ ap (λ (b : Bool). slice_index_or ns k 0 + bit b) (sym (eq-eqb k j both.0)),
    )

    there : (k ≡ j → ⊥) × (slice_get ns k ≡ Some n) → (m : ℕ) × (slice_get ns k ≡ Some m) × (n ≡ m + bit (k == j))
    there both =
        let none : n ≡ n + bit false = omega arith in
        (n, both.1, none ∙ ap (λ (b : Bool). n + bit b) (sym (same_number k j both.0)))

-- two links are one where both nodes are
pub same_link : (a b c d : ℕ) → b < 16 → d < 16 → ((16 * a + b) == (16 * c + d)) ≡ ((b == d) && (a == c))
same_link a b c d lt below = by_tests ((16 * a + b) == (16 * c + d)) (b == d) (a == c) refl refl refl
  where
    by_tests : (t s r : Bool) → ((16 * a + b) == (16 * c + d)) ≡ t → (b == d) ≡ s → (a == c) ≡ r → t ≡ (s && r)
    by_tests true true true whole low high = refl
    by_tests true false r whole low high =
        let same = eqb-true (16 * a + b) (16 * c + d) whole in
        absurd (true≢false (sym (eq-eqb b d (omega (arith, same, lt, below))) ∙ low))
    by_tests true true false whole low high =
        let same = eqb-true (16 * a + b) (16 * c + d) whole in
        absurd (true≢false (sym (eq-eqb a c (omega (arith, same, lt, below))) ∙ high))
    by_tests false true true whole low high =
        let one = eqb-true b d low in
        let other = eqb-true a c high in
        absurd (true≢false (sym (eq-eqb (16 * a + b) (16 * c + d) (omega (arith, one, other))) ∙ whole))
    by_tests false false r whole low high = refl
    by_tests false true false whole low high = refl

same_receipt : (from to : ℕ) (e : Event) → to < 16 → AreNodes e → is_there (receipt_place e) (16 * from + to) ≡ is_receipt (node_at from) (node_at to) e
same_receipt from to (Events.Receive node peer number) lt nodes = same_link from to peer.0 node.0 lt nodes.0
same_receipt from to e lt nodes = refl

-- ---- packets

abbrev put_on : Option Packet → ℕ → List Packet
put_on None k = []
put_on (Some p) k = cond (k == link_of p) (p ∷ []) []

delivered_got : (p : Option Packet) (ls : List (List Packet)) (k : ℕ) (ps : List Packet) → slice_get (delivered p ls) k ≡ Some ps →
    (qs : List Packet) × (slice_get ls k ≡ Some qs) × (ps ≡ qs ++ put_on p k)
delivered_got None ls k ps h = (ps, h, sym (append-nil ps))
delivered_got (Some p) ls k ps h = ⊎_elim here there (slice_get-set_cases ls (link_of p) k (slice_index_or ls (link_of p) [] ++ p ∷ []) ps h)
  where
    within : k < length ls
    within =
        let lt = slice_get_within (slice_set ls (link_of p) (slice_index_or ls (link_of p) [] ++ p ∷ [])) k ps h in
        let same = length-set ls (link_of p) (slice_index_or ls (link_of p) [] ++ p ∷ []) in
        omega (arith, lt, same)

    here : (k ≡ link_of p) × (ps ≡ slice_index_or ls (link_of p) [] ++ p ∷ []) →
        (qs : List Packet) × (slice_get ls k ≡ Some qs) × (ps ≡ qs ++ cond (k == link_of p) (p ∷ []) [])
    here both = (
      slice_index_or ls k [],
      slice_get-get_or ls k [] within,
      both.1
          ∙ ap (λ (i : ℕ). slice_index_or ls i [] ++ p ∷ []) (sym both.0)
          ∙ ap (λ (b : Bool). slice_index_or ls k [] ++ cond b (p ∷ []) []) (sym (eq-eqb k (link_of p) both.0)),
    )

    there : (k ≡ link_of p → ⊥) × (slice_get ls k ≡ Some ps) → (qs : List Packet) × (slice_get ls k ≡ Some qs) × (ps ≡ qs ++ cond (k == link_of p) (p ∷ []) [])
    there both = (ps, both.1, sym (append-nil ps) ∙ ap (λ (b : Bool). ps ++ cond b (p ∷ []) []) (sym (same_number k (link_of p) both.0)))

put_same : (from to : ℕ) (p : Option Packet) → to < 16 → IsBetweenNodes p → put_on p (16 * from + to) ≡ on_link (node_at from) (node_at to) p
put_same from to None lt nodes = refl
put_same from to (Some (Packets.Parcel p)) lt nodes =
    ap (λ (b : Bool). cond b (Packets.Parcel p ∷ []) []) (same_link from to p.from.0 p.to.0 lt nodes.1 ∙ and_comm (to == p.to.0) (from == p.from.0))
put_same from to (Some (Packets.Answer p)) lt nodes =
    ap (λ (b : Bool). cond b (Packets.Answer p ∷ []) []) (same_link from to p.from.0 p.to.0 lt nodes.1 ∙ and_comm (to == p.to.0) (from == p.from.0))

-- ---- one entry more

pub counted_length : (place : Option ℕ) (ns : List ℕ) → length (counted place ns) ≡ length ns
counted_length None ns = refl
counted_length (Some k) ns = length-set ns k (slice_index_or ns k 0 + 1)

pub delivered_length : (p : Option Packet) (ls : List (List Packet)) → length (delivered p ls) ≡ length ls
delivered_length None ls = refl
delivered_length (Some p) ls = length-set ls (link_of p) (slice_index_or ls (link_of p) [] ++ p ∷ [])

pub read_more : (entries : List Entry) (received : List ℕ) (links : List (List Packet)) (x : Entry) (packet : Option Packet) → AreRead entries received links →
    packet ≡ emitted_of x → IsBetweenNodes packet → AreNodes x.event →
    AreRead (entries ++ x ∷ []) (counted (receipt_place x.event) received) (delivered packet links)
read_more entries received links x packet are is nodes at =
    record {
      received = λ from to n lt h.
          (let g = counted_got (receipt_place x.event) received (16 * from + to) n h in
          g.2
          ∙ (λ i. are.received from to g.0 lt g.1 i + bit (same_receipt from to x.event lt at i))
          ∙ sym (sum_by_push (λ (y : Entry). bit (is_receipt (node_at from) (node_at to) y.event)) entries x));
      emitted = λ from to ps lt h.
          (let g = delivered_got packet links (16 * from + to) ps h in
          g.2
          ∙ (λ i. are.emitted from to g.0 lt g.1 i ++ put_same from to packet lt nodes i)
          ∙ (λ i. emitted (node_at from) (node_at to) entries ++ on_link (node_at from) (node_at to) (is i))
          ∙ sym (emitted_append (node_at from) (node_at to) entries (x ∷ [])));
      all_received = counted_length (receipt_place x.event) received ∙ are.all_received;
      all_links = delivered_length packet links ∙ are.all_links;
    }

-- ---- the beginning

replicated : (k : ℕ) (i n : ℕ) → slice_get (replicate k 0) i ≡ Some n → n ≡ 0
replicated zero i n h = absurd (cc)
replicated (suc k) zero n h = cc
replicated (suc k) (suc i) n h = replicated k i n h

pub read_none : (links : List (Vec Packet)) → length links ≡ 256 → All (λ packets. packets.items ≡ []) links → AreRead [] (replicate 256 0) (map items_of links)
read_none links many none =
    record {
      received = λ from to n lt h. replicated 256 (16 * from + to) n h;
      emitted = λ from to ps lt h.
          (let g = Some-slice_get_map items_of links (16 * from + to) ps h in
          sym g.2 ∙ All-slice_get (λ (v : Vec Packet). v.items ≡ []) links (16 * from + to) g.0 none g.1);
      all_received = refl;
      all_links = map_length' links ∙ many;
    }
  where
    map_length' : (vs : List (Vec Packet)) → length (map items_of vs) ≡ length vs
    map_length' [] = refl
    map_length' (v ∷ vs) = ap suc (map_length' vs)

pub emitted_here : (entries : List Entry) (received : List ℕ) (links : List (List Packet)) (from to : NodeId) (ps : List Packet) →
    AreRead entries received links → from.0 < 16 → to.0 < 16 → ps ≡ slice_index_or links (link from to) ps → ps ≡ emitted from to entries
emitted_here entries received links from to ps are lt below at =
    are.emitted from.0 to.0 ps below
    (slice_get-get_or links (link from to) ps (let all = are.all_links in omega (arith, lt, below, all)) ∙ ap (λ (qs : List Packet). Some qs) (sym at))

-- ---- counts

pub received_is : (entries : List Entry) (r : Readings) (from to : NodeId) → IsIndexOf entries r → from.0 < 16 → to.0 < 16 →
    received_in r from to ≡ receipts from to entries
received_is entries r from to is lt below =
    is.read.received from.0 to.0 (received_in r from to) below (slice_get-get_or r.received (link from to) 0 (let all = is.read.all_received in
    omega (arith, lt, below, all)))

-- the nodes of the link at a place
nodes_at : (k : ℕ) → (from : ℕ) × (to : ℕ) × (to < 16) × (k ≡ 16 * from + to)
nodes_at zero = (0, 0, omega arith, omega arith)
nodes_at (suc k) = let n = nodes_at k in by_test n.0 n.1 n.2 n.3 (nat_lt (n.1 + 1) 16) refl
  where
    by_test : (from to : ℕ) → to < 16 → k ≡ 16 * from + to → (t : Bool) → nat_lt (to + 1) 16 ≡ t → (f : ℕ) × (b : ℕ) × (b < 16) × (suc k ≡ 16 * f + b)
    by_test from to less is true lt = let next = ltb-true (to + 1) 16 lt in (from, to + 1, next, omega (arith, is))
    by_test from to less is false ge = let last = ltb-false (to + 1) 16 ge in (from + 1, 0, omega arith, omega (arith, is, less, last))

-- where there are not too many entries, each count can be one more
pub can_count : (entries : List Entry) (r : Readings) → IsIndexOf entries r → length entries + 1 < 2 ^ 64 → CanCount r
can_count entries r is few =
    record {
      received = λ k d lt.
          (let n = nodes_at k in
          let at : slice_get r.received (16 * n.0 + n.1) ≡ Some (slice_index_or r.received k d) = ap (slice_get r.received) (sym n.3)
          ∙ slice_get-get_or r.received k d lt in
          let same = is.read.received n.0 n.1 (slice_index_or r.received k d) n.2 at in
          let most = count_by-le-length (λ (x : Entry). is_receipt (node_at n.0) (node_at n.1) x.event) entries in
          omega (arith, same, most, few));
    }

-- the count at the place of an event, if it has one
pub receipt_small : (received : List ℕ) (e : Event) → All (λ n. n + 1 < 2 ^ 64) received → length received ≡ 256 → AreNodes e →
    IfSome (receipt_place e) (λ k. slice_index_or received k 0 + 1 < 2 ^ 64)
receipt_small received (Events.Receive node peer number) small all at = let a = at.0 in let b = at.1 in small (link peer node) 0 (omega (arith, all, a, b))
receipt_small received e small all at = tt

pub nodes_within : (v : IndexView) (p : Option Packet) → HasRoomFor v p → IsBetweenNodes p
nodes_within v None h = tt
nodes_within v (Some p) h = (h.0, h.1)

pub read_same : (entries : List Entry) (received : List ℕ) (links : List (List Packet)) (es : List Entry) (rs : List ℕ) (ls : List (List Packet)) →
    es ≡ entries → rs ≡ received → ls ≡ links → AreRead entries received links → AreRead es rs ls
read_same entries received links es rs ls a c d are = coe 0 1 (i. AreRead (sym a i) (sym c i) (sym d i)) are

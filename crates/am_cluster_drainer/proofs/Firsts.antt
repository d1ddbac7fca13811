-- The first endpoint, pair of nodes and thread, from what a machine finds.
use Rattle.std.proofs.Common.{◌≡◌, ℕ, zero, suc, ◌+◌, ◌≤◌, ◌<◌, List, [], ◌∷◌, Option, Some, None, Bool, true, false, cond, map, drop, refl, sym, ◌∙◌, ap}
use Rattle.std.proofs.Common.{subst, ltb-true, ltb-false, arith}
use Rattle.std.specs.Prelude.{◌&&◌, not, nat_lt, find, filter_map, fold, is_some, slice_get, option_map, if◌then◌else◌}
use Rattle.std.specs.List.{cons_option, list_all, range_with_len}
use Rattle.am_names.specs.declared.NodeId.{NodeId}
use Rattle.am_office_entries.specs.declared.Entry.{Entry}
use Rattle.am_office_entries.specs.declared.Event.{Event}
use Rattle.am_office_entries.specs.declared.Event.TheVariants as Events
use Rattle.am_model.specs.declared.Queued.{Queued}
use Rattle.am_model.specs.Endpoint.{front}
use Rattle.am_model.specs.History.{channel_to, is_bound}
use Rattle.am_model.specs.Layout.{node_at}
use Rattle.am_scenario_types.specs.Lists.{ScenarioLists}
use Rattle.am_model_scripts.specs.Links.{due, first_some, next_receipt, nodes_of, receipt}
use Rattle.am_model_scripts.specs.Standings.{Standing}
use Rattle.am_model_drain.specs.declared.Turn.{Turn}
use Rattle.am_model_drain.specs.declared.Turn.TheVariants.{Once}
use Rattle.am_model_drain.specs.Rules.{Left, fewer, finds_room, next_time_out, time_out, time_out_to}
use Rattle.am_cluster_drainer.specs.declared.NodePair.{NodePair}
use Rattle.am_cluster_drainer.specs.Firsts.{IsFewest, IsFirstPair, IsLeastPair, IsNext, IsNextAt, has_bound, has_due}
use Rattle.am_cluster_drainer.proofs.Ranges.{rest, rest_nodes, rest_none, rest_past, rest_some}

-- ---- the first that passes

cond_true : {X : Type 0} (b : Bool) (x y : Option X) → b ≡ true → cond b x y ≡ x
cond_true true x y e = refl
cond_true false x y e = absurd (cc)

cond_false : {X : Type 0} (b : Bool) (x y : Option X) → b ≡ false → cond b x y ≡ y
cond_false true x y e = absurd (cc)
cond_false false x y e = refl

-- what does not pass is left out
pub find_skip : {X : Type 0} (p : X → Bool) (xs : List X) (i j : ℕ) → i ≤ j → ((k : ℕ) (x : X) → i ≤ k → k < j → slice_get xs k ≡ Some x → p x ≡ false) →
    find p (drop j xs) ≡ find p (drop i xs)
find_skip p [] zero zero h least = refl
find_skip p [] zero (suc j) h least = refl
find_skip p [] (suc i) zero h least = refl
find_skip p [] (suc i) (suc j) h least = refl
find_skip p (x ∷ xs) zero zero h least = refl
find_skip p (x ∷ xs) zero (suc j) h least =
    find_skip p xs zero j (omega arith) (λ k z from to e. least (suc k) z (omega arith) (omega (arith, to)) e)
    ∙ sym (cond_false (p x) (Some x) (find p xs) (least zero x (omega arith) (omega arith) refl))
find_skip p (x ∷ xs) (suc i) zero h least = absurd (omega (arith, h))
find_skip p (x ∷ xs) (suc i) (suc j) h least =
    find_skip p xs i j (omega (arith, h)) (λ k z from to e. least (suc k) z (omega (arith, from)) (omega (arith, to)) e)

pub find_not : {X : Type 0} (p : X → Bool) (xs : List X) (i : ℕ) → ((k : ℕ) (x : X) → i ≤ k → slice_get xs k ≡ Some x → p x ≡ false) → find p (drop i xs) ≡ None
find_not p [] zero least = refl
find_not p [] (suc i) least = refl
find_not p (x ∷ xs) zero least =
    cond_false (p x) (Some x) (find p xs) (least zero x (omega arith) refl) ∙ find_not p xs zero (λ k z from e. least (suc k) z (omega arith) e)
find_not p (x ∷ xs) (suc i) least = find_not p xs i (λ k z from e. least (suc k) z (omega (arith, from)) e)

-- an element that passes is found where it stands
found_at : {X : Type 0} (p : X → Bool) (xs : List X) (i : ℕ) (x : X) → slice_get xs i ≡ Some x → p x ≡ true → find p (drop i xs) ≡ Some x
found_at p [] i x e f = absurd (cc)
found_at p (y ∷ ys) zero x e f =
    let same : y ≡ x = cc in
    cond_true (p y) (Some y) (find p ys) (ap p same ∙ f) ∙ e
found_at p (y ∷ ys) (suc i) x e f = found_at p ys i x e f

pub found_next : {X : Type 0} (p : X → Bool) (xs : List X) (place : ℕ) (next : IsNextAt p xs 0 place) → find p xs ≡ Some next.one
found_next p xs place next =
    sym (find_skip p xs 0 place (omega arith) next.least) ∙ found_at p xs place next.one next.at_place next.passes'

pub found_none : {X : Type 0} (p : X → Bool) (xs : List X) → IsNext p xs 0 None → find p xs ≡ None
found_none p xs none = find_not p xs 0 none

-- what is read at the place is read of the element there
read_one : {X Y : Type 0} (read : X → Y) (xs : List X) (k : ℕ) (x : X) (y : Y) → slice_get xs k ≡ Some x → slice_get (map read xs) k ≡ Some y → y ≡ read x
read_one read [] k x y e f = absurd (cc)
read_one read (z ∷ zs) zero x y e f =
    let same : z ≡ x = cc in
    let read' : y ≡ read z = cc in
    read' ∙ ap read same
read_one read (z ∷ zs) (suc k) x y e f = read_one read zs k x y e f

pub next_read : {X Y : Type 0} (read : X → Y) (p : X → Bool) (xs : List X) (place : ℕ) (y : Y) → IsNextAt p xs 0 place →
    slice_get (map read xs) place ≡ Some y → Some y ≡ option_map read (find p xs)
next_read read p xs place y next e =
    ap (λ z. let o : Option _ = Some z in o) (read_one read xs place next.one y next.at_place e) ∙ sym (ap (option_map read) (found_next p xs place next))

pub next_not : {X Y : Type 0} (read : X → Y) (p : X → Bool) (xs : List X) → IsNext p xs 0 None → None ≡ option_map read (find p xs)
next_not read p xs none = sym (ap (option_map read) (found_none p xs none))

-- ---- the first front message that finds room

no_front : (ends : List Standing) (o : Option Queued) → is_some o ≡ false → finds_room ends o ≡ false
no_front ends None e = refl
no_front ends (Some q) e = absurd (cc)

abbrev has_front : Standing → Bool
has_front s = is_some (front s.state)

abbrev pub is_sent : List Standing → Standing → Bool
is_sent ends s = finds_room ends (front s.state)

pub fronts_skip : (ends : List Standing) (from place : ℕ) → IsNextAt has_front ends from place →
    find (is_sent ends) (drop place ends) ≡ find (is_sent ends) (drop from ends)
fronts_skip ends from place next =
    find_skip (is_sent ends) ends from place next.behind (λ k s behind before e. no_front ends (front s.state) (next.least k s behind before e))

pub fronts_end : (ends : List Standing) (from : ℕ) → IsNext has_front ends from None → find (is_sent ends) (drop from ends) ≡ None
fronts_end ends from none = find_not (is_sent ends) ends from (λ k s behind e. no_front ends (front s.state) (none k s behind e))

-- ---- the first pair

rest_skip : {X : Type 0} (f : ℕ → Option X) (d i n : ℕ) → i + d ≤ n → ((k : ℕ) → k < i + d → f k ≡ None) → rest f i n ≡ rest f (i + d) n
rest_skip f zero i n h none =
    let same : i ≡ i + 0 = omega arith in
    ap (λ (k : ℕ). rest f k n) same
rest_skip f (suc d) i n h none =
    let same : i + 1 + d ≡ i + suc d = omega arith in
    sym (rest_none f i n (omega (arith, h)) (none i (omega arith)))
    ∙ (rest_skip f d (i + 1) n (omega (arith, h)) (λ k below. none k (omega (arith, below))) ∙ ap (λ (k : ℕ). rest f k n) same)

-- the first of what nodes give is that of the first node that gives something
nodes_first : {X : Type 0} (h : NodeId → Option X) (n : ℕ) (node : NodeId) (x : X) → node.0 < n → ((m : NodeId) → m.0 < node.0 → h m ≡ None) → h node ≡ Some x →
    first_some (map h (map node_at (range_with_len 0 n))) ≡ Some x
nodes_first h n node x below none is =
    let same : 0 + node.0 ≡ node.0 = omega arith in
    sym (rest_nodes h n n refl)
    ∙ (rest_skip (λ (k : ℕ). h (node_at k)) node.0 0 n (omega (arith, below)) (λ k before. none (node_at k) (omega (arith, before)))
    ∙ (ap (λ (k : ℕ). rest (λ (j : ℕ). h (node_at j)) k n) same
    ∙ rest_some (λ (k : ℕ). h (node_at k)) node.0 n x below is))

nodes_none : {X : Type 0} (h : NodeId → Option X) (n : ℕ) → ((m : NodeId) → m.0 < n → h m ≡ None) → first_some (map h (map node_at (range_with_len 0 n))) ≡ None
nodes_none h n none =
    let same : 0 + n ≡ n = omega arith in
    sym (rest_nodes h n n refl)
    ∙ (rest_skip (λ (k : ℕ). h (node_at k)) n 0 n (omega arith) (λ k before. none (node_at k) (omega (arith, before)))
    ∙ (ap (λ (k : ℕ). rest (λ (j : ℕ). h (node_at j)) k n) same
    ∙ rest_past (λ (k : ℕ). h (node_at k)) n n (omega arith)))

-- the first of what pairs of nodes give
abbrev pub first_of : {X : Type 0} → ScenarioLists → (NodeId → NodeId → Option X) → Option X
first_of s f = first_some (map (λ (node : NodeId). first_some (map (f node) (nodes_of s))) (nodes_of s))

gives_none : {X : Type 0} (o : Option X) (b : Bool) → is_some o ≡ b → b ≡ false → o ≡ None
gives_none None b e f = refl
gives_none (Some x) b e f = absurd (cc)

pair_some : {X : Type 0} (s : ScenarioLists) (passes : NodeId → NodeId → Bool) (f : NodeId → NodeId → Option X) (given : (n p : NodeId) →
    is_some (f n p) ≡ passes n p) (pair : NodePair) (x : X) → IsLeastPair s passes pair → f pair.node pair.peer ≡ Some x → first_of s f ≡ Some x
pair_some s passes f given pair x is e =
    nodes_first (λ (node : NodeId). first_some (map (f node) (nodes_of s))) s.nodes pair.node x is.node
    (λ node before. nodes_none (f node) s.nodes (λ peer below. gives_none (f node peer) (passes node peer) (given node peer)
    (is.least_node node peer before below)))
    (nodes_first (f pair.node) s.nodes pair.peer x is.peer (λ peer before. gives_none (f pair.node peer) (passes pair.node peer) (given pair.node peer)
    (is.least_peer peer before)) e)

pair_given : {X : Type 0} (s : ScenarioLists) (passes : NodeId → NodeId → Bool) (f : NodeId → NodeId → Option X) (given : (n p : NodeId) →
    is_some (f n p) ≡ passes n p) (pair : NodePair) (o : Option X) → IsLeastPair s passes pair → f pair.node pair.peer ≡ o → o ≡ first_of s f
pair_given s passes f given pair None is e =
    absurd (let some = given pair.node pair.peer in let passes' = is.passes' in let none = ap is_some e in cc)
pair_given s passes f given pair (Some x) is e = sym (pair_some s passes f given pair x is e)

pub pair_first : {X : Type 0} (s : ScenarioLists) (passes : NodeId → NodeId → Bool) (f : NodeId → NodeId → Option X) (given : (n p : NodeId) →
    is_some (f n p) ≡ passes n p) (pair : NodePair) → IsLeastPair s passes pair → f pair.node pair.peer ≡ first_of s f
pair_first s passes f given pair is = pair_given s passes f given pair (f pair.node pair.peer) is refl

pub pair_none : {X : Type 0} (s : ScenarioLists) (passes : NodeId → NodeId → Bool) (f : NodeId → NodeId → Option X) (given : (n p : NodeId) →
    is_some (f n p) ≡ passes n p) → IsFirstPair s passes None → None ≡ first_of s f
pair_none s passes f given none =
    sym (nodes_none (λ (node : NodeId). first_some (map (f node) (nodes_of s))) s.nodes
    (λ node below. nodes_none (f node) s.nodes (λ peer under. gives_none (f node peer) (passes node peer) (given node peer) (none node peer below under))))

-- ---- what is due

receipt_given : (node peer : NodeId) (o : Option ℕ) → is_some (receipt node peer o) ≡ is_some o
receipt_given node peer None = refl
receipt_given node peer (Some number) = refl

abbrev receipt_on : ScenarioLists → List Entry → NodeId → NodeId → Option Event
receipt_on s past node peer = receipt node peer (due s peer node past)

pub receipt_first : (s : ScenarioLists) (past : List Entry) (pair : NodePair) → IsFirstPair s (has_due s past) (Some pair) →
    receipt pair.node pair.peer (due s pair.peer pair.node past) ≡ next_receipt s past
receipt_first s past pair is = pair_first s (has_due s past) (receipt_on s past) (λ node peer. receipt_given node peer (due s peer node past)) pair is

pub receipt_none : (s : ScenarioLists) (past : List Entry) → IsFirstPair s (has_due s past) None → None ≡ next_receipt s past
receipt_none s past none = pair_none s (has_due s past) (receipt_on s past) (λ node peer. receipt_given node peer (due s peer node past)) none

-- ---- what is bound

some_if : (b : Bool) (t : Turn) (os : List (Option Turn)) (c : Bool) → is_some (first_some os) ≡ not c →
    is_some (first_some ((if b then Some t else None) ∷ os)) ≡ not (not b && c)
some_if true t os c e = refl
some_if false t os c e = e

bound_some : (node peer : NodeId) (past : List Entry) (ks : List ℕ) →
    is_some (first_some (map (time_out node peer past) ks)) ≡ not (list_all (λ (k : ℕ). not (is_bound (channel_to node peer k) past)) ks)
bound_some node peer past [] = refl
bound_some node peer past (k ∷ ks) =
    some_if (is_bound (channel_to node peer k) past) (Once (Events.Expire node peer k)) (map (time_out node peer past) ks)
    (list_all (λ (j : ℕ). not (is_bound (channel_to node peer j) past)) ks) (bound_some node peer past ks)

bound_given : (s : ScenarioLists) (past : List Entry) (node peer : NodeId) → is_some (time_out_to s past node peer) ≡ has_bound s past node peer
bound_given s past node peer = bound_some node peer past (range_with_len 0 s.channels)

pub bound_first : (s : ScenarioLists) (past : List Entry) (pair : NodePair) → IsFirstPair s (has_bound s past) (Some pair) →
    time_out_to s past pair.node pair.peer ≡ next_time_out s past
bound_first s past pair is = pair_first s (has_bound s past) (time_out_to s past) (bound_given s past) pair is

pub bound_none : (s : ScenarioLists) (past : List Entry) → IsFirstPair s (has_bound s past) None → None ≡ next_time_out s past
bound_none s past none = pair_none s (has_bound s past) (time_out_to s past) (bound_given s past) none

-- ---- the thread that made the fewest

-- none of these has made fewer
abbrev IsUnder : {T : Type 0} → (T → Option Left) → List T → Left → Type 0
IsUnder {T} left ts best = (k : ℕ) (t : T) (l : Left) → slice_get ts k ≡ Some t → left t ≡ Some l → best.after ≤ l.after

not_fewer : (l best : Left) (b : Bool) → nat_lt l.after best.after ≡ b → best.after ≤ l.after → fewer (Some best) l ≡ Some best
not_fewer l best true e h = absurd (omega (arith, ltb-true l.after best.after e, h))
not_fewer l best false e h = ap (λ (c : Bool). let o : Option Left = Some (if c then l else best) in o) e

under_step : (best : Left) (o : Option Left) (ls : List Left) → ((l : Left) → o ≡ Some l → best.after ≤ l.after) →
    fold fewer (Some best) (cons_option o ls) ≡ fold fewer (Some best) ls
under_step best None ls h = refl
under_step best (Some l) ls h =
    ap (λ (b : Option Left). fold fewer b ls) (not_fewer l best (nat_lt l.after best.after) refl (h l refl))

under_stays : {T : Type 0} (left : T → Option Left) (ts : List T) (best : Left) → IsUnder left ts best → fold fewer (Some best) (filter_map left ts) ≡ Some best
under_stays left [] best under = refl
under_stays left (t ∷ ts) best under =
    under_step best (left t) (filter_map left ts) (λ l e. under zero t l refl e) ∙ under_stays left ts best (λ k u l e f. under (suc k) u l e f)

-- the best before makes way
abbrev IsOver : Left → Option Left → Type 0
IsOver left best = (b : Left) → best ≡ Some b → left.after < b.after

taken : (l : Left) (best : Option Left) → IsOver l best → fewer best l ≡ Some l
taken l None over = refl
taken l (Some b) over = by_test (nat_lt l.after b.after) refl
  where
    by_test : (c : Bool) → nat_lt l.after b.after ≡ c → fewer (Some b) l ≡ Some l
    by_test true e = ap (λ (d : Bool). let o : Option Left = Some (if d then l else b) in o) e
    by_test false e = absurd (omega (arith, ltb-false l.after b.after e, over b refl))

over_one : (l o b : Left) → l.after < o.after → l.after < b.after → IsOver l (fewer (Some b) o)
over_one l o b under over = by_test (nat_lt o.after b.after)
  where
    by_test : (c : Bool) → IsOver l (Some (if c then o else b))
    by_test true x e =
        let same : o ≡ x = cc in
        subst (λ (y : Left). l.after < y.after) same under
    by_test false x e =
        let same : b ≡ x = cc in
        subst (λ (y : Left). l.after < y.after) same over

over_new : (l o : Left) → l.after < o.after → IsOver l (Some o)
over_new l o under x e =
    let same : o ≡ x = cc in
    subst (λ (y : Left). l.after < y.after) same under

over_step : (l : Left) (best : Option Left) (o : Left) → l.after < o.after → IsOver l best → IsOver l (fewer best o)
over_step l None o under over = over_new l o under
over_step l (Some b) o under over = over_one l o b under (over b refl)

-- the fold over those before it
before_step : (l : Left) (best o : Option Left) (ls : List Left) → IsOver l best → ((x : Left) → o ≡ Some x → l.after < x.after) →
    ((b : Option Left) → IsOver l b → fold fewer b ls ≡ Some l) → fold fewer best (cons_option o ls) ≡ Some l
before_step l best None ls over under rest' = rest' best over
before_step l best (Some x) ls over under rest' = rest' (fewer best x) (over_step l best x (under x refl) over)

here_step : (l : Left) (best o : Option Left) (ls : List Left) → o ≡ Some l → IsOver l best → fold fewer (Some l) ls ≡ Some l →
    fold fewer best (cons_option o ls) ≡ Some l
here_step l best None ls e over stays = absurd (cc)
here_step l best (Some x) ls e over stays =
    let same : x ≡ l = cc in
    ap (λ (y : Left). fold fewer (fewer best y) ls) same ∙ (ap (λ (b : Option Left). fold fewer b ls) (taken l best over) ∙ stays)

fewest_at : {T : Type 0} (left : T → Option Left) (ts : List T) (place : ℕ) (thread : T) (l : Left) (best : Option Left) → slice_get ts place ≡ Some thread →
    left thread ≡ Some l → IsUnder left ts l → ((k : ℕ) (t : T) (o : Left) → k < place → slice_get ts k ≡ Some t → left t ≡ Some o → l.after < o.after) →
    IsOver l best → fold fewer best (filter_map left ts) ≡ Some l
fewest_at left [] place thread l best e f under before over = absurd (cc)
fewest_at left (t ∷ ts) zero thread l best e f under before over =
    let same : t ≡ thread = cc in
    here_step l best (left t) (filter_map left ts) (ap left same ∙ f) over (under_stays left ts l (λ k u o g h. under (suc k) u o g h))
fewest_at left (t ∷ ts) (suc place) thread l best e f under before over =
    before_step l best (left t) (filter_map left ts) over (λ o g. before zero t o (omega arith) refl g)
    (λ b over'. fewest_at left ts place thread l b e f (λ k u o g h. under (suc k) u o g h) (λ k u o below g h. before (suc k) u o (omega (arith, below)) g h)
    over')

none_left : {T : Type 0} (left : T → Option Left) (ts : List T) → IsFewest left ts None → filter_map left ts ≡ []
none_left left [] none = refl
none_left left (t ∷ ts) none = ap (λ (o : Option Left). cons_option o (filter_map left ts)) (none zero t refl) ∙ none_left left ts (λ k u e. none (suc k) u e)

pub fewest_folds : {T : Type 0} (left : T → Option Left) (ts : List T) (o : Option Left) → IsFewest left ts o → o ≡ fold fewer None (filter_map left ts)
fewest_folds left ts None none = sym (ap (fold fewer None) (none_left left ts none))
fewest_folds left ts (Some l) is =
    sym (fewest_at left ts is.place is.thread l None is.at_place is.left' is.fewest is.least (λ b e. absurd (cc)))

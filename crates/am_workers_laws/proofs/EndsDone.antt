-- The logs of all endpoints and interfaces merge into a good phase.
use Rattle.std.specs.Prelude.{slice_get}
use Rattle.std.specs.List.{list_any, range_with_len}
use Rattle.std.proofs.Common.{◌≡◌, ◌⊎◌, inl, inr, ⊎_elim, ℕ, zero, suc, ◌+◌, ◌<◌, ◌≤◌, Bool, true, false, ◌||◌, List, [], ◌∷◌, ◌++◌, map, length, Some, refl}
use Rattle.std.proofs.Common.{sym, ap, subst, arith, Contains}
use Rattle.std.proofs.lemmas.Bool.{cases_lt}
use Rattle.am_lemmas.proofs.Lists.{each_of}
use Rattle.am_names.specs.declared.EndpointId.{EndpointId}
use Rattle.am_names.specs.declared.NodeId.{NodeId}
use Rattle.am_names.specs.Names.{same_end}
use Rattle.am_office_entries.specs.declared.Entry.{Entry}
use Rattle.am_office_entries.specs.declared.Event.{Event}
use Rattle.am_office_entries.specs.declared.Event.TheVariants as Events
use Rattle.am_office_entries.specs.declared.Outcome.{Outcome}
use Rattle.am_office_entries.specs.Entries.{ends_touched, is_node, touches}
use Rattle.am_model.proofs.Names.{same_end-refl}
use Rattle.am_model.specs.Parts.{driver_of}
use Rattle.am_model.specs.Layout.{node_at}
use Rattle.am_model_parts.specs.Together.{ends_of}
use Rattle.am_model_merge.specs.Merged.{entries_of, sorted}
use Rattle.am_model_merge.proofs.Sorted.{Has, contains_has, has_contains, has_append, has_first, has_last}
use Rattle.am_scenario_types.specs.Lists.{ScenarioLists}
use Rattle.am_model_scripts.specs.Links.{nodes_of}
use Rattle.am_model_scripts.specs.Layout.{layout_of}
use Rattle.am_workers_laws.specs.declared.books.EndBook.{EndBook}
use Rattle.am_workers_laws.specs.Phases.Makers.{Driver, HaveAll, Interface, IsMadeBySome, IsOfMaker, Maker, Thread}
use Rattle.am_workers_laws.proofs.Makers.{thread_end, workers_make_a_phase}
use Rattle.am_workers_laws.proofs.Splits.{all_at}
use Rattle.am_workers_laws.specs.Ended.{IsEnded, RunEnd, all_lists, lists_of, node_lists}
use Rattle.am_workers_laws.specs.Laws.{EmptyIsAPhase, EndsAreAPhase, NoTurnsNoPhase}
use Rattle.am_workers_laws.proofs.Passes.{IsIn}
use Rattle.am_workers_laws.proofs.HomesDone.{got_in}
use Rattle.am_workers_laws.proofs.BooksDone.{whole_book}
use Rattle.am_workers_laws.proofs.Done.{book_of, entry_of, kept, part, place_of, touched_home, worked, workers_are_done}

-- ---- what stands in lists

pub in_parts : {X : Type 0} (xs ys : List X) (z : X) → IsIn (xs ++ ys) z → IsIn xs z ⊎ IsIn ys z
in_parts [] ys z h = inr h
in_parts (x ∷ xs) ys z h = ⊎_elim (λ (here : x ≡ z). inl (inl here)) (λ (more : IsIn (xs ++ ys) z). ⊎_elim (λ (a : IsIn xs z). inl (inr a))
    (λ (b : IsIn ys z). inr b) (in_parts xs ys z more)) h

pub in_first : {X : Type 0} (xs ys : List X) (z : X) → IsIn xs z → IsIn (xs ++ ys) z
in_first [] ys z h = absurd h
in_first (x ∷ xs) ys z h = ⊎_elim (λ (here : x ≡ z). inl here) (λ (more : IsIn xs z). inr (in_first xs ys z more)) h

pub in_last : {X : Type 0} (xs ys : List X) (z : X) → IsIn ys z → IsIn (xs ++ ys) z
in_last [] ys z h = h
in_last (x ∷ xs) ys z h = inr (in_last xs ys z h)

pub in_map : {X Y : Type 0} (f : X → Y) (xs : List X) (z : X) → IsIn xs z → IsIn (map f xs) (f z)
in_map f [] z h = absurd h
in_map f (x ∷ xs) z h = ⊎_elim (λ (here : x ≡ z). inl (ap f here)) (λ (more : IsIn xs z). inr (in_map f xs z more)) h

-- where it stands
pub record IsPlace {X : Type 0} (xs : List X) (z : X) : Type 0 where
  pub place : ℕ
  pub at : slice_get xs place ≡ Some z

pub in_got : {X : Type 0} (xs : List X) (z : X) → IsIn xs z → IsPlace xs z
in_got [] z h = absurd h
in_got {X} (x ∷ xs) z h = ⊎_elim (λ (here : x ≡ z). record { place = 0; at = ap (λ (y : X). Some y) here })
    (λ (more : IsIn xs z). (let p = in_got xs z more in record { place = suc p.place; at = p.at })) h

pub id_there : {X Y : Type 0} (ids : List X) (books : List Y) (k : ℕ) (b : Y) → length books ≡ length ids → slice_get books k ≡ Some b →
    (e : X) × (slice_get ids k ≡ Some e)
id_there ids [] k b all h = absurd (cc)
id_there [] (c ∷ bs) k b all h = absurd (omega (arith, all))
id_there (i ∷ is) (c ∷ bs) zero b all h = (i, refl)
id_there (i ∷ is) (c ∷ bs) (suc k) b all h = id_there is bs k b (omega (arith, all)) h

-- ---- the lists of the nodes

-- an entry stands in one of the lists
record IsListed (lists : List (List Entry)) (x : Entry) : Type 0 where
  pub log : List Entry
  pub there : IsIn lists log
  pub has : Has log x

listed : (lists : List (List Entry)) (x : Entry) → Has (entries_of lists) x → IsListed lists x
listed [] x h = absurd h
listed (log ∷ logs) x h =
    ⊎_elim (λ (a : Has log x). record {
      log = log;
      there = inl refl;
      has = a;
    }) (λ (b : Has (entries_of logs) x). (let m = listed logs x b in record { log = m.log; there = inr m.there; has = m.has }))
    (has_append log (entries_of logs) x h)

from_list : (lists : List (List Entry)) (log : List Entry) (x : Entry) → IsIn lists log → Has log x → Has (entries_of lists) x
from_list [] log x h has = absurd h
from_list (l ∷ ls) log x h has =
    ⊎_elim (λ (here : l ≡ log). has_first l (entries_of ls) x (subst (λ (xs : List Entry). Has xs x) (sym here) has))
    (λ (more : IsIn ls log). has_last l (entries_of ls) x (from_list ls log x more has)) h

-- a list of a node
record IsOfNode (r : RunEnd) (ns : List NodeId) (log : List Entry) : Type 0 where
  pub node : NodeId
  pub there : IsIn ns node
  pub list : IsIn (node_lists r node) log

of_node : (r : RunEnd) (ns : List NodeId) (log : List Entry) → IsIn (lists_of r ns) log → IsOfNode r ns log
of_node r [] log h = absurd h
of_node r (n ∷ ns) log h =
    ⊎_elim (λ (a : IsIn (node_lists r n) log). record { node = n; there = inl refl; list = a })
    (λ (b : IsIn (lists_of r ns) log). (let m = of_node r ns log b in record { node = m.node; there = inr m.there; list = m.list }))
    (in_parts (node_lists r n) (lists_of r ns) log h)

from_node : (r : RunEnd) (ns : List NodeId) (node : NodeId) (log : List Entry) → IsIn ns node → IsIn (node_lists r node) log → IsIn (lists_of r ns) log
from_node r [] node log h is = absurd h
from_node r (n ∷ ns) node log h is =
    ⊎_elim (λ (here : n ≡ node). in_first (node_lists r n) (lists_of r ns) log (subst (λ (m : NodeId). IsIn (node_lists r m) log) (sym here) is))
    (λ (more : IsIn ns node). in_last (node_lists r n) (lists_of r ns) log (from_node r ns node log more is))
    h

-- the log of a book
record IsLogOfBook (books : List EndBook) (log : List Entry) : Type 0 where
  pub book : EndBook
  pub there : IsIn books book
  pub is : book.end.value.log ≡ log

of_books : (books : List EndBook) (log : List Entry) → IsIn (map (λ (b : EndBook). b.end.value.log) books) log → IsLogOfBook books log
of_books [] log h = absurd h
of_books (b ∷ bs) log h =
    ⊎_elim (λ (here : b.end.value.log ≡ log). record { book = b; there = inl refl; is = here })
    (λ (more : IsIn (map (λ (c : EndBook). c.end.value.log) bs) log). (let m = of_books bs log more in record {
      book = m.book;
      there = inr m.there;
      is = m.is;
    }))
    h

node_is : (a : ℕ) (node : NodeId) → a ≡ node.0 → node_at a ≡ node
node_is a node h = λ i. record { 0 = h i }

pub low_node : (a n : ℕ) (node : NodeId) → IsIn (map node_at (range_with_len a n)) node → node.0 < a + n
low_node a zero node h = absurd h
low_node a (suc n) node h =
    ⊎_elim (λ (here : node_at a ≡ node). (let same : a ≡ node.0 = ap (λ (m : NodeId). m.0) here in omega (arith, same)))
    (λ (more : IsIn (map node_at (range_with_len (a + 1) n)) node). (let less = low_node (a + 1) n node more in omega (arith, less)))
    h

pub node_in : (a n : ℕ) (node : NodeId) → a ≤ node.0 → node.0 < a + n → IsIn (map node_at (range_with_len a n)) node
node_in a zero node low high = absurd (omega (arith, low, high))
node_in a (suc n) node low high =
    ⊎_elim (λ (less : a < node.0). inr (node_in (a + 1) n node (omega (arith, less)) (omega (arith, high))))
    (λ (not_less : node.0 ≤ a). inl (node_is a node (omega (arith, low, not_less)))) (cases_lt a node.0)

-- ---- who made the entries

driver_end : (node : NodeId) (e : Event) (o : Outcome) → is_node node (driver_of e) ≡ true →
    (end : EndpointId) × (list_any (same_end end) (ends_touched e o) ≡ true)
driver_end node (Events.Drain n end) o h = (end, ap (λ (b : Bool). b || false) (same_end-refl end))
driver_end node (Events.Unload n end) o h = (end, ap (λ (b : Bool). b || false) (same_end-refl end))
driver_end node (Events.Load n end frame) o h = (end, ap (λ (b : Bool). b || false) (same_end-refl end))
driver_end node (Events.PageOut n end) o h = (end, ap (λ (b : Bool). b || false) (same_end-refl end))
driver_end node (Events.PageIn n end) o h = (end, ap (λ (b : Bool). b || false) (same_end-refl end))
driver_end node e o h = absurd (cc)

kind_of : (s : ScenarioLists) (r : RunEnd) → IsEnded s r → (k : Maker) (x : Entry) → Contains (r.made k) x → IsOfMaker k x
kind_of s r end k x has = all_at (IsOfMaker k) (r.made k) x (part s r end k).kinds (contains_has (r.made k) x has)

-- what touches an endpoint stands in the log of its book
in_book : (s : ScenarioLists) (r : RunEnd) → IsEnded s r → (k : Maker) (x : Entry) (e : EndpointId) → Contains (r.made k) x → touches e x ≡ true →
    Has (entries_of (all_lists s r)) x
in_book s r end k x e has is =
    let w = worked s r end k x has in
    let at = touched_home s r end k x e w has is in
    let p = place_of s r end w.node w.declared e at in
    let c = (book_of s r end w.node w.declared e p).from x (entry_of s r end w.node e k x at has is) in
    from_list (all_lists s r) p.book.end.value.log x
    (from_node r (nodes_of s) w.node p.book.end.value.log (node_in 0 s.nodes w.node (omega arith) (let less = w.declared in omega (arith, less)))
    (in_first (map (λ (b : EndBook). b.end.value.log) (r.nodes w.node).books) (r.made (Interface w.node) ∷ []) p.book.end.value.log
    (in_map (λ (b : EndBook). b.end.value.log) (r.nodes w.node).books p.book (got_in (r.nodes w.node).books p.place p.book p.there))))
    (contains_has p.book.end.value.log x c)

in_lists : (s : ScenarioLists) (r : RunEnd) → IsEnded s r → (k : Maker) (x : Entry) → Contains (r.made k) x → Has (entries_of (all_lists s r)) x
in_lists s r end (Thread t) x has = let e = thread_end t x.event x.outcome (kind_of s r end (Thread t) x has) in in_book s r end (Thread t) x e.0 has e.1
in_lists s r end (Driver node) x has = let e = driver_end node x.event x.outcome (kind_of s r end (Driver node) x has) in
    in_book s r end (Driver node) x e.0 has e.1
in_lists s r end (Interface node) x has =
    let w = worked s r end (Interface node) x has in
    let low : node.0 < s.nodes = subst (λ (n : NodeId). n.0 < s.nodes) (sym (kept s r end (Interface node) w).0) w.declared in
    from_list (all_lists s r) (r.made (Interface node)) x
    (from_node r (nodes_of s) node (r.made (Interface node)) (node_in 0 s.nodes node (omega arith) (omega (arith, low)))
    (in_last (map (λ (b : EndBook). b.end.value.log) (r.nodes node).books) (r.made (Interface node) ∷ []) (r.made (Interface node)) (inl refl)))
    (contains_has (r.made (Interface node)) x has)

made_by_some : (s : ScenarioLists) (r : RunEnd) → IsEnded s r → (x : Entry) → IsListed (all_lists s r) x → IsMadeBySome r.made x
made_by_some s r end x l =
    ⊎_elim (λ (a : IsIn (map (λ (b : EndBook). b.end.value.log) (r.nodes n.node).books) l.log). by_book (of_books (r.nodes n.node).books l.log a))
    (λ (a : IsIn (r.made (Interface n.node) ∷ []) l.log). ⊎_elim (λ (here : r.made (Interface n.node) ≡ l.log). (
      Interface n.node,
      has_contains (r.made (Interface n.node)) x (subst (λ (xs : List Entry). Has xs x) (sym here) l.has),
    )) (λ (none : ⊥). absurd none) a)
    (in_parts (map (λ (b : EndBook). b.end.value.log) (r.nodes n.node).books) (r.made (Interface n.node) ∷ []) l.log n.list)
  where
    n : IsOfNode r (nodes_of s) l.log
    n = of_node r (nodes_of s) l.log l.there

    low : n.node.0 < s.nodes
    low = let less = low_node 0 s.nodes n.node n.there in omega (arith, less)

    by_book : IsLogOfBook (r.nodes n.node).books l.log → IsMadeBySome r.made x
    by_book b =
        let p = in_got (r.nodes n.node).books b.book b.there in
        let e = id_there (ends_of (layout_of s) n.node) (r.nodes n.node).books p.place b.book (end.nodes n.node low).all p.at in
        let o = (whole_book s r n.node (end.nodes n.node low) p.place e.0 b.book e.1 ((end.nodes n.node low).taken p.place b.book p.at)).to x
        (has_contains b.book.end.value.log x (subst (λ (xs : List Entry). Has xs x) (sym b.is) l.has)) in
        (o.worker.maker, o.made)

pub have_all : (s : ScenarioLists) (r : RunEnd) → IsEnded s r → HaveAll r.made (all_lists s r)
have_all s r end x = (
  (λ c. made_by_some s r end x (listed (all_lists s r) x (contains_has (entries_of (all_lists s r)) x c))),
  (λ a. has_contains (entries_of (all_lists s r)) x (in_lists s r end a.0 x a.1)),
)

pub ends_are_a_phase : EndsAreAPhase
ends_are_a_phase s r end =
    let p = workers_make_a_phase s r.made _ (all_lists s r) (workers_are_done s r end) (have_all s r end) in
    record {
      merges = p.merges;
      good = record {
        history = p.good.history;
        is_phase = p.good.is_phase;
        scripts = p.good.scripts;
        in_order = p.good.in_order;
        events = p.good.events;
      };
    }

-- ---- no turns

nothing_there : (xs : List Entry) → ((x : Entry) → Has xs x → ⊥) → xs ≡ []
nothing_there [] h = refl
nothing_there (x ∷ xs) h = absurd (h x (inl refl))

short_none : (xs : List Entry) (n : ℕ) (x : Entry) → n ≡ 0 → length xs ≤ n → Contains xs x → ⊥
short_none xs n x zero' few c = let less = c.1 in absurd (omega (arith, zero', few, less))

pub no_turns_no_phase : NoTurnsNoPhase
no_turns_no_phase s r none end =
    ap sorted
    (nothing_there (entries_of (all_lists s r))
    (λ x h. (let m = (have_all s r end x).0 (has_contains (entries_of (all_lists s r)) x h) in
    short_none (r.made m.0) s.turns x none (part s r end m.0).few m.1)))

pub empty_is_a_phase : EmptyIsAPhase
empty_is_a_phase s =
    record {
      history = tt;
      is_phase = record {
        inside = refl;
        threads = each_of _ s.threads (λ t. omega arith);
        interfaces = each_of _ (nodes_of s) (λ n. omega arith);
        drivers = each_of _ (nodes_of s) (λ n. omega arith);
        no_last = tt;
      };
      scripts = each_of _ s.threads (λ t. refl);
      in_order = tt;
      events = refl;
    }

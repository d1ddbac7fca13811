-- Each worker at a seat that was just made is at work, with no turn made.
use Rattle.std.specs.Prelude.{replicate, slice_get, slice_index, slice_index_or}
use Rattle.std.proofs.Common.{◌≡◌, ◌⊎◌, inl, inr, ⊎_elim, ℕ, zero, suc, ◌+◌, ◌<◌, Bool, true, false, cond, List, [], ◌∷◌, map, Option, Some, None, refl, sym}
use Rattle.std.proofs.Common.{ap, ◌∙◌, subst, arith, eq-eqb}
use Rattle.std.proofs.lemmas.List.{length-replicate}
use lib.ListN.{get_elem?}
use mathlib.Core.Option.{some}
use Rattle.atomic_table.specs.Seated.{TableId}
use Rattle.atomic_table.specs.declared.shared.Seat.{Seat}
use Rattle.am_names.specs.declared.EndpointId.{EndpointId}
use Rattle.am_names.specs.declared.NodeId.{NodeId}
use Rattle.am_office_entries.specs.declared.Entry.{Entry}
use Rattle.am_office_entries.specs.declared.Place.{Place}
use Rattle.am_office_entries.specs.declared.Place.TheVariants.{Host, Disk}
use Rattle.am_endpoint_body.specs.declared.settings.EndSettings.{EndSettings}
use Rattle.am_workers_laws.specs.Books.Books.{stands_at}
use Rattle.am_workers_laws.specs.declared.books.EndBook.{EndBook}
use Rattle.am_swap_device.specs.Memory.{Store, device_of}
use Rattle.am_driver_moves.specs.Choice.Views.{line_of}
use Rattle.am_driver_moves.specs.declared.choice.EndView.{EndView}
use Rattle.am_endpoint.specs.View.{state_after, state_by}
use Rattle.am_model_scripts.specs.Layout.{layout_of}
use Rattle.am_model.specs.Changes.{replay}
use Rattle.am_model.specs.Endpoint.{State, fresh, is_direct}
use Rattle.am_model.specs.History.{is_in_frame}
use Rattle.am_model.specs.Layout.{AllAre, EndSetting, Layout, has_id, opening, opening_by, opening_place}
use Rattle.std.specs.List.{find}
use Rattle.am_lemmas.proofs.Numbers.{zero_eqb_suc}
use Rattle.am_lemmas.proofs.Lists.{maps_as_long}
use Rattle.am_workers_laws.specs.Phases.Frames.{LiesAsMoved}
use Rattle.am_places.specs.Codes.{place_code}
use Rattle.am_places.specs.Rule.{FrameFits, IsOutside, joined, known_at, nothing, tenure}
use Rattle.am_places.specs.declared.board.Known.{Known}
use Rattle.am_scenario_types.specs.Lists.{ScenarioLists}
use Rattle.am_wire.specs.declared.receiving.LinkIn.{LinkIn}
use Rattle.am_wire.specs.declared.sending.LinkOut.{LinkOut}
use Rattle.am_workers_laws.specs.Invariants.Begins.{ids_of, IsOpenIn}
use Rattle.am_workers_laws.specs.Invariants.Drives.{CanDrive, KnowsPlace, LiesSo, line_by}
use Rattle.am_workers_laws.specs.Invariants.Seats.{EndPass, IsBorn, IsIdle, KnowsNode}
use Rattle.am_workers_laws.specs.Invariants.Stands.{fresh_pass}
use Rattle.am_workers_laws.specs.Invariants.Works.{DriverWorks, InterfaceWorks, ThreadWorks}
use Rattle.am_workers_laws.proofs.Begins.{interfaces_begin, threads_begin}
use Rattle.am_workers_laws.proofs.Fresh.{fresh_know, known_of}
use Rattle.am_workers.specs.AtWork.{sent_by, sent_on, taken_by, taken_on}
use Rattle.am_workers.specs.Begins.{AreOfNode, AreUnused, BooksAreHomely, DriversBegin, IsNewDisk, IsNewSeat, NewDriversAreAtWork, NewInterfacesAreAtWork}
use Rattle.am_workers.specs.Begins.{NewThreadsAreAtWork, view_of}

-- ---- where an endpoint of the packet network begins

abbrev IsHomely : Place → Type 0
IsHomely place = (place ≡ Host) ⊎ (place ≡ Disk)

opens_homely : (layout : Layout) (e : EndpointId) → layout.direct ≡ false → IsHomely (opening layout e).head.place
opens_homely layout e packet = by_setting (find (has_id e) layout.ends)
  where
    by_place : (direct disk : Bool) → direct ≡ false → IsHomely (opening_place direct disk)
    by_place true disk h = absurd (cc)
    by_place false true h = inr refl
    by_place false false h = inl refl

    by_setting : (o : Option EndSetting) → IsHomely (opening_by layout o).head.place
    by_setting None = inl refl
    by_setting (Some setting) = by_place layout.direct setting.disk packet

born_homely : (layout : Layout) (set : EndSettings) → layout.direct ≡ false → IsBorn layout set → IsHomely set.place
born_homely layout set packet born = subst IsHomely (sym (ap (λ (s : State). s.head.place) born.opens)) (opens_homely layout set.id packet)

not_framed : (place : Place) (frame : ℕ) → IsHomely place → is_in_frame frame place ≡ false
not_framed place frame h =
    ⊎_elim (λ (host : place ≡ Host). ap (is_in_frame frame) host) (λ (disk : place ≡ Disk). ap (is_in_frame frame) disk) h

not_direct : (place : Place) → IsHomely place → is_direct place ≡ false
not_direct place h = ⊎_elim (λ (host : place ≡ Host). ap is_direct host) (λ (disk : place ≡ Disk). ap is_direct disk) h

low_code : (place : Place) → IsHomely place → place_code place < 2
low_code place h =
    ⊎_elim
    (λ (host : place ≡ Host). let e : place_code place ≡ 0 = ap place_code host in omega (arith, e))
    (λ (disk : place ≡ Disk). let e : place_code place ≡ 1 = ap place_code disk in omega (arith, e)) h

no_claim : (n f : ℕ) → slice_index (replicate n 0) f ≡ 0
no_claim zero f = refl
no_claim (suc n) zero = refl
no_claim (suc n) (suc f) = no_claim n f

-- no frame is claimed, and none is needed
fits_nowhere : (frames k : ℕ) (place : Place) → IsHomely place → FrameFits (replicate frames 0) k (place_code place)
fits_nowhere frames k place h =
    let low = low_code place h in (
      omega (arith, low),
      λ f near. (
        (λ is. absurd (let none = no_claim frames f in let one : slice_index (replicate frames 0) f ≡ k + 1 = is in omega (arith, one, none))),
        (λ is. absurd (let code : place_code place ≡ 2 + f = is in omega (arith, code, low))),
      ),
    )

-- ---- a fresh seat, book by book

abbrev pub line_now : EndBook → EndView
line_now b = line_of b.end.value.settings.id (state_after b.end.value)

record IsBookAt (Holds : EndBook → Type 0) (books : List EndBook) (k : ℕ) (set : EndSettings) : Type 0 where
  pub b : EndBook
  pub is : b.end.value.settings ≡ set
  pub known : slice_index_or (map known_of books) k nothing ≡ known_of b
  pub line : slice_get (map line_now books) k ≡ Some (line_now b)
  pub holds : Holds b

book_at : (Holds : EndBook → Type 0) (books : List EndBook) (k : ℕ) (set : EndSettings) → AllAre Holds books →
    get_elem? (map (λ (b : EndBook). b.end.value.settings) books) k ≡ some set → IsBookAt Holds books k set
book_at Holds [] k set all at = absurd (cc)
book_at Holds (b ∷ bs) zero set all at = let same : b.end.value.settings ≡ set = cc in record { b = b; is = same; known = refl; line = refl; holds = all.0 }
book_at Holds (b ∷ bs) (suc k) set all at = let r = book_at Holds bs k set all.1 at in record {
  b = r.b;
  is = r.is;
  known = r.known;
  line = r.line;
  holds = r.holds;
}

all_of_both : {X : Type 0} (P Q : X → Type 0) (xs : List X) → AllAre P xs → AllAre Q xs → AllAre (λ (x : X). P x × Q x) xs
all_of_both P Q [] p q = tt
all_of_both P Q (x ∷ xs) p q = ((p.0, q.0), all_of_both P Q xs p.1 q.1)

nothing_seen : (books : List EndBook) (k : ℕ) → AllAre (λ (b : EndBook). b.end.value.log ≡ []) books →
    joined (slice_index_or (map known_of books) k nothing).seen ≡ []
nothing_seen [] k none = refl
nothing_seen (b ∷ bs) zero none = ap (λ (xs : List Entry). joined (tenure 0 xs ∷ [])) none.0
nothing_seen (b ∷ bs) (suc k) none = nothing_seen bs k none.1

nobody_inside : (books : List EndBook) (k : ℕ) → (slice_index_or (map known_of books) k nothing).inside ≡ false
nobody_inside [] k = refl
nobody_inside (b ∷ bs) zero = refl
nobody_inside (b ∷ bs) (suc k) = nobody_inside bs k

-- a seat that was just made is between turns
new_idle : (table : TableId) (books : List EndBook) (named : List EndpointId) (k seats frames : ℕ) (token : Seat (Option EndBook) EndPass) →
    IsNewSeat table books named k seats frames token → IsIdle table token
new_idle table books named k seats frames token n =
    record { table = n.table_is; hand = ap (λ z. z.1) n.pass; outside = subst IsOutside (sym (ap (λ z. z.0) n.pass)) (λ j near. nobody_inside books j) }

-- ---- a driver

module _ (s : ScenarioLists) (node : NodeId) (books : List EndBook) (swap : Store) (k frames : ℕ) where
  abbrev Opens : EndBook → Type 0
  Opens b = (b.end.value.log ≡ []) × (IsBorn (layout_of s) b.end.value.settings × IsOpenIn swap b.end.value.settings)

  all_open : AreOfNode s node books → IsNewDisk s node books swap → AllAre Opens books
  all_open a d =
      all_of_both (λ (b : EndBook). b.end.value.log ≡ []) (λ (b : EndBook). IsBorn (layout_of s) b.end.value.settings × IsOpenIn swap b.end.value.settings)
      books a.fresh_books.none
      (all_of_both (λ (b : EndBook). IsBorn (layout_of s) b.end.value.settings) (λ (b : EndBook). IsOpenIn swap b.end.value.settings) books a.fresh_books.born
      d.holds)

  lies_fresh : (set : EndSettings) (j : ℕ) → (layout_of s).direct ≡ false → IsBorn (layout_of s) set → IsOpenIn swap set →
      LiesSo (replicate frames 0) (device_of swap) j set (fresh set.tag set.place)
  lies_fresh set j packet born held =
      let homely = born_homely (layout_of s) set packet born in
      record { fits = fits_nowhere frames j set.place homely; network = not_direct set.place homely; disk = held }

  knows_fresh : (j : ℕ) (set : EndSettings) (line : EndView) (b : EndBook) (x : Known Entry) → (layout_of s).direct ≡ false → Opens b →
      b.end.value.settings ≡ set → x ≡ known_of b → line ≡ line_now b → KnowsPlace (replicate frames 0) (device_of swap) (k + 1) j set line x
  knows_fresh j set line b x packet opens is known shown =
      coe 0 1 (i. KnowsPlace (replicate frames 0) (device_of swap) (k + 1) j (is i) (sym shown i) (sym known i))
      (record {
        shows = ap (line_by b.end.value.settings) (sym (whole));
        lies = subst (λ (xs : List Entry). LiesSo (replicate frames 0) (device_of swap) j b.end.value.settings (state_by b.end.value.settings xs)) (sym none)
            (lies_fresh b.end.value.settings j packet opens.1.0 opens.1.1);
        own = ap (λ (t : Bool). cond t (b.end.value.log ∷ []) []) (zero_eqb_suc k);
        once = refl;
      })
    where
      whole : joined (tenure 0 b.end.value.log ∷ []) ≡ b.end.value.log
      whole = ap (λ (xs : List Entry). joined (tenure 0 xs ∷ [])) opens.0 ∙ sym opens.0

      none : joined (tenure 0 b.end.value.log ∷ []) ≡ []
      none = ap (λ (xs : List Entry). joined (tenure 0 xs ∷ [])) opens.0

same_line : (a b : EndView) → Some a ≡ Some b → a ≡ b
same_line a b h = cc

can_begin : (s : ScenarioLists) (books : List EndBook) (named : List EndpointId) (node : NodeId) (k seats keep : ℕ) (swap : Store) → AreOfNode s node books →
    k + 1 ≡ seats → IsNewDisk s node books swap →
    CanDrive s.frames node (view_of books s.frames keep) (device_of swap) (fresh_pass books named k seats s.frames)
can_begin s books named node k seats keep swap a last disk =
    let knows : KnowsNode (ids_of books) [] (fresh_pass books named k seats s.frames) =
    fresh_know books named k seats s.frames a.fresh_books.apart a.fresh_books.none in
    record {
      last = last;
      marked = omega (arith);
      drives = eq-eqb (k + 1) seats last;
      all = maps_as_long line_now (λ (b : EndBook). b.end.value.settings) books;
      wide = maps_as_long known_of (λ (b : EndBook). b.end.value.settings) books;
      framed = refl;
      sized = length-replicate s.frames 0;
      owned = λ frame near. (let none = no_claim s.frames frame in omega (arith, none));
      homes = λ j set at. (let r = book_at (λ (b : EndBook). b.end.value.settings.node ≡ node) books j set a.homes at in
          ap (λ (z : EndSettings). z.node) (sym r.is) ∙ r.holds);
      apart = λ i j b c at_i at_j same. knows.apart i j c.id (knows.births i b at_i ∙ ap (λ (e : EndpointId). Some e) same) (knows.births j c at_j);
      each = λ j set line at shown. (
          let r = book_at (Opens s node books swap k s.frames) books j set (all_open s node books swap k s.frames a disk) at in
          knows_fresh s node books swap k s.frames j set line r.b (known_at j (fresh_pass books named k seats s.frames)) a.packet r.holds r.is r.known
          (same_line line (line_now r.b) (sym shown ∙ r.line))
          );
    }

pub drivers_begin : DriversBegin
drivers_begin s books named node k seats keep swap a last disk =
    record {
      made = [];
      born = λ j set at. (let r = book_at (λ (b : EndBook). IsBorn (layout_of s) b.end.value.settings) books j set a.fresh_books.born at in
          subst (IsBorn (layout_of s)) r.is r.holds);
      knows = fresh_know books named k seats s.frames a.fresh_books.apart a.fresh_books.none;
      clocked = record { rising = tt; below = tt; low = tt };
      few = omega (arith);
      own = tt;
      ranged = tt;
      right = λ logs seen. tt;
      frames = λ j e at. lies j e;
      fails = disk.fails;
      calls = disk.calls;
      can = can_begin s books named node k seats keep swap a last disk;
    }
  where
    lies : (j : ℕ) (e : EndpointId) → LiesAsMoved [] e (replay e (opening (layout_of s) e) (joined (slice_index_or (map known_of books) j nothing).seen))
    lies j e = subst (λ (xs : List Entry). LiesAsMoved [] e (replay e (opening (layout_of s) e) xs)) (sym (nothing_seen books j a.fresh_books.none))
        (λ frame. not_framed (opening (layout_of s) e).head.place frame (opens_homely (layout_of s) e a.packet))

pub books_are_homely : BooksAreHomely
books_are_homely s node books a = by_book books a.fresh_books.born a.fresh_books.none
  where
    by_book : (bs : List EndBook) → AllAre (λ (b : EndBook). IsBorn (layout_of s) b.end.value.settings) bs → AllAre (λ (b : EndBook). b.end.value.log ≡ []) bs →
        AllAre (λ (b : EndBook). stands_at b.end.value < 2) bs
    by_book [] born none = tt
    by_book (b ∷ bs) born none = (
      subst (λ (xs : List Entry). place_code (state_by b.end.value.settings xs).head.place < 2) (sym none.0)
          (low_code b.end.value.settings.place (born_homely (layout_of s) b.end.value.settings a.packet born.0)),
      by_book bs born.1 none.1,
    )

pub new_drivers_are_at_work : NewDriversAreAtWork
new_drivers_are_at_work s table books named k seats keep node w a n =
    record {
      idle = new_idle table books named k seats s.frames w.seat.token n.seat;
      is_node = n.is_node;
      so_far = 0;
      within = omega (arith);
      works = coe 0 1 (i. DriverWorks s (ids_of books) node 0 (sym n.clock i) (sym n.view i) (device_of w.swap) (sym n.seat.pass i).0)
          (drivers_begin s books named node k seats keep w.swap a n.last n.disk);
    }

-- ---- a thread, and an interface

pub new_threads_are_at_work : NewThreadsAreAtWork
new_threads_are_at_work s table books named k seats frames w fresh n =
    record {
      idle = new_idle table books named k seats frames w.seat.token n.seat;
      declared = n.declared;
      script = n.script;
      few = n.few;
      so_far = 0;
      within = omega (arith);
      works = coe 0 1 (i. ThreadWorks s (ids_of books) w.thread 0 (sym n.next i) (sym n.clock i) (sym n.seat.pass i).0)
          (threads_begin s books named w.thread k seats frames fresh n.guest);
    }

none_sent : (outs : List LinkOut) (ins : List LinkIn) → AreUnused outs ins → (to : NodeId) → sent_by outs to ≡ []
none_sent outs ins h to = by_option (slice_get outs to.0) refl
  where
    by_option : (o : Option LinkOut) → slice_get outs to.0 ≡ o → sent_on o ≡ []
    by_option None is = refl
    by_option (Some o) is = h.0 to.0 o is

none_taken : (outs : List LinkOut) (ins : List LinkIn) → AreUnused outs ins → (from : NodeId) → taken_by ins from ≡ []
none_taken outs ins h from = by_option (slice_get ins from.0) refl
  where
    by_option : (o : Option LinkIn) → slice_get ins from.0 ≡ o → taken_on o ≡ []
    by_option None is = refl
    by_option (Some i) is = h.1 from.0 i is

pub new_interfaces_are_at_work : NewInterfacesAreAtWork
new_interfaces_are_at_work s table books named k seats frames node w fresh n =
    record {
      idle = new_idle table books named k seats frames w.seat.token n.seat;
      lawful = n.lawful;
      set = n.set;
      is_node = n.is_node;
      nodes = n.nodes;
      limit = n.limit;
      layout = n.layout;
      ins = n.ins;
      outs = n.outs;
      within_from = n.within_from;
      so_far = 0;
      within = omega (arith);
      works = coe 0 1 (i. InterfaceWorks s (ids_of books) node 0 (sym n.log i) (sent i) (taken i) (sym n.hand i) (sym n.seat.pass i).0)
          (interfaces_begin s books named node k seats frames fresh n.guest);
    }
  where
    sent : (λ (to : NodeId). []) ≡ sent_by w.outs.items
    sent = λ i to. sym (none_sent w.outs.items w.ins.items n.unused to) i

    taken : (λ (from : NodeId). []) ≡ taken_by w.ins.items
    taken = λ i from. sym (none_taken w.outs.items w.ins.items n.unused from) i

-- What a node is opened to, by the cluster's part of the node.
use Rattle.std.specs.Prelude.{IfOk, Result, Ok, Err, slice_get}
use Rattle.std.specs.Global.{Vec}
use Rattle.std.proofs.Common.{◌≡◌, ℕ, ◌+◌, ◌<◌, ◌≤◌, false, None, Some, List, [], ◌∷◌, ◌++◌, length, map, reverse, refl, sym, ap, ◌∙◌, subst}
use Rattle.std.proofs.lemmas.List.{length_push}
use lib.ListN.{get_elem?}
use mathlib.Core.Option.{some}
use Rattle.atomic_table.specs.Seated.{TableId}
use Rattle.am_lemmas.proofs.Lists.{map_twice}
use Rattle.am_names.specs.declared.EndpointId.{EndpointId}
use Rattle.am_names.specs.declared.NodeId.{NodeId}
use Rattle.am_names.specs.Names.{same_end}
use Rattle.am_workers_laws.specs.Books.Books.{IsBook, stands_at}
use Rattle.am_workers_laws.specs.declared.books.EndBook.{EndBook}
use Rattle.am_driver_moves.specs.Choice.Views.{line_of}
use Rattle.am_driver_moves.specs.declared.choice.EndView.{EndView}
use Rattle.am_endpoint.specs.View.{EndpointView, state_after}
use Rattle.am_model.specs.Layout.{AllAre, AreApart, node_at}
use Rattle.am_model_parts.specs.Together.{ends_of}
use Rattle.am_driver_moves.specs.Logs.{kept}
use Rattle.am_machine.specs.Ends.{setting_in}
use Rattle.am_machine.specs.Parts.{AreNodeParts, IsNodePart}
use Rattle.am_machine.specs.declared.node.NodePart.{NodePart}
use Rattle.am_scenario_types.specs.Lawful as lawful
use Rattle.am_scenario_types.specs.Lists.{ScenarioLists}
use Rattle.am_scenario_types.specs.declared.parts.Network.TheVariants as Networks
use Rattle.am_model_scripts.specs.Layout.{is_direct, layout_of}
use Rattle.am_model_scripts.proofs.Lawful.{lawful_layout}
use Rattle.am_workers_laws.specs.Invariants.Begins.{AreFresh, ids_of}
use Rattle.am_workers_laws.specs.Invariants.Seats.{IsBorn, setting_by}
use Rattle.am_workers_laws.specs.Invariants.Stands.{fresh_pass}
use Rattle.am_workers_laws.proofs.HomesDone.{ends_apart}
use Rattle.am_cluster_opening.specs.Node.Openings.{AreDeclared, AreOpenings, ArePlacesOf, EndPlaces, EndSeat, IsOpening, IsReadOf, births_of, lines_of}
use Rattle.am_cluster_opening.specs.declared.node.nodes.Reading.{Reading}
use Rattle.am_cluster_opening.specs.declared.node.opening.Opening.{Opening}
use Rattle.am_cluster_opening.proofs.Fresh.{is_born, is_homely, no_log, part_at, part_books, part_disk, part_few, part_home, part_ids}
use Rattle.am_cluster_opening.proofs.Lists.{AreTaking, all_got, each_more, elem_got, got_all, got_elem, got_map, length_map, map_all, taking_begins, taking_ends}
use Rattle.am_cluster_opening.proofs.Lists.{taking_more, taking_next}
use Rattle.am_workers_laws.specs.Books.Ends.{end_in}

-- what Places::new says of the seats
abbrev pub AreSeats : TableId → List EndBook → List EndpointId → ℕ → ℕ → List (EndSeat) → Type 0
AreSeats table books named seats frames list =
    (length list ≡ seats) × ((k : ℕ) (seat : EndSeat) → get_elem? list k ≡ some seat →
    (seat.token.table_id ≡ table) × (seat.mark ≡ k + 1) × (seat.token.me ≡ (fresh_pass books named k seats frames, [])))

packet_layout : (s : ScenarioLists) → s.network ≡ Networks.Packet → (layout_of s).direct ≡ false
packet_layout s packet = ap is_direct packet

module _ (s : ScenarioLists) (p : NodePart) (ok : lawful.IsLawful s) (packet : s.network ≡ Networks.Packet) (part : IsNodePart (layout_of s) [] p.node p) where
  module _ (books : List EndBook) (are : map end_in books ≡ p.ends.items) where
    books_ids : ids_of books ≡ map (λ (e : EndpointView). e.settings.id) p.ends.items
    books_ids = sym (map_twice end_in (λ (e : EndpointView). e.settings.id) books) ∙ ap (map (λ (e : EndpointView). e.settings.id)) are

    books_named : ids_of books ≡ ends_of (layout_of s) p.node
    books_named = books_ids ∙ part_ids (layout_of s) p.node p (lawful_layout s ok) part

    end_at : (k : ℕ) (b : EndBook) → slice_get books k ≡ Some b → slice_get p.ends.items k ≡ Some b.end.value
    end_at k b at = subst (λ (l : List EndpointView). slice_get l k ≡ Some b.end.value) are (got_map end_in books k b at)

    books_born : AllAre (λ (b : EndBook). IsBorn (layout_of s) b.end.value.settings) books
    books_born = all_got (λ (b : EndBook). IsBorn (layout_of s) b.end.value.settings) books
        (λ k b at. is_born (layout_of s) (lawful_layout s ok) b.end.value (part_at (layout_of s) p.node p (lawful_layout s ok) part k b.end.value
        (end_at k b at)))

    books_fresh : AreFresh s books
    books_fresh =
        record {
          apart = subst (AreApart same_end) (sym books_named) (ends_apart (layout_of s) (lawful_layout s ok).ids p.node);
          born = books_born;
          none = all_got (λ (b : EndBook). b.end.value.log ≡ []) books (λ k b at. no_log (layout_of s) (lawful_layout s ok) b.end.value
              (part_at (layout_of s) p.node p (lawful_layout s ok) part k b.end.value (end_at k b at)));
        }

    books_home : AllAre (λ (b : EndBook). b.end.value.settings.node ≡ p.node) books
    books_home = all_got (λ (b : EndBook). b.end.value.settings.node ≡ p.node) books (λ k b at. part_home (layout_of s) p.node p (lawful_layout s ok) part k
        b.end.value (end_at k b at))

    books_declared : AreDeclared (layout_of s) p.node (births_of books)
    books_declared =
        record {
          declared =
              map_twice (λ (b : EndBook). b.end.value.settings) setting_by books
              ∙ sym (map_twice end_in (λ (e : EndpointView). setting_in (kept e)) books)
              ∙ ap (map (λ (e : EndpointView). setting_in (kept e))) are
              ∙ part.ends';
          each = map_all (λ (b : EndBook). b.end.value.settings) (IsBorn (layout_of s)) books books_born;
        }

    books_lines : lines_of p.ends.items ≡ map (λ (b : EndBook). line_of b.end.value.settings.id (state_after b.end.value)) books
    books_lines = ap lines_of (sym are) ∙ map_twice end_in (λ (e : EndpointView). line_of e.settings.id (state_after e)) books

  -- what is opened of these
  abbrev pub opened_as : Reading → EndPlaces → Vec EndSeat → Opening
  opened_as r places seats = record {
    node = p.node;
    places = places;
    seats = seats;
    threads = r.threads;
    interface = p.iface;
    set = r.set;
    swap = p.swap;
    view = r.view;
  }

  pub opening_is : (r : Reading) (places : EndPlaces) (seats : Vec EndSeat) → IsReadOf s p r →
      ArePlacesOf p.ends.items s.frames (length r.threads.items + 2) places seats.items → IsOpening s p.node (opened_as r places seats)
  opening_is r places seats read q =
      record {
        is_node = refl;
        ids = q.ids ∙ part_ids (layout_of s) p.node p (lawful_layout s ok) part;
        frames = q.framed;
        books = q.books;
        named = books_ids q.books q.made ∙ sym q.ids;
        declared = books_declared q.books q.made;
        homes = books_home q.books q.made;
        fresh_books = books_fresh q.books q.made;
        threads' = read.threads';
        all = q.all;
        seats' = q.seats';
        interface' = part.interface;
        set' = read.set';
        lawful = read.lawful;
        disk = part_disk (layout_of s) p.node p (lawful_layout s ok) part q.books q.made;
        view' = read.view' ∙ ap (λ (ls : List EndView). record { ends = ls; frames = s.frames; keep = s.keep; last = None }) (books_lines q.books q.made);
      }

  -- its endpoints may be given places
  pub ends_books : AllAre IsBook p.ends.items
  ends_books = part_books (layout_of s) p.node p (lawful_layout s ok) part

  pub ends_homely : AllAre (λ (e : EndpointView). stands_at e < 2) p.ends.items
  ends_homely = all_got (λ (e : EndpointView). stands_at e < 2) p.ends.items (λ k e at. is_homely (layout_of s) (lawful_layout s ok) e (packet_layout s packet)
      (part_at (layout_of s) p.node p (lawful_layout s ok) part k e at))

  pub ends_few : length p.ends.items ≤ 64
  ends_few = part_few (layout_of s) p.node p (lawful_layout s ok) part

-- ---- places for the books of these endpoints

module _ (ends : List EndpointView) (books : List EndBook) (are : map end_in books ≡ ends) where
  pub as_many : length books ≡ length ends
  as_many = sym (length_map end_in books) ∙ ap length are

  pub named_all : (ids : List EndpointId) → ids ≡ map (λ (e : EndpointView). e.settings.id) ends → length ids ≡ length books
  named_all ids named = ap length named ∙ length_map (λ (e : EndpointView). e.settings.id) ends ∙ sym as_many

  pub homely_books : AllAre (λ (e : EndpointView). stands_at e < 2) ends → (k : ℕ) (b : EndBook) → get_elem? books k ≡ some b → stands_at b.end.value < 2
  homely_books homely k b at =
      got_all (λ (e : EndpointView). stands_at e < 2) ends k b.end.value homely (subst (λ (l : List EndpointView). slice_get l k ≡ Some b.end.value) are
      (got_map end_in books k b (elem_got books k b at)))

  pub places_are : (ids : List EndpointId) (frames count : ℕ) (places : EndPlaces) (seats : List EndSeat) →
      ids ≡ map (λ (e : EndpointView). e.settings.id) ends → (places.ids.items ≡ ids) × (places.count ≡ length books) × (places.frames ≡ frames) →
      AreSeats places.board.shared.table_id books ids count frames seats → ArePlacesOf ends frames count places seats
  places_are ids frames count places seats named told sat =
      record {
        ids = told.0 ∙ named;
        framed = told.2;
        books = books;
        made = are;
        all = sat.0;
        seats' = λ k seat at. (let one = sat.1 k seat (got_elem seats k seat at) in record {
          table_is = one.0;
          pass = one.2
              ∙ ap (λ (own : List EndpointId). (fresh_pass books own k count frames, [])) (sym told.0);
        });
      }

-- what holds of a value in two ways
pub both_ok : {T E : Type 0} (r : Result T E) (P Q R : T → Type 0) → IfOk r P → IfOk r Q → ((x : T) → P x → Q x → R x) → IfOk r R
both_ok (Ok x) P Q R p q f = f x p q
both_ok (Err fault) P Q R p q f = tt

-- ---- one node after the other

-- these were opened, and of these parts nodes are still to be opened, the last first
pub record AreOpened (s : ScenarioLists) (whole rest : List NodePart) (os : List Opening) : Type 0 where
  pub taking : AreTaking whole rest (length os)
  pub each : (k : ℕ) (o : Opening) → slice_get os k ≡ Some o → IsOpening s (node_at k) o

pub opened_begins : (s : ScenarioLists) (whole : List NodePart) → AreOpened s whole (reverse whole) []
opened_begins s whole = record { taking = taking_begins whole; each = λ k o h. absurd (cc) }

module _ (s : ScenarioLists) (whole rest : List NodePart) (p : NodePart) (os : List Opening) (parts : AreNodeParts (layout_of s) [] whole)
    (so : AreOpened s whole (rest ++ p ∷ []) os) where
  part_next : IsNodePart (layout_of s) [] (node_at (length os)) p
  part_next = parts.each (length os) p (taking_next whole rest p (length os) so.taking)

  pub next_part : IsNodePart (layout_of s) [] p.node p
  next_part = subst (λ (n : NodeId). IsNodePart (layout_of s) [] n p) (sym part_next.is_node) part_next

  pub opened_more : (o : Opening) → IsOpening s p.node o → AreOpened s whole rest (os ++ o ∷ [])
  opened_more o is =
      record {
        taking = subst (AreTaking whole rest) (sym (length_push os o)) (taking_more whole rest p (length os) so.taking);
        each = each_more (λ (k : ℕ) (x : Opening). IsOpening s (node_at k) x) os o (length os) refl so.each
            (subst (λ (n : NodeId). IsOpening s n o) part_next.is_node is);
      }

pub opened_ends : (s : ScenarioLists) (whole : List NodePart) (os : List Opening) → AreNodeParts (layout_of s) [] whole → AreOpened s whole [] os →
    AreOpenings s os
opened_ends s whole os parts so = record { all = sym (taking_ends whole (length os) so.taking) ∙ parts.all; each = so.each }

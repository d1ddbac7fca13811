-- What is left of the crews of all nodes, with the parts that were made of it.
use Rattle.std.specs.Prelude.{slice_get}
use Rattle.std.specs.Global.{Vec}
use Rattle.std.specs.Option.{option_map}
use Rattle.std.proofs.Common.{◌≡◌, ℕ, ◌<◌, ◌≤◌, Option, List, map, length, Some, sym, ap, ◌∙◌, subst, arith}
use Rattle.std.proofs.lemmas.List.{length-map}
use Rattle.std.proofs.lemmas.Option.{slice_get-map, slice_get_within}
use Rattle.am_lemmas.proofs.Lists.{slice_get-Some}
use Rattle.am_names.specs.declared.NodeId.{NodeId}
use Rattle.am_names.specs.declared.Packet.{Packet}
use Rattle.am_model.specs.Layout.{node_at}
use Rattle.am_iface.specs.View.{InterfaceView}
use Rattle.am_machine_journal.specs.Index.View.{receipts}
use Rattle.am_machine.specs.declared.node.NodePart.{NodePart}
use Rattle.am_scenario_types.specs.Lists.{ScenarioLists}
use Rattle.am_scenario_types.specs.Lawful.{IsLawful}
use Rattle.am_scenario_types.specs.declared.parts.Network.TheVariants as Networks
use Rattle.am_workers_laws.specs.declared.books.EndBook.{EndBook}
use Rattle.am_cluster_running.specs.Uniting.Teams.{ReceiptsCount}
use Rattle.am_wire.specs.Links.{received}
use Rattle.am_wire.specs.declared.closing.LinkRecord.{LinkRecord}
use Rattle.am_wire.specs.declared.receiving.LinkIn.{LinkIn}
use Rattle.am_wire.specs.declared.sending.LinkOut.{LinkOut}
use Rattle.am_workers.specs.AtWork.{sent_by, taken_by, taken_on}
use Rattle.am_cluster_opening.specs.Crews.{AreCrews, ids_of}
use Rattle.am_cluster_opening.specs.declared.crew.NodeCrew.{NodeCrew}
use Rattle.am_cluster_running.specs.Ends.Ends.{AreBooksOf, AreLeft, IsPartOfCrew}
use Rattle.am_cluster_running.specs.Closing.{AreClosed}
use Rattle.am_cluster_running.specs.Ending.{AreEnded}
use Rattle.am_cluster_running.specs.Parting.{ArePartsOf, IsPartOf, emitted_in}
use Rattle.am_cluster_running.specs.declared.ended.AllEnded.{AllEnded}
use Rattle.am_cluster_running.specs.declared.ended.NodeEnded.{NodeEnded}
use Rattle.am_cluster_running.proofs.CrewLinks.{links_are_closed}

abbrev books_in : NodeEnded → List EndBook
books_in n = n.books.items

abbrev pub books_of : List NodeEnded → List (List EndBook)
books_of ns = map books_in ns

-- the node with these books
node_with : (ns : List NodeEnded) (k : ℕ) (bs : List EndBook) → slice_get (books_of ns) k ≡ Some bs →
    (n : NodeEnded) × (slice_get ns k ≡ Some n) × (n.books.items ≡ bs)
node_with ns k bs at =
    let low = slice_get_within (map books_in ns) k bs at in
    let long = length-map ns books_in in
    let n = slice_get-Some ns k (omega (arith, low, long)) in
    let got : Some (books_in n.0) ≡ Some bs = sym (ap (λ (x : Option NodeEnded). option_map books_in x) n.1) ∙ sym (slice_get-map books_in ns k) ∙ at in
    let same : books_in n.0 ≡ bs = cc in
    (n.0, n.1, same)

part_left : ReceiptsCount → (s : ScenarioLists) (crews : List NodeCrew) (all : AllEnded) (records : List (Vec LinkRecord)) (k : ℕ) (c : NodeCrew)
    (n : NodeEnded) (rs : Vec LinkRecord) (p : NodePart) → AreCrews s s.turns crews → AreEnded crews all → AreClosed all.outs.items all.ins.items records →
    slice_get crews k ≡ Some c → slice_get all.nodes.items k ≡ Some n → slice_get records k ≡ Some rs → IsPartOf s.nodes n rs.items p →
    IsPartOfCrew s (node_at k) c n.books.items p
part_left count s crews all records k c n rs p crewed ended closed at_c at_n at_r part =
    let h = crewed.each k c at_c in
    let over = ended.node k c n at_c at_n in
    let interface : p.iface ≡ c.interface.interface = part.interface ∙ over.interface in
    let os = slice_get-Some all.outs.items k (let low = slice_get_within crews k c at_c in let m = ended.all_outs in omega (arith, low, m)) in
    let same_outs = ended.outs k c os.0 at_c os.1 in
    let row = closed.rows k os.0 rs os.1 at_r in
    record {
      is_node = part.is_node ∙ over.node ∙ h.is_node;
      ends' = part.ends';
      interface = interface;
      few =
          let few : length n.interface.log ≤ n.interface.settings.log = part.few in
          let own : length c.interface.interface.log ≤ c.interface.interface.settings.log =
          subst (λ (v : InterfaceView). length v.log ≤ v.settings.log) over.interface few in
          let limit = h.interface.limit in
          let log = ap (λ (v : InterfaceView). length v.log) interface in
          omega (arith, own, limit, log);
      disk = part.disk ∙ over.swap;
      all_emitted = ap (λ (xs : List (Vec Packet)). length xs) part.emitted' ∙ length-map rs.items emitted_in ∙ row
          ∙ ap (λ (xs : List LinkOut). length xs) same_outs ∙ h.interface.outs.all;
      emitted' = λ j ps o at_p at_o.
          let at : slice_get (map emitted_in rs.items) j ≡ Some ps = subst (λ (xs : List (Vec Packet)). slice_get xs j ≡ Some ps) part.emitted' at_p in
          let low = slice_get_within (map emitted_in rs.items) j ps at in
          let long = length-map rs.items emitted_in in
          let low_j : j < length rs.items = omega (arith, low, long) in
          let r = slice_get-Some rs.items j low_j in
          let got : Some (emitted_in r.0) ≡ Some ps = sym (ap (λ (x : Option LinkRecord). option_map emitted_in x) r.1)
          ∙ sym (slice_get-map emitted_in rs.items j) ∙ at in
          let one : emitted_in r.0 ≡ ps = cc in
          let few = h.interface.outs.all in
          let wide = crewed.all in
          let ins = ended.all_ins in
          let outs = ap (λ (xs : List LinkOut). length xs) same_outs in
          let d = slice_get-Some crews j (omega (arith, low_j, row, outs, few, wide)) in
          let is = slice_get-Some all.ins.items j (omega (arith, low_j, row, outs, few, wide, ins)) in
          let same_ins = ended.ins j d.0 is.0 d.1 is.1 in
          let low_k = slice_get_within crews k c at_c in
          let few_ins = (crewed.each j d.0 d.1).interface.ins in
          let i = slice_get-Some d.0.interface.ins.items k (omega (arith, low_k, wide, few_ins)) in
          let rec = closed.each k j os.0 is.0 rs o i.0 r.0 os.1 is.1 at_r (subst (λ (xs : List LinkOut). slice_get xs j ≡ Some o) (sym same_outs) at_o)
          (subst (λ (xs : List LinkIn). slice_get xs k ≡ Some i.0) (sym same_ins) i.1) r.1 in
          ap (λ (v : Vec Packet). v.items) (sym one) ∙ rec.emitted';
      all_received = part.counts.all;
      received' = λ j m i at_m at_i.
          let its = h.interface in
          let all_of = count s (ids_of c) (node_at k) its.so_far c.interface.interface.log (sent_by c.interface.outs.items) (taken_by c.interface.ins.items)
          c.interface.hand c.interface.seat.token.me.0 its.works (node_at j) in
          let m_is : m ≡ receipts (node_at j) (node_at k) c.interface.interface.log =
          part.counts.each j m at_m ∙ ap (λ (x : NodeId). receipts (node_at j) x n.interface.log) (over.node ∙ h.is_node)
          ∙ ap (λ (v : InterfaceView). receipts (node_at j) (node_at k) v.log) over.interface
          in
          let taken : length (taken_by c.interface.ins.items (node_at j)) ≡ length (received i) = ap (λ (x : Option LinkIn). length (taken_on x)) at_i in
          omega (arith, all_of, m_is, taken);
    }

-- it is what the law of crews asks for
pub crews_are_left : ReceiptsCount → (s : ScenarioLists) (crews : List NodeCrew) (all : AllEnded) (records : List (Vec LinkRecord)) (parts : List NodePart) →
    IsLawful s → s.network ≡ Networks.Packet → AreCrews s s.turns crews → AreEnded crews all → AreClosed all.outs.items all.ins.items records →
    ArePartsOf s.nodes all.nodes.items records parts → AreLeft s crews (books_of all.nodes.items) parts
crews_are_left count s crews all records parts lawful packet crewed ended closed parted =
    record {
      lawful = lawful;
      packet = packet;
      crews' = crewed;
      closed = links_are_closed s s.turns crews all records crewed ended closed;
      all_books = length-map all.nodes.items books_in ∙ ended.all_nodes ∙ crewed.all;
      books' = λ k c bs at_c at_b.
          let n = node_with all.nodes.items k bs at_b in
          subst (λ (xs : List EndBook). AreBooksOf c xs) n.2 (ended.node k c n.0 at_c n.1).taken;
      all_parts = parted.all_parts ∙ ended.all_nodes ∙ crewed.all;
      parts' = λ k c bs p at_c at_b at_p.
          let n = node_with all.nodes.items k bs at_b in
          let rs = slice_get-Some records k (let low = slice_get_within crews k c at_c in let m = closed.all in let o = ended.all_outs in
          omega (arith, low, m, o)) in
          subst (λ (xs : List EndBook). IsPartOfCrew s (node_at k) c xs p) n.2
          (part_left count s crews all records k c n.0 rs.0 p crewed ended closed at_c n.1 rs.1 (parted.each k n.0 rs.0 p n.1 rs.1 at_p));
    }

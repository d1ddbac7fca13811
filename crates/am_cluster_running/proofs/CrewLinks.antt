-- The links of a run's nodes when its phase is over.
use Rattle.std.specs.Prelude.{slice_get}
use Rattle.std.specs.Global.{Vec}
use Rattle.std.proofs.Common.{◌≡◌, ℕ, List, ◌++◌, length, Some, sym, ap, ◌∙◌, subst, arith}
use Rattle.std.proofs.lemmas.Option.{slice_get_within}
use Rattle.am_lemmas.proofs.Lists.{slice_get-Some}
use Rattle.am_names.specs.declared.Packet.{Packet}
use Rattle.am_scenario_types.specs.Lists.{ScenarioLists}
use Rattle.am_wire.specs.declared.closing.LinkRecord.{LinkRecord}
use Rattle.am_wire.specs.declared.receiving.LinkIn.{LinkIn}
use Rattle.am_wire.specs.declared.sending.LinkOut.{LinkOut}
use Rattle.am_cluster_running.specs.Ends.Ends as ends
use Rattle.am_cluster_opening.specs.Crews.{AreCrews, AreLinked}
use Rattle.am_cluster_opening.specs.declared.crew.NodeCrew.{NodeCrew}
use Rattle.am_cluster_running.specs.Closing.{AreClosed, AreLinkedEnds, IsRecordOf}
use Rattle.am_cluster_running.specs.Ending.{AreEnded}
use Rattle.am_cluster_running.specs.declared.ended.AllEnded.{AllEnded}

-- ---- the two ends of each link

pub ends_are_linked : (s : ScenarioLists) (turns : ℕ) (crews : List NodeCrew) (all : AllEnded) → AreCrews s turns crews → AreLinked crews → AreEnded crews all →
    AreLinkedEnds all.outs.items all.ins.items
ends_are_linked s turns crews all own linked ended =
    record {
      all = ended.all_ins ∙ sym ended.all_outs;
      rows = λ from os at.
          let c = slice_get-Some crews from (let within = slice_get_within all.outs.items from os at in let n = ended.all_outs in omega (arith, within, n)) in
          ap (λ (xs : List LinkOut). length xs) (ended.outs from c.0 os c.1 at) ∙ (own.each from c.0 c.1).interface.outs.all ∙ sym own.all ∙ sym ended.all_outs;
      columns = λ to is at.
          let c = slice_get-Some crews to (let within = slice_get_within all.ins.items to is at in let n = ended.all_ins in omega (arith, within, n)) in
          ap (λ (xs : List LinkIn). length xs) (ended.ins to c.0 is c.1 at) ∙ (own.each to c.0 c.1).interface.ins ∙ sym own.all ∙ sym ended.all_outs;
      each = λ from to os is o i out inn at_o at_i.
          let a = slice_get-Some crews from (let within = slice_get_within all.outs.items from os out in let n = ended.all_outs in omega (arith, within, n)) in
          let b = slice_get-Some crews to (let within = slice_get_within all.ins.items to is inn in let n = ended.all_ins in omega (arith, within, n)) in
          linked from to a.0 b.0 o i a.1 b.1
          (subst (λ (xs : List LinkOut). slice_get xs to ≡ Some o) (ended.outs from a.0 os a.1 out) at_o)
          (subst (λ (xs : List LinkIn). slice_get xs from ≡ Some i) (ended.ins to b.0 is b.1 inn) at_i);
    }

-- ---- what went over a link

pub record_at : (s : ScenarioLists) (turns : ℕ) (crews : List NodeCrew) (all : AllEnded) (records : List (Vec LinkRecord)) (from to : ℕ) (a b : NodeCrew)
    (o : LinkOut) (i : LinkIn) → AreCrews s turns crews → AreEnded crews all → AreClosed all.outs.items all.ins.items records → slice_get crews from ≡ Some a →
    slice_get crews to ≡ Some b → slice_get a.interface.outs.items to ≡ Some o → slice_get b.interface.ins.items from ≡ Some i →
    (r : LinkRecord) × IsRecordOf o i r
record_at s turns crews all records from to a b o i own ended closed at_a at_b at_o at_i =
    let low_from = slice_get_within crews from a at_a in
    let low_to = slice_get_within crews to b at_b in
    let outs = ended.all_outs in
    let ins = ended.all_ins in
    let rows = closed.all in
    let os = slice_get-Some all.outs.items from (omega (arith, low_from, outs)) in
    let is = slice_get-Some all.ins.items to (omega (arith, low_to, ins)) in
    let rs = slice_get-Some records from (omega (arith, low_from, outs, rows)) in
    let same_outs = ended.outs from a os.0 at_a os.1 in
    let same_ins = ended.ins to b is.0 at_b is.1 in
    let row = closed.rows from os.0 rs.0 os.1 rs.1 in
    let long = ap (λ (xs : List LinkOut). length xs) same_outs in
    let low_o = slice_get_within a.interface.outs.items to o at_o in
    let r = slice_get-Some rs.0.items to (omega (arith, low_o, row, long)) in (
      r.0,
      closed.each from to os.0 is.0 rs.0 o i r.0 os.1 is.1 rs.1 (subst (λ (xs : List LinkOut). slice_get xs to ≡ Some o) (sym same_outs) at_o)
          (subst (λ (xs : List LinkIn). slice_get xs from ≡ Some i) (sym same_ins) at_i) r.1,
    )

-- ---- what was received on a link is a beginning of what it released

pub links_are_closed : (s : ScenarioLists) (turns : ℕ) (crews : List NodeCrew) (all : AllEnded) (records : List (Vec LinkRecord)) → AreCrews s turns crews →
    AreEnded crews all → AreClosed all.outs.items all.ins.items records → ends.AreClosed crews
links_are_closed s turns crews all records own ended closed from to a b o i at_a at_b at_o at_i =
    let rec = record_at s turns crews all records from to a b o i own ended closed at_a at_b at_o at_i in
    (rec.0.left.items, sym rec.1.shaped ∙ ap (λ (ps : List Packet). ps ++ rec.0.left.items) rec.1.received')

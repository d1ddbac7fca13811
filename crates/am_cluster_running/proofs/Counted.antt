-- How many receipts an interface's log has.
use Rattle.std.specs.Prelude.{count_by, is_some}
use Rattle.std.specs.List.{filter}
use Rattle.std.proofs.Common.{◌≡◌, Bool, true, false, cond, ◌&&◌, List, [], ◌∷◌, length, Some, None, refl, sym, ap, ◌∙◌, arith}
use Rattle.std.proofs.lemmas.List.{length-append}
use Rattle.std.proofs.lemmas.List.Sums.{length-filter}
use Rattle.am_names.specs.declared.NodeId.{NodeId}
use Rattle.am_names.specs.declared.Packet.{Packet}
use Rattle.am_names.specs.Names.{same_node}
use Rattle.am_office_entries.specs.declared.Entry.{Entry}
use Rattle.am_office_entries.specs.declared.Event.{Event}
use Rattle.am_office_entries.specs.declared.Event.TheVariants as Events
use Rattle.am_machine_journal.specs.Index.View.{is_receipt, receipts}
use Rattle.am_model_scripts.specs.Links.{number_received}
use Rattle.am_workers_laws.specs.Phases.Crew as crew
use Rattle.am_workers_laws.specs.Phases.Crew.{AreReceipts}
use Rattle.am_workers_laws.specs.Invariants.Works.{held_from}
use Rattle.am_cluster_running.specs.Uniting.Teams.{ReceiptsCount}

same_receipt : (from to : NodeId) (e : Event) → is_receipt from to e ≡ is_some (number_received from to e)
same_receipt from to (Events.Receive node peer number) = by_tests (same_node to node) (same_node from peer)
  where
    by_tests : (a b : Bool) → (a && b) ≡ is_some (cond (b && a) (Some number) None)
    by_tests true true = refl
    by_tests true false = refl
    by_tests false true = refl
    by_tests false false = refl
same_receipt from to e = refl

one_for_each : (from to : NodeId) (ps : List Packet) (xs : List Entry) → AreReceipts from to ps xs → length ps ≡ length xs
one_for_each from to [] [] h = refl
one_for_each from to (p ∷ ps) (x ∷ xs) h = let more = one_for_each from to ps xs h.2 in omega (arith, more)
one_for_each from to [] (x ∷ xs) h = absurd h
one_for_each from to (p ∷ ps) [] h = absurd h

pub receipts_count : ReceiptsCount
receipts_count s ids node turns log sent taken hand v works from =
    let counts : receipts from node log ≡ length (filter (crew.is_receipt from node) log) =
    (λ i. count_by (λ (x : Entry). same_receipt from node x.event i) log) ∙ sym (length-filter (crew.is_receipt from node) log) in
    let received = one_for_each from node (works.got from) (filter (crew.is_receipt from node) log) (works.receipts from) in
    let parts = ap length (works.in_hand from) ∙ length-append (works.got from) (held_from from hand) in
    omega (arith, counts, received, parts)

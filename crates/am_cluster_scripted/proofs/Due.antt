-- The packet that is due on a link.
use Rattle.std.specs.Prelude.{slice_get, slice_index_or, if◌then◌else◌, IfSome}
use Rattle.std.specs.List.{cons_option}
use Rattle.std.proofs.Common.{◌≡◌, ℕ, ◌+◌, ◌*◌, ◌<◌, ◌≤◌, Bool, true, false, cond, ◌&&◌, List, [], ◌∷◌, length, Option, Some, None, refl, sym, ◌∙◌, arith}
use Rattle.std.proofs.lemmas.List.Sums.{sum_by-cons}
use Rattle.std.proofs.lemmas.Option.{slice_get-get_or}
use Rattle.am_names.specs.declared.NodeId.{NodeId}
use Rattle.am_names.specs.Names.{same_node}
use Rattle.am_office_entries.specs.declared.Event.{Event}
use Rattle.am_office_entries.specs.declared.Event.TheVariants as Events
use Rattle.am_office_entries.specs.declared.Entry.{Entry}
use Rattle.am_model.specs.Channels.{emitted}
use Rattle.am_model.specs.History.{IsHistory}
use Rattle.am_machine_journal.specs.Index.View.{is_receipt, receipts}
use Rattle.am_scenario_types.specs.Lists.{ScenarioLists}
use Rattle.am_model_scripts.specs.Layout.{layout_of}
use Rattle.am_laws_runs.specs.Turns.Enabled.{DuesAreCounted}
use Rattle.am_model_scripts.specs.Links.{due, number_received, received}
use Rattle.am_cluster_scripted.specs.Links.{AreFed, Released, nothing, released_of}

-- ---- the received packets are the receipts

abbrev one_more : Option ℕ → ℕ
one_more None = 0
one_more (Some n) = 1

kept_one : (o : Option ℕ) (ns : List ℕ) → length (cons_option o ns) ≡ one_more o + length ns
kept_one None ns = omega arith
kept_one (Some n) ns = omega arith

receipt_one : (from to : NodeId) (event : Event) → cond (is_receipt from to event) 1 0 ≡ one_more (number_received from to event)
receipt_one from to (Events.Receive node peer number) = by_tests (same_node to node) (same_node from peer)
  where
    by_tests : (a b : Bool) → cond (a && b) 1 0 ≡ one_more (if b && a then Some number else None)
    by_tests true true = refl
    by_tests true false = refl
    by_tests false true = refl
    by_tests false false = refl
receipt_one from to event = refl

pub receipts_are : (from to : NodeId) (past : List Entry) → receipts from to past ≡ length (received from to past)
receipts_are from to [] = refl
receipts_are from to (x ∷ past) =
    let more = sum_by-cons (λ (y : Entry). cond (is_receipt from to y.event) 1 0) x past in
    let one = receipt_one from to x.event in
    let later = receipts_are from to past in
    let here = kept_one (number_received from to x.event) (received from to past) in
    omega (arith, more, one, later, here)

-- ---- what is due

pub due_read : (s : ScenarioLists) (past : List Entry) (rs : List Released) (from to : NodeId) (n : ℕ) → AreFed s.plan past rs → from.0 < 16 → to.0 < 16 →
    n ≡ receipts from to past → slice_get (slice_index_or rs (16 * from.0 + to.0) nothing).numbers n ≡ due s from to past
due_read s past rs from to n fed low lower count =
    (λ i. slice_get (is i).numbers (counted i))
  where
    is : slice_index_or rs (16 * from.0 + to.0) nothing ≡ released_of s.plan from to (emitted from to past)
    is = fed.each from.0 to.0 (slice_index_or rs (16 * from.0 + to.0) nothing) lower (slice_get-get_or rs (16 * from.0 + to.0) nothing (let all = fed.all in
        omega (arith, all, low, lower)))

    counted : n ≡ length (received from to past)
    counted = count ∙ receipts_are from to past

pub due_counted : (s : ScenarioLists) (past : List Entry) (node peer : NodeId) (o : Option ℕ) → DuesAreCounted → IsHistory (layout_of s) past →
    o ≡ due s peer node past → IfSome o (λ (n : ℕ). 1 ≤ n)
due_counted s past node peer None counted history is = tt
due_counted s past node peer (Some n) counted history is = (counted s past node peer n history (sym is)).0

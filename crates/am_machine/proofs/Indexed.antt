-- What a cluster keeps and what its callers see of it, where its parts keep a journal of which it has the index.
use Rattle.std.proofs.Common.{◌≡◌, ◌+◌, ◌<◌, ◌^◌, List, length, refl, sym, ◌∙◌, subst, arith}
use Rattle.std.specs.Prelude.{Result}
use Rattle.am_office_entries.specs.declared.Event.{Event}
use Rattle.am_office_entries.specs.declared.Entry.{Entry}
use Rattle.am_scenario_types.specs.declared.parts.FaultLine.{FaultLine}
use Rattle.am_iface.specs.View.{InterfaceView}
use Rattle.am_swap_device.specs.Memory.{Store}
use Rattle.am_machine_journal.specs.Index.View.{CanCount, IsIndexOf, Readings}
use Rattle.am_machine.specs.declared.settings.Settings.{Settings}
use Rattle.am_model.specs.declared.EntryFault.{EntryFault}
use Rattle.am_driver_moves.specs.Logs.{EndLog}
use Rattle.am_machine.specs.Kept.{IsIndexed, IsKept, journal_by, layout_in}
use Rattle.am_machine.specs.Turned.{told}
use Rattle.am_machine.specs.View.{Applies, ClusterView, Makes}
use Rattle.am_machine.proofs.Applied.{seen}
use Rattle.am_machine.proofs.Few.{counts_fit, journal_few, stamp_fits}
use Rattle.am_machine.proofs.Making.{made_by}
use Rattle.am_machine.proofs.Merging.{kept_merges}

pub indexed : (s : Settings) (faults : List FaultLine) (es : List EndLog) (journal : List Entry) (is : List InterfaceView) (ss : List Store) (r : Readings) →
    IsKept (layout_in s faults es) es journal is ss → IsIndexOf journal r → IsIndexed (layout_in s faults es) es is ss r
indexed s faults es journal is ss r k index =
    let merges = kept_merges (layout_in s faults es) es journal is ss refl k in
    record {
      kept' = subst (λ (j : List Entry). IsKept (layout_in s faults es) es j is ss) (sym merges) k;
      index' = subst (λ (j : List Entry). IsIndexOf j r) (sym merges) index;
    }

-- where neither settings nor logs changed
pub indexed_still : (s : Settings) (faults : List FaultLine) (es new : List EndLog) (is : List InterfaceView) (ss : List Store) (r : Readings) → new ≡ es →
    IsIndexed (layout_in s faults es) es is ss r → IsIndexed (layout_in s faults new) new is ss r
indexed_still s faults es new is ss r same kept' = subst (λ (ns : List EndLog). IsIndexed (layout_in s faults ns) ns is ss r) (sym same) kept'

pub made_as : (s : Settings) (faults : List FaultLine) (es : List EndLog) (journal : List Entry) (is : List InterfaceView) (ss : List Store) (v : ClusterView)
    (event : Event) (x : Entry) (result : Result (Unit {0}) EntryFault) → IsKept (layout_in s faults es) es journal is ss →
    Applies v (seen s faults es journal) event (told x result) → Makes v (seen s faults es (journal_by es is)) event result
made_as s faults es journal is ss v event x result k applies =
    made_by v (seen s faults es (journal_by es is)) event x result
    (subst (λ (j : List Entry). Applies v (seen s faults es j) event (told x result)) (sym (kept_merges (layout_in s faults es) es journal is ss refl k))
    applies)

pub seen_still : (s : Settings) (faults : List FaultLine) (es new : List EndLog) (is : List InterfaceView) (v : ClusterView) → new ≡ es →
    seen s faults es (journal_by es is) ≡ v → seen s faults new (journal_by new is) ≡ v
seen_still s faults es new is v same at = (λ i. seen s faults (same i) (journal_by (same i) is)) ∙ at

-- what the index can count and stamp
pub indexed_counts : (s : Settings) (faults : List FaultLine) (es : List EndLog) (is : List InterfaceView) (ss : List Store) (r : Readings) →
    IsIndexed (layout_in s faults es) es is ss r → CanCount r
indexed_counts s faults es is ss r i = counts_fit (layout_in s faults es) es (journal_by es is) is ss r refl i.kept' i.index'

pub indexed_stamp : (s : Settings) (faults : List FaultLine) (es : List EndLog) (is : List InterfaceView) (ss : List Store) (r : Readings) →
    IsIndexed (layout_in s faults es) es is ss r → r.greatest + 1 < 2 ^ 64
indexed_stamp s faults es is ss r i = stamp_fits (layout_in s faults es) es (journal_by es is) is ss r refl i.kept' i.index'

pub indexed_few : (s : Settings) (faults : List FaultLine) (es : List EndLog) (is : List InterfaceView) (ss : List Store) (r : Readings) →
    IsIndexed (layout_in s faults es) es is ss r → length (journal_by es is) + 1 < 2 ^ 64
indexed_few s faults es is ss r i = let few = journal_few (layout_in s faults es) es (journal_by es is) is ss refl i.kept' in omega (arith, few)

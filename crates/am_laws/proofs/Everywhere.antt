-- On either network each serial is accepted, put and run at most once, in that order.
use Rattle.std.proofs.Common.{◌≡◌, ℕ, ◌+◌, ◌≤◌, Bool, true, false, List, [], ◌∷◌, ◌++◌, Option, Some, None, refl, arith}
use Rattle.std.specs.List.{find}
use Rattle.am_names.specs.declared.Serial.{Serial}
use Rattle.am_names.specs.declared.Message.{Message}
use Rattle.am_office_entries.specs.declared.Entry.{Entry}
use Rattle.am_names.specs.Names.{has_serial}
use Rattle.am_office_entries.specs.Entries.{accepted_of, put_of, put_in, run_of, run_in, touches}
use Rattle.am_model.specs.Layout.{Layout, EndSetting, has_id, opening_by}
use Rattle.am_model.specs.History.{MayFollow, IsHistory}
use Rattle.am_model.specs.PostOffice.{times, EachOnce}
use Rattle.am_model.proofs.Each.{over_each}
use Rattle.am_model.proofs.Received.{held}
use Rattle.am_model.proofs.Books.{ReceivedBalance, balance_received, role_push}
use Rattle.am_laws.proofs.Once.{run_event, each_once_direct}
use Rattle.am_laws.proofs.OrderedPackets.{KeptPackets, packets_more, packets_begin, waiting, accepted_times}
use Rattle.am_laws.proofs.Situations.{put_when_accepted}

record Runs (layout : Layout) (past : List Entry) : Type 0 where
  pub kept : KeptPackets layout past
  pub balance : ReceivedBalance layout past
  pub run : (s : Serial) → times run_of (has_serial s) past ≤ times put_of (has_serial s) past

put_le : (layout : Layout) (past : List Entry) → KeptPackets layout past → (s : Serial) →
    times put_of (has_serial s) past ≤ times accepted_of (has_serial s) past
put_le layout past k s = put_when_accepted s past (waiting layout past s) (accepted_times past s) (k.stands s)

runs_more : (layout : Layout) → layout.direct ≡ false → (past : List Entry) (x : Entry) → Runs layout past → MayFollow layout past x →
    Runs layout (past ++ x ∷ [])
runs_more layout packet past x r may =
    record {
      kept = packets_more layout packet past x r.kept may;
      balance = λ p e. balance_received layout past x r.balance may p e (touches e x) refl;
      run = λ s. omega (
        arith,
        run_event layout past x.event x.outcome s r.balance (omega (arith, put_le layout past r.kept s, r.kept.accepted.once s)) (r.run s) may.outcome,
        role_push run_in (has_serial s) past x,
        role_push put_in (has_serial s) past x,
      );
    }

runs_begin : (layout : Layout) → Runs layout []
runs_begin layout = record { kept = packets_begin layout; balance = λ p e. none p (find (has_id e) layout.ends); run = λ s. omega arith }
  where
    none : (p : Message → Bool) (setting : Option EndSetting) → ◌≡◌ {A = ℕ} 0 (held p (opening_by layout setting) + 0)
    none p None = refl
    none p (Some setting) = refl

each_once_packets : (layout : Layout) (journal : List Entry) → layout.direct ≡ false → IsHistory layout journal → EachOnce journal
each_once_packets layout journal packet h =
    let r : Runs layout ([] ++ journal) = over_each (MayFollow layout) (λ past. Runs layout past) (λ past x r may. runs_more layout packet past x r may) []
    journal (runs_begin layout) h in
    record { accepted = r.kept.accepted.once; put = put_le layout journal r.kept; run = r.run }

pub each_once : (layout : Layout) (journal : List Entry) → IsHistory layout journal → EachOnce journal
each_once layout journal h = by_network layout.direct refl
  where
    by_network : (direct : Bool) → layout.direct ≡ direct → EachOnce journal
    by_network true is = each_once_direct layout journal is h
    by_network false is = each_once_packets layout journal is h

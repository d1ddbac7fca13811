-- Channels: which one is free, and what frees one.
use Rattle.std.proofs.Common.{◌≡◌, ℕ, zero, suc, ◌+◌, ◌<◌, Bool, true, false, List, Some, None, refl, sym, arith, true≢false, if◌then◌else◌}
use Rattle.am_names.specs.declared.Message.{Message}
use Rattle.am_names.specs.declared.NodeId.{NodeId}
use Rattle.am_names.specs.declared.Verdict.{Verdict}
use Rattle.am_names.specs.declared.Verdict.TheVariants as Verdicts
use Rattle.am_office_entries.specs.declared.Entry.{Entry}
use Rattle.am_office_entries.specs.declared.Event.{Event}
use Rattle.am_office_entries.specs.declared.Event.TheVariants as Events
use Rattle.am_office_entries.specs.declared.Outcome.{Outcome}
use Rattle.am_office_entries.specs.declared.Outcome.TheVariants as Out
use Rattle.am_model.specs.Channels.{Channel, frees, frees_by, sent_message}
use Rattle.am_model.specs.History.{channel_to, decided, free_from, is_bound}

pub free_below : (node peer : NodeId) (past : List Entry) (number more k : ℕ) → free_from node peer past number more ≡ Some k → k < number + more
free_below node peer past number zero k h = absurd (cc)
free_below node peer past number (suc more) k h = by_test (is_bound (channel_to node peer number) past) h (λ g. free_below node peer past (number + 1) more k g)
  where
    by_test : (b : Bool) → (if b then free_from node peer past (number + 1) more else Some number) ≡ Some k →
        (free_from node peer past (number + 1) more ≡ Some k → k < number + 1 + more) → k < number + suc more
    by_test true g rest = let less = rest g in omega (arith, less)
    by_test false g rest = let same : number ≡ k = cc in omega (arith, same)

pub freeing_sends_nothing : (c : Channel) (event : Event) (o : Outcome) → frees c event o ≡ true → sent_message o ≡ None
freeing_sends_nothing c (Events.Expire node peer channel) (Out.Delivered t) h = refl
freeing_sends_nothing c (Events.Expire node peer channel) (Out.Unknown t) h = refl
freeing_sends_nothing c (Events.Expire node peer channel) o h = absurd (true≢false (sym h))
freeing_sends_nothing c (Events.Receive node peer number) (Out.Received channel seq attempt r) h = refl
freeing_sends_nothing c (Events.Receive node peer number) o h = absurd (true≢false (sym h))
freeing_sends_nothing c event o h = absurd (true≢false (sym h))

-- a verdict on a fresh message frees no channel
pub decided_frees_none : (m : Message) (answer : ℕ) (v : Verdict) → frees_by (decided m answer v) ≡ false
decided_frees_none m answer Verdicts.Accepted = refl
decided_frees_none m answer (Verdicts.Refused cause) = refl

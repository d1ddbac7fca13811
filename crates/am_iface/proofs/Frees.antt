-- The lowest free channel to a peer.
use Rattle.std.specs.Prelude.{IsNone, is_some}
use Rattle.std.specs.Option.{option_map}
use Rattle.std.proofs.Common.{◌≡◌, refl, ℕ, zero, suc, ◌+◌, ◌-◌, ◌<◌, ◌≤◌, Bool, true, false, List, Option, Some, None, sym, ap, ◌∙◌, arith, true≢false}
use Rattle.std.proofs.Common.{if◌then◌else◌}
use Rattle.am_names.specs.declared.NodeId.{NodeId}
use Rattle.am_names.specs.declared.Message.{Message}
use Rattle.am_office_entries.specs.declared.Entry.{Entry}
use Rattle.am_model.specs.Channels.{Channel, bound_message}
use Rattle.am_model.specs.History.{channel_to, free_from, is_bound}
use Rattle.am_channel.specs.declared.sending.Bound.{Bound}

-- one channel further
pub free_step : (node peer : NodeId) (log : List Entry) (k n : ℕ) → k < n →
    free_from node peer log k (n - k) ≡ (if is_bound (channel_to node peer k) log then free_from node peer log (k + 1) (n - (k + 1)) else Some k)
free_step node peer log k n below =
    let one : n - k ≡ suc (n - (k + 1)) = omega arith in
    ap (λ (more : ℕ). free_from node peer log k more) one

-- no channel is left
pub free_end : (node peer : NodeId) (log : List Entry) (k n : ℕ) → n ≤ k → free_from node peer log k (n - k) ≡ None
free_end node peer log k n past =
    let none : n - k ≡ zero = omega arith in
    ap (λ (more : ℕ). free_from node peer log k more) none

-- a channel is bound where its end is busy
pub bound_is : (c : Channel) (log : List Entry) (b : Option Bound) → option_map (λ (b : Bound). b.message) b ≡ bound_message c log → is_bound c log ≡ is_some b
bound_is c log None is = ap (λ (m : Option Message). is_some m) (sym is)
bound_is c log (Some b) is = ap (λ (m : Option Message). is_some m) (sym is)

pub busy_on : (node peer : NodeId) (log : List Entry) (k n : ℕ) → k < n → is_bound (channel_to node peer k) log ≡ true →
    free_from node peer log k (n - k) ≡ free_from node peer log (k + 1) (n - (k + 1))
busy_on node peer log k n below is = free_step node peer log k n below
    ∙ ap (λ (t : Bool). if t then free_from node peer log (k + 1) (n - (k + 1)) else Some k) is

pub idle_at : (node peer : NodeId) (log : List Entry) (k n : ℕ) → k < n → is_bound (channel_to node peer k) log ≡ false →
    free_from node peer log k (n - k) ≡ Some k
idle_at node peer log k n below is = free_step node peer log k n below
    ∙ ap (λ (t : Bool). if t then free_from node peer log (k + 1) (n - (k + 1)) else Some k) is

-- the channel that is found is free, and among those that are looked at
pub free_found : (node peer : NodeId) (log : List Entry) (k more channel : ℕ) → free_from node peer log k more ≡ Some channel →
    (channel < k + more) × (is_bound (channel_to node peer channel) log ≡ false)
free_found node peer log k zero channel is = absurd (cc)
free_found node peer log k (suc more) channel is = by_test (is_bound (channel_to node peer k) log) refl
    (λ found. free_found node peer log (k + 1) more channel found) is
  where
    by_test : (t : Bool) → is_bound (channel_to node peer k) log ≡ t → (free_from node peer log (k + 1) more ≡ Some channel →
        (channel < k + 1 + more) × (is_bound (channel_to node peer channel) log ≡ false)) →
        (if t then free_from node peer log (k + 1) more else Some k) ≡ Some channel →
        (channel < k + suc more) × (is_bound (channel_to node peer channel) log ≡ false)
    by_test true busy next found = let further = next found in (omega (arith, further.0), further.1)
    by_test false idle next found =
        let same : k ≡ channel = cc in
        (omega (arith, same), ap (λ (n : ℕ). is_bound (channel_to node peer n) log) (sym same) ∙ idle)

-- the sending end of a channel that is not bound is idle
pub idle_end : (c : Channel) (log : List Entry) (b : Option Bound) → option_map (λ (b : Bound). b.message) b ≡ bound_message c log → is_bound c log ≡ false →
    IsNone b
idle_end c log None is idle = refl
idle_end c log (Some b) is idle = absurd (true≢false (ap (λ (m : Option Message). is_some m) is ∙ idle))

-- What an event that may happen finds.
use Rattle.std.proofs.Common.{◌≡◌, ℕ, ◌≤◌, Bool, true, false, ◌==◌, Option, Some, None, List, [], ◌∷◌, if◌then◌else◌, length, get_or, ◌<◌, ◌-◌, ◌⊎◌, ⊎_elim}
use Rattle.std.proofs.Common.{subst, sym, refl}
use Rattle.std.specs.Prelude.{IfSome, IsNone, is_none, is_some, slice_get, All}
use Rattle.std.proofs.lemmas.List.Elements.{All-get_or}
use Rattle.std.proofs.lemmas.Option.{slice_get_cases}
use Rattle.am_channel.specs.declared.sending.Bound.{Bound}
use Rattle.am_model.specs.Choice.{first_holding}
use Rattle.am_restart.specs.declared.events.SessionCondition.TheVariants as Needs
use Rattle.am_restart.specs.declared.events.SessionEvent.TheVariants as Events
use Rattle.am_restart.specs.declared.packets.SenderPacket.{SenderPacket}
use Rattle.am_restart.specs.Bounds.{IsNumbered}
use Rattle.am_restart.specs.Moves.{failing}
use Rattle.am_restart.specs.State.{SessionState, packet_at}

idle_by : (bound : Option Bound) (a c : Bool) → first_holding ((a, Needs.UnknownPeer) ∷ (is_some bound, Needs.Bound) ∷ (c, Needs.NoMessage) ∷ []) ≡ None →
    IsNone bound
idle_by None a c h = refl
idle_by (Some b) true c h = cc
idle_by (Some b) false c h = cc

-- a sender that may bind has nothing bound
pub binds_idle : (s : SessionState) → failing s Events.Bind ≡ None → IsNone s.sender.end.bound
binds_idle s h = idle_by s.sender.end.bound (s.sender.peer == 0) (is_none (slice_get s.traffic.queue 0)) h

got : (packets : List SenderPacket) (k : ℕ) → All IsNumbered packets → IfSome (slice_get packets k) IsNumbered
got packets k all =
    ⊎_elim
    (λ (found : (x : SenderPacket) × (k < length packets) × (slice_get packets k ≡ Some x) × (get_or packets k x ≡ x)).
    subst (λ (o : Option SenderPacket). IfSome o IsNumbered) (sym found.2) (subst IsNumbered found.3 (All-get_or IsNumbered packets k found.0 found.1 all)))
    (λ (past : (length packets ≤ k) × (slice_get packets k ≡ None)). subst (λ (o : Option SenderPacket). IfSome o IsNumbered) (sym past.1) tt)
    (slice_get_cases packets k).1

numbered_by : (b : Bool) (o : Option SenderPacket) → IfSome o IsNumbered → IfSome (if b then None else o) IsNumbered
numbered_by true o h = tt
numbered_by false o h = h

-- a parcel that was emitted is numbered
pub numbered_at : (packets : List SenderPacket) (number : ℕ) → All IsNumbered packets → IfSome (packet_at packets number) IsNumbered
numbered_at packets number all = numbered_by (number == 0) (slice_get packets (number - 1)) (got packets (number - 1) all)

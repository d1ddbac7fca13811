-- What an interface keeps, one call more.
use Rattle.std.specs.Prelude.{slice_get, slice_set}
use Rattle.std.proofs.Common.{◌≡◌, ⊎_elim, ℕ, zero, suc, ◌+◌, ◌*◌, ◌<◌, ◌≤◌, Bool, true, false, ◌&&◌, List, [], ◌∷◌, ◌++◌, length, get_or, Some, is_some, refl}
use Rattle.std.proofs.Common.{sym, ap, ◌∙◌, subst, arith, eq-eqb, eqb-true, ◌==◌}
use Rattle.std.proofs.lemmas.List.{length_push, length-set}
use Rattle.std.proofs.lemmas.Option.{slice_get_read}
use Rattle.am_lemmas.proofs.Lists.{slice_get-set_cases}
use Rattle.am_names.specs.declared.NodeId.{NodeId}
use Rattle.am_names.specs.Names.{same_node}
use Rattle.am_office_entries.specs.declared.Entry.{Entry}
use Rattle.am_office_entries.specs.Entries.{emitted_of}
use Rattle.am_model.specs.Channels.{Channel, emitted}
use Rattle.am_model.specs.History.{channel_to}
use Rattle.am_model.specs.Layout.{node_at}
use Rattle.am_model.proofs.Received.{bit, bit_at_most}
use Rattle.am_channel.specs.declared.ends.Ends.{Ends}
use Rattle.am_channel.specs.Counted.{AreCounted}
use Rattle.am_channel.proofs.Pushes.{call_counted}
use Rattle.am_channel.proofs.Apart.{call_apart}
use Rattle.am_iface.specs.Settings.{SettingsView}
use Rattle.am_iface.specs.Kept.{AreOfLog, AreEndsOf, AreEmissionsOf, IsCounted, settings_in, view_of}
use Rattle.am_iface.specs.View.{InterfaceView, own}
use Rattle.am_iface.specs.declared.Interface.TheInside.{Inside}
use Rattle.am_model_parts.specs.Interface.{channel_in}
use Rattle.am_iface.specs.Made.{IsMade}
use Rattle.am_iface.proofs.Emissions.{call_emits}

-- the ends of the call's channel are new, and those of the others as they were
ends_made : (node peer : NodeId) (channel : ℕ) (log : List Entry) (ends : List Ends) (new : Ends) (x : Entry) → channel < 4 → AreEndsOf node log ends →
    IsMade (channel_to node peer channel) log new x → AreEndsOf node (log ++ x ∷ []) (slice_set ends (4 * peer.0 + channel) new)
ends_made node peer channel log ends new x below are made to k e lt got =
    ⊎_elim here there (slice_get-set_cases ends (4 * peer.0 + channel) (4 * to + k) new e got)
  where
    counted_now : AreCounted (channel_to node peer channel) (log ++ x ∷ []) new
    counted_now = subst (λ (f : Ends). AreCounted (channel_to node peer channel) (log ++ x ∷ []) f) (sym made.leaves)
        (call_counted (channel_to node peer channel) log made.old made.call x made.counted made.tells)

    here : (4 * to + k ≡ 4 * peer.0 + channel) × (e ≡ new) → AreCounted (channel_to node (node_at to) k) (log ++ x ∷ []) e
    here both =
        let same_peer : peer.0 ≡ to = omega (arith, both.0) in
        let same_channel : channel ≡ k = omega (arith, both.0) in
        subst (λ (f : Ends). AreCounted (channel_to node (node_at to) k) (log ++ x ∷ []) f) (sym both.1)
        (subst (λ (c : Channel). AreCounted c (log ++ x ∷ []) new) (λ i. channel_to node (node_at (same_peer i)) (same_channel i)) counted_now)

    there : (4 * to + k ≡ 4 * peer.0 + channel → ⊥) × (slice_get ends (4 * to + k) ≡ Some e) → AreCounted (channel_to node (node_at to) k) (log ++ x ∷ []) e
    there both =
        call_apart (channel_to node (node_at to) k) (channel_to node peer channel) log e made.old made.call x (are to k e lt both.1) made.tells
        (λ same.
        let same_peer : peer.0 ≡ to = ap (λ (c : Channel). c.peer.0) same in
        let same_channel : channel ≡ k = ap (λ (c : Channel). c.number) same in
        both.0 (omega (arith, same_peer, same_channel)))

-- one packet more to its peer, if it emits one
emissions_made : (node peer : NodeId) (channel : ℕ) (log : List Entry) (counts : List ℕ) (n : ℕ) (new : Ends) (x : Entry) → AreEmissionsOf node log counts →
    IsMade (channel_to node peer channel) log new x → slice_get counts peer.0 ≡ Some n →
    AreEmissionsOf node (log ++ x ∷ []) (slice_set counts peer.0 (n + bit (is_some (emitted_of x))))
emissions_made node peer channel log counts n new x are made was to k got =
    ⊎_elim here there (slice_get-set_cases counts peer.0 to (n + bit (is_some (emitted_of x))) k got)
  where
    more : (q : NodeId) → length (emitted node q (log ++ x ∷ [])) ≡ length (emitted node q log) + bit (is_some (emitted_of x) && same_node q peer)
    more q = call_emits (channel_to node peer channel) log made.old made.call x q made.tells

    and_true : (b t : Bool) → t ≡ true → bit (b && t) ≡ bit b
    and_true true t is = ap bit is
    and_true false t is = refl

    and_false : (b t : Bool) → t ≡ false → bit (b && t) ≡ bit false
    and_false true t is = ap bit is
    and_false false t is = refl

    no_more : (m : ℕ) → m + bit false ≡ m
    no_more m = omega arith

    at_peer : (n + bit (is_some (emitted_of x)) ≡ length (emitted node peer (log ++ x ∷ []))) × (n + bit (is_some (emitted_of x)) ≤ length (log ++ x ∷ []))
    at_peer =
        let old = are peer.0 n was in
        let same : same_node peer peer ≡ true = eq-eqb peer.0 peer.0 refl in (
          ap (λ (m : ℕ). m + bit (is_some (emitted_of x))) old.0
              ∙ ap (λ (m : ℕ). length (emitted node peer log) + m) (sym (and_true (is_some (emitted_of x)) (same_node peer peer) same))
              ∙ sym (more peer),
          omega (arith, old.1, bit_at_most (is_some (emitted_of x)), length_push log x),
        )

    here : (to ≡ peer.0) × (k ≡ n + bit (is_some (emitted_of x))) → (k ≡ length (emitted node (node_at to) (log ++ x ∷ []))) × (k ≤ length (log ++ x ∷ []))
    here both =
        (both.1 ∙ at_peer.0 ∙ (λ i. length (emitted node (node_at (sym both.0 i)) (log ++ x ∷ []))), omega (arith, both.1, at_peer.1))

    there : (to ≡ peer.0 → ⊥) × (slice_get counts to ≡ Some k) → (k ≡ length (emitted node (node_at to) (log ++ x ∷ []))) × (k ≤ length (log ++ x ∷ []))
    there both =
        let old = are to k both.1 in
        let other : same_node (node_at to) peer ≡ false = eqb_apart to peer.0 both.0 in (
          old.0
              ∙ sym (no_more (length (emitted node (node_at to) log)))
              ∙ ap (λ (m : ℕ). length (emitted node (node_at to) log) + m) (sym (and_false (is_some (emitted_of x)) (same_node (node_at to) peer) other))
              ∙ sym (more (node_at to)),
          omega (arith, old.1, length_push log x),
        )
      where
        eqb_apart : (a b : ℕ) → (a ≡ b → ⊥) → same_node (node_at a) (node_at b) ≡ false
        eqb_apart a b apart = by_test (a == b) refl
          where
            by_test : (t : Bool) → (a == b) ≡ t → t ≡ false
            by_test true is = absurd (apart (eqb-true a b is))
            by_test false is = refl

pub entered : (set : SettingsView) (ends : List Ends) (counts : List ℕ) (log : List Entry) (peer : NodeId) (channel n : ℕ) (new : Ends) (x : Entry) →
    AreOfLog set ends counts log → peer.0 < set.nodes → channel < set.channels → length log < set.log → IsMade (channel_to set.node peer channel) log new x →
    n ≡ get_or counts peer.0 n → AreOfLog set (slice_set ends (4 * peer.0 + channel) new) (slice_set counts peer.0 (n + bit (is_some (emitted_of x))))
    (log ++ x ∷ [])
entered set ends counts log peer channel n new x is to on room made at =
    let below : channel < 4 = omega (arith, is.lawful.channels) in
    let within : peer.0 < 16 = omega (arith, is.lawful.nodes) in
    record {
      ends = ends_made set.node peer channel log ends new x below is.ends made;
      emissions = emissions_made set.node peer channel log counts n new x is.emissions made (slice_get_read counts 16 peer.0 n (sym is.all_peers) within at);
      all_ends = length-set ends (4 * peer.0 + channel) new ∙ is.all_ends;
      all_peers = length-set counts peer.0 (n + bit (is_some (emitted_of x))) ∙ is.all_peers;
      bounded = omega (arith, length_push log x);
      lawful = is.lawful;
    }

-- what is read is what is read by any default, where something is
pub read_same : (xs : List ℕ) (k d : ℕ) → get_or xs k d ≡ get_or xs k (get_or xs k d)
read_same [] k d = refl
read_same (x ∷ xs) zero d = refl
read_same (x ∷ xs) (suc k) d = read_same xs k d

-- the count of a peer's packets is small
pub count_within : (i : Inside) (v : InterfaceView) (peer : NodeId) (n : ℕ) (b : Bool) → view_of i ≡ v → IsCounted i → peer.0 < v.settings.nodes →
    n ≡ get_or i.emissions.items peer.0 n → n + bit b ≤ 65537
count_within i v peer n b seen is to at =
    let on : peer.0 < i.limits.nodes = subst (λ (w : InterfaceView). peer.0 < w.settings.nodes) (sym seen) to in
    let within : peer.0 < 16 = omega (arith, is.lawful.nodes) in
    let most = is.emissions peer.0 n (slice_get_read i.emissions.items 16 peer.0 n (sym is.all_peers) within at) in
    omega (arith, most.1, is.bounded, is.lawful.log, bit_at_most b)

-- what an interface keeps once the call is written, as its callers see it
pub record IsWritten (i : Inside) (peer : NodeId) (channel : ℕ) (new : Ends) (x : Entry) (b : Bool) (all : List Ends) (counts : List ℕ) (items : List Entry) :
    Type 0 where
  pub emits : b ≡ is_some (emitted_of x)
  pub ends : all ≡ slice_set i.ends.items (4 * peer.0 + channel) new
  pub emissions : counts ≡ slice_set i.emissions.items peer.0 (get_or i.emissions.items peer.0 0 + bit b)
  pub log : items ≡ i.log.items ++ x ∷ []

pub entered_seen : (i : Inside) (v : InterfaceView) (peer : NodeId) (channel : ℕ) (new : Ends) (x : Entry) (emits : Bool) (all : List Ends) (counts : List ℕ)
    (log : List Entry) → view_of i ≡ v → IsCounted i → peer.0 < v.settings.nodes → channel < v.settings.channels → length i.log.items < i.limits.log →
    IsMade (channel_in (own v) peer channel) v.log new x → IsWritten i peer channel new x emits all counts log → AreOfLog (settings_in i) all counts log
entered_seen i v peer channel new x emits all counts log seen is to on room made written =
    let made_here : IsMade (channel_to i.limits.node peer channel) i.log.items new x =
    subst (λ (w : InterfaceView). IsMade (channel_in (own w) peer channel) w.log new x) (sym seen) made in
    let to_here : peer.0 < i.limits.nodes = subst (λ (w : InterfaceView). peer.0 < w.settings.nodes) (sym seen) to in
    let on_here : channel < i.limits.channels = subst (λ (w : InterfaceView). channel < w.settings.channels) (sym seen) on in
    let n = get_or i.emissions.items peer.0 0 in
    let kept = entered (settings_in i) i.ends.items i.emissions.items i.log.items peer channel n new x is to_here on_here room made_here
    (read_same i.emissions.items peer.0 0) in
    let counted : counts ≡ slice_set i.emissions.items peer.0 (n + bit (is_some (emitted_of x))) =
    written.emissions ∙ ap (λ (b : Bool). slice_set i.emissions.items peer.0 (n + bit b)) written.emits in
    subst (λ (es : List Ends). AreOfLog (settings_in i) es counts log) (sym written.ends)
    (subst (λ (ns : List ℕ). AreOfLog (settings_in i) (slice_set i.ends.items (4 * peer.0 + channel) new) ns log) (sym counted)
    (subst (λ (xs : List Entry). AreOfLog (settings_in i) (slice_set i.ends.items (4 * peer.0 + channel) new)
    (slice_set i.emissions.items peer.0 (n + bit (is_some (emitted_of x)))) xs) (sym written.log) kept))

-- the log is short
pub log_within : (i : Inside) (v : InterfaceView) → view_of i ≡ v → IsCounted i → length v.log ≤ 65536
log_within i v seen is = subst (λ (w : InterfaceView). length w.log ≤ 65536) seen (omega (arith, is.bounded, is.lawful.log))

-- the ends of each channel are kept
pub ends_within : (i : Inside) (v : InterfaceView) (peer : NodeId) (channel : ℕ) → view_of i ≡ v → IsCounted i → peer.0 < v.settings.nodes →
    channel < v.settings.channels → 4 * peer.0 + channel < length i.ends.items
ends_within i v peer channel seen is to on =
    let to_here : peer.0 < i.limits.nodes = subst (λ (w : InterfaceView). peer.0 < w.settings.nodes) (sym seen) to in
    let on_here : channel < i.limits.channels = subst (λ (w : InterfaceView). channel < w.settings.channels) (sym seen) on in
    omega (arith, is.all_ends, is.lawful.nodes, is.lawful.channels)

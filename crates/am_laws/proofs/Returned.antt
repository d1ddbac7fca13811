-- What is returned is nowhere put, run or unknown.
use Rattle.std.proofs.Common.{◌≡◌, ◌≢◌, ◌⊎◌, inl, inr, ⊎_elim, ◌+◌, ◌≤◌, Bool, true, false, List, [], ◌∷◌, ◌++◌, Option, Some, None, refl, sym, ap, ◌∙◌, subst}
use Rattle.std.proofs.Common.{arith}
use Rattle.am_names.specs.declared.EndpointId.{EndpointId}
use Rattle.am_names.specs.declared.Serial.{Serial}
use Rattle.am_names.specs.declared.Message.{Message}
use Rattle.am_office_entries.specs.declared.Event.{Event}
use Rattle.am_office_entries.specs.declared.Event.TheVariants as Events
use Rattle.am_office_entries.specs.declared.Received.TheVariants as Got
use Rattle.am_office_entries.specs.declared.Outcome.{Outcome}
use Rattle.am_office_entries.specs.declared.Outcome.TheVariants as Out
use Rattle.am_office_entries.specs.declared.Entry.{Entry}
use Rattle.am_names.specs.Names.{same_serial, has_serial}
use Rattle.am_office_entries.specs.Entries.{put_in, put_of, returned_in, returned_of, passes}
use Rattle.am_model.specs.Layout.{Layout}
use Rattle.am_model.specs.History.{state_of, MayFollow, IsHistory}
use Rattle.am_model.specs.PostOffice.{times, times_serial, ReturnedNeverRan}
use Rattle.am_model.proofs.Each.{over_each, each_push}
use Rattle.am_model.proofs.Names.{same_serial-is}
use Rattle.am_model.proofs.Received.{bit}
use Rattle.am_model.proofs.Books.{role_push, fits_direct}
use Rattle.am_model.proofs.Queues.{FitsDirect}
use Rattle.am_laws.proofs.Waiting.{weight_serial}
use Rattle.am_laws.proofs.Senders.{sender}
use Rattle.am_laws.proofs.Effects.{Effect, Keeps, Binds, Refuses, Ends, effect}
use Rattle.am_model.specs.Changes.{settled_in}
use Rattle.am_laws.proofs.Puts.{put_is}
use Rattle.am_laws.proofs.Situations.{NoneFresh, IsUnbound, sent_by, puts, puts_push, put_or_not, none_fresh_more, refused_for_good}
use Rattle.am_laws.proofs.OrderedPackets.{not_carry}
use Rattle.am_laws.proofs.Everywhere.{each_once}
use Rattle.am_laws.proofs.Flown.{flown, kept_flights}
use Rattle.am_laws.proofs.Numbers.{end_in, end_of_entry}
use Rattle.am_laws.proofs.Balance.{balanced, ends_once, serial_push}

-- no channel has a message of a serial that was returned
unbound_when_returned : (layout : Layout) → layout.direct ≡ false → (past : List Entry) → IsHistory layout past → (s : Serial) →
    1 ≤ times_serial returned_of s past → IsUnbound s (sent_by past)
unbound_when_returned layout packet past h s back = λ c m is same.
    let k = kept_flights layout packet past h in
    let b = balanced layout past h in
    let flies : 1 ≤ flown layout past s = subst (λ (w : Serial). 1 ≤ flown layout past w) same (k.flown c m is) in
    omega (arith, flies, b.balance s, b.ends s, b.serials.once s, back)

-- a serial that was returned was not put, and nothing of it can be
abbrev pub NeverPut : List Entry → Serial → Type 0
NeverPut past s = 1 ≤ times_serial returned_of s past → (puts s past ≡ 0) × NoneFresh s past

return_lands : (event : Event) (o : Outcome) (s : Serial) → event ≢ event ⊎ (weight_serial s (returned_in event o) ≡ 0) ⊎ (((end : EndpointId) →
    event ≢ Events.Carry end) → (t : Serial) × (settled_in event o ≡ Some t) × (returned_in event o ≡ Some t) × (t ≡ s))
return_lands (Events.Carry end) (Out.Returned m cause) s = inr (inr (λ apart. absurd (apart end refl)))
return_lands (Events.Receive node peer number) (Out.Received channel seq attempt (Got.Returned t cause)) s = inr (by_test (same_serial s t) refl)
  where
    by_test : (b : Bool) → same_serial s t ≡ b → (bit (same_serial s t) ≡ 0) ⊎ (((end : EndpointId) → Events.Receive node peer number ≢ Events.Carry end) →
        (u : Serial) × (◌≡◌ {A = Option Serial} (Some t) (Some u)) × (◌≡◌ {A = Option Serial} (Some t) (Some u)) × (u ≡ s))
    by_test false h = inl (ap bit h)
    by_test true h = inr (λ apart. (t, refl, refl, sym (same_serial-is s t h)))
return_lands event o s = inr (inl refl)

never_put_more : (layout : Layout) → layout.direct ≡ false → (past : List Entry) (x : Entry) → IsHistory layout past → ((s : Serial) → NeverPut past s) →
    MayFollow layout past x → (s : Serial) → NeverPut (past ++ x ∷ []) s
never_put_more layout packet past x h never may s back =
    ⊎_elim (λ odd. absurd (odd refl))
    (⊎_elim
    (λ (old : weight_serial s (returned_of x) ≡ 0). earlier (omega (arith, back, serial_push returned_of s past x, old)))
    (λ now. by_effect (now (not_carry layout packet past x.event may.enabled)) (effect layout past x may)))
    (return_lands x.event x.outcome s)
  where
    now_history : IsHistory layout (past ++ x ∷ [])
    now_history = each_push (MayFollow layout) [] past x h may

    unbound : IsUnbound s (sent_by (past ++ x ∷ []))
    unbound = unbound_when_returned layout packet (past ++ x ∷ []) now_history s back

    earlier : 1 ≤ times_serial returned_of s past → (puts s (past ++ x ∷ []) ≡ 0) × NoneFresh s (past ++ x ∷ [])
    earlier before =
        let n = never s before in (
          ⊎_elim
              (λ (not : bit (passes (has_serial s) (put_of x)) ≡ 0). omega (arith, n.0, not, puts_push s past x))
              (λ (is : (m : Message) × (put_of x ≡ Some m) × (m.serial ≡ s) × (bit (passes (has_serial s) (put_of x)) ≡ 1)).
              let p = put_is layout past x may (not_carry layout packet past x.event may.enabled) is.0 is.1 in
              absurd (n.1 p.by p.emitted (ap (λ (q : Message). q.serial) p.message ∙ is.2) p.fresh))
              (put_or_not s (put_of x)),
          none_fresh_more layout past x may s n.1 unbound,
        )

    by_effect : (t : Serial) × (settled_in x.event x.outcome ≡ Some t) × (returned_in x.event x.outcome ≡ Some t) × (t ≡ s) →
        Effect past x.event x.outcome (λ c. sender c (past ++ x ∷ [])) → (puts s (past ++ x ∷ []) ≡ 0) × NoneFresh s (past ++ x ∷ [])
    by_effect now (Keeps same no' again lands) = let both : None ≡ Some now.0 = sym lands ∙ now.1 in absurd (cc)
    by_effect now (Binds at m is free binds still again lands) = let both : None ≡ Some now.0 = sym lands ∙ now.1 in absurd (cc)
    by_effect now (Refuses at m held frees a cause r still no' again lands) =
        let both : Some m.serial ≡ Some now.0 = sym lands ∙ now.1 in
        let same : m.serial ≡ now.0 = cc in
        let k = kept_flights layout packet past h in
        refused_for_good layout past x may k.kept.channels s _ _ at m held frees a cause r still (same ∙ now.3) (k.kept.stands s)
    by_effect now (Ends at m held frees still no' again lands kept) = let both : None ≡ Some now.0 = sym kept ∙ now.2 in absurd (cc)

record Both (layout : Layout) (past : List Entry) : Type 0 where
  pub history : IsHistory layout past
  pub never : (s : Serial) → NeverPut past s

never_put_packets : (layout : Layout) → layout.direct ≡ false → (past : List Entry) → IsHistory layout past → (s : Serial) → NeverPut past s
never_put_packets layout packet past h =
    (over_each (MayFollow layout) (λ xs. Both layout xs)
    (λ xs x k may. record {
      history = each_push (MayFollow layout) [] xs x k.history may;
      never = λ s. never_put_more layout packet xs x k.history k.never may s;
    })
    [] past (record { history = tt; never = λ s back. absurd (omega (arith, back)) }) h).never

-- on the direct network what is put is done with
put_ends : (e : EndpointId) (st : Rattle.am_model.specs.Endpoint.State) (s : Serial) (event : Event) (o : Outcome) → FitsDirect e st event o →
    bit (passes (has_serial s) (put_in event o)) + weight_serial s (returned_in event o) ≤ weight_serial s (end_in event o)
put_ends e st s (Events.Carry end) (Out.Accepted m) fits = omega arith
put_ends e st s (Events.Carry end) (Out.Returned m cause) fits = omega arith
put_ends e st s (Events.Receive node peer number) o fits = absurd fits
put_ends e st s event o fits = omega arith

abbrev pub PutEnds : List Entry → Type 0
PutEnds past = (s : Serial) → times put_of (has_serial s) past + times_serial returned_of s past ≤ times_serial end_of_entry s past

put_ends_all : (layout : Layout) → layout.direct ≡ true → (past : List Entry) → IsHistory layout past → PutEnds past
put_ends_all layout direct past h =
    over_each (MayFollow layout) PutEnds
    (λ xs x k may. λ s. omega (
      arith,
      k s,
      role_push put_in (has_serial s) xs x,
      serial_push returned_of s xs x,
      serial_push end_of_entry s xs x,
      put_ends s.source (state_of layout xs s.source) s x.event x.outcome (fits_direct layout direct xs s.source x may),
    ))
    [] past (λ s. omega arith) h

never_put : (layout : Layout) (past : List Entry) → IsHistory layout past → (s : Serial) → 1 ≤ times_serial returned_of s past →
    times put_of (has_serial s) past ≡ 0
never_put layout past h s back = by_network layout.direct refl
  where
    by_network : (direct : Bool) → layout.direct ≡ direct → times put_of (has_serial s) past ≡ 0
    by_network true d = let b = balanced layout past h in omega (arith, put_ends_all layout d past h s, b.balance s, b.serials.once s, back)
    by_network false d = (never_put_packets layout d past h s back).0

pub returned_never_ran : (layout : Layout) (journal : List Entry) → IsHistory layout journal → ReturnedNeverRan journal
returned_never_ran layout journal h = λ s.
    record {
      once = omega (arith, ends_once layout journal h s);
      put = λ back. never_put layout journal h s back;
      run = λ back. let none : times put_of (has_serial s) journal ≡ 0 = never_put layout journal h s back in
          omega (arith, none, (each_once layout journal h).run s);
      unknown = λ back. omega (arith, back, ends_once layout journal h s);
    }

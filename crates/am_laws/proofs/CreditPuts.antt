-- What is known of a reply that was put.
use Rattle.std.proofs.Common.{◌≡◌, ⊎_elim, ℕ, zero, suc, ◌≤◌, true, List, [], Option, Some, None, refl, sym, ap, ◌∙◌, subst, arith, true≢false}
use Rattle.am_names.specs.declared.Serial.{Serial}
use Rattle.am_names.specs.declared.Message.{Message}
use Rattle.am_office_entries.specs.declared.Call.TheVariants as Calls
use Rattle.am_office_entries.specs.declared.Event.{Event}
use Rattle.am_office_entries.specs.declared.Event.TheVariants as Events
use Rattle.am_office_entries.specs.declared.Outcome.{Outcome}
use Rattle.am_office_entries.specs.declared.Outcome.TheVariants as Out
use Rattle.am_office_entries.specs.declared.Entry.{Entry}
use Rattle.am_names.specs.Names.{has_serial}
use Rattle.am_office_entries.specs.Entries.{accepted_in, accepted_of, put_of, run_in, run_of, passes, is_serial}
use Rattle.am_model.specs.Layout.{Layout}
use Rattle.am_model.specs.History.{MayFollow, IsHistory}
use Rattle.am_model.specs.PostOffice.{times, Gave, WasAccepted, is_about, SendsOne, IsAcceptedBy}
use Rattle.am_model.proofs.Each.{over_each, each_push}
use Rattle.am_model.proofs.Names.{same_serial-is, same_serial-refl}
use Rattle.am_model.proofs.Received.{bit}
use Rattle.am_model.proofs.Books.{role_push}
use Rattle.am_laws.proofs.Everywhere.{each_once}
use Rattle.am_laws.proofs.Alls.{gave_more}
use Rattle.am_laws.proofs.Asked.{is_asked, knows}
use Rattle.am_laws.proofs.Delivered.{delivers, put_facts}
use Rattle.am_laws.proofs.ReplyMessages.{event_one}
use Rattle.am_laws.proofs.Gave.{gave_back}
use Rattle.am_laws.proofs.Credited.{IsReplyOf, no_about, credits}
use Rattle.am_laws.proofs.Given.{times_gave, gave_times}

-- what was put was accepted
record PutsKnown (layout : Layout) (past : List Entry) : Type 0 where
  pub history : IsHistory layout past
  pub known : (m : Message) → Gave put_of past m → WasAccepted past m

pub put_was_accepted : (layout : Layout) (past : List Entry) → IsHistory layout past → (m : Message) → Gave put_of past m → WasAccepted past m
put_was_accepted layout past h =
    (over_each (MayFollow layout) (λ xs. PutsKnown layout xs)
    (λ xs x k may.
    record {
      history = each_push (MayFollow layout) [] xs x k.history may;
      known = λ m g.
          ⊎_elim
          (λ (before : Gave put_of xs m). gave_more accepted_of xs x m (k.known m before))
          (λ (now : put_of x ≡ Some m). gave_more accepted_of xs x m (put_facts layout xs x (delivers layout xs k.history) may m now).accepted)
          (gave_back put_of xs x m g);
    })
    [] past (record { history = tt; known = λ m g. absurd (cc) }) h).known

-- a reply is accepted only where its request runs
about_le : (layout : Layout) (past : List Entry) (s : Serial) (event : Event) (o : Outcome) → IsAcceptedBy layout past event o → SendsOne event o →
    bit (passes (is_about s) (accepted_in event o)) ≤ bit (passes (has_serial s) (run_in event o))
about_le layout past s (Events.Call actor end (Calls.Request index handler words)) (Out.Requested m) asked one' =
    let none : m.about ≡ None = no_about layout past end index handler words m asked in
    omega (arith, ap (λ (w : Option Serial). bit (is_serial s w)) none)
about_le layout past s (Events.Call actor end Calls.Poll) (Out.Ran handler m (Some reply)) asked one' =
    omega (arith, ap (λ (w : Option Serial). bit (is_serial s w)) one'.2)
about_le layout past s event o asked one' = omega arith

pub replies_le : (layout : Layout) (past : List Entry) → IsHistory layout past → (s : Serial) →
    times accepted_of (is_about s) past ≤ times run_of (has_serial s) past
replies_le layout past h s =
    (over_each (MayFollow layout) (λ xs. IsHistory layout xs × (times accepted_of (is_about s) xs ≤ times run_of (has_serial s) xs))
    (λ xs x k may. (
      each_push (MayFollow layout) [] xs x k.0 may,
      omega (
        arith,
        k.1,
        role_push accepted_in (is_about s) xs x,
        role_push run_in (has_serial s) xs x,
        about_le layout xs s x.event x.outcome (is_asked layout xs x (knows layout xs k.0) may)
            (subst (λ (o : Outcome). SendsOne x.event o) (sym may.outcome) (event_one layout xs x.event)),
      ),
    ))
    [] past (tt, omega arith) h).1

-- what is known of a reply that was put
pub record IsPutReply (past : List Entry) (m : Message) (s : Serial) : Type 0 where
  pub accepted : WasAccepted past m
  pub reply : IsReplyOf past m s
  pub ran : 1 ≤ times run_of (has_serial s) past
  pub put : 1 ≤ times put_of (has_serial s) past

pub about_itself : (s : Serial) (m : Message) → m.about ≡ Some s → is_about s m ≡ true
about_itself s m is = ap (is_serial s) is ∙ same_serial-refl s

pub about_is : (s : Serial) (m : Message) → is_about s m ≡ true → m.about ≡ Some s
about_is s m h = by_about m.about refl h
  where
    by_about : (w : Option Serial) → m.about ≡ w → is_serial s w ≡ true → m.about ≡ Some s
    by_about None is e = absurd (true≢false (sym e))
    by_about (Some t) is e = is ∙ ap (λ (w : Serial). Some w) (sym (same_serial-is s t e))

pub accepted_reply : (layout : Layout) (past : List Entry) → IsHistory layout past → (m : Message) (s : Serial) → WasAccepted past m → m.about ≡ Some s →
    IsPutReply past m s
accepted_reply layout past h m s known about =
    let ran : 1 ≤ times run_of (has_serial s) past = omega (
      arith,
      gave_times accepted_of (is_about s) past m known (about_itself s m about),
      replies_le layout past h s,
    ) in
    record { accepted = known; reply = (credits layout past h).replies m known s about; ran = ran; put = omega (arith, ran, (each_once layout past h).run s) }

-- a reply that was put: its request was put, so it is not returned
pub put_reply : (layout : Layout) (past : List Entry) → IsHistory layout past → (s : Serial) → 1 ≤ times put_of (is_about s) past →
    (m : Message) × Gave put_of past m × (m.about ≡ Some s) × IsPutReply past m s
put_reply layout past h s low =
    let g = times_gave put_of (is_about s) past low in
    let about : g.0.about ≡ Some s = about_is s g.0 g.2 in
    (g.0, g.1, about, accepted_reply layout past h g.0 s (put_was_accepted layout past h g.0 g.1) about)

-- nothing is put about a serial that was not accepted
pub none_about : (layout : Layout) (past : List Entry) → IsHistory layout past → (s : Serial) → times accepted_of (has_serial s) past ≡ 0 →
    times put_of (is_about s) past ≡ 0
none_about layout past h s none = by_count (times put_of (is_about s) past) refl
  where
    by_count : (n : ℕ) → times put_of (is_about s) past ≡ n → n ≡ 0
    by_count zero is = refl
    by_count (suc n) is =
        let r = put_reply layout past h s (omega (arith, is)) in
        absurd (omega (arith, r.3.ran, (each_once layout past h).run s, (each_once layout past h).put s, none))

-- What a driver's move leaves as it was: all but where its endpoint lies.
use Rattle.std.proofs.Common.{◌≡◌, Bool, true, false, List, refl, sym, ap, ◌∙◌, subst}
use mathlib.Core.Bool.{or-false}
use Rattle.am_names.specs.declared.EndpointId.{EndpointId}
use Rattle.am_names.specs.Names.{same_end}
use Rattle.am_office_entries.specs.declared.Event.{Event}
use Rattle.am_office_entries.specs.declared.Event.TheVariants as Events
use Rattle.am_office_entries.specs.declared.Outcome.{Outcome}
use Rattle.am_office_entries.specs.declared.Entry.{Entry}
use Rattle.am_office_entries.specs.Entries.{touches}
use Rattle.am_model.specs.Endpoint.{State}
use Rattle.am_model.specs.Changes.{changed}
use Rattle.am_model.specs.Channels.{Channel, bound_message}
use Rattle.am_model.specs.Layout.{Layout}
use Rattle.am_model.specs.History.{state_of}
use Rattle.am_model.proofs.Each.{state_of_push}
use Rattle.am_model.proofs.Ends.{bound_push}
use Rattle.am_model.proofs.Names.{same_end-is, same_end-refl}
use Rattle.am_model.proofs.Unchanged.{paged_out_body, paged_in_body, paged_out_closed, paged_in_closed}
use Rattle.am_model_drain.specs.Made.{next_entry, after_event, after_event_if}

-- the endpoint that a driver moves
abbrev pub moves : EndpointId → Event → Type 0
moves e (Events.Drain node end) = end ≡ e
moves e (Events.Unload node end) = end ≡ e
moves e (Events.Load node end frame) = end ≡ e
moves e (Events.PageOut node end) = end ≡ e
moves e (Events.PageIn node end) = end ≡ e
moves e event = ⊥

-- all but where the endpoint e lies is as it was
pub record Keeps (layout : Layout) (e : EndpointId) (past next : List Entry) : Type 0 where
  pub others : (f : EndpointId) → same_end f e ≡ false → state_of layout next f ≡ state_of layout past f
  pub body' : (state_of layout next e).body ≡ (state_of layout past e).body
  pub closed' : (state_of layout next e).head.closed ≡ (state_of layout past e).head.closed
  pub bound' : (c : Channel) → bound_message c next ≡ bound_message c past

pub keeps_same : (layout : Layout) (e : EndpointId) (past : List Entry) → Keeps layout e past past
keeps_same layout e past = record { others = λ f apart. refl; body' = refl; closed' = refl; bound' = λ c. refl }

pub keeps_then : (layout : Layout) (e : EndpointId) (past mid next : List Entry) → Keeps layout e past mid → Keeps layout e mid next → Keeps layout e past next
keeps_then layout e past mid next p q =
    record {
      others = λ f apart. q.others f apart ∙ p.others f apart;
      body' = q.body' ∙ p.body';
      closed' = q.closed' ∙ p.closed';
      bound' = λ c. q.bound' c ∙ p.bound' c;
    }

moved_body : (e : EndpointId) (s : State) (event : Event) (o : Outcome) → moves e event → (changed e s event o).body ≡ s.body
moved_body e s (Events.Drain node end) o m = refl
moved_body e s (Events.Unload node end) o m = refl
moved_body e s (Events.Load node end frame) o m = refl
moved_body e s (Events.PageOut node end) o m = paged_out_body s o
moved_body e s (Events.PageIn node end) o m = paged_in_body s o
moved_body e s event o m = absurd m

moved_closed : (e : EndpointId) (s : State) (event : Event) (o : Outcome) → moves e event → (changed e s event o).head.closed ≡ s.head.closed
moved_closed e s (Events.Drain node end) o m = refl
moved_closed e s (Events.Unload node end) o m = refl
moved_closed e s (Events.Load node end frame) o m = refl
moved_closed e s (Events.PageOut node end) o m = paged_out_closed s o
moved_closed e s (Events.PageIn node end) o m = paged_in_closed s o
moved_closed e s event o m = absurd m

-- the endpoint that a move touches is its own
moved_touches : (e f : EndpointId) (layout : Layout) (past : List Entry) (event : Event) → moves e event →
    touches f (next_entry layout past event) ≡ same_end f e
moved_touches e f layout past (Events.Drain node end) m = or-false (same_end f end) ∙ ap (same_end f) m
moved_touches e f layout past (Events.Unload node end) m = or-false (same_end f end) ∙ ap (same_end f) m
moved_touches e f layout past (Events.Load node end frame) m = or-false (same_end f end) ∙ ap (same_end f) m
moved_touches e f layout past (Events.PageOut node end) m = or-false (same_end f end) ∙ ap (same_end f) m
moved_touches e f layout past (Events.PageIn node end) m = or-false (same_end f end) ∙ ap (same_end f) m
moved_touches e f layout past event m = absurd m

-- the endpoint after its move
pub after_move : (e : EndpointId) (layout : Layout) (past : List Entry) (event : Event) → moves e event →
    state_of layout (after_event layout event past) e ≡ changed e (state_of layout past e) event (next_entry layout past event).outcome
after_move e layout past event m =
    state_of_push layout past (next_entry layout past event) e true (moved_touches e e layout past event m ∙ same_end-refl e)

moved_bound : (e : EndpointId) (layout : Layout) (past : List Entry) (event : Event) → moves e event → (c : Channel) →
    bound_message c (after_event layout event past) ≡ bound_message c past
moved_bound e layout past (Events.Drain node end) m c = bound_push c past (next_entry layout past (Events.Drain node end)) false refl
moved_bound e layout past (Events.Unload node end) m c = bound_push c past (next_entry layout past (Events.Unload node end)) false refl
moved_bound e layout past (Events.Load node end frame) m c = bound_push c past (next_entry layout past (Events.Load node end frame)) false refl
moved_bound e layout past (Events.PageOut node end) m c = bound_push c past (next_entry layout past (Events.PageOut node end)) false refl
moved_bound e layout past (Events.PageIn node end) m c = bound_push c past (next_entry layout past (Events.PageIn node end)) false refl
moved_bound e layout past event m c = absurd m

pub move_keeps : (e : EndpointId) (layout : Layout) (past : List Entry) (event : Event) → moves e event → Keeps layout e past (after_event layout event past)
move_keeps e layout past event m =
    record {
      others = λ f apart. state_of_push layout past (next_entry layout past event) f false (moved_touches e f layout past event m ∙ apart);
      body' = ap (λ (s : State). s.body) (after_move e layout past event m)
          ∙ moved_body e (state_of layout past e) event (next_entry layout past event).outcome m;
      closed' = ap (λ (s : State). s.head.closed) (after_move e layout past event m)
          ∙ moved_closed e (state_of layout past e) event (next_entry layout past event).outcome m;
      bound' = moved_bound e layout past event m;
    }

pub move_if_keeps : (b : Bool) (e : EndpointId) (layout : Layout) (past : List Entry) (event : Event) → moves e event →
    Keeps layout e past (after_event_if b layout event past)
move_if_keeps true e layout past event m = move_keeps e layout past event m
move_if_keeps false e layout past event m = keeps_same layout e past

-- ---- the messages of all endpoints

-- what each endpoint holds, which endpoints are closed and what is bound is as it was
pub record Spares (layout : Layout) (past next : List Entry) : Type 0 where
  pub body' : (f : EndpointId) → (state_of layout next f).body ≡ (state_of layout past f).body
  pub closed' : (f : EndpointId) → (state_of layout next f).head.closed ≡ (state_of layout past f).head.closed
  pub bound' : (c : Channel) → bound_message c next ≡ bound_message c past

pub spares_same : (layout : Layout) (past : List Entry) → Spares layout past past
spares_same layout past = record { body' = λ f. refl; closed' = λ f. refl; bound' = λ c. refl }

pub spares_then : (layout : Layout) (past mid next : List Entry) → Spares layout past mid → Spares layout mid next → Spares layout past next
spares_then layout past mid next p q =
    record { body' = λ f. q.body' f ∙ p.body' f; closed' = λ f. q.closed' f ∙ p.closed' f; bound' = λ c. q.bound' c ∙ p.bound' c }

same_part : {X : Type 0} (part : State → X) (layout : Layout) (e f : EndpointId) (past next : List Entry) → Keeps layout e past next →
    part (state_of layout next e) ≡ part (state_of layout past e) → (b : Bool) → same_end f e ≡ b →
    part (state_of layout next f) ≡ part (state_of layout past f)
same_part part layout e f past next k own true is =
    subst (λ (i : EndpointId). part (state_of layout next i) ≡ part (state_of layout past i)) (sym (same_end-is f e is)) own
same_part part layout e f past next k own false is = ap part (k.others f is)

pub spares : (layout : Layout) (e : EndpointId) (past next : List Entry) → Keeps layout e past next → Spares layout past next
spares layout e past next k =
    record {
      body' = λ f. same_part (λ (s : State). s.body) layout e f past next k k.body' (same_end f e) refl;
      closed' = λ f. same_part (λ (s : State). s.head.closed) layout e f past next k k.closed' (same_end f e) refl;
      bound' = k.bound';
    }

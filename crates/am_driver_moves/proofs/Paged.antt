-- A page call on its parts.
use Rattle.std.specs.Prelude.{IfOk, Result, Ok, Err}
use Rattle.std.proofs.Common.{◌≡◌, ◌⊎◌, inl, inr, ℕ, Bool, true, false, List, [], Option, Some, None, refl, sym, ap, ◌∙◌, subst, if◌then◌else◌}
use Rattle.am_model.proofs.PlaceKinds.{on_host_unframed}
use Rattle.am_names.specs.declared.EndpointId.{EndpointId}
use Rattle.am_names.specs.declared.NodeId.{NodeId}
use Rattle.am_office_entries.specs.declared.Event.TheVariants as Events
use Rattle.am_office_entries.specs.declared.Outcome.{Outcome}
use Rattle.am_office_entries.specs.declared.Outcome.TheVariants as Out
use Rattle.am_office_entries.specs.declared.Place.{Place}
use Rattle.am_office_entries.specs.declared.Entry.{Entry}
use Rattle.am_model.specs.Tables.{page_ended}
use Rattle.am_model.specs.Allowed.{MayPageIn, MayPageOut}
use Rattle.am_model.specs.Endpoint.{Body, State, is_on_host}
use Rattle.am_model.specs.Order.{IsInOrder}
use Rattle.am_endpoint_body.specs.Views.{View}
use Rattle.am_swap_device.specs.Causes.{Holding}
use Rattle.am_endpoint.specs.View.{EndpointView, state_after}
use Rattle.am_swap_image.specs.Image.{image}
use Rattle.am_swap_image.specs.Range.{IsInRange}
use Rattle.am_swap_image.specs.Valid.{IsValid}
use Rattle.am_swap.specs.Decoded.{FindsEach}
use Rattle.am_driver_moves.specs.Logs.{EndLog, kept, state_in}
use Rattle.am_driver_moves.specs.Pages.{CanPageIn, CanPageOut}

-- on the host nothing is in flight
pub none_flying : (pool : Option ℕ) (e : EndpointId) (s : State) → IsInOrder pool e s → is_on_host s.head.place ≡ true → s.body.in_flight ≡ []
none_flying pool e s order host = order.grounded (on_host_unframed s.head.place host)

-- so its body is one that it may have on disk
pub body_valid : (pool : Option ℕ) (e : EndpointId) (s : State) → IsInOrder pool e s → is_on_host s.head.place ≡ true → IsInRange s.body → IsValid e pool s.body
body_valid pool e s order host range =
    record { valid = order.valid; within = order.within; none_in_flight = none_flying pool e s order host; in_range = range }

-- the body whose image it is, is found
pub finds : (e : EndpointId) (pool : Option ℕ) (bytes : List ℕ) (b : Body) (found : Option View) → bytes ≡ image b → IsValid e pool b →
    FindsEach e pool bytes found → found ≡ Some (record { pool = pool; body = b; flights = [] })
finds e pool bytes b found is valid each = each (record { pool = pool; body = b; flights = [] }) (record {
  own_pool = refl;
  valid = valid;
  image_is = sym is;
  none_flies = refl;
})

-- a page call is done or failed
pub page_ends : (failed : Bool) (o : Outcome) → o ≡ page_ended failed → (o ≡ Out.Done) ⊎ (o ≡ Out.Failed)
page_ends true o is = inr is
page_ends false o is = inl is

-- the endpoint with its settings and its log
same_kept : (v w : EndpointView) → w.settings ≡ v.settings → w.log ≡ v.log → kept v ≡ kept w
same_kept v w settings log = λ i. record { settings = sym settings i; log = sym log i }

pub may_page_out : (v w : EndpointView) (node : NodeId) (end : EndpointId) (failed : Bool) (x : Entry) → w.settings ≡ v.settings → w.log ≡ v.log →
    CanPageOut node end (kept v) → x.event ≡ Events.PageOut node end → x.outcome ≡ page_ended failed →
    MayPageOut w.settings.node w.settings.id (state_after w) x
may_page_out v w node end failed x settings log can event outcome =
    let may : MayPageOut v.settings.node v.settings.id (state_after v) x = record {
      event = event ∙ λ i. Events.PageOut (can.is_node i) (can.is_end i);
      outcome = page_ends failed x.outcome outcome;
      on_host = can.on_host;
      unclosed = can.opened;
    } in
    subst (λ (d : EndLog). MayPageOut d.settings.node d.settings.id (state_in d) x) (same_kept v w settings log) may

pub may_page_in : (v w : EndpointView) (node : NodeId) (end : EndpointId) (held : Holding) (x : Entry) (o : Outcome) → w.settings ≡ v.settings → w.log ≡ v.log →
    CanPageIn held node end (kept v) → x.event ≡ Events.PageIn node end → x.outcome ≡ o → MayPageIn o w.settings.node w.settings.id (state_after w) x
may_page_in v w node end held x o settings log can event outcome =
    let may : MayPageIn o v.settings.node v.settings.id (state_after v) x = record {
      event = event ∙ λ i. Events.PageIn (can.is_node i) (can.is_end i);
      is_outcome = outcome;
      on_disk = can.on_disk;
    } in
    subst (λ (d : EndLog). MayPageIn o d.settings.node d.settings.id (state_in d) x) (same_kept v w settings log) may

-- the body is that of the endpoint after it made room
pub same_body : (v w : EndpointView) (b : View) → w.settings ≡ v.settings → w.log ≡ v.log →
    b ≡ record { pool = v.settings.pool; body = (state_after v).body; flights = [] } → b ≡ record {
      pool = w.settings.pool;
      body = (state_after w).body;
      flights = b.flights;
    }
same_body v w b settings log is =
    subst (λ (d : EndLog). b ≡ record { pool = d.settings.pool; body = (state_in d).body; flights = b.flights }) (same_kept v w settings log)
    (is ∙ ap (λ (xs : List ℕ). record { pool = v.settings.pool; body = (state_after v).body; flights = xs }) (sym (ap (λ (u : View). u.flights) is)))

-- nothing else is found
pub never_none : (e : EndpointId) (pool : Option ℕ) (bytes : List ℕ) (b : Body) (found : Option View) → bytes ≡ image b → IsValid e pool b →
    FindsEach e pool bytes found → found ≡ None → ⊥
never_none e pool bytes b found is valid each none = let some' = finds e pool bytes b found is valid each in absurd (cc)

pub is_found : (e : EndpointId) (pool : Option ℕ) (bytes : List ℕ) (b : Body) (found : Option View) (w : View) → bytes ≡ image b → IsValid e pool b →
    FindsEach e pool bytes found → found ≡ Some w → w ≡ record { pool = pool; body = b; flights = [] }
is_found e pool bytes b found w is valid each at = let some' = finds e pool bytes b found is valid each in cc

-- what holds of a value holds of what follows from it
pub if_ok : {T E : Type 0} (r : Result T E) (P Q : T → Type 0) → IfOk r P → ((x : T) → P x → Q x) → IfOk r Q
if_ok (Ok x) P Q h f = f x h
if_ok (Err fault) P Q h f = tt

-- the image that is held, told by what was read
pub image_told : (a b : List ℕ) → Some a ≡ Some b → a ≡ b
image_told a b h = cc

-- What a body is after a slot went with its message from list to list.
use Rattle.std.proofs.Common.{◌≡◌, ℕ, ◌+◌, ◌<◌, ◌≤◌, Bool, true, false, cond, List, [], ◌∷◌, ◌++◌, length, drop, Some, None, refl, sym, ap, ◌∙◌, subst, arith}
use Rattle.std.proofs.Common.{if◌then◌else◌, true≢false}
use Rattle.std.specs.Prelude.{IsSome, slice_get, slice_set}
use Rattle.std.specs.Option.{option_map}
use Rattle.std.proofs.lemmas.Option.{get_or_from_slice_get}
use Rattle.am_names.specs.Names.{has_serial, is_reply, is_request}
use Rattle.am_names.specs.declared.Serial.{Serial}
use Rattle.am_names.specs.declared.Why.{Why}
use Rattle.am_block.specs.Pools.{Pools, IsBlock, home, place, size, slots, times, without}
use Rattle.am_block.specs.declared.Descriptor.{Descriptor}
use Rattle.am_block.specs.declared.List.{List as Which}
use Rattle.am_block.specs.declared.List.TheVariants.{Notices, InFlight, Replies, Requests}
use Rattle.am_block.proofs.Callers.{home_is}
use Rattle.am_block.proofs.Fresh.{front-below, one_if, times-cons}
use Rattle.am_block.proofs.Moves.{home-there, times-without}
use Rattle.am_model.specs.declared.Flying.{Flying}
use Rattle.am_model.specs.Changes.{appended, flight_appended, flying_of, notice_of, requeued_flight, requests_left, without_flight}
use Rattle.am_model.specs.Endpoint.{front_of}
use Rattle.am_endpoint_body.specs.Flights.{aloft, flight_noticed, front_aloft, slot_of}
use Rattle.am_endpoint_body.specs.Kept.{IsSound, view_of}
use Rattle.am_endpoint_body.specs.Moves.{changed, first_slot, refiled}
use Rattle.am_endpoint_body.specs.Views.{View, descriptor_at, flying_in, message_in, notice_in, queued_in, seen}
use Rattle.am_endpoint_body.specs.Walks.{is_sought_at}
use Rattle.am_endpoint_body.specs.declared.Body.TheInside.{Inside}
use Rattle.am_endpoint_body.specs.declared.moves.Change.TheVariants as Becomes
use Rattle.am_endpoint_body.specs.declared.walks.Sought.TheVariants as Soughts
use Rattle.am_endpoint_body.proofs.Filed.{same_lists, slot-found, viewed_both}
use Rattle.am_endpoint_body.proofs.Seen.{find-seen, found-times, grown, kept, stands-below, without-front, without-seen}

-- where a slot stands in a list, and in no other

pub record Aloft (p : Pools) (s : ℕ) : Type 0 where
  pub within : s < size p
  pub home : home p s ≡ InFlight
  pub requests : times s p.requests ≡ 0
  pub replies : times s p.replies ≡ 0
  pub notices : times s p.notices ≡ 0
  pub received : times s p.received ≡ 0
  pub left : times s (without s p.in_flight) ≡ 0

aloft_at : (p : Pools) (s : ℕ) → IsBlock p → 1 ≤ times s p.in_flight → Aloft p s
aloft_at p s b some =
    let within = stands-below p InFlight s b some in
    let at = home_is p InFlight s b within some in
    let once = b.once s within in
    let there = subst (λ (w : Which). place s (slots p w) < length (slots p w)) at (home-there p s b within) in
    record {
      within = within;
      home = at;
      requests = omega (arith, once, some);
      replies = omega (arith, once, some);
      notices = omega (arith, once, some);
      received = omega (arith, once, some);
      left = omega (arith, once, some, times-without s s p.in_flight there, one_if s s refl);
    }

record Fronts (p : Pools) (l : Which) (s : ℕ) (rest : List ℕ) : Type 0 where
  within : s < size p
  home : home p s ≡ l
  here : times s (slots p l) ≡ 1 + times s rest
  once : times s p.free + times s p.requests + times s p.replies + times s p.in_flight + times s p.notices + times s p.received ≡ 1

fronts : (p : Pools) (l : Which) (s : ℕ) (rest : List ℕ) → IsBlock p → slots p l ≡ s ∷ rest → Fronts p l s rest
fronts p l s rest b e =
    let within = front-below p l s rest b e in
    let here : times s (slots p l) ≡ 1 + times s rest = ap (times s) e ∙ times-cons s s rest ∙ ap (λ n. n + times s rest) (one_if s s refl) in
    record { within = within; home = home_is p l s b within (omega (arith, here)); here = here; once = b.once s within }

-- a message in flight that goes to another list

-- the slot of a message in flight stands among those in flight
pub flight_at : (serial : Serial) (i : Inside) (v : View) (s : ℕ) → view_of i ≡ v → IsSound i → slot_of serial v.body.in_flight v.flights ≡ Some s →
    Aloft i.block s
flight_at serial i v s e ok at =
    aloft_at i.block s ok.block (found-times (λ t. is_sought_at (Soughts.Of serial) i.block t) i.block.in_flight s (slot-found serial i v s e at))

module _ (serial : Serial) (i : Inside) (v : View) (s : ℕ) (e : view_of i ≡ v) (ok : IsSound i) (at : slot_of serial v.body.in_flight v.flights ≡ Some s) where
  abbrev ds : List Descriptor
  ds = i.block.descriptors

  abbrev d : Descriptor
  d = descriptor_at ds s

  here : Aloft i.block s
  here = flight_at serial i v s e ok at

  told : flying_of serial (view_of i).body.in_flight ≡ Some (flying_in d)
  told =
      find-seen flying_in (λ (f : Flying). has_serial serial f.message) ds i.block.in_flight
      ∙ ap (option_map (λ t. flying_in (descriptor_at ds t))) (slot-found serial i v s e at)

  left_seen : (c : Descriptor) → seen flying_in (slice_set ds s c) (without s i.block.in_flight) ≡ (without_flight serial (view_of i).body).in_flight
  left_seen c =
      kept flying_in ds s c (without s i.block.in_flight) here.left
      ∙ without-seen flying_in (λ (f : Flying). has_serial serial f.message) ds i.block.in_flight s (slot-found serial i v s e at)

  pub noticed_view : (q : Pools) (why : Why) → q ≡ refiled i.block (home i.block s) s Notices (Becomes.Back why) →
      view_of (record i { block = q }) ≡ record v { body = flight_noticed serial why v.body; flights = without s v.flights }
  noticed_view q why is =
      let c = changed (Becomes.Back why) d in
      viewed_both i v q (refiled i.block InFlight s Notices (Becomes.Back why)) (flight_noticed serial why) (λ w. without s w.flights) e
      (is ∙ ap (λ w. refiled i.block w s Notices (Becomes.Back why)) here.home)
      (same_lists (view_of i).body _ _ _ _ _ _ _ _ _ _
      (kept queued_in ds s c i.block.requests here.requests)
      (kept queued_in ds s c i.block.replies here.replies)
      (left_seen c)
      (grown notice_in ds s c i.block.notices here.notices here.within ∙ ap (λ f. seen notice_in ds i.block.notices ++ notice_of why f) (sym told))
      (kept message_in ds s c i.block.received here.received))
      refl

  requeued : (c : Descriptor) (bounces : ℕ) (is : Bool) → is_request d.message ≡ is → c ≡ changed (Becomes.Bounced bounces) d →
      (view_of (record i { block = refiled i.block InFlight s (cond is Requests Replies) (Becomes.Bounced bounces) })).body ≡ requeued_flight
      (flying_of serial (view_of i).body.in_flight) bounces (without_flight serial (view_of i).body)
  requeued c bounces true kind same =
      same_lists (view_of i).body _ _ _ _ _ _ _ _ _ _
      (grown queued_in ds s (changed (Becomes.Bounced bounces) d) i.block.requests here.requests here.within
      ∙ ap (λ b. appended b d.message bounces (seen queued_in ds i.block.requests)) (sym kind)
      ∙ ap (λ f. flight_appended is_request f bounces (seen queued_in ds i.block.requests)) (sym told))
      (kept queued_in ds s (changed (Becomes.Bounced bounces) d) i.block.replies here.replies
      ∙ ap (λ b. appended (if b then false else true) d.message bounces (seen queued_in ds i.block.replies)) (sym kind)
      ∙ ap (λ f. flight_appended is_reply f bounces (seen queued_in ds i.block.replies)) (sym told))
      (left_seen (changed (Becomes.Bounced bounces) d))
      (kept notice_in ds s (changed (Becomes.Bounced bounces) d) i.block.notices here.notices)
      (kept message_in ds s (changed (Becomes.Bounced bounces) d) i.block.received here.received)
  requeued c bounces false kind same =
      same_lists (view_of i).body _ _ _ _ _ _ _ _ _ _
      (kept queued_in ds s (changed (Becomes.Bounced bounces) d) i.block.requests here.requests
      ∙ ap (λ b. appended b d.message bounces (seen queued_in ds i.block.requests)) (sym kind)
      ∙ ap (λ f. flight_appended is_request f bounces (seen queued_in ds i.block.requests)) (sym told))
      (grown queued_in ds s (changed (Becomes.Bounced bounces) d) i.block.replies here.replies here.within
      ∙ ap (λ b. appended (if b then false else true) d.message bounces (seen queued_in ds i.block.replies)) (sym kind)
      ∙ ap (λ f. flight_appended is_reply f bounces (seen queued_in ds i.block.replies)) (sym told))
      (left_seen (changed (Becomes.Bounced bounces) d))
      (kept notice_in ds s (changed (Becomes.Bounced bounces) d) i.block.notices here.notices)
      (kept message_in ds s (changed (Becomes.Bounced bounces) d) i.block.received here.received)

  queue_flights : (bounces : ℕ) (is : Bool) → (refiled i.block InFlight s (cond is Requests Replies) (Becomes.Bounced bounces)).in_flight ≡ without s
      i.block.in_flight
  queue_flights bounces true = refl
  queue_flights bounces false = refl

  pub requeued_view : (q : Pools) (bounces : ℕ) (f : Descriptor) (to : Which) → slice_get ds s ≡ Some f → to ≡ cond (is_request f.message) Requests Replies →
      q ≡ refiled i.block (home i.block s) s to (Becomes.Bounced bounces) →
      view_of (record i { block = q }) ≡ record v {
        body = requeued_flight (flying_of serial v.body.in_flight) bounces (without_flight serial v.body);
        flights = without s v.flights;
      }
  requeued_view q bounces f to read queue is =
      let same : f ≡ d = sym (get_or_from_slice_get ds s f _ read) in
      let goes : to ≡ cond (is_request d.message) Requests Replies = queue ∙ ap (λ (g : Descriptor). cond (is_request g.message) Requests Replies) same in
      viewed_both i v q (refiled i.block InFlight s (cond (is_request d.message) Requests Replies) (Becomes.Bounced bounces))
      (λ b. requeued_flight (flying_of serial b.in_flight) bounces (without_flight serial b)) (λ w. without s w.flights) e
      (is ∙ ap (λ w. refiled i.block w s to (Becomes.Bounced bounces)) here.home ∙ ap (λ w. refiled i.block InFlight s w (Becomes.Bounced bounces)) goes)
      (requeued _ bounces (is_request d.message) refl refl)
      (queue_flights bounces (is_request d.message))

-- the front message, which begins to be in flight

pub some_first : (i : Inside) (v : View) → view_of i ≡ v → IsSome (front_of v.body.replies v.body.requests) →
    None ≡ first_slot i.block.replies i.block.requests → ⊥
some_first i v e some nothing = by_lists i.block.replies i.block.requests (subst (λ (w : View). IsSome (front_of w.body.replies w.body.requests)) (sym e) some)
    nothing
  where
    by_lists : (rs qs : List ℕ) → IsSome (front_of (seen queued_in i.block.descriptors rs) (seen queued_in i.block.descriptors qs)) → None ≡ first_slot rs qs →
        ⊥
    by_lists [] [] there nothing = absurd (true≢false (sym there))
    by_lists [] (x ∷ qs) there nothing = absurd (cc)
    by_lists (x ∷ rs) qs there nothing = absurd (cc)

module _ (i : Inside) (ok : IsSound i) where
  abbrev fs : List Descriptor
  fs = i.block.descriptors

  reply_flown : (s : ℕ) (rest : List ℕ) → i.block.replies ≡ s ∷ rest →
      (view_of (record i { block = refiled i.block Replies s InFlight Becomes.Flies })).body ≡ front_aloft (view_of i).body
  reply_flown s rest is =
      let at = fronts i.block Replies s rest ok.block is in
      let c = changed Becomes.Flies (descriptor_at fs s) in
      same_lists (view_of i).body _ _ _ _ _ _ _ _ _ _
      (kept queued_in fs s c i.block.requests (omega (arith, at.once, at.here))
      ∙ ap (λ xs. requests_left (seen queued_in fs xs) (seen queued_in fs i.block.requests)) (sym is))
      (ap (seen queued_in (slice_set fs s c)) (ap (without s) is ∙ without-front s rest) ∙ kept queued_in fs s c rest (omega (arith, at.once, at.here))
      ∙ ap (λ xs. drop 1 (seen queued_in fs xs)) (sym is))
      (grown flying_in fs s c i.block.in_flight (omega (arith, at.once, at.here)) at.within
      ∙ ap (λ xs. seen flying_in fs i.block.in_flight ++ aloft (front_of (seen queued_in fs xs) (seen queued_in fs i.block.requests))) (sym is))
      (kept notice_in fs s c i.block.notices (omega (arith, at.once, at.here)))
      (kept message_in fs s c i.block.received (omega (arith, at.once, at.here)))

  request_flown : (s : ℕ) (rest : List ℕ) → i.block.replies ≡ [] → i.block.requests ≡ s ∷ rest →
      (view_of (record i { block = refiled i.block Requests s InFlight Becomes.Flies })).body ≡ front_aloft (view_of i).body
  request_flown s rest none is =
      let at = fronts i.block Requests s rest ok.block is in
      let c = changed Becomes.Flies (descriptor_at fs s) in
      same_lists (view_of i).body _ _ _ _ _ _ _ _ _ _
      (ap (seen queued_in (slice_set fs s c)) (ap (without s) is ∙ without-front s rest) ∙ kept queued_in fs s c rest (omega (arith, at.once, at.here))
      ∙ (λ k. requests_left (seen queued_in fs (sym none k)) (seen queued_in fs (sym is k))))
      (kept queued_in fs s c i.block.replies (omega (arith, at.once, at.here)) ∙ ap (seen queued_in fs) none
      ∙ ap (λ xs. drop 1 (seen queued_in fs xs)) (sym none))
      (grown flying_in fs s c i.block.in_flight (omega (arith, at.once, at.here)) at.within
      ∙ (λ k. seen flying_in fs i.block.in_flight ++ aloft (front_of (seen queued_in fs (sym none k)) (seen queued_in fs (sym is k)))))
      (kept notice_in fs s c i.block.notices (omega (arith, at.once, at.here)))
      (kept message_in fs s c i.block.received (omega (arith, at.once, at.here)))

  pub flown_view : (v : View) (q : Pools) (s : ℕ) → view_of i ≡ v → Some s ≡ first_slot i.block.replies i.block.requests →
      q ≡ refiled i.block (home i.block s) s InFlight Becomes.Flies → view_of (record i { block = q }) ≡ record v {
        body = front_aloft v.body;
        flights = v.flights ++ s ∷ [];
      }
  flown_view v q s e first is = by_lists i.block.replies i.block.requests refl refl first
    where
      as_viewed : (l : Which) → home i.block s ≡ l → (view_of (record i { block = refiled i.block l s InFlight Becomes.Flies })).body ≡ front_aloft
          (view_of i).body → (refiled i.block l s InFlight Becomes.Flies).in_flight ≡ i.block.in_flight ++ s ∷ [] →
          view_of (record i { block = q }) ≡ record v { body = front_aloft v.body; flights = v.flights ++ s ∷ [] }
      as_viewed l at to there =
          viewed_both i v q (refiled i.block l s InFlight Becomes.Flies) front_aloft (λ w. w.flights ++ s ∷ []) e (is
          ∙ ap (λ w. refiled i.block w s InFlight Becomes.Flies) at) to there

      by_lists : (rs qs : List ℕ) → i.block.replies ≡ rs → i.block.requests ≡ qs → Some s ≡ first_slot rs qs →
          view_of (record i { block = q }) ≡ record v { body = front_aloft v.body; flights = v.flights ++ s ∷ [] }
      by_lists [] [] none without no_first = absurd (cc)
      by_lists [] (x ∷ rest) none there named =
          let same : x ≡ s = cc in
          let there_s : i.block.requests ≡ s ∷ rest = there ∙ ap (λ y. y ∷ rest) same in
          as_viewed Requests (fronts i.block Requests s rest ok.block there_s).home (request_flown s rest none there_s) refl
      by_lists (x ∷ rest) qs there others named =
          let same : x ≡ s = cc in
          let there_s : i.block.replies ≡ s ∷ rest = there ∙ ap (λ y. y ∷ rest) same in
          as_viewed Replies (fronts i.block Replies s rest ok.block there_s).home (reply_flown s rest there_s) refl

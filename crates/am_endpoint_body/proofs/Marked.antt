-- A body whose request in flight is answered.
use Rattle.std.specs.Prelude.{slice_get, slice_set}
use Rattle.std.specs.Option.{option_map}
use Rattle.std.proofs.lemmas.Option.{get_or_from_slice_get}
use Rattle.std.proofs.Common.{◌≡◌, ℕ, ◌+◌, ◌<◌, ◌≤◌, List, [], ◌∷◌, length, map, Option, None, Some, refl, sym, ap, ◌∙◌, subst, arith}
use Rattle.std.proofs.Math.ListN.{length-set}
use Rattle.std.proofs.lemmas.List.{get_or-set_same, get_or-set_other}
use Rattle.am_names.specs.declared.Serial.{Serial}
use Rattle.am_block.specs.Pools.{Pools, IsBlock, behind, home, place, size, slots, standings, times, with_descriptor}
use Rattle.am_block.specs.Walk.{from_slot, StandsIn}
use Rattle.am_block.specs.declared.List.TheVariants.{InFlight}
use Rattle.am_block.specs.declared.Slot.{Slot}
use Rattle.am_block.proofs.Callers.{walk-after}
use Rattle.am_block.proofs.Moves.{IsBlock-with_descriptor}
use Rattle.am_block.specs.declared.Descriptor.{Descriptor}
use Rattle.am_block.proofs.Fresh.{below-get, one_if, times-cons}
use Rattle.am_model.specs.Changes.{marked}
use Rattle.am_endpoint_body.specs.Kept.{IsSound, view_of}
use Rattle.am_endpoint_body.specs.Views.{View, blank, descriptor_at, flying_in, message_in, notice_in, queued_in, seen}
use Rattle.am_endpoint_body.specs.Walks.{answered_at, answered_by}
use Rattle.am_endpoint_body.specs.declared.Body.TheInside.{Inside}
use Rattle.am_endpoint_body.proofs.Filed.{same_lists, viewed}
use Rattle.am_endpoint_body.proofs.Seen.{kept}

pub length-answered : (r : Serial) (xs : List ℕ) (ds : List Descriptor) → length (answered_at r xs ds) ≡ length ds
length-answered r [] ds = refl
length-answered r (x ∷ xs) ds = let d = answered_by r (descriptor_at ds x) in length-answered r xs (slice_set ds x d) ∙ length-set ds x d

-- another slot keeps its descriptor
untouched : (r : Serial) (xs : List ℕ) (ds : List Descriptor) (t : ℕ) → times t xs ≡ 0 → descriptor_at (answered_at r xs ds) t ≡ descriptor_at ds t
untouched r [] ds t none = refl
untouched r (x ∷ xs) ds t none =
    let d = answered_by r (descriptor_at ds x) in
    let step = times-cons t x xs in
    let apart : t ≡ x → ⊥ = λ e. let one = one_if x t (sym e) in omega arith in
    untouched r xs (slice_set ds x d) t (omega arith) ∙ get_or-set_other ds x t d blank apart

-- other slots are seen as before
untouched-seen : {X : Type 0} (f : Descriptor → X) (r : Serial) (xs : List ℕ) (ds : List Descriptor) (ys : List ℕ) → ((t : ℕ) → times t ys + times t xs ≤ 1) →
    seen f (answered_at r xs ds) ys ≡ seen f ds ys
untouched-seen f r xs ds [] apart = refl
untouched-seen f r xs ds (y ∷ ys) apart =
    ap (λ d. f d ∷ seen f (answered_at r xs ds) ys) (untouched r xs ds y (omega (arith, apart y, times-cons y y ys, one_if y y refl)))
    ∙ ap (λ zs. f (descriptor_at ds y) ∷ zs) (untouched-seen f r xs ds ys (λ t. omega (arith, apart t, times-cons t y ys)))

-- the slots themselves are seen as marked
marked-seen : (r : Serial) (xs : List ℕ) (ds : List Descriptor) → ((t : ℕ) → times t xs ≤ 1) → ((t : ℕ) → length ds ≤ t → times t xs ≡ 0) →
    seen flying_in (answered_at r xs ds) xs ≡ map (marked r) (seen flying_in ds xs)
marked-seen r [] ds once within = refl
marked-seen r (x ∷ xs) ds once within =
    let d = answered_by r (descriptor_at ds x) in
    let written = slice_set ds x d in
    let one = one_if x x refl in
    let step = times-cons x x xs in
    let alone : times x xs ≡ 0 = omega (arith, once x) in
    let lt : x < length ds = grind (arith, within x, step, one) in
    let head : descriptor_at (answered_at r xs written) x ≡ d = untouched r xs written x alone ∙ get_or-set_same ds x d blank lt in
    let long : length written ≡ length ds = length-set ds x d in
    let rest = marked-seen r xs written (λ t. omega (arith, once t, times-cons t x xs)) (λ t le. let none = within t (omega arith) in
    omega (arith, times-cons t x xs)) in
    ap (λ e. flying_in e ∷ seen flying_in (answered_at r xs written) xs) head
    ∙ ap (λ zs. flying_in d ∷ zs) (rest ∙ ap (map (marked r)) (kept flying_in ds x d xs alone))

stands_once : (p : Pools) → IsBlock p → (t : ℕ) → standings p t ≤ 1
stands_once p b t = grind (arith, b.once t, b.no_other t)

answered_body : (r : Serial) (i : Inside) → IsSound i → (view_of
    (record i { block = record i.block { descriptors = answered_at r i.block.in_flight i.block.descriptors } })).body ≡ record (view_of i).body {
      in_flight =
          map (marked r) (view_of i).body.in_flight;
    }
answered_body r i ok =
    let p = i.block in
    let once = stands_once p ok.block in
    same_lists (view_of i).body _ _ _ _ _ _ _ _ _ _
    (untouched-seen queued_in r p.in_flight p.descriptors p.requests (λ t. omega (arith, once t)))
    (untouched-seen queued_in r p.in_flight p.descriptors p.replies (λ t. omega (arith, once t)))
    (marked-seen r p.in_flight p.descriptors (λ t. omega (arith, once t)) (λ t le. omega (arith, ok.block.no_other t le)))
    (untouched-seen notice_in r p.in_flight p.descriptors p.notices (λ t. omega (arith, once t)))
    (untouched-seen message_in r p.in_flight p.descriptors p.received (λ t. omega (arith, once t)))

pub flight_answered : (r : Serial) (i : Inside) (v : View) (q : Pools) → view_of i ≡ v → IsSound i →
    q ≡ record i.block { descriptors = answered_at r i.block.in_flight i.block.descriptors } →
    view_of (record i { block = q }) ≡ record v { body = record v.body { in_flight = map (marked r) v.body.in_flight } }
flight_answered r i v q e ok is =
    viewed i v q (record i.block { descriptors = answered_at r i.block.in_flight i.block.descriptors })
    (λ b. record b { in_flight = map (marked r) b.in_flight }) e is (answered_body r i ok) refl

-- a walk along the messages in flight that answers them

-- the block where those from this slot on are answered
abbrev pub answered_from : Serial → Pools → Option Slot → Pools
answered_from r p next = record p { descriptors = answered_at r (from_slot p.in_flight next) p.descriptors }

-- where every one of them is answered
abbrev pub all_answered : Serial → Pools → Pools
all_answered r p = record p { descriptors = answered_at r p.in_flight p.descriptors }

pub flight_below : (p : Pools) (next : Option Slot) (s : Slot) → IsBlock p → next ≡ Some s → StandsIn p.in_flight next → s.0 < size p
flight_below p next s b is stands =
    let P : Option Slot → Type 0 = λ o. StandsIn p.in_flight o in
    below-get p InFlight (place s.0 p.in_flight) s.0 b (subst P is stands)

pub written_below : (p : Pools) (next : Option Slot) (s : Slot) (d : Descriptor) → IsBlock p → next ≡ Some s → StandsIn p.in_flight next →
    s.0 < size (with_descriptor p s.0 d)
written_below p next s d b is stands =
    let same : size (with_descriptor p s.0 d) ≡ size p = length-set p.descriptors s.0 d in
    omega (arith, same, flight_below p next s b is stands)

-- what a step of the walk leaves
pub record Stepped (r : Serial) (p q o : Pools) (next after : Option Slot) : Type 0 where
  pub block : IsBlock q
  pub stands : StandsIn q.in_flight after
  pub answered : answered_from r q after ≡ o
  pub shorter : length (from_slot p.in_flight next) ≡ length (from_slot q.in_flight after) + 1

pub answer_step : (r : Serial) (p o : Pools) (next after : Option Slot) (s : Slot) (x d : Descriptor) → IsBlock p → next ≡ Some s → StandsIn p.in_flight next →
    slice_get p.descriptors s.0 ≡ Some x → d ≡ answered_by r x →
    option_map (λ t. t.0) after ≡ behind s.0 (slots (with_descriptor p s.0 d) (home (with_descriptor p s.0 d) s.0)) → answered_from r p next ≡ o →
    Stepped r p (with_descriptor p s.0 d) o next after
answer_step r p o next after s x d b is stands at told behind_it before =
    let q = with_descriptor p s.0 d in
    let P : Option Slot → Type 0 = λ t. StandsIn p.in_flight t in
    let step = walk-after q InFlight s after (IsBlock-with_descriptor p s.0 d b) (subst P is stands) behind_it in
    let path = ap (λ t. from_slot p.in_flight t) is ∙ step.0 in
    let wrote : answered_by r (descriptor_at p.descriptors s.0) ≡ d = ap (answered_by r) (get_or_from_slice_get p.descriptors s.0 x blank at) ∙ sym told in
    let here : answered_from r p next ≡ answered_from r q after =
    ap (λ xs. record p { descriptors = answered_at r xs p.descriptors }) path
    ∙ ap (λ e. record p { descriptors = answered_at r (from_slot p.in_flight after) (slice_set p.descriptors s.0 e) }) wrote in
    record {
      block = IsBlock-with_descriptor p s.0 d b;
      stands = step.1;
      answered = sym here ∙ before;
      shorter = let e = ap length path in omega arith;
    }

pub answer_end : (r : Serial) (p o : Pools) (next : Option Slot) → next ≡ None → answered_from r p next ≡ o → p ≡ o
answer_end r p o next is e = sym (ap (λ n. answered_from r p n) is) ∙ e

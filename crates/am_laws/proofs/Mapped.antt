-- The mapped indexes of an endpoint are what its calls made them.
use Rattle.std.specs.Prelude.{unwrap_or, nat_le, nat_lt, replicate, is_some, is_none, slice_set}
use Rattle.std.proofs.Common.{◌≡◌, ◌==◌, ℕ, ◌<◌, Bool, true, false, cond, List, [], ◌∷◌, ◌++◌, length, Option, Some, None, refl, sym, ap, ◌∙◌, subst, arith}
use Rattle.std.proofs.Common.{eqb-true, leb-false, ltb-false, ltb-true, true≢false, if◌then◌else◌}
use Rattle.std.proofs.lemmas.Bool.{eqb-false}
use Rattle.std.proofs.lemmas.List.{get_or-set_same, get_or-set_other, length-set, get_or-replicate, get_or_past, length-replicate}
use Rattle.std.specs.List.{list_any, find}
use Rattle.am_names.specs.declared.EndpointId.{EndpointId}
use Rattle.am_office_entries.specs.declared.Actor.{Actor}
use Rattle.am_office_entries.specs.declared.Call.{Call}
use Rattle.am_office_entries.specs.declared.Call.TheVariants as Calls
use Rattle.am_office_entries.specs.declared.Event.{Event}
use Rattle.am_office_entries.specs.declared.Event.TheVariants as Events
use Rattle.am_office_entries.specs.declared.Outcome.{Outcome}
use Rattle.am_office_entries.specs.declared.Outcome.TheVariants as Out
use Rattle.am_office_entries.specs.declared.Refusal.{Refusal}
use Rattle.am_office_entries.specs.declared.Refusal.TheVariants as No
use Rattle.am_office_entries.specs.declared.Entry.{Entry}
use Rattle.am_names.specs.Names.{same_end}
use Rattle.am_model.specs.declared.Mapping.{Mapping}
use Rattle.am_model.specs.Endpoint.{State, entry_at}
use Rattle.am_model.specs.Calls.{outcome_of_call, unless, map_refusal, unmap_refusal}
use Rattle.am_model.specs.Changes.{called, changed}
use Rattle.am_office_entries.specs.Entries.{touches, ends_touched}
use Rattle.am_model.specs.Layout.{Layout, EndSetting, has_id, opening_by}
use Rattle.am_model.specs.History.{state_of, MayFollow}
use Rattle.am_model.specs.PostOffice.{mapping_set, mapping_of}
use Rattle.am_model.proofs.Each.{state_of_push}
use Rattle.am_model.proofs.Received.{one_touched, FitsCall}
use Rattle.am_model.proofs.Books.{not_touched, fits_call}
use Rattle.am_model.proofs.Own.{Own, own_kept, is_call, last_given_push}

-- a list of conditions of which none holds
past_three : (a b c : Bool) (x y z : Refusal) (rest : Option Refusal) → cond a (Some x) (cond b (Some y) (cond c (Some z) rest)) ≡ None → b ≡ false
past_three true b c x y z rest h = absurd (cc)
past_three false true c x y z rest h = absurd (cc)
past_three false false c x y z rest h = refl

unless_done : (r : Option Refusal) → unless r Out.Done ≡ Out.Done → r ≡ None
unless_done None h = refl
unless_done (Some r) h = absurd (cc)

-- an index that a call maps, or no longer maps, is one of the table
abbrev pub IsInTable : Call → Outcome → Type 0
IsInTable (Calls.Map index name tag credits) Out.Done = index < 16
IsInTable (Calls.Unmap index) Out.Done = index < 16
IsInTable call o = Unit {0}

map_in_table : (pool : Option ℕ) (s : State) (index credits : ℕ) → map_refusal pool s index credits ≡ None → index < 16
map_in_table pool s index credits h =
    leb-false 16 index
    (past_three s.head.closed (nat_le 16 index) (is_some (entry_at s.body.mapped index)) No.Closed No.BadIndex No.InUse _ h)

unmap_in_table : (s : State) (index : ℕ) → unmap_refusal s index ≡ None → index < 16
unmap_in_table s index h =
    leb-false 16 index
    (past_three s.head.closed (nat_le 16 index) (is_none (entry_at s.body.mapped index)) No.Closed No.BadIndex No.NotMapped _ h)

pub in_table : (pool : Option ℕ) (end : EndpointId) (s : State) (c : Call) → IsInTable c (outcome_of_call pool end s c)
in_table pool end s (Calls.Map index name tag credits) = by_refusal (map_refusal pool s index credits) refl
  where
    by_refusal : (r : Option Refusal) → map_refusal pool s index credits ≡ r → IsInTable (Calls.Map index name tag credits) (unless r Out.Done)
    by_refusal None is = map_in_table pool s index credits is
    by_refusal (Some r) is = tt
in_table pool end s (Calls.Unmap index) = by_refusal (unmap_refusal s index) refl
  where
    by_refusal : (r : Option Refusal) → unmap_refusal s index ≡ r → IsInTable (Calls.Unmap index) (unless r Out.Done)
    by_refusal None is = unmap_in_table s index is
    by_refusal (Some r) is = tt
in_table pool end s (Calls.Request index handler words) = tt
in_table pool end s Calls.Poll = tt
in_table pool end s (Calls.SetTag tag) = tt
in_table pool end s (Calls.SetHandler index kind) = tt
in_table pool end s (Calls.GiveUp serial) = tt
in_table pool end s Calls.Close = tt
in_table pool end s (Calls.Test mask) = tt

pub set_entry : (xs : List (Option Mapping)) (at index : ℕ) (v : Option Mapping) → at < length xs →
    entry_at (slice_set xs at v) index ≡ unwrap_or (if index == at then Some v else None) (entry_at xs index)
set_entry xs at index v low = by_test (index == at) refl
  where
    by_test : (t : Bool) → (index == at) ≡ t → entry_at (slice_set xs at v) index ≡ unwrap_or (if t then Some v else None) (entry_at xs index)
    by_test true h = let same : index ≡ at = eqb-true index at h in rw same (get_or-set_same xs at v None low)
    by_test false h = get_or-set_other xs at index v None (eqb-false index at h)

called_mapped : (e : EndpointId) (s : State) (c : Call) (o : Outcome) (actor : Actor) (end : EndpointId) (index : ℕ) → same_end e end ≡ true →
    length s.body.mapped ≡ 16 → IsInTable c o → entry_at (called s c o).body.mapped index ≡ unwrap_or (mapping_set e index (Events.Call actor end c) o)
    (entry_at s.body.mapped index)
called_mapped e s (Calls.Request at handler words) (Out.Requested m) actor end index on size low = refl
called_mapped e s Calls.Poll (Out.Zero serial why) actor end index on size low = refl
called_mapped e s Calls.Poll (Out.Ran handler m None) actor end index on size low = refl
called_mapped e s Calls.Poll (Out.Ran handler m (Some reply)) actor end index on size low = refl
called_mapped e s (Calls.SetTag tag) Out.Done actor end index on size low = refl
called_mapped e s (Calls.Map at name tag credits) Out.Done actor end index on size low =
    rw on (set_entry s.body.mapped at index (Some (record { name = name; tag = tag; credits = credits })) (omega (arith, size, low)))
called_mapped e s (Calls.Unmap at) Out.Done actor end index on size low = rw on (set_entry s.body.mapped at index None (omega (arith, size, low)))
called_mapped e s (Calls.SetHandler at kind) Out.Done actor end index on size low = refl
called_mapped e s (Calls.GiveUp serial) Out.Done actor end index on size low = refl
called_mapped e s Calls.Close Out.Done actor end index on size low = refl
called_mapped e s c o actor end index on size low = refl

pub called_size : (s : State) (c : Call) (o : Outcome) → length (called s c o).body.mapped ≡ length s.body.mapped
called_size s (Calls.Request at handler words) (Out.Requested m) = refl
called_size s Calls.Poll (Out.Zero serial why) = refl
called_size s Calls.Poll (Out.Ran handler m None) = refl
called_size s Calls.Poll (Out.Ran handler m (Some reply)) = refl
called_size s (Calls.SetTag tag) Out.Done = refl
called_size s (Calls.Map at name tag credits) Out.Done = length-set s.body.mapped at (Some (record { name = name; tag = tag; credits = credits }))
called_size s (Calls.Unmap at) Out.Done = length-set s.body.mapped at None
called_size s (Calls.SetHandler at kind) Out.Done = refl
called_size s (Calls.GiveUp serial) Out.Done = refl
called_size s Calls.Close Out.Done = refl
called_size s c o = refl

mapping_only_call : (e : EndpointId) (index : ℕ) (event : Event) (o : Outcome) → is_call event ≡ false → mapping_set e index event o ≡ None
mapping_only_call e index (Events.Call actor end call) o h = absurd (true≢false h)
mapping_only_call e index event o h = refl

mapping_untouched : (e : EndpointId) (index : ℕ) (event : Event) (o : Outcome) → list_any (same_end e) (ends_touched event o) ≡ false →
    mapping_set e index event o ≡ None
mapping_untouched e index (Events.Call actor end (Calls.Map at name tag credits)) Out.Done t =
    let off : same_end e end ≡ false = not_touched (same_end e end) t in rw off refl
mapping_untouched e index (Events.Call actor end (Calls.Unmap at)) Out.Done t = let off : same_end e end ≡ false = not_touched (same_end e end) t in rw off refl
mapping_untouched e index event o t = refl

fits_table : (pool : Option ℕ) (s : State) (actor : Actor) (end : EndpointId) (c : Call) (o : Outcome) → FitsCall pool s (Events.Call actor end c) o →
    IsInTable c o
fits_table pool s actor end c o fits = subst (λ (v : Outcome). IsInTable c v) (sym fits) (in_table pool end s c)

touched_mapped : (pool : Option ℕ) (e : EndpointId) (s : State) (event : Event) (o : Outcome) (index : ℕ) →
    list_any (same_end e) (ends_touched event o) ≡ true → FitsCall pool s event o → length s.body.mapped ≡ 16 →
    entry_at (changed e s event o).body.mapped index ≡ unwrap_or (mapping_set e index event o) (entry_at s.body.mapped index)
touched_mapped pool e s (Events.Call actor end call) o index t fits size =
    called_mapped e s call o actor end index (one_touched (same_end e end) t) size (fits_table pool s actor end call o fits)
touched_mapped pool e s event o index t fits size = ap (λ (w : Own). entry_at w.mapped index) (own_kept e s event o refl)
    ∙ ap (λ (w : Option (Option Mapping)). unwrap_or w (entry_at s.body.mapped index)) (sym (mapping_only_call e index event o refl))

touched_size : (e : EndpointId) (s : State) (event : Event) (o : Outcome) → length (changed e s event o).body.mapped ≡ length s.body.mapped
touched_size e s (Events.Call actor end call) o = called_size s call o
touched_size e s event o = ap (λ (w : Own). length w.mapped) (own_kept e s event o refl)

-- the table of each endpoint has its size, and each index is mapped as it was last
pub record IsMapped (layout : Layout) (past : List Entry) : Type 0 where
  pub size : (e : EndpointId) → length (state_of layout past e).body.mapped ≡ 16
  pub mapped : (e : EndpointId) (index : ℕ) → entry_at (state_of layout past e).body.mapped index ≡ mapping_of past e index

pub mapped_more : (layout : Layout) (past : List Entry) (x : Entry) → IsMapped layout past → MayFollow layout past x → IsMapped layout (past ++ x ∷ [])
mapped_more layout past x k may = record { size = λ e. size e (touches e x) refl; mapped = λ e index. entry e index (touches e x) refl }
  where
    size : (e : EndpointId) (t : Bool) → touches e x ≡ t → length (state_of layout (past ++ x ∷ []) e).body.mapped ≡ 16
    size e true at = rw (state_of_push layout past x e true at) (touched_size e (state_of layout past e) x.event x.outcome ∙ k.size e)
    size e false at = rw (state_of_push layout past x e false at) (k.size e)

    entry : (e : EndpointId) (index : ℕ) (t : Bool) → touches e x ≡ t →
        entry_at (state_of layout (past ++ x ∷ []) e).body.mapped index ≡ mapping_of (past ++ x ∷ []) e index
    entry e index true at =
        rw (state_of_push layout past x e true at)
        (touched_mapped layout.pool e (state_of layout past e) x.event x.outcome index at (fits_call layout past e x may at) (k.size e)
        ∙ ap (unwrap_or (mapping_set e index x.event x.outcome)) (k.mapped e index)
        ∙ sym (last_given_push None (λ y. mapping_set e index y.event y.outcome) past x))
    entry e index false at =
        rw (state_of_push layout past x e false at)
        (k.mapped e index
        ∙ ap (λ (w : Option (Option Mapping)). unwrap_or w (mapping_of past e index)) (sym (mapping_untouched e index x.event x.outcome at))
        ∙ sym (last_given_push None (λ y. mapping_set e index y.event y.outcome) past x))

none_at : (n index : ℕ) → entry_at {X = Mapping} (replicate n None) index ≡ None
none_at n index = by_test (nat_lt index n) refl
  where
    by_test : (t : Bool) → nat_lt index n ≡ t → entry_at {X = Mapping} (replicate n None) index ≡ None
    by_test true h = get_or-replicate n index None None (ltb-true index n h)
    by_test false h = get_or_past (replicate n None) index None (omega (arith, ltb-false index n h, length-replicate {A = Option Mapping} n None))

pub mapped_begin : (layout : Layout) → IsMapped layout []
mapped_begin layout = record { size = λ e. size (find (has_id e) layout.ends); mapped = λ e index. entry (find (has_id e) layout.ends) index }
  where
    size : (setting : Option EndSetting) → length (opening_by layout setting).body.mapped ≡ 16
    size None = length-replicate {A = Option Mapping} 16 None
    size (Some setting) = length-replicate {A = Option Mapping} 16 None

    entry : (setting : Option EndSetting) (index : ℕ) → entry_at (opening_by layout setting).body.mapped index ≡ None
    entry None index = none_at 16 index
    entry (Some setting) index = none_at 16 index

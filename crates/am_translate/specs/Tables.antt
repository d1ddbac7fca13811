-- A translation table: where the requests of each index go, and the records of the requests whose replies are awaited.
use Rattle.std.specs.Prelude.{◌≡◌, ℕ, ◌<◌, ◌≤◌, ◌==◌, Bool, true, false, not, nat_le, Option, None, is_none, is_some, IsSome, List, [], ◌∷◌, ◌++◌, length}
use Rattle.std.specs.Prelude.{replicate, slice_set, count_by}
use Rattle.std.specs.List.{list_all, list_any}
use Rattle.std.specs.Option.{option_map}
use Rattle.am_names.specs.declared.Serial.{Serial}
use Rattle.am_office_entries.specs.declared.Place.TheVariants.{Host}
use Rattle.am_model.specs.declared.Awaited.{Awaited}
use Rattle.am_model.specs.declared.Mapping.{Mapping}
use Rattle.am_model.specs.Choice.{first_holding}
use Rattle.am_model.specs.Endpoint.{Body, entry_at, fresh, waits_for}
use Rattle.am_model.specs.Calls.{records_at as records_of, has_no_credit, is_over_share, shares}
use Rattle.am_model.specs.Changes.{is_of}
use Rattle.am_model.specs.Valid.{has_arrived, is_mapping_in_range}
use Rattle.am_translate.specs.declared.Target.{Target}
use Rattle.am_translate.specs.declared.MapFault.{MapFault}
use Rattle.am_translate.specs.declared.MapFault.TheVariants as MapFaults
use Rattle.am_translate.specs.declared.UnmapFault.{UnmapFault}
use Rattle.am_translate.specs.declared.UnmapFault.TheVariants as UnmapFaults
use Rattle.am_translate.specs.declared.CreditFault.{CreditFault}
use Rattle.am_translate.specs.declared.CreditFault.TheVariants as CreditFaults

-- the pool, if there is one; what each index is mapped to; and the records in order of acceptance
pub record Table : Type 0 where
  pub pool : Option ℕ
  pub mapped : List (Option Mapping)
  pub awaited : List Awaited

-- a table where nothing is mapped and nothing is awaited
abbrev pub empty_table : Option ℕ → Table
empty_table pool = record { pool = pool; mapped = replicate 16 None; awaited = [] }

-- the body of an endpoint that has this table and nothing else
abbrev pub body_with : Table → Body
body_with t = record (fresh (record { 0 = 0 }) Host).body { mapped = t.mapped; awaited = t.awaited }

-- how many records an index has
abbrev pub records_at : Table → ℕ → ℕ
records_at t index = records_of (body_with t) index

-- what keeps an index from being mapped with this share
abbrev pub map_fault : Table → ℕ → ℕ → Option MapFault
map_fault t index share =
    first_holding (
    (nat_le 16 index, MapFaults.BadIndex)
    ∷ (is_some (entry_at t.mapped index), MapFaults.InUse)
    ∷ (is_over_share t.pool (body_with t) share, MapFaults.OverShare (shares (body_with t)))
    ∷ [])

-- what keeps an index from being unmapped
abbrev pub unmap_fault : Table → ℕ → Option UnmapFault
unmap_fault t index =
    first_holding (
    (nat_le 16 index, UnmapFaults.BadIndex)
    ∷ (is_none (entry_at t.mapped index), UnmapFaults.NotMapped)
    ∷ (not (records_at t index == 0), UnmapFaults.Outstanding (records_at t index))
    ∷ [])

-- what keeps a request from being made by an index
abbrev pub credit_fault : Table → ℕ → Option CreditFault
credit_fault t index =
    first_holding (
    (nat_le 16 index, CreditFaults.BadIndex)
    ∷ (is_none (entry_at t.mapped index), CreditFaults.NotMapped)
    ∷ (has_no_credit t.pool (body_with t) index (entry_at t.mapped index), CreditFaults.NoCredit)
    ∷ (nat_le 32 (length t.awaited), CreditFaults.TableFull)
    ∷ [])

-- the index is one of the 16, and is mapped
abbrev pub IsMapped : Table → ℕ → Type 0
IsMapped t index = (index < 16) × IsSome (entry_at t.mapped index)

-- the index is one of the 16, and is not mapped
abbrev pub IsUnmapped : Table → ℕ → Type 0
IsUnmapped t index = (index < 16) × (entry_at t.mapped index ≡ None)

-- the index is free, and the shares of the mapped indexes, which come to this sum, leave no room for the new one
pub record IsOverShare (t : Table) (index share sum : ℕ) : Type 0 where
  pub unmapped : IsUnmapped t index
  pub sum_is : sum ≡ shares (body_with t)
  pub over : is_over_share t.pool (body_with t) share ≡ true

-- the index is mapped, and has so many records, one at least
pub record HasRecords (t : Table) (index count : ℕ) : Type 0 where
  pub mapped : IsMapped t index
  pub count_is : count ≡ records_at t index
  pub some : 1 ≤ count

-- the index is mapped, and has no credit left: its own, or its share with the pool empty
pub record HasNoCredit (t : Table) (index : ℕ) : Type 0 where
  pub mapped : IsMapped t index
  pub spent : has_no_credit t.pool (body_with t) index (entry_at t.mapped index) ≡ true

-- the index is mapped and has a credit left, and there are 32 records
pub record IsFullFor (t : Table) (index : ℕ) : Type 0 where
  pub mapped : IsMapped t index
  pub credit : has_no_credit t.pool (body_with t) index (entry_at t.mapped index) ≡ false
  pub full : 32 ≤ length t.awaited

abbrev pub target_of : Mapping → Target
target_of mapping = record { name = mapping.name; tag = mapping.tag }

-- where the requests of an index go, if it is mapped
abbrev pub target_at : Table → ℕ → Option Target
target_at t index = option_map target_of (entry_at t.mapped index)

-- the same, with its credits
abbrev pub mapped_at : Table → ℕ → Option (Target × ℕ)
mapped_at t index = option_map (λ (mapping : Mapping). (target_of mapping, mapping.credits)) (entry_at t.mapped index)

abbrev pub with_mapping : Table → ℕ → Option Mapping → Table
with_mapping t index mapping = record t { mapped = slice_set t.mapped index mapping }

abbrev pub with_awaited : Table → List Awaited → Table
with_awaited t awaited = record t { awaited = awaited }

-- one more record, which waits
abbrev pub with_record : Table → ℕ → Serial → Table
with_record t index serial = with_awaited t (t.awaited ++ record { index = index; serial = serial; arrived = false } ∷ [])

-- whether some record is of this request
abbrev pub is_known : Table → Serial → Bool
is_known t request = list_any (is_of request) t.awaited

-- whether the request's record waits
abbrev pub is_waiting : Table → Serial → Bool
is_waiting t request = list_any (waits_for request) t.awaited

-- whether the request's record has arrived
abbrev pub is_answered : Table → Serial → Bool
is_answered t request = list_any (has_arrived request) t.awaited

-- there are 16 indexes, whose credits are in range, and at most 32 records, at most one for each request
pub record IsTable (t : Table) : Type 0 where
  pub indexes : length t.mapped ≡ 16
  pub credits : list_all (is_mapping_in_range t.pool) t.mapped ≡ true
  pub few : length t.awaited ≤ 32
  pub once : (request : Serial) → count_by (is_of request) t.awaited ≤ 1

-- A table's fault, and what the machine's rules refuse for it.
use Rattle.std.proofs.Common.{◌≡◌, ℕ, ◌+◌, Bool, true, false, cond, ◌&&◌, List, [], ◌∷◌, Option, Some, None, refl, sym, ap, ◌∙◌, length, ◌==◌}
use Rattle.std.specs.Prelude.{nat_le, not, is_none, is_some}
use Rattle.std.specs.Option.{option_map}
use Rattle.am_office_entries.specs.declared.Refusal.{Refusal}
use Rattle.am_office_entries.specs.declared.Refusal.TheVariants as No
use Rattle.am_model.specs.declared.Mapping.{Mapping}
use Rattle.am_model.specs.Choice.{first_holding}
use Rattle.am_model.specs.Endpoint.{entry_at, requests_held}
use Rattle.am_model.specs.Calls.{excess_at, excess_from, has_no_credit, is_over_share, map_refusal, records_at, request_refusal, shares, unmap_refusal}
use Rattle.am_translate.specs.Tables.{body_with, credit_fault, map_fault, unmap_fault}
use Rattle.am_translate.specs.declared.CreditFault.{CreditFault}
use Rattle.am_translate.specs.declared.CreditFault.TheVariants as CreditFaults
use Rattle.am_translate.specs.declared.MapFault.{MapFault}
use Rattle.am_translate.specs.declared.MapFault.TheVariants as MapFaults
use Rattle.am_translate.specs.declared.UnmapFault.{UnmapFault}
use Rattle.am_translate.specs.declared.UnmapFault.TheVariants as UnmapFaults
use Rattle.am_endpoint_body.specs.declared.Body.TheInside.{Inside}
use Rattle.am_endpoint_body.specs.Kept.{view_of}
use Rattle.am_endpoint_body.specs.Refusals.{of_credit, of_map, of_unmap}
use Rattle.am_endpoint_body.specs.Views.{View, on_host, table_of}

-- the records above the shares are those of the table alone
excess_same : (v : View) (i : ℕ) (xs : List (Option Mapping)) → excess_from (body_with (table_of v)) i xs ≡ excess_from v.body i xs
excess_same v i [] = refl
excess_same v i (None ∷ xs) = ap (λ n. 0 + n) (excess_same v (i + 1) xs)
excess_same v i (Some m ∷ xs) = ap (λ n. excess_at v.body i (Some m) + n) (excess_same v (i + 1) xs)

credit_same : (pool : Option ℕ) (v : View) (index : ℕ) (m : Option Mapping) →
    has_no_credit pool (body_with (table_of v)) index m ≡ has_no_credit pool v.body index m
credit_same pool v index None = refl
credit_same None v index (Some m) = refl
credit_same (Some pool) v index (Some m) = ap (λ n. nat_le m.credits (records_at v.body index) && (n == pool)) (excess_same v 0 v.body.mapped)

share_same : (pool : Option ℕ) (v : View) (share : ℕ) → is_over_share pool (body_with (table_of v)) share ≡ is_over_share pool v.body share
share_same None v share = refl
share_same (Some pool) v share = refl

map_tests : (a b c : Bool) (n : ℕ) → first_holding ((a, No.BadIndex) ∷ (b, No.InUse) ∷ (c, No.OverShare n) ∷ []) ≡ option_map of_map
    (first_holding ((a, MapFaults.BadIndex) ∷ (b, MapFaults.InUse) ∷ (c, MapFaults.OverShare n) ∷ []))
map_tests true b c n = refl
map_tests false true c n = refl
map_tests false false true n = refl
map_tests false false false n = refl

pub map_refused : (v : View) (index share : ℕ) → option_map of_map (map_fault (table_of v) index share) ≡ map_refusal v.pool (on_host v.body) index share
map_refused v index share =
    sym (map_tests (nat_le 16 index) (is_some (entry_at v.body.mapped index)) (is_over_share v.pool (body_with (table_of v)) share) (shares v.body))
    ∙ ap (λ over. first_holding ((nat_le 16 index, No.BadIndex) ∷ (is_some (entry_at v.body.mapped index), No.InUse) ∷ (
      over,
      No.OverShare (shares v.body),
    ) ∷ [])) (share_same v.pool v share)

unmap_tests : (a b c : Bool) (n : ℕ) → first_holding ((a, No.BadIndex) ∷ (b, No.NotMapped) ∷ (c, No.Outstanding n) ∷ []) ≡ option_map of_unmap
    (first_holding ((a, UnmapFaults.BadIndex) ∷ (b, UnmapFaults.NotMapped) ∷ (c, UnmapFaults.Outstanding n) ∷ []))
unmap_tests true b c n = refl
unmap_tests false true c n = refl
unmap_tests false false true n = refl
unmap_tests false false false n = refl

pub unmap_refused : (v : View) (index : ℕ) → option_map of_unmap (unmap_fault (table_of v) index) ≡ unmap_refusal (on_host v.body) index
unmap_refused v index =
    sym (unmap_tests (nat_le 16 index) (is_none (entry_at v.body.mapped index)) (not (records_at v.body index == 0)) (records_at v.body index))

-- the refusal of a request whose endpoint has a tag, by the fault of its table
abbrev pub after_fault : Option CreditFault → Bool → Option Refusal
after_fault None full = cond full (Some No.SendFull) None
after_fault (Some fault) full = Some (of_credit fault)

credit_tests : (a b c d full : Bool) → first_holding ((a, No.BadIndex) ∷ (b, No.NotMapped) ∷ (c, No.NoCredit) ∷ (d, No.TableFull) ∷ (full, No.SendFull) ∷ []) ≡
    after_fault (first_holding ((a, CreditFaults.BadIndex) ∷ (b, CreditFaults.NotMapped) ∷ (c, CreditFaults.NoCredit) ∷ (d, CreditFaults.TableFull) ∷ [])) full
credit_tests true b c d full = refl
credit_tests false true c d full = refl
credit_tests false false true d full = refl
credit_tests false false false true full = refl
credit_tests false false false false full = refl

pub request_refused : (v : View) (index : ℕ) → cond (v.body.tag.0 == 0) (Some No.OwnTagNone)
    (after_fault (credit_fault (table_of v) index) (nat_le 16 (requests_held v.body))) ≡ request_refusal v.pool (on_host v.body) index
request_refused v index =
    ap (cond (v.body.tag.0 == 0) (Some No.OwnTagNone))
    (sym (credit_tests (nat_le 16 index) (is_none (entry_at v.body.mapped index)) (has_no_credit v.pool (body_with (table_of v)) index
    (entry_at v.body.mapped index)) (nat_le 32 (length v.body.awaited)) (nat_le 16 (requests_held v.body)))
    ∙ ap (λ c. first_holding ((nat_le 16 index, No.BadIndex) ∷ (is_none (entry_at v.body.mapped index), No.NotMapped) ∷ (
      c,
      No.NoCredit,
    ) ∷ (nat_le 32 (length v.body.awaited), No.TableFull) ∷ (nat_le 16 (requests_held v.body), No.SendFull) ∷ []))
    (credit_same v.pool v index (entry_at v.body.mapped index)))

-- a fault of the table that a body has, and what the body refuses

pub map_told : (i : Inside) (v : View) (index share : ℕ) (f : Option MapFault) → view_of i ≡ v → f ≡ map_fault i.translate index share →
    option_map of_map f ≡ map_refusal v.pool (on_host v.body) index share
map_told i v index share f e is =
    ap (option_map of_map) is ∙ map_refused (view_of i) index share ∙ ap (λ (w : View). map_refusal w.pool (on_host w.body) index share) e

pub unmap_told : (i : Inside) (v : View) (index : ℕ) (f : Option UnmapFault) → view_of i ≡ v → f ≡ unmap_fault i.translate index →
    option_map of_unmap f ≡ unmap_refusal (on_host v.body) index
unmap_told i v index f e is =
    ap (option_map of_unmap) is ∙ unmap_refused (view_of i) index ∙ ap (λ (w : View). unmap_refusal (on_host w.body) index) e

-- of an endpoint that has a tag
pub credit_told : (v : View) (index : ℕ) (f : Option CreditFault) (full : Bool) → (v.body.tag.0 == 0) ≡ false → f ≡ credit_fault (table_of v) index →
    full ≡ nat_le 16 (requests_held v.body) → after_fault f full ≡ request_refusal v.pool (on_host v.body) index
credit_told v index f full tagged is held =
    ap (λ t. cond t (Some No.OwnTagNone) (after_fault f full)) (sym tagged)
    ∙ ap (λ g. cond (v.body.tag.0 == 0) (Some No.OwnTagNone) (after_fault g full)) is
    ∙ ap (λ w. cond (v.body.tag.0 == 0) (Some No.OwnTagNone) (after_fault (credit_fault (table_of v) index) w)) held
    ∙ request_refused v index

pub untagged : (v : View) (index : ℕ) → (v.body.tag.0 == 0) ≡ true → Some No.OwnTagNone ≡ request_refusal v.pool (on_host v.body) index
untagged v index none =
    ap (λ t. cond t (Some No.OwnTagNone) (after_fault (credit_fault (table_of v) index) (nat_le 16 (requests_held v.body)))) (sym none)
    ∙ request_refused v index

-- What a loop over the entries of a history makes, entry by entry.
use Rattle.std.specs.Prelude.{slice_index_or, IfSome}
use Rattle.std.specs.Borrow.{Bor}
use Rattle.std.proofs.Common.{◌≡◌, ℕ, ◌+◌, ◌<◌, List, [], ◌∷◌, ◌++◌, length, take, drop, sym, ap, ◌∙◌, subst, arith}
use Rattle.std.proofs.lemmas.List.{take-append-drop, take_more}
use Rattle.am_names.specs.declared.Packet.{Packet}
use Rattle.am_office_entries.specs.declared.Entry.{Entry}
use Rattle.am_office_entries.specs.Entries.{emitted_of}
use Rattle.am_office_entries.specs.Logged.Behind.{entries_behind}
use Rattle.am_office_entries.proofs.Entries.{behind_at, behind_next, length_behind}
use Rattle.am_model.specs.History.{IsHistory, MayFollow}
use Rattle.am_model.specs.Layout.{IsLawful, Layout}
use Rattle.am_model.proofs.Each.{each_front}
use Rattle.am_model.specs.Packets.{receiver_of, from_of}
use Rattle.am_scenario_plan.specs.declared.plan.PlanLine.{PlanLine}
use Rattle.am_cluster_scripted.specs.Links.{AreFed, Released}
use Rattle.am_cluster_scripted.specs.Scripted.{fed_by}
use Rattle.am_cluster_scripted.proofs.Growing.{fed_after, goes_from, goes_to}

-- the entries of a history up to one of them are a history
prefix : (layout : Layout) (xs : List Entry) (i : ℕ) (d : Entry) → i < length xs → IsHistory layout xs →
    IsHistory layout (take i xs ++ slice_index_or xs i d ∷ [])
prefix layout xs i d lt history =
    each_front (MayFollow layout) [] (take i xs ++ slice_index_or xs i d ∷ []) (drop (i + 1) xs)
    (subst (λ (l : List Entry). IsHistory layout l) (sym (take-append-drop (i + 1) xs)
    ∙ ap (λ (l : List Entry). l ++ drop (i + 1) xs) (take_more xs i d lt)) history)

within : (xs : List (Bor Entry)) (i : ℕ) → i < length xs → i < length (entries_behind xs)
within xs i lt = let e = length_behind xs in omega (arith, e, lt)

-- those behind references, up to one of them
prefix_behind : (layout : Layout) (xs : List (Bor Entry)) (i : ℕ) (d : Bor Entry) → i < length xs → IsHistory layout (entries_behind xs) →
    IsHistory layout (take i (entries_behind xs) ++ (slice_index_or xs i d).now ∷ [])
prefix_behind layout xs i d lt history =
    subst (λ (x : Entry). IsHistory layout (take i (entries_behind xs) ++ x ∷ [])) (behind_at xs i d d.now lt)
    (prefix layout (entries_behind xs) i d.now (within xs i lt) history)

pub from_at : (layout : Layout) (xs : List (Bor Entry)) (i : ℕ) (d : Bor Entry) → IsLawful layout → IsHistory layout (entries_behind xs) → i < length xs →
    IfSome (emitted_of (slice_index_or xs i d).now) (λ (p : Packet). (from_of p).0 < 16)
from_at layout xs i d ok history lt =
    goes_from layout (take i (entries_behind xs)) (slice_index_or xs i d).now ok (prefix_behind layout xs i d lt history)

pub to_at : (layout : Layout) (xs : List (Bor Entry)) (i : ℕ) (d : Bor Entry) → IsLawful layout → IsHistory layout (entries_behind xs) → i < length xs →
    IfSome (emitted_of (slice_index_or xs i d).now) (λ (p : Packet). (receiver_of p).0 < 16)
to_at layout xs i d ok history lt =
    goes_to layout (take i (entries_behind xs)) (slice_index_or xs i d).now ok (prefix_behind layout xs i d lt history)

pub fed_step : (layout : Layout) (plan lines : List PlanLine) (xs : List (Bor Entry)) (i : ℕ) (d : Bor Entry) (rs new : List Released) → IsLawful layout →
    IsHistory layout (entries_behind xs) → i < length xs → AreFed plan (take i (entries_behind xs)) rs → lines ≡ plan →
    new ≡ fed_by lines (emitted_of (slice_index_or xs i d).now) rs → AreFed plan (take (i + 1) (entries_behind xs)) new
fed_step layout plan lines xs i d rs new ok history lt fed same is =
    subst (λ (l : List Entry). AreFed plan l new) (sym (behind_next xs i d lt))
    (subst (λ (l : List Released). AreFed plan (take i (entries_behind xs) ++ (slice_index_or xs i d).now ∷ []) l) (sym (is
    ∙ ap (λ (ps : List PlanLine). fed_by ps (emitted_of (slice_index_or xs i d).now) rs) same))
    (fed_after layout plan (take i (entries_behind xs)) rs (slice_index_or xs i d).now ok (prefix_behind layout xs i d lt history) fed))

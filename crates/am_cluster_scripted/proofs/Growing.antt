-- What is kept beside a cluster after one entry more.
use Rattle.std.specs.Prelude.{IfSome, MatchOption}
use Rattle.std.proofs.Common.{◌≡◌, ◌+◌, ◌<◌, List, [], ◌∷◌, ◌++◌, length, Option, Some, None, refl, sym, ap, ◌∙◌}
use Rattle.std.proofs.Common.{subst, arith}
use Rattle.am_names.specs.declared.Packet.{Packet}
use Rattle.am_names.specs.declared.Packet.TheVariants as Packets
use Rattle.am_office_entries.specs.declared.Outcome.{Outcome}
use Rattle.am_office_entries.specs.declared.Entry.{Entry}
use Rattle.am_office_entries.specs.Entries.{emitted_in, emitted_of}
use Rattle.am_model.specs.Channels.{emitted}
use Rattle.am_model.specs.History.{IsHistory, MayFollow}
use Rattle.am_model.specs.Layout.{IsLawful, Layout}
use Rattle.am_model.proofs.Each.{each_at}
use Rattle.am_model.specs.Packets.{receiver_of, from_of}
use Rattle.am_model.specs.Packets as numbers
use Rattle.am_model_parts.specs.Numbered.{HasNextNumber}
use Rattle.am_model_parts.proofs.Numbering.{history_numbered}
use Rattle.am_scenario_plan.specs.declared.plan.PlanLine.{PlanLine}
use Rattle.am_scenario_plan.specs.Shape.{number_of}
use Rattle.am_machine.proofs.Between.{IsBetween, emits_between}
use Rattle.am_cluster_scripted.specs.Links.{AreFed, Released}
use Rattle.am_cluster_scripted.specs.Scripted.{fed_by}
use Rattle.am_cluster_scripted.proofs.Emitting.{fed_none, fed_numbered}

-- ---- packets

-- the packet that the last entry of a history emits, if it emits one, has the next number of its link
pub record IsNextOn (layout : Layout) (past : List Entry) (p : Packet) : Type 0 where
  pub between : IsBetween layout p
  pub number : number_of p ≡ length (emitted (from_of p) (receiver_of p) past) + 1

same_number : (p : Packet) → numbers.number_of p ≡ number_of p
same_number (Packets.Parcel p) = refl
same_number (Packets.Answer p) = refl

pub next_on : (layout : Layout) (past : List Entry) (x : Entry) (p : Packet) → IsLawful layout → IsHistory layout (past ++ x ∷ []) → emitted_of x ≡ Some p →
    IsNextOn layout past p
next_on layout past x p ok history is =
    record {
      between = emits_between layout past x.stamp x.event ok may.in_range p (ap (λ (o : Outcome). emitted_in x.stamp x.event o) (sym may.outcome) ∙ is);
      number = sym (same_number p) ∙ subst (λ (o : Option Packet). MatchOption o (Unit {0}) (HasNextNumber past)) is numbered;
    }
  where
    may : MayFollow layout past x
    may = each_at (MayFollow layout) [] past x [] history

    numbered : MatchOption (emitted_of x) (Unit {0}) (HasNextNumber past)
    numbered = each_at (λ (before : List Entry) (y : Entry). MatchOption (emitted_of y) (Unit {0}) (HasNextNumber before)) [] past x []
        (history_numbered layout (past ++ x ∷ []) history)

-- so it goes between two of 16 nodes
pub goes_from : (layout : Layout) (past : List Entry) (x : Entry) → IsLawful layout → IsHistory layout (past ++ x ∷ []) →
    IfSome (emitted_of x) (λ (p : Packet). (from_of p).0 < 16)
goes_from layout past x ok history = by_packet (emitted_of x) refl
  where
    by_packet : (o : Option Packet) → emitted_of x ≡ o → IfSome o (λ (p : Packet). (from_of p).0 < 16)
    by_packet None is = tt
    by_packet (Some p) is =
        let next = (next_on layout past x p ok history is).between.from in
        let few = ok.nodes.1 in
        omega (arith, next, few)

pub goes_to : (layout : Layout) (past : List Entry) (x : Entry) → IsLawful layout → IsHistory layout (past ++ x ∷ []) →
    IfSome (emitted_of x) (λ (p : Packet). (receiver_of p).0 < 16)
goes_to layout past x ok history = by_packet (emitted_of x) refl
  where
    by_packet : (o : Option Packet) → emitted_of x ≡ o → IfSome o (λ (p : Packet). (receiver_of p).0 < 16)
    by_packet None is = tt
    by_packet (Some p) is =
        let next = (next_on layout past x p ok history is).between.to in
        let few = ok.nodes.1 in
        omega (arith, next, few)

-- ---- links

pub fed_after : (layout : Layout) (plan : List PlanLine) (past : List Entry) (rs : List Released) (x : Entry) → IsLawful layout →
    IsHistory layout (past ++ x ∷ []) → AreFed plan past rs → AreFed plan (past ++ x ∷ []) (fed_by plan (emitted_of x) rs)
fed_after layout plan past rs x ok history fed = by_packet (emitted_of x) refl
  where
    by_packet : (o : Option Packet) → emitted_of x ≡ o → AreFed plan (past ++ x ∷ []) (fed_by plan o rs)
    by_packet None is = fed_none plan past rs x fed is
    by_packet (Some p) is =
        let next = next_on layout past x p ok history is in
        let from = next.between.from in
        let to = next.between.to in
        let few = ok.nodes.1 in
        fed_numbered plan past rs x p fed is (omega (arith, from, few)) (omega (arith, to, few)) next.number

-- The way of a packet that is emitted, if one is.
use Rattle.std.specs.Prelude.{IfSome, option_map}
use Rattle.std.proofs.Common.{◌≡◌, List, Option, Some, None, refl, ap, subst}
use Rattle.am_names.specs.declared.Packet.{Packet}
use Rattle.am_scenario_plan.specs.declared.plan.PlanLine.{PlanLine}
use Rattle.am_cluster_scripted.specs.Links.{Released}
use Rattle.am_cluster_scripted.specs.Scripted.{fed_by, fed_on}
use Rattle.am_names.specs.Packets.{way_of}
use Rattle.am_names.specs.declared.Way.{Way}

-- what holds of the packet's way holds of the way that is told
pub holds_on : (P : Way → Type 0) (o : Option Packet) (w : Way) → Some w ≡ option_map way_of o → IfSome o (λ (p : Packet). P (way_of p)) → P w
holds_on P None w is held = absurd (cc)
holds_on P (Some p) w is held = let same : way_of p ≡ w = cc in subst (λ (v : Way). P v) same held

-- the packet goes on that way
pub fed_there : (plan : List PlanLine) (o : Option Packet) (w : Way) (rs : List Released) → Some w ≡ option_map way_of o → fed_on plan w rs ≡ fed_by plan o rs
fed_there plan None w rs is = absurd (cc)
fed_there plan (Some p) w rs is = let same : w ≡ way_of p = cc in ap (λ (v : Way). fed_on plan v rs) same

-- and none goes where no way is told
pub fed_nowhere : (plan : List PlanLine) (o : Option Packet) (rs : List Released) → ◌≡◌ {A = Option Way} None (option_map way_of o) → rs ≡ fed_by plan o rs
fed_nowhere plan None rs is = refl
fed_nowhere plan (Some p) rs is = absurd (cc)

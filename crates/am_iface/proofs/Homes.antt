-- The homes of endpoints are nodes of the cluster.
use Rattle.std.specs.Prelude.{IfSome}
use Rattle.std.proofs.Common.{◌≡◌, ℕ, ◌<◌, length, get_or, Option, sym, subst}
use Rattle.std.proofs.lemmas.List.Elements.{All-get_or}
use Rattle.am_names.specs.declared.NodeId.{NodeId}
use Rattle.am_iface.specs.Kept.{IsCounted, view_of}
use Rattle.am_iface.specs.View.{InterfaceView}
use Rattle.am_iface.specs.declared.Interface.TheInside.{Inside}

pub home_within : (i : Inside) (v : InterfaceView) (k : ℕ) (home : Option NodeId) → view_of i ≡ v → IsCounted i → k < length i.homes.items →
    home ≡ get_or i.homes.items k home → IfSome home (λ (node : NodeId). node.0 < v.settings.nodes)
home_within i v k home seen is below at =
    subst (λ (w : InterfaceView). IfSome home (λ (node : NodeId). node.0 < w.settings.nodes)) seen
    (subst (λ (h : Option NodeId). IfSome h (λ (node : NodeId). node.0 < i.limits.nodes)) (sym at)
    (All-get_or (λ (h : Option NodeId). IfSome h (λ (node : NodeId). node.0 < i.limits.nodes)) i.homes.items k home below is.lawful.homes))

use Rattle.std.proofs.Common.{◌≡◌, ap, subst, ◌∙◌}
use Rattle.am_iface.specs.Settings.{AreLawful}
use Rattle.am_iface.specs.View.{InterfaceView}
use Rattle.am_iface.proofs.Interface.settings.Goals as goal

pub returns : goal.returns
returns c =
    let limits = c.self.inside.limits in
    let homes : c.in_ok-from_slice.field-0.items ≡ c.self.inside.homes.items = c.in_ok-from_slice.ensures.items ∙ c.deref.ensures.value in
    record {
      settings =
          (λ j. record {
            node = limits.node;
            nodes = limits.nodes;
            channels = limits.channels;
            tries = limits.tries;
            bounces = limits.bounces;
            log = limits.log;
            homes = homes j;
          })
          ∙ ap (λ (w : InterfaceView). w.settings) c.self.view_is;
      lawful = subst (λ (w : InterfaceView). AreLawful w.settings) c.self.view_is c.self.invariant.lawful;
    }

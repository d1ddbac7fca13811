use Rattle.std.proofs.Common.{◌++◌, Option, ap, ◌∙◌, sym}
use Rattle.std.specs.Option.{option_to_list}
use Rattle.std.specs.Global.{Vec}
use Rattle.am_endpoint.specs.View.{EndpointView}
use Rattle.am_machine.proofs.Gatherers.{last_taken}
use Rattle.am_machine.proofs.node.gathering.last_of.Goals as goal

pub returns : goal.returns
returns c =
    last_taken c.args.groups.now.items c.args.node c.unwrap.result c.index_mut.result.now c.pop.new.self c.requires.within
    (ap (λ (v : Vec EndpointView). v.items) (sym c.index_mut.ensures.value) ∙ c.pop.ensures.items
    ∙ ap (λ (o : Option EndpointView). c.pop.new.self.items ++ option_to_list o) c.unwrap.ensures)

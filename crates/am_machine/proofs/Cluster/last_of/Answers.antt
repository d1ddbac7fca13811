use Rattle.std.proofs.Common.{sym, ap, ◌∙◌}
use Rattle.am_office_entries.specs.declared.Event.{Event}
use Rattle.am_office_entries.specs.Entries.{node_touched}
use Rattle.am_machine.specs.Lasts.{end_named}
use Rattle.am_machine.proofs.LastMade as lasts
use Rattle.am_machine.proofs.Cluster.last_of.Goals as goal

pub returns-in-Some : goal.returns-in-Some
returns-in-Some c past x is same =
    c.last_there.ensures past x is (ap (λ (e : Event). end_named e) same ∙ sym c.end_named.ensures ∙ c.in-Some.is)

pub returns-in-Some-node_named : goal.returns-in-Some-node_named
returns-in-Some-node_named c past x is same =
    c.last_here.ensures past x is (ap (λ (e : Event). node_touched e) same ∙ sym c.node_named.ensures ∙ c.in-Some-node_named.is)

pub returns-in-None-node_named : goal.returns-in-None-node_named
returns-in-None-node_named c past x is same =
    absurd (lasts.goes_somewhere c.args.event.now (sym c.end_named.ensures ∙ c.in-None.is) (sym c.node_named.ensures ∙ c.in-None-node_named.is))

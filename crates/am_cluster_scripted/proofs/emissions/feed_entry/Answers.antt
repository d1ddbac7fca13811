use Rattle.std.proofs.Common.{◌<◌, ◌∙◌, map}
use Rattle.am_office_entries.specs.Entries.{emitted_of}
use Rattle.am_cluster_scripted.specs.Links.{released_in}
use Rattle.am_names.specs.declared.Way.{Way}
use Rattle.am_cluster_scripted.proofs.Ways.{fed_nowhere, fed_there, holds_on}
use Rattle.am_cluster_scripted.proofs.emissions.feed_entry.Goals as goal

pub feed_way-requires-clause-from : goal.feed_way-requires-clause-from
feed_way-requires-clause-from c = holds_on (λ (w : Way). w.from.0 < 16) (emitted_of c.args.entry.now) c.in-Some.way c.in-Some.ensures c.requires.from

pub feed_way-requires-clause-to : goal.feed_way-requires-clause-to
feed_way-requires-clause-to c = holds_on (λ (w : Way). w.to.0 < 16) (emitted_of c.args.entry.now) c.in-Some.way c.in-Some.ensures c.requires.to

pub returns-in-Some-clause-fed : goal.returns-in-Some-clause-fed
returns-in-Some-clause-fed c =
    c.feed_way.ensures.fed
    ∙ fed_there c.args.plan.now (emitted_of c.args.entry.now) c.in-Some.way (map released_in c.args.links.now.all.items) c.in-Some.ensures

pub returns-in-None-clause-fed : goal.returns-in-None-clause-fed
returns-in-None-clause-fed c =
    fed_nowhere c.args.plan.now (emitted_of c.args.entry.now) (map released_in c.args.links.now.all.items) c.in-None.ensures

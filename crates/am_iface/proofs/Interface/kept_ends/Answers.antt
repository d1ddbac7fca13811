use Rattle.am_iface.proofs.Readings as reads
use Rattle.am_iface.proofs.Interface.kept_ends.Goals as goal

pub returns : goal.returns
returns c =
    reads.ends_seen c.self.inside c.args.self.now c.args.peer c.args.channel c.index.result.now c.self.view_is c.self.invariant c.requires.peer
    c.requires.channel c.index.ensures

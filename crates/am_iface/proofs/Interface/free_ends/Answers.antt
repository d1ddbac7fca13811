use Rattle.std.proofs.Common.{◌<◌, ◌≤◌, length, ◌+◌, ◌*◌, arith, rules}
use Rattle.std.proofs.lemmas.List.Sums.{count_by-le-length}
use Rattle.am_office_entries.specs.declared.Entry.{Entry}
use Rattle.am_model.specs.Channels.{binds, sequence}
use Rattle.am_model_parts.specs.Interface.{channel_in}
use Rattle.am_iface.specs.View.{own}
use Rattle.am_iface.proofs.Entering as entering
use Rattle.am_iface.proofs.Frees as frees
use Rattle.am_iface.proofs.Readings as readings
use Rattle.am_iface.proofs.Interface.free_ends.Goals as goal

pub returns-clause-within : goal.returns-clause-within
returns-clause-within c =
    let v = c.args.self.now in
    let found = frees.free_found v.settings.node c.args.peer v.log 0 v.settings.channels c.args.channel c.requires.free in
    omega (arith, found.0)

pub returns-clause-counted : goal.returns-clause-counted
returns-clause-counted c =
    let v = c.args.self.now in
    let found = frees.free_found v.settings.node c.args.peer v.log 0 v.settings.channels c.args.channel c.requires.free in
    readings.ends_seen c.self.inside v c.args.peer c.args.channel c.index.result.now c.self.view_is c.self.invariant c.requires.peer (omega (arith, found.0))
    c.index.ensures

pub returns-clause-idle : goal.returns-clause-idle
returns-clause-idle c =
    let v = c.args.self.now in
    let found = frees.free_found v.settings.node c.args.peer v.log 0 v.settings.channels c.args.channel c.requires.free in
    let counted = readings.ends_seen c.self.inside v c.args.peer c.args.channel c.index.result.now c.self.view_is c.self.invariant c.requires.peer
    (omega (arith, found.0)) c.index.ensures in
    frees.idle_end (channel_in (own v) c.args.peer c.args.channel) v.log c.index.result.now.sending.bound counted.bound found.1

pub returns-clause-room : goal.returns-clause-room
returns-clause-room c =
    let v = c.args.self.now in
    let found = frees.free_found v.settings.node c.args.peer v.log 0 v.settings.channels c.args.channel c.requires.free in
    let counted = readings.ends_seen c.self.inside v c.args.peer c.args.channel c.index.result.now c.self.view_is c.self.invariant c.requires.peer
    (omega (arith, found.0)) c.index.ensures in
    let at = channel_in (own v) c.args.peer c.args.channel in
    let short : sequence at v.log ≤ length v.log = count_by-le-length (λ (x : Entry). binds at x.event x.outcome) v.log in
    omega (arith, short, counted.seq, entering.log_within c.self.inside v c.self.view_is c.self.invariant)

pub index-requires : goal.index-requires
index-requires c =
    let v = c.args.self.now in
    let found = frees.free_found v.settings.node c.args.peer v.log 0 v.settings.channels c.args.channel c.requires.free in
    let within : 4 * c.args.peer.0 + c.args.channel < length c.self.inside.ends.items =
    entering.ends_within c.self.inside v c.args.peer c.args.channel c.self.view_is c.self.invariant c.requires.peer (omega (arith, found.0)) in
    search rules

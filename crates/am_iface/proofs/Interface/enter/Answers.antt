use Rattle.std.proofs.Common.{◌≡◌, true, is_some, refl, ◌<◌, [], ◌∷◌, ◌++◌, length, get_or, arith}
use Rattle.am_office_entries.specs.Entries.{emitted_of}
use Rattle.am_iface.proofs.Entering as entering
use Rattle.am_iface.proofs.Interface.enter.Goals as goal

pub write-requires-clause-count : goal.write-requires-clause-count
write-requires-clause-count c =
    let counts = c.self.inside.emissions.items in
    omega (
      arith,
      entering.count_within c.self.inside c.args.self.now c.args.peer (get_or counts c.args.peer.0 0) true c.self.view_is c.self.invariant
          c.requires.peer (entering.read_same counts c.args.peer.0 0),
    )

pub invariant_of-self-2 : goal.invariant_of-self-2
invariant_of-self-2 c =
    let items : c.write.new.log.items ≡ c.self.inside.log.items ++ c.args.entry.now ∷ [] = cc in
    let room : length c.self.inside.log.items < c.self.inside.limits.log = omega (arith, c.len.ensures) in
    entering.entered_seen c.self.inside c.args.self.now c.args.peer c.args.channel c.args.ends.now c.args.entry.now (is_some (emitted_of c.args.entry.now)) c.write.new.all.items
    c.write.new.emissions.items c.write.new.log.items c.self.view_is c.self.invariant c.requires.peer c.requires.channel room c.requires.made
    (record { emits = refl; ends = c.write.ensures.ends; emissions = c.write.ensures.emissions; log = items })

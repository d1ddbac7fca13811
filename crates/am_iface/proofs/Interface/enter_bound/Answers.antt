use Rattle.std.specs.Prelude.{Err}
use Rattle.std.proofs.Common.{◌≡◌, true, is_some, refl, ◌<◌, [], ◌∷◌, ◌++◌, length, get_or, sym, ap, ◌∙◌, subst, arith}
use Rattle.am_channel.specs.declared.ends.Ends.{Ends}
use Rattle.am_model_parts.specs.Interface.{channel_in}
use Rattle.am_iface.specs.Made.{IsMade}
use Rattle.am_iface.specs.View.{InterfaceView, own}
use Rattle.am_model.specs.declared.EntryFault.TheVariants as Faults
use Rattle.am_office_entries.specs.Entries.{emitted_of}
use Rattle.am_iface.proofs.Entering as entering
use Rattle.am_iface.proofs.Interface.enter_bound.Goals as goal

pub returns-in-Err-clause-full : goal.returns-in-Err-clause-full
returns-in-Err-clause-full c =
    λ p. (
      (λ h. (c.in-Err.ensures.full p).0 (let same : c.in-Err.fault ≡ Faults.LogFull p = cc in ap Err same)),
      (λ h. let full = (c.in-Err.ensures.full p).1 h in let same : c.in-Err.fault ≡ Faults.LogFull p = cc in ap Err same),
    )

pub write-requires-clause-count : goal.write-requires-clause-count
write-requires-clause-count c =
    let counts = c.self.inside.emissions.items in
    omega (
      arith,
      entering.count_within c.self.inside c.args.self.now c.args.peer (get_or counts c.args.peer.0 0) true c.self.view_is c.self.invariant
          c.requires.peer (entering.read_same counts c.args.peer.0 0),
    )

pub invariant_of-self-2 : goal.invariant_of-self-2
invariant_of-self-2 c =
    let v = c.args.self.now in
    let items : c.write.new.log.items ≡ c.self.inside.log.items ++ c.args.entry.now ∷ [] = cc in
    let room : length c.self.inside.log.items < c.self.inside.limits.log =
    subst (λ (w : InterfaceView). length w.log < w.settings.log) (sym c.self.view_is) c.in_default.ensures.here in
    let made = subst (λ (ends : Ends). IsMade (channel_in (own v) c.args.peer c.args.channel) v.log ends c.args.entry.now) (sym c.bind.ensures)
    (c.requires.made c.take.result) in
    entering.entered_seen c.self.inside v c.args.peer c.args.channel c.bind.new.ends c.args.entry.now (is_some (emitted_of c.args.entry.now)) c.write.new.all.items
    c.write.new.emissions.items c.write.new.log.items c.self.view_is c.self.invariant c.requires.peer c.requires.channel room made
    (record { emits = refl; ends = c.write.ensures.ends; emissions = c.write.ensures.emissions; log = items })

pub returns-clause-flights : goal.returns-clause-flights
returns-clause-flights c = (c.take.result.0, c.take.ensures.flights ∙ ap (λ xs. xs ++ c.take.result.0 ∷ []) c.make_room.ensures.flights)

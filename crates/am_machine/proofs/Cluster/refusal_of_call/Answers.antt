use Rattle.std.proofs.Common.{◌≡◌, false, true, map, position, Some, None, sym, ap, ◌∙◌}
use Rattle.am_office_entries.specs.declared.Condition.TheVariants as Needs
use Rattle.am_office_entries.specs.declared.Event.TheVariants as Events
use Rattle.am_office_entries.specs.declared.Part.TheVariants as Parts
use Rattle.am_model.specs.History.{is_in_range}
use Rattle.am_model.specs.Steps.{LogFull, NotEnabled}
use Rattle.am_driver_moves.specs.Logs.{kept}
use Rattle.am_machine.specs.Ends.{is_of}
use Rattle.am_machine.specs.Kept.{journal_by, layout_in}
use Rattle.am_machine.specs.View.{ClusterView}
use Rattle.am_machine.proofs.Applied as applied
use Rattle.am_machine.proofs.Events.{call_made, call_stopped}
use Rattle.am_machine.proofs.Places.{not_found}
use Rattle.am_machine.proofs.Refusing.{told_of}
use Rattle.am_machine.proofs.Apart.{apart_in}
use Rattle.am_machine.proofs.Cluster.refusal_of_call.Goals as goal

pub place_of-requires : goal.place_of-requires
place_of-requires c =
    let vs = c.self.inside.ends.items in
    let journal = journal_by (map kept vs) c.self.inside.interfaces.items in
    let layout = layout_in c.self.inside.settings c.self.inside.faults.items (map kept vs) in
    apart_in layout vs c.deref.result.now journal c.self.invariant.kept'.tied c.deref.ensures.value

pub unreachable-requires : goal.unreachable-requires
unreachable-requires c =
    let vs = c.self.inside.ends.items in
    let journal = journal_by (map kept vs) c.self.inside.interfaces.items in
    let layout = layout_in c.self.inside.settings c.self.inside.faults.items (map kept vs) in
    let range : is_in_range layout (Events.Call c.args.actor c.args.end c.args.call) ≡ true =
    ap (λ (v : ClusterView). is_in_range v.layout (Events.Call c.args.actor c.args.end c.args.call)) c.self.view_is ∙ c.requires in
    not_found vs c.args.end (sym (c.place_of.ensures ∙ ap (position (is_of c.args.end)) c.deref.ensures.value)
    ∙ c.in_default.is) (applied.end_declared layout c.args.actor c.args.end c.args.call range)

pub returns-then-is_on_disk : goal.returns-then-is_on_disk
returns-then-is_on_disk c =
    let vs = c.self.inside.ends.items in
    let journal = journal_by (map kept vs) c.self.inside.interfaces.items in
    let layout = layout_in c.self.inside.settings c.self.inside.faults.items (map kept vs) in
    let here = applied.found_here vs c.args.end c.in-Some.place c.index.result.now (sym (c.place_of.ensures
    ∙ ap (position (is_of c.args.end)) c.deref.ensures.value) ∙ c.in-Some.is) c.index.ensures in
    let disk = applied.disk_here layout vs journal c.args.end c.in-Some.place c.index.result.now true c.self.invariant.kept'.tied here (sym c.is_on_disk.ensures
    ∙ c.if-is_on_disk.true) in
    told_of layout journal c.args.self.now (Events.Call c.args.actor c.args.end c.args.call) (Some (NotEnabled Needs.OnDisk)) c.self.view_is
    (applied.call_refused layout journal c.args.actor c.args.end c.args.call disk)

pub returns-then-is_full : goal.returns-then-is_full
returns-then-is_full c =
    let vs = c.self.inside.ends.items in
    let journal = journal_by (map kept vs) c.self.inside.interfaces.items in
    let layout = layout_in c.self.inside.settings c.self.inside.faults.items (map kept vs) in
    let here = applied.found_here vs c.args.end c.in-Some.place c.index.result.now (sym (c.place_of.ensures
    ∙ ap (position (is_of c.args.end)) c.deref.ensures.value) ∙ c.in-Some.is) c.index.ensures in
    let again = applied.found_here vs c.args.end c.in-Some.place c.index-2.result.now (sym (c.place_of.ensures
    ∙ ap (position (is_of c.args.end)) c.deref.ensures.value) ∙ c.in-Some.is) c.index-2.ensures in
    let disk = applied.disk_here layout vs journal c.args.end c.in-Some.place c.index.result.now false c.self.invariant.kept'.tied here
    (sym c.is_on_disk.ensures ∙ c.if-is_on_disk.false) in
    let full = applied.full_here layout vs journal c.args.end c.in-Some.place c.index-2.result.now true c.self.invariant.kept'.tied again (sym c.is_full.ensures
    ∙ c.if-is_full.true) in
    told_of layout journal c.args.self.now (Events.Call c.args.actor c.args.end c.args.call) (Some (LogFull (Parts.Endpoint c.args.end))) c.self.view_is
    (call_stopped layout journal c.args.actor c.args.end c.args.call disk full)

pub returns : goal.returns
returns c =
    let vs = c.self.inside.ends.items in
    let journal = journal_by (map kept vs) c.self.inside.interfaces.items in
    let layout = layout_in c.self.inside.settings c.self.inside.faults.items (map kept vs) in
    let here = applied.found_here vs c.args.end c.in-Some.place c.index.result.now (sym (c.place_of.ensures
    ∙ ap (position (is_of c.args.end)) c.deref.ensures.value) ∙ c.in-Some.is) c.index.ensures in
    let again = applied.found_here vs c.args.end c.in-Some.place c.index-2.result.now (sym (c.place_of.ensures
    ∙ ap (position (is_of c.args.end)) c.deref.ensures.value) ∙ c.in-Some.is) c.index-2.ensures in
    let disk = applied.disk_here layout vs journal c.args.end c.in-Some.place c.index.result.now false c.self.invariant.kept'.tied here
    (sym c.is_on_disk.ensures ∙ c.if-is_on_disk.false) in
    let room = applied.full_here layout vs journal c.args.end c.in-Some.place c.index-2.result.now false c.self.invariant.kept'.tied again
    (sym c.is_full.ensures ∙ c.if-is_full.false) in
    told_of layout journal c.args.self.now (Events.Call c.args.actor c.args.end c.args.call) None c.self.view_is (call_made layout journal c.args.actor c.args.end c.args.call disk room)

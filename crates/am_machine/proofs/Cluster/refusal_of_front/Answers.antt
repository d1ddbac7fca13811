use Rattle.std.proofs.Common.{◌≡◌, true, map, Some, None, position, sym, ap, ◌∙◌}
use Rattle.am_office_entries.specs.declared.Condition.TheVariants as Needs
use Rattle.am_office_entries.specs.declared.Event.TheVariants as Events
use Rattle.am_office_entries.specs.declared.Part.TheVariants as Parts
use Rattle.am_model.specs.History.{is_in_range}
use Rattle.am_model.specs.Steps.{LogFull, NotEnabled}
use Rattle.am_driver_moves.specs.Logs.{kept}
use Rattle.am_machine.specs.Ends.{is_of}
use Rattle.am_machine.specs.Kept.{journal_by, layout_in}
use Rattle.am_machine.specs.View.{ClusterView}
use Rattle.am_machine.proofs.Applied as applied
use Rattle.am_machine.proofs.Carriages as carriages
use Rattle.am_machine.proofs.Events.{carry_idle, carry_stop, stop_of}
use Rattle.am_machine.proofs.Places.{not_found}
use Rattle.am_machine.proofs.Refusing.{told_of}
use Rattle.am_machine.proofs.Apart.{apart_in}
use Rattle.am_machine.proofs.Cluster.refusal_of_front.Goals as goal

pub place_of-requires : goal.place_of-requires
place_of-requires c =
    let vs = c.self.inside.ends.items in
    let journal = journal_by (map kept vs) c.self.inside.interfaces.items in
    let layout = layout_in c.self.inside.settings c.self.inside.faults.items (map kept vs) in
    apart_in layout vs c.deref.result.now journal c.self.invariant.kept'.tied c.deref.ensures.value

pub place_of-requires-2 : goal.place_of-requires-2
place_of-requires-2 c =
    let vs = c.self.inside.ends.items in
    let journal = journal_by (map kept vs) c.self.inside.interfaces.items in
    let layout = layout_in c.self.inside.settings c.self.inside.faults.items (map kept vs) in
    apart_in layout vs c.deref-2.result.now journal c.self.invariant.kept'.tied c.deref-2.ensures.value

pub unreachable-requires : goal.unreachable-requires
unreachable-requires c =
    let vs = c.self.inside.ends.items in
    let journal = journal_by (map kept vs) c.self.inside.interfaces.items in
    let layout = layout_in c.self.inside.settings c.self.inside.faults.items (map kept vs) in
    let direct : layout.direct ≡ true = ap (λ (v : ClusterView). v.layout.direct) c.self.view_is ∙ c.requires.direct in
    let range : is_in_range layout (Events.Carry c.args.end) ≡ true = ap (λ (v : ClusterView). is_in_range v.layout (Events.Carry c.args.end)) c.self.view_is
    ∙ c.requires.in_range in
    not_found vs c.args.end (sym (c.place_of.ensures ∙ ap (position (is_of c.args.end)) c.deref.ensures.value)
    ∙ c.in_default.is) (applied.carry_declared layout c.args.end range)

pub front-requires : goal.front-requires
front-requires c =
    let vs = c.self.inside.ends.items in
    let journal = journal_by (map kept vs) c.self.inside.interfaces.items in
    let layout = layout_in c.self.inside.settings c.self.inside.faults.items (map kept vs) in
    let direct : layout.direct ≡ true = ap (λ (v : ClusterView). v.layout.direct) c.self.view_is ∙ c.requires.direct in
    let range : is_in_range layout (Events.Carry c.args.end) ≡ true = ap (λ (v : ClusterView). is_in_range v.layout (Events.Carry c.args.end)) c.self.view_is
    ∙ c.requires.in_range in
    let one = c.index.result.now in
    let here = applied.found_here vs c.args.end c.in-Some.source one (sym (c.place_of.ensures ∙ ap (position (is_of c.args.end)) c.deref.ensures.value)
    ∙ c.in-Some.is) c.index.ensures in
    applied.off_disk_here layout vs journal c.args.end c.in-Some.source one direct c.self.invariant.kept'.tied here

pub returns-in_default-front : goal.returns-in_default-front
returns-in_default-front c =
    let vs = c.self.inside.ends.items in
    let journal = journal_by (map kept vs) c.self.inside.interfaces.items in
    let layout = layout_in c.self.inside.settings c.self.inside.faults.items (map kept vs) in
    let direct : layout.direct ≡ true = ap (λ (v : ClusterView). v.layout.direct) c.self.view_is ∙ c.requires.direct in
    let range : is_in_range layout (Events.Carry c.args.end) ≡ true = ap (λ (v : ClusterView). is_in_range v.layout (Events.Carry c.args.end)) c.self.view_is
    ∙ c.requires.in_range in
    let one = c.index.result.now in
    let here = applied.found_here vs c.args.end c.in-Some.source one (sym (c.place_of.ensures ∙ ap (position (is_of c.args.end)) c.deref.ensures.value)
    ∙ c.in-Some.is) c.index.ensures in
    let none = carriages.front_at layout vs journal c.args.end c.in-Some.source one None c.self.invariant.kept'.tied here (sym c.front.ensures.value
    ∙ c.in_default-front.is) in
    told_of layout journal c.args.self.now (Events.Carry c.args.end) (Some (NotEnabled Needs.NoMessage)) c.self.view_is
    (carry_idle layout journal c.args.end direct none)

pub unreachable-requires-in_default-place_of : goal.unreachable-requires-in_default-place_of
unreachable-requires-in_default-place_of c =
    let vs = c.self.inside.ends.items in
    let journal = journal_by (map kept vs) c.self.inside.interfaces.items in
    let layout = layout_in c.self.inside.settings c.self.inside.faults.items (map kept vs) in
    let direct : layout.direct ≡ true = ap (λ (v : ClusterView). v.layout.direct) c.self.view_is ∙ c.requires.direct in
    let range : is_in_range layout (Events.Carry c.args.end) ≡ true = ap (λ (v : ClusterView). is_in_range v.layout (Events.Carry c.args.end)) c.self.view_is
    ∙ c.requires.in_range in
    let one = c.index.result.now in
    let here = applied.found_here vs c.args.end c.in-Some.source one (sym (c.place_of.ensures ∙ ap (position (is_of c.args.end)) c.deref.ensures.value)
    ∙ c.in-Some.is) c.index.ensures in
    let at = carriages.front_at layout vs journal c.args.end c.in-Some.source one (Some c.in-Some-front.front) c.self.invariant.kept'.tied here
    (sym c.front.ensures.value ∙ c.in-Some-front.is) in
    not_found vs c.in-Some-front.front.message.dest (sym (c.place_of-2.ensures
    ∙ ap (position (is_of c.in-Some-front.front.message.dest)) c.deref-2.ensures.value) ∙ c.in_default-place_of.is)
    (carriages.dest_declared layout journal c.args.end c.in-Some-front.front c.self.invariant.kept'.tied at)

pub returns-in-Some-least_full : goal.returns-in-Some-least_full
returns-in-Some-least_full c =
    let vs = c.self.inside.ends.items in
    let journal = journal_by (map kept vs) c.self.inside.interfaces.items in
    let layout = layout_in c.self.inside.settings c.self.inside.faults.items (map kept vs) in
    let direct : layout.direct ≡ true = ap (λ (v : ClusterView). v.layout.direct) c.self.view_is ∙ c.requires.direct in
    let range : is_in_range layout (Events.Carry c.args.end) ≡ true = ap (λ (v : ClusterView). is_in_range v.layout (Events.Carry c.args.end)) c.self.view_is
    ∙ c.requires.in_range in
    let one = c.index.result.now in
    let here = applied.found_here vs c.args.end c.in-Some.source one (sym (c.place_of.ensures ∙ ap (position (is_of c.args.end)) c.deref.ensures.value)
    ∙ c.in-Some.is) c.index.ensures in
    let three = applied.found_here vs c.args.end c.in-Some.source c.index-2.result.now (sym (c.place_of.ensures
    ∙ ap (position (is_of c.args.end)) c.deref.ensures.value) ∙ c.in-Some.is) c.index-2.ensures in
    let four = applied.found_here vs c.in-Some-front.front.message.dest c.in-Some-place_of.dest c.index-3.result.now (sym (c.place_of-2.ensures
    ∙ ap (position (is_of c.in-Some-front.front.message.dest)) c.deref-2.ensures.value) ∙ c.in-Some-place_of.is) c.index-3.ensures in
    let at = carriages.front_at layout vs journal c.args.end c.in-Some.source one (Some c.in-Some-front.front) c.self.invariant.kept'.tied here
    (sym c.front.ensures.value ∙ c.in-Some-front.is) in
    told_of layout journal c.args.self.now (Events.Carry c.args.end) (Some (LogFull (Parts.Endpoint c.in-Some-least_full.full))) c.self.view_is
    (carry_stop layout journal c.args.end c.in-Some-front.front c.is_full-is_source_full.result c.is_full-is_dest_full.result direct at
    (applied.full_here layout vs journal c.args.end c.in-Some.source c.index-2.result.now c.is_full-is_source_full.result c.self.invariant.kept'.tied
    three (sym c.is_full-is_source_full.ensures))
    (applied.full_here layout vs journal c.in-Some-front.front.message.dest c.in-Some-place_of.dest c.index-3.result.now c.is_full-is_dest_full.result
    c.self.invariant.kept'.tied four (sym c.is_full-is_dest_full.ensures))
    ∙ ap stop_of (sym c.least_full.ensures ∙ c.in-Some-least_full.is))

pub returns-in-None : goal.returns-in-None
returns-in-None c =
    let vs = c.self.inside.ends.items in
    let journal = journal_by (map kept vs) c.self.inside.interfaces.items in
    let layout = layout_in c.self.inside.settings c.self.inside.faults.items (map kept vs) in
    let direct : layout.direct ≡ true = ap (λ (v : ClusterView). v.layout.direct) c.self.view_is ∙ c.requires.direct in
    let range : is_in_range layout (Events.Carry c.args.end) ≡ true = ap (λ (v : ClusterView). is_in_range v.layout (Events.Carry c.args.end)) c.self.view_is
    ∙ c.requires.in_range in
    let one = c.index.result.now in
    let here = applied.found_here vs c.args.end c.in-Some.source one (sym (c.place_of.ensures ∙ ap (position (is_of c.args.end)) c.deref.ensures.value)
    ∙ c.in-Some.is) c.index.ensures in
    let three = applied.found_here vs c.args.end c.in-Some.source c.index-2.result.now (sym (c.place_of.ensures
    ∙ ap (position (is_of c.args.end)) c.deref.ensures.value) ∙ c.in-Some.is) c.index-2.ensures in
    let four = applied.found_here vs c.in-Some-front.front.message.dest c.in-Some-place_of.dest c.index-3.result.now (sym (c.place_of-2.ensures
    ∙ ap (position (is_of c.in-Some-front.front.message.dest)) c.deref-2.ensures.value) ∙ c.in-Some-place_of.is) c.index-3.ensures in
    let at = carriages.front_at layout vs journal c.args.end c.in-Some.source one (Some c.in-Some-front.front) c.self.invariant.kept'.tied here
    (sym c.front.ensures.value ∙ c.in-Some-front.is) in
    told_of layout journal c.args.self.now (Events.Carry c.args.end) None c.self.view_is
    (carry_stop layout journal c.args.end c.in-Some-front.front c.is_full-is_source_full.result c.is_full-is_dest_full.result direct at
    (applied.full_here layout vs journal c.args.end c.in-Some.source c.index-2.result.now c.is_full-is_source_full.result c.self.invariant.kept'.tied
    three (sym c.is_full-is_source_full.ensures))
    (applied.full_here layout vs journal c.in-Some-front.front.message.dest c.in-Some-place_of.dest c.index-3.result.now c.is_full-is_dest_full.result
    c.self.invariant.kept'.tied four (sym c.is_full-is_dest_full.ensures))
    ∙ ap stop_of (sym c.least_full.ensures ∙ c.in-None.is))

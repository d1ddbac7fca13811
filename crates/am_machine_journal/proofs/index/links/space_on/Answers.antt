use Rattle.std.specs.Prelude.{vec_len, vec_capacity, slice_set}
use Rattle.std.proofs.Common.{◌<◌, false, ap, sym, ◌∙◌, arith, map}
use Rattle.std.proofs.lemmas.Bool.{le-leb}
use Rattle.std.proofs.lemmas.List.{length-set, length-map}
use Rattle.am_machine_journal.specs.Index.Kept.{has_space, items_of}
use Rattle.am_machine_journal.proofs.Lists.{index_map, index_set, map_set, set_same}
use Rattle.am_machine_journal.proofs.index.links.space_on.Goals as goal

pub returns-in-Ok-clause-same : goal.returns-in-Ok-clause-same
returns-in-Ok-clause-same c =
    let vs = c.args.links.now.items in
    let was = c.index_mut.result.now in
    let all = length-map vs items_of in
    map_set items_of vs c.args.place c.reserve.new.self
    ∙ set_same (map items_of vs) c.args.place c.reserve.new.self.items was.items
    (c.reserve.ensures.items ∙ ap items_of c.index_mut.ensures.value ∙ sym (index_map items_of vs c.args.place was was.items c.requires))
    (omega (arith, all, c.requires))

pub returns-in-Ok-clause-space : goal.returns-in-Ok-clause-space
returns-in-Ok-clause-space c =
    let vs = c.args.links.now.items in
    let new = c.reserve.new.self in
    let all = length-set vs c.args.place new in
    let room : vec_len new < vec_capacity new = omega (arith, c.in-Ok.ensures.ok, c.reserve.ensures.len, c.growth-more.ensures) in
    index_map has_space (slice_set vs c.args.place new) c.args.place new false (omega (arith, all, c.requires))
    ∙ ap has_space (index_set vs c.args.place new new c.requires)
    ∙ le-leb _ _ room

pub returns-in-Err-clause-same : goal.returns-in-Err-clause-same
returns-in-Err-clause-same c =
    let vs = c.args.links.now.items in
    let was = c.index_mut.result.now in
    let all = length-map vs items_of in
    map_set items_of vs c.args.place c.reserve.new.self
    ∙ set_same (map items_of vs) c.args.place c.reserve.new.self.items was.items
    (c.reserve.ensures.items ∙ ap items_of c.index_mut.ensures.value ∙ sym (index_map items_of vs c.args.place was was.items c.requires))
    (omega (arith, all, c.requires))

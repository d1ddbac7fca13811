use Rattle.std.proofs.Common.{◌≡◌, ◌++◌, map, take, drop}
use Rattle.am_model.specs.Changes.{arrived}
use Rattle.am_translate.proofs.records.mark.Given as goal

abbrev pub invariant-loop-a : goal.invariant-loop-a
invariant-loop-a l = l.places ≡ map (arrived l.request) (take l.a-index l.initial.places) ++ drop l.a-index l.initial.places

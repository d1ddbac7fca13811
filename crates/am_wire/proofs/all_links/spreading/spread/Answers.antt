use Rattle.std.proofs.Common.{rules, ◌≡◌, ℕ, List, [], ◌∷◌, ◌++◌, length, ap, ◌∙◌, sym, subst}
use Rattle.std.specs.Prelude.{slice_index_or, slice_set}
use Rattle.std.specs.Global.{Vec}
use Rattle.am_wire.specs.declared.receiving.LinkIn.{LinkIn}
use Rattle.am_wire.proofs.Spread.{AreSpreading, begins, goes_on}
use Rattle.am_wire.proofs.all_links.spreading.spread.Goals as goal

pub loop-end-init : goal.loop-end-init
loop-end-init c = begins c.args.ends.items c.args.columns.now.items c.requires

pub loop-end-preserved : goal.loop-end-preserved
loop-end-preserved c =
    let n : c.len.result ≡ length c.pop.new.self.items = search rules in
    let spreading = subst (λ (rest : List LinkIn). AreSpreading c.args.ends.items rest c.args.columns.now.items c.loop-end.columns.items)
    c.in-Some.ensures.items c.loop-end.invariant in
    let at : c.index_mut.result.now ≡ slice_index_or c.loop-end.columns.items (length c.pop.new.self.items) c.index_mut.result.now = c.index_mut.ensures.value
    ∙ ap (λ (k : ℕ). slice_index_or c.loop-end.columns.items k c.index_mut.result.now) n in
    let put : c.put.new.column.items ≡ (slice_index_or c.loop-end.columns.items (length c.pop.new.self.items) c.index_mut.result.now).items ++
    c.in-Some.end ∷ [] = c.in_ok-put.ensures.ok ∙ ap (λ (v : Vec LinkIn). v.items ++ c.in-Some.end ∷ []) at in
    subst (λ (k : ℕ). AreSpreading c.args.ends.items c.pop.new.self.items c.args.columns.now.items (slice_set c.loop-end.columns.items k c.put.new.column))
    (sym n)
    (goes_on c.args.ends.items c.pop.new.self.items c.in-Some.end c.args.columns.now.items c.loop-end.columns.items c.index_mut.result.now c.put.new.column
    spreading put)

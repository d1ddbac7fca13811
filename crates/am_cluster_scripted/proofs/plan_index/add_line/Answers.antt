use Rattle.std.proofs.Common.{rules, ◌≡◌, ℕ, ◌==◌, cond, Some, ap, sym, ◌∙◌, arith}
use Rattle.std.proofs.lemmas.Option.{slice_get-get_or}
use Rattle.am_wire_release.specs.Faults.{said}
use Rattle.am_cluster_scripted.proofs.Indexing.{line_more}
use Rattle.am_cluster_scripted.proofs.Rooms.{on_ok}
use Rattle.am_cluster_scripted.proofs.plan_index.add_line.Goals as goal

pub returns : goal.returns
returns c =
    let links = c.args.links.now.items in
    let line = c.args.line in
    let k = c.link_place.result in
    let old = c.index_mut-link.result.now in
    let number : c.from.result ≡ line.number = search rules in
    λ lines has. on_ok c.say.result c.say.ensures.ok (λ more. line_more lines links line k old c.say.new.self has c.requires.to c.link_place.ensures
    (slice_get-get_or links k old (omega (arith, c.link_place.ensures, c.requires.from, c.requires.to, c.requires.all))
    ∙ ap (λ m. Some m) (sym c.index_mut-link.ensures.value))
    (λ other. more other ∙ ap (λ (n : ℕ). cond (other == n) (Some line.fault) (said old other)) number))

use Rattle.std.proofs.Common.{List, [], ◌∷◌, ◌++◌, ap, ◌∙◌}
use Rattle.am_lexer.specs.Text.{words_of}
use Rattle.am_names.specs.declared.EndpointId.{EndpointId}
use Rattle.am_scenario.specs.Drafts.Drafts.{said}
use Rattle.am_scenario.specs.Lines.Declarations.{members}
use Rattle.am_scenario.proofs.Members.{member_taken, member_refused, members_taken}
use Rattle.am_scenario.proofs.lines.bundle.take_members.Goals as goal

pub returns-in-Err : goal.returns-in-Err
returns-in-Err c =
    let so_far = rw c.in-Some.ensures.first at c.loop-word.invariant.2 in
    member_refused (said c.args.draft.now) c.args.node c.loop-word.invariant.0 c.in-Some.word.now (words_of c.in-Some.after.now) c.in-Err.what
    (members (said c.args.draft.now) c.args.node (words_of c.args.rest.now)) c.in-Err.ensures so_far

pub loop-word-preserved : goal.loop-word-preserved
loop-word-preserved c =
    let so_far = rw c.in-Some.ensures.first at c.loop-word.invariant.2 in
    let pushed = c.in_ok-push-in-Ok.ensures.items ∙ ap (λ (ids : List EndpointId). ids ++ c.in-Ok.end.id ∷ []) c.loop-word.invariant.1 in (
      c.loop-word.invariant.0 ++ c.in-Ok.end.id ∷ [],
      pushed,
      member_taken (said c.args.draft.now) c.args.node c.loop-word.invariant.0 c.in-Some.word.now
          (words_of c.in-Some.after.now) c.in-Ok.end (members (said c.args.draft.now) c.args.node (words_of c.args.rest.now)) c.in-Ok.ensures so_far,
    )

pub returns : goal.returns
returns c =
    let so_far = rw c.in_default.ensures.first at c.loop-word.invariant.2 in (
      c.loop-word.invariant.0,
      members_taken (said c.args.draft.now) c.args.node c.loop-word.invariant.0
          (members (said c.args.draft.now) c.args.node (words_of c.args.rest.now)) so_far,
      c.loop-word.invariant.1,
    )

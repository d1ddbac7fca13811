use Rattle.std.proofs.Common.{[], ◌∷◌, ◌++◌, length-append, refl, arith}
use Rattle.std.proofs.lemmas.Result.{on_ok_weaker}
use Rattle.am_office_entries.specs.declared.Call.TheVariants.{Poll, Request}
use Rattle.am_job.specs.Scripts.{on_sender, owner, polls, sending}
use Rattle.am_job.proofs.More.{polled, sent, sent_by}
use Rattle.am_job.proofs.Ready.{ready_first, ready_for, senders_call}
use Rattle.am_job.proofs.Sizes.{polls_length, sending_length}
use Rattle.am_job.proofs.script.send.Goals as goal

pub add-requires : goal.add-requires
add-requires c =
    let w = c.args.w in
    let n = c.args.n in
    let word = c.args.word.now in
    rw (c.on_sender.ensures, c.request.ensures)
    (senders_call w n (Request (owner w word) 1 word.words) c.args.draft.now c.requires.thread
    (ready_first w c.args.draft.now (sending w n word) (sent_by w n word ∷ []) (omega (arith, sending_length w n word)) c.requires.ready) refl refl)

pub poll_often-requires-clause-ready : goal.poll_often-requires-clause-ready
poll_often-requires-clause-ready c =
    let w = c.args.w in
    let n = c.args.n in
    let word = c.args.word.now in
    ready_for w c.args.draft.now c.add.new.draft (sending w n word) (sent_by w n word ∷ []) (polls n w)
    (omega (arith, sending_length w n word, polls_length n w)) c.requires.ready (rw (c.on_sender.ensures, c.request.ensures) at c.in_ok-add.ensures)

pub add-requires-2 : goal.add-requires-2
add-requires-2 c =
    let w = c.args.w in
    let n = c.args.n in
    let word = c.args.word.now in
    rw c.on_sender-2.ensures
    (senders_call w n Poll c.poll_often.new.draft c.requires.thread
    (ready_for w c.args.draft.now c.poll_often.new.draft (sending w n word) (sent_by w n word ∷ [] ++ polls n w) (on_sender n Poll ∷ [])
    (omega (arith, sending_length w n word, length-append (sent_by w n word ∷ []) (polls n w), polls_length n w)) c.requires.ready
    (polled w n word c.args.draft.now c.add.new.draft c.poll_often.new.draft (rw (c.on_sender.ensures, c.request.ensures) at c.in_ok-add.ensures)
    c.in_ok-poll_often.ensures)) refl refl)

pub returns : goal.returns
returns c =
    let w = c.args.w in
    let n = c.args.n in
    let word = c.args.word.now in
    on_ok_weaker c.add-2.result
    (sent w n word c.args.draft.now c.poll_often.new.draft c.add-2.new.draft
    (polled w n word c.args.draft.now c.add.new.draft c.poll_often.new.draft (rw (c.on_sender.ensures, c.request.ensures) at c.in_ok-add.ensures)
    c.in_ok-poll_often.ensures))
    (rw c.on_sender-2.ensures at c.add-2.ensures)

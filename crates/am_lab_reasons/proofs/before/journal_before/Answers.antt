use Rattle.std.proofs.Common.{sym, ◌∙◌}
use Rattle.am_lab_reasons.specs.Before.{StandsBefore}
use Rattle.am_lab_reasons.proofs.Standing.{before_line, before_tail, behind_journal, holds_if, whole_journal}
use Rattle.am_lab_reasons.proofs.before.journal_before.Goals as goal

pub whole_journal-requires-clause-journal : goal.whole_journal-requires-clause-journal
whole_journal-requires-clause-journal c =
    let a = c.args in
    let form = c.requires.stopped.0 in
    let h = whole_journal form a.scenario.now a.bytes.now a.line a.what c.requires.stopped.1 (sym c.is_behind-behind.ensures ∙ c.if-behind.true) in
    (form, h.0, h.1)

pub journal_at-requires-clause-place : goal.journal_at-requires-clause-place
journal_at-requires-clause-place c =
    let a = c.args in
    let form = c.requires.stopped.0 in (
      form,
      behind_journal form a.scenario.now a.bytes.now a.line a.what c.requires.few c.requires.stopped.1 c.requires.front
          (sym c.is_behind-behind.ensures ∙ c.if-behind.false),
    )

pub returns-then-behind : goal.returns-then-behind
returns-then-behind c = λ form stopped.
    let a = c.args in
    let s = a.scenario.now in
    let behind = sym c.is_behind-behind.ensures ∙ c.if-behind.true in
    let h = whole_journal form s a.bytes.now a.line a.what stopped behind in
    holds_if c.whole_journal.result (StandsBefore form s a.bytes.now a.line a.what) h.0 (before_tail form s a.bytes.now a.line a.what h.0 behind h.1)
    (c.whole_journal.ensures form h.0 h.1)

pub returns-else-behind : goal.returns-else-behind
returns-else-behind c = λ form stopped.
    let a = c.args in
    let s = a.scenario.now in
    let other = sym c.is_behind-behind.ensures ∙ c.if-behind.false in
    let h = behind_journal form s a.bytes.now a.line a.what c.requires.few stopped c.requires.front other in
    holds_if c.journal_at.result (StandsBefore form s a.bytes.now a.line a.what) h.journal
    (before_line form s a.bytes.now a.line a.what h.journal h.left other h.at)
    (c.journal_at.ensures form h)

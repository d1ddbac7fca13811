use Rattle.std.proofs.Common.{◌≡◌, List, [], Err, length, inl, inr, ⊎_elim, sym, ap, ◌∙◌, subst, arith}
use Rattle.am_model.specs.History.{EachAfter}
use Rattle.am_office_entries.specs.declared.Entry.{Entry}
use Rattle.am_model_scripts.specs.Layout.{layout_of}
use Rattle.am_lab_reasons.specs.Journal.Lines.{IsMadeAgain}
use Rattle.am_lab_reasons.proofs.Reported.{reported}
use Rattle.am_lab_drawings.specs.View.Parts.{lines_of}
use Rattle.am_lab_drawings.specs.View.Pictures.{picture_by}
use Rattle.am_lab_drawings.specs.declared.view.parts.PictureFault.TheVariants.{NoMemory}
use Rattle.am_lab_drawings.proofs.view.pictures.picture_in.Goals as goal

pub picture_part-requires-clause-again : goal.picture_part-requires-clause-again
picture_part-requires-clause-again c =
    let form = c.requires.report.0 in
    let r = c.requires.report.1 in
    let t = reported form c.args.scenario.now c.requires.lawful c.args.bytes.now c.requires.few r in
    subst (λ (j : List Entry). EachAfter (IsMadeAgain (layout_of c.args.scenario.now)) [] j) (sym (c.in-Ok.ensures.made form r)) t.are.each

pub picture_part-requires-clause-few : goal.picture_part-requires-clause-few
picture_part-requires-clause-few c =
    let form = c.requires.report.0 in
    let r = c.requires.report.1 in
    let t = reported form c.args.scenario.now c.requires.lawful c.args.bytes.now c.requires.few r in
    let long = ap length (c.in-Ok.ensures.made form r) in
    let low = t.low in
    let few = c.requires.few in
    omega (arith, long, low, few)

pub returns-in-Ok : goal.returns-in-Ok
returns-in-Ok c = λ form r.
    ⊎_elim
    (λ (e : c.picture_part.result ≡ Err NoMemory). inl e)
    (λ (e : c.picture_part.result ≡ picture_by c.args.scenario.now c.in-Ok.journal (lines_of (length c.in-Ok.journal) c.args.part)).
    inr
    (record {
      journal = r.journal;
      begun = r.begun;
      ended = r.ended;
      report' = r.text;
      answer' = e ∙ ap (λ (j : List Entry). picture_by c.args.scenario.now j (lines_of (length j) c.args.part)) (c.in-Ok.ensures.made form r);
    }))
    c.picture_part.ensures

-- The runs of one entry more.
use Rattle.std.proofs.Common.{◌≡◌, ℕ, ◌<◌, ◌+◌, Option, Some, None, List, [], ◌∷◌, ◌++◌, refl, sym, ap, ◌∙◌, length, take, get_or, slice_set, slice_index_or}
use Rattle.std.proofs.Common.{filter_map, arith, subst, add-one, length-set, inl, inr, replicate}
use Rattle.std.specs.Borrow.{Bor}
use Rattle.std.specs.List.{cons_option}
use Rattle.std.proofs.lemmas.List.{get_or-set_other, get_or-replicate, length-replicate, append-nil}
use Rattle.std.proofs.lemmas.Grind.{get_or-set_at}
use Rattle.std.proofs.lemmas.Bool.Decides.{eqb_tells}
use Rattle.am_names.specs.Names.{same_end}
use Rattle.std.proofs.lemmas.List.Elements.{filter_map-append}
use Rattle.std.proofs.Math.Seq.{take-suc}
use Rattle.am_names.specs.declared.EndpointId.{EndpointId}
use Rattle.am_office_entries.specs.declared.Entry.{Entry}
use Rattle.am_office_entries.specs.Logged.Behind.{entries_behind}
use Rattle.am_office_entries.proofs.Entries.{behind_at, length_behind}
use Rattle.am_office_report.specs.declared.runs.Run.{Run}
use Rattle.am_office_report.specs.Report.{run_at, run_if, run_in}
use Rattle.am_office_report.specs.Tables.{with_run, AreRuns}

kept : (lists : List (List Run)) (run : Option (EndpointId × Run)) → length (with_run lists run) ≡ length lists
kept lists None = refl
kept lists (Some run) = length-set lists run.0.0 (slice_index_or lists run.0.0 [] ++ run.1 ∷ [])

at_end : (lists : List (List Run)) (e end : EndpointId) (run : Run) → e.0 < length lists →
    slice_index_or (slice_set lists end.0 (slice_index_or lists end.0 [] ++ run ∷ [])) e.0 [] ≡ slice_index_or lists e.0 [] ++ cons_option
    (run_if (same_end e end) run) []
at_end lists e end run below = elim (eqb_tells e.0 end.0) [
  | inl (found, same) ↦ rw found (get_or-set_at lists end.0 e.0 (get_or lists end.0 [] ++ run ∷ []) [] same (omega arith)
      ∙ ap (λ (k : ℕ). get_or lists k [] ++ run ∷ []) (sym same))
  | inr (missed, other) ↦ rw missed (get_or-set_other lists end.0 e.0 (get_or lists end.0 [] ++ run ∷ []) [] other ∙ sym (append-nil (get_or lists e.0 [])))
]

with_run_at : (lists : List (List Run)) (e : EndpointId) (run : Option (EndpointId × Run)) → e.0 < length lists →
    slice_index_or (with_run lists run) e.0 [] ≡ slice_index_or lists e.0 [] ++ cons_option (run_at e run) []
with_run_at lists e None below = sym (append-nil (slice_index_or lists e.0 []))
with_run_at lists e (Some (end, run)) below = at_end lists e end run below

-- the runs of one entry more
pub runs_more : (lists : List (List Run)) (past : List Entry) (x : Entry) → AreRuns lists past →
    AreRuns (with_run lists (run_in x.event x.outcome)) (past ++ x ∷ [])
runs_more lists past x are =
    let run : Option (EndpointId × Run) = run_in x.event x.outcome in
    record {
      size = kept lists run ∙ are.size;
      each = λ (e : EndpointId) (small : e.0 < 256).
          with_run_at lists e run (rw are.size small)
          ∙ ap (λ (runs : List Run). runs ++ cons_option (run_at e run) []) (are.each e small)
          ∙ sym (filter_map-append (λ (y : Entry). run_at e (run_in y.event y.outcome)) past (x ∷ []));
    }

pub no_runs : AreRuns (replicate 256 []) []
no_runs = record {
  size = length-replicate {A = List Run} 256 [];
  each = λ (e : EndpointId) (small : e.0 < 256). get_or-replicate {A = List Run} 256 e.0 [] [] small;
}

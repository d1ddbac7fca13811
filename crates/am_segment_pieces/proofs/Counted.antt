-- The runs of one entry more, and the pieces that ran.
use Rattle.std.proofs.Common.{◌≡◌, ℕ, ◌<◌, ◌≤◌, ◌+◌, Bool, true, false, ◌&&◌, ◌||◌, cond, Option, Some, None, List, [], ◌∷◌, ◌++◌, refl, sym, ap, ◌∙◌, zero-add, arith}
use Rattle.std.proofs.Common.{count_by, map, length, take, drop, get_or, nat_eq, if◌then◌else◌, add-one}
use Rattle.std.specs.List.{range_with_len}
use Rattle.std.specs.Option.{option_and_then, option_map}
use Rattle.std.proofs.lemmas.List.FromFn.{sum_by-map-range_with_len_more}
use Rattle.std.specs.HashSet.{HashSet, contains}
use Rattle.std.specs.declared.hash.FoldHasher.{FoldHasher}
use Rattle.std.specs.declared.hash.BuildHasherDefault.{BuildHasherDefault}
use Rattle.std.proofs.lemmas.List.{append_assoc, drop_more, drop_all, append-nil}
use Rattle.std.proofs.lemmas.List.Folds.{list_any-append}
use Rattle.std.proofs.Math.Seq.{take-suc}
use Rattle.am_names.specs.declared.EndpointId.{EndpointId}
use Rattle.am_names.specs.declared.Words.{Words}
use Rattle.am_names.specs.Names.{same_end}
use Rattle.std.specs.Borrow.{Bor}
use Rattle.am_office_entries.specs.declared.Entry.{Entry}
use Rattle.am_library_views.specs.declared.entries.HandlerRun.{HandlerRun}
use Rattle.am_library_views.specs.Views.{handler_run_of}
use Rattle.am_office_entries.specs.Logged.Behind.{entries_behind}
use Rattle.am_office_entries.proofs.Entries.{behind_at, length_behind}
use Rattle.am_segment_pieces.specs.declared.ran.Run.{Run}
use Rattle.am_segment_pieces.specs.declared.ran.TransferRan.{TransferRan}
use Rattle.am_segment_pieces.specs.declared.segment.SegmentLine.{SegmentLine}
use Rattle.am_segment_pieces.specs.declared.parts.Piece.{Piece}
use Rattle.am_segment_pieces.specs.Lists.{TransferLists}
use Rattle.am_segment_pieces.specs.Pieces.{words_of}
use Rattle.am_segment_pieces.specs.Blocks.{piece_at, piece_count}
use Rattle.am_segment_pieces.specs.Runs.{TellsRuns, has_key, is_key, key_in, key_of, run_key, same_run}
use Rattle.am_segment_pieces.specs.Segments.{has_run, has_words, same_words, ran_count, ran_of, ran_from, words_if}

abbrev Set : Type 0
Set = HashSet Run (BuildHasherDefault FoldHasher)

-- one entry more
key_next : (xs : List Entry) (i : ℕ) (d : Entry) (run : Run) → i < length xs →
    has_key (take (i + 1) xs) run ≡ (has_key (take i xs) run || (is_key run (key_in (get_or xs i d)) || false))
key_next xs i d run below =
    rw (add-one, take-suc xs i d below) (list_any-append (λ (x : Entry). is_key run (key_in x)) (take i xs) (get_or xs i d ∷ []))

or_false : (b : Bool) → (b || (false || false)) ≡ b
or_false true = refl
or_false false = refl

pub tells_none : (set : Set) (xs : List Entry) (i : ℕ) (d : Entry) → i < length xs → key_in (get_or xs i d) ≡ None →
    TellsRuns set (take i xs) → TellsRuns set (take (i + 1) xs)
tells_none set xs i d below none tells = record {
  each = λ (run : Run).
      tells.each run
      ∙ sym (key_next xs i d run below ∙ ap (λ (o : Option Run). has_key (take i xs) run || (is_key run o || false)) none ∙ or_false (has_key (take i xs) run));
}

or_some : (b c : Bool) → (b || (c || false)) ≡ cond c true b
or_some true true = refl
or_some true false = refl
or_some false true = refl
or_some false false = refl

pub tells_some : (set new : Set) (added : Run) (xs : List Entry) (i : ℕ) (d : Entry) → i < length xs →
    key_in (get_or xs i d) ≡ Some added →
    ((run : Run) → contains same_run new run ≡ cond (same_run added run) true (contains same_run set run)) → TellsRuns set (take i xs) →
    TellsRuns new (take (i + 1) xs)
tells_some set new added xs i d below some put tells = record {
  each = λ (run : Run).
      put run
      ∙ ap (λ (b : Bool). cond (same_run added run) true b) (tells.each run)
      ∙ sym (key_next xs i d run below ∙ ap (λ (o : Option Run). has_key (take i xs) run || (is_key run o || false)) some
      ∙ or_some (has_key (take i xs) run) (same_run added run));
}

-- ---- the same behind references

pub tells_none_behind : (set : Set) (xs : List (Bor Entry)) (i : ℕ) (d : Bor Entry) → i < length xs →
    key_in (get_or xs i d).now ≡ None → TellsRuns set (take i (entries_behind xs)) →
    TellsRuns set (take (i + 1) (entries_behind xs))
tells_none_behind set xs i d below none tells =
    tells_none set (entries_behind xs) i d.now (omega (arith, length_behind xs, below))
    (ap (λ (e : Entry). key_in e) (behind_at xs i d d.now below) ∙ none) tells

pub tells_some_behind : (set new : Set) (added : Run) (xs : List (Bor Entry)) (i : ℕ) (d : Bor Entry) → i < length xs →
    key_in (get_or xs i d).now ≡ Some added →
    ((run : Run) → contains same_run new run ≡ cond (same_run added run) true (contains same_run set run)) → TellsRuns set (take i (entries_behind xs)) →
    TellsRuns new (take (i + 1) (entries_behind xs))
tells_some_behind set new added xs i d below some put tells =
    tells_some set new added (entries_behind xs) i d.now (omega (arith, length_behind xs, below))
    (ap (λ (e : Entry). key_in e) (behind_at xs i d d.now below) ∙ some) put tells

-- ---- a run with these words

gated : (p q : Bool) (ran words : Words) → has_words words (if p && q then Some ran else None) ≡ (p && (q && same_words ran words))
gated true true ran words = refl
gated true false ran words = refl
gated false true ran words = refl
gated false false ran words = refl

same_test : (end : EndpointId) (handler : ℕ) (words : Words) (o : Option HandlerRun) →
    is_key (run_key end handler words) (option_map key_of o) ≡ has_words words (option_and_then (words_if end handler) o)
same_test end handler words None = refl
same_test end handler words (Some run) = sym (gated (same_end run.end end) (nat_eq run.handler handler) run.words words)

pub key_is_run : (journal : List Entry) (end : EndpointId) (handler : ℕ) (words : Words) →
    has_key journal (run_key end handler words) ≡ has_run journal end handler words
key_is_run [] end handler words = refl
key_is_run (x ∷ xs) end handler words = rw (same_test end handler words (handler_run_of x), key_is_run xs end handler words) refl

-- ---- one transfer more

pub ran_next : (rows : List TransferRan) (segments : List SegmentLine) (journal : List Entry) (number : ℕ) (ts : List TransferLists) (i : ℕ) (d : TransferLists)
    (all : List TransferRan) → i < length ts → rows ++ ran_from segments journal number (drop i ts) ≡ all →
    (rows ++ ran_of segments journal number (get_or ts i d) ∷ []) ++ ran_from segments journal (number + 1) (drop (i + 1) ts) ≡ all
unfolding ran_from
ran_next rows segments journal number ts i d all below so_far =
    append_assoc rows (ran_of segments journal number (get_or ts i d) ∷ []) (ran_from segments journal (number + 1) (drop (i + 1) ts))
    ∙ sym (ap (λ (rest : List TransferLists). rows ++ ran_from segments journal number rest) (drop_more ts i d below)) ∙ so_far

pub ran_step : (rows new : List TransferRan) (row : TransferRan) (t : TransferLists) (segments : List SegmentLine) (journal : List Entry) (number : ℕ)
    (ts : List TransferLists) (i : ℕ) (all : List TransferRan) → i < length ts → t ≡ get_or ts i t → number ≡ i → new ≡ rows ++ row ∷ [] →
    row ≡ ran_of segments journal (number + 1) t → rows ++ ran_from segments journal (i + 1) (drop i ts) ≡ all →
    new ++ ran_from segments journal (i + 1 + 1) (drop (i + 1) ts) ≡ all
ran_step rows new row t segments journal number ts i all below at same push told so_far =
    let next : (rows ++ ran_of segments journal (i + 1) t ∷ []) ++ ran_from segments journal (i + 1 + 1) (drop (i + 1) ts) ≡ all =
    rw (← at) at (ran_next rows segments journal (i + 1) ts i t all below so_far) in
    rw (push, told, same) next

pub ran_all : (rows : List TransferRan) (segments : List SegmentLine) (journal : List Entry) (number : ℕ) (ts : List TransferLists) (i : ℕ)
    (all : List TransferRan) → length ts ≤ i → rows ++ ran_from segments journal number (drop i ts) ≡ all → rows ≡ all
unfolding ran_from
ran_all rows segments journal number ts i all past so_far =
    sym (append-nil rows) ∙ sym (ap (λ (rest : List TransferLists). rows ++ ran_from segments journal number rest) (drop_all i ts past)) ∙ so_far

-- ---- one piece more

pub counted_next : (journal : List Entry) (s : SegmentLine) (number : ℕ) (t : TransferLists) (k ran : ℕ) →
    ran ≡ count_by (λ (piece : Piece). has_run journal s.end s.handler (words_of piece)) (map (piece_at number t) (range_with_len 0 k)) →
    ran + cond (has_run journal s.end s.handler (words_of (piece_at number t k))) 1 0 ≡ count_by
    (λ (piece : Piece). has_run journal s.end s.handler (words_of piece)) (map (piece_at number t) (range_with_len 0 (k + 1)))
counted_next journal s number t k ran so_far =
    ap (λ (n : ℕ). n + cond (has_run journal s.end s.handler (words_of (piece_at number t k))) 1 0) so_far
    ∙ sym (sum_by-map-range_with_len_more (λ (piece : Piece). cond (has_run journal s.end s.handler (words_of piece)) 1 0) (piece_at number t) 0 k k
    (zero-add k))

pub counted_all : (journal : List Entry) (s : SegmentLine) (number : ℕ) (t : TransferLists) (k ran : ℕ) → k ≡ piece_count t →
    ran ≡ count_by (λ (piece : Piece). has_run journal s.end s.handler (words_of piece)) (map (piece_at number t) (range_with_len 0 k)) →
    ran ≡ ran_count journal s number t
unfolding ran_count
counted_all journal s number t k ran all so_far = rw (← all) so_far

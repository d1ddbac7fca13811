-- The logs of one part more, and of one node more.
use Rattle.std.proofs.Common.{◌≡◌, ℕ, zero, suc, ◌+◌, ◌<◌, List, [], ◌∷◌, ◌++◌, length, map, take, get_or, sym, ap, ◌∙◌, arith, append_assoc}
use Rattle.std.proofs.lemmas.List.{append-nil, map-append, map_more}
use Rattle.std.specs.Borrow.{Bor}
use Rattle.am_office_entries.specs.declared.Entry.{Entry}
use Rattle.am_machine_journal.specs.Merge.Joined.{lists_of}
use Rattle.am_machine.specs.declared.node.NodePart.{NodePart}
use Rattle.am_machine.specs.Node.Parts.{all_logs, logs_of_part}

pub log_added : {X : Type 0} (f : X → List Entry) (xs : List X) (k : ℕ) (d : X) (before : List (List Entry)) (logs more : List (Bor (List Entry)))
    (log : Bor (List Entry)) → k < length xs → lists_of logs ≡ before ++ map f (take k xs) → log.now ≡ f (get_or xs k d) → more ≡ logs ++ log ∷ [] →
    lists_of more ≡ before ++ map f (take (k + 1) xs)
log_added f xs k d before logs more log lt was is pushed =
    ap (λ (ls : List (Bor (List Entry))). lists_of ls) pushed ∙ map-append (λ (l : Bor (List Entry)). l.now) logs (log ∷ [])
    ∙ ap (λ (ls : List (List Entry)). ls ++ log.now ∷ []) was
    ∙ ap (λ (l : List Entry). (before ++ map f (take k xs)) ++ l ∷ []) is
    ∙ append_assoc before (map f (take k xs)) (f (get_or xs k d) ∷ [])
    ∙ ap (λ (ls : List (List Entry)). before ++ ls) (sym (map_more f xs k d lt))

pub logs_more : (parts : List NodePart) (k : ℕ) (p : NodePart) → k < length parts → p ≡ get_or parts k p →
    all_logs (take (k + 1) parts) ≡ all_logs (take k parts) ++ logs_of_part p
logs_more [] k p lt is = absurd (omega (arith, lt))
logs_more (q ∷ parts) zero p lt is = append-nil (logs_of_part q) ∙ ap logs_of_part (sym is)
logs_more (q ∷ parts) (suc k) p lt is =
    let n : suc k + 1 ≡ suc (k + 1) = omega arith in
    ap (λ (m : ℕ). all_logs (take m (q ∷ parts))) n
    ∙ ap (λ (l : List (List Entry)). logs_of_part q ++ l) (logs_more parts k p (omega (arith, lt)) is)
    ∙ sym (append_assoc (logs_of_part q) (all_logs (take k parts)) (logs_of_part p))

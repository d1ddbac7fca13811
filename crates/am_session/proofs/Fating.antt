-- The fates of one message more.
use Rattle.std.proofs.Common.{◌≡◌, ℕ, suc, ◌+◌, List, [], ◌∷◌, ◌++◌, sym, ap, ◌∙◌, append_assoc, arith}
use Rattle.std.specs.List.{flat_map, range_with_len}
use Rattle.std.proofs.lemmas.Grind.{flat_map-append}
use Rattle.std.proofs.lemmas.List.{append-nil}
use Rattle.am_lemmas.proofs.Lists.{range_push}
use Rattle.am_restart.specs.declared.events.SessionEntry.{SessionEntry}
use Rattle.am_session.specs.Report.{fate_line, fate_lines}

lines_more : (entries : List SessionEntry) (n : ℕ) → fate_lines entries (n + 1) ≡ fate_lines entries n ++ fate_line entries (n + 1)
lines_more entries n =
    let counted : range_with_len 1 (n + 1) ≡ range_with_len 1 n ++ (n + 1) ∷ [] =
    ap (range_with_len 1) (let e : n + 1 ≡ suc n = omega arith in e) ∙ range_push 1 n
    ∙ ap (λ (k : ℕ). range_with_len 1 n ++ k ∷ []) (let e : 1 + n ≡ n + 1 = omega arith in e)
    in
    ap (flat_map (fate_line entries)) counted
    ∙ flat_map-append (fate_line entries) (range_with_len 1 n) ((n + 1) ∷ [])
    ∙ ap (λ (l : List ℕ). fate_lines entries n ++ l) (append-nil (fate_line entries (n + 1)))

pub fates_next : (entries : List SessionEntry) (n : ℕ) (out mid new : List ℕ) → mid ≡ out ++ fate_lines entries n → new ≡ mid ++ fate_line entries (n + 1) →
    new ≡ out ++ fate_lines entries (n + 1)
fates_next entries n out mid new first second =
    second ∙ ap (λ (l : List ℕ). l ++ fate_line entries (n + 1)) first ∙ append_assoc out (fate_lines entries n) (fate_line entries (n + 1))
    ∙ ap (λ (l : List ℕ). out ++ l) (sym (lines_more entries n))

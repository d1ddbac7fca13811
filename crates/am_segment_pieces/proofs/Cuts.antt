-- Put together in order, the pieces of a block are the block.
use Rattle.std.proofs.Common.{◌≡◌, ℕ, zero, suc, ◌+◌, ◌*◌, ◌/◌, List, [], ◌∷◌, ◌++◌, refl, sym, ap, ◌∙◌, length, take, arith, zero-add}
use Rattle.std.specs.List.{flat_map, range_with_len}
use Rattle.std.proofs.lemmas.List.{take_all, append-nil}
use Rattle.std.proofs.lemmas.Grind.{flat_map-append}
use Rattle.std.proofs.Math.Seq.{take-add}
use Rattle.am_lemmas.proofs.Lists.{range_push}
use Rattle.am_segment_pieces.specs.Blocks.{bytes_at}
use Rattle.am_segment_pieces.specs.Laws.Laws.{PiecesAreBlock}

-- the first pieces are the front of the block
more : (n : ℕ) → 24 * n + 24 ≡ 24 * suc n
more n = omega arith

front : (block : List ℕ) (n : ℕ) → flat_map (bytes_at block) (range_with_len 0 n) ≡ take (24 * n) block
front block zero = refl
front block (suc n) =
    ap (flat_map (bytes_at block)) (range_push 0 n ∙ ap (λ (k : ℕ). range_with_len 0 n ++ k ∷ []) (zero-add n))
    ∙ flat_map-append (bytes_at block) (range_with_len 0 n) (n ∷ [])
    ∙ ap (λ (p : List ℕ). p ++ (bytes_at block n ++ [])) (front block n)
    ∙ ap (λ (q : List ℕ). take (24 * n) block ++ q) (append-nil (bytes_at block n))
    ∙ sym (take-add (24 * n) 24 block)
    ∙ ap (λ (m : ℕ). take m block) (more n)

pub pieces_are_block : PiecesAreBlock
pieces_are_block block = front block ((length block + 23) / 24) ∙ take_all (24 * ((length block + 23) / 24)) block (omega arith)

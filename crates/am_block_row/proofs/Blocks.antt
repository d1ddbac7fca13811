-- The layout of the block behind a row, as an allocator is told it.
use Rattle.am_block_row.proofs.Steps.{◌≡◌, sym, ap, ◌∙◌, [], ◌∷◌, ℕ, zero, suc, ◌*◌, ◌<◌, ◌^◌, arith, Ty, ty_array, align, capped, RattleType, param, El, elτ}
use native.Mathlib.Nat.{zero-mul, suc-mul}
use mir.Syntax.{Args, a_type, dcons, dnil}
use mir.Raw.{raw as bare}
use prog.Memory.{size}
use prog.Capped.{capped_is}
use prog.RawLaws.{size-raw, align-raw}
use denote.Param.{bounded}
use Rattle.std.proofs.alloc.Calls.{Al}
use Rattle.am_block_row.proofs.Memory.{bytes}

-- where the product fits a word, the count is zero or the size fits too
pub uncapped : (n k : ℕ) → n * k < 2 ^ 64 → n * capped k ≡ n * k
uncapped zero k h = zero-mul (capped k) ∙ sym (zero-mul k)
uncapped (suc n) k h =
    let more = suc-mul n k in
    ap (λ (j : ℕ). suc n * j) (capped_is k (omega arith))

module _ (E : El) where
  abbrev pub block_ty : ℕ → Ty
  block_ty n = bare (ty_array (elτ E) n)

  pub block_size : (n : ℕ) → n * bytes E < 2 ^ 64 → capped (size (block_ty n)) ≡ n * bytes E
  block_size n fits = ap capped (size-raw (ty_array (elτ E) n)) ∙ capped_is (n * bytes E) fits

  pub block_align : (n : ℕ) → capped (align (block_ty n)) ≡ capped (align (elτ E))
  block_align n = ap capped (align-raw (ty_array (elτ E) n))

module _ (E : El) (Z : Al) where
  abbrev pub both_args : Args
  both_args = bounded (a_type ∷ a_type ∷ []) (E.row, (Z.row, tt)) (dcons Z.d (dcons Z.drops dnil))

  abbrev pub Heap : RattleType
  Heap = param 1 Z.row

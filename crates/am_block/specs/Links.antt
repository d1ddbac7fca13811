-- What contracts see of the nodes.
use Rattle.std.specs.Prelude.{ℕ, List, get_or, slice_set}
use Rattle.am_block.specs.declared.Descriptor.{Descriptor}
use Rattle.am_block.specs.declared.List.{List as Which}

-- for each slot the slot behind it, the slot before it, its list and its descriptor
pub record Links : Type 0 where
  pub next : List ℕ
  pub prev : List ℕ
  pub lists : List Which
  pub descriptors : List Descriptor

-- the slots before and behind s are joined
abbrev pub joined : Links → ℕ → Links
joined k s =
    let p = get_or k.prev s 0 in
    let q = get_or k.next s 0 in
    record k { next = slice_set k.next p q; prev = slice_set k.prev q p }

-- s comes before h, in this list
abbrev pub inserted : Links → ℕ → ℕ → Which → Links
inserted k s h l =
    let t = get_or k.prev h 0 in
    record k {
      next = slice_set (slice_set k.next t s) s h;
      prev = slice_set (slice_set k.prev s t) h s;
      lists = slice_set k.lists s l;
    }

-- h comes before and behind itself
abbrev pub closed : Links → ℕ → Which → Links
closed k h l = record k { next = slice_set k.next h h; prev = slice_set k.prev h h; lists = slice_set k.lists h l }

abbrev pub with_descriptor : Links → ℕ → Descriptor → Links
with_descriptor k s d = record k { descriptors = slice_set k.descriptors s d }

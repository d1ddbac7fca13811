-- What is left of known bytes, and what is held.
use Rattle.std.proofs.Common.{◌≡◌, ℕ, ◌+◌, ◌<◌, ◌≤◌, List, [], ◌++◌, length, take, drop, Option, Some, None, refl, sym, ap, ◌∙◌, append_assoc}
use Rattle.std.proofs.Common.{length-drop, length-append, length-take, arith}
use Rattle.std.specs.Io.KnownBytes.{Appends, Consumes, Keeps}
use Rattle.std.proofs.lemmas.List.{take-append-drop, drop-drop, drop_all, take_at}
use Rattle.std.specs.Prelude.{Result, Ok, Err}
use Rattle.am_io.specs.Causes.{Rose, ShortageCause, Stands, Counter, WriteCause}
use Rattle.am_io.specs.Whole.{TakeCause, TakesAtMost}
use Rattle.am_io.specs.declared.sink.SinkFault.{SinkFault}
use Rattle.am_io.specs.declared.sink.SinkFault.TheVariants as sinks
use Rattle.am_io.specs.declared.whole.TakeFault.{TakeFault}
use Rattle.am_io.specs.declared.whole.TakeFault.TheVariants as takes

-- ---- what was met

pub stands_none : (a : Counter) → Stands a a
stands_none a = record { told' = omega arith; met' = refl }

pub stands_then : (a b c : Counter) → Stands a b → Stands b c → Stands a c
stands_then a b c first next = record { told' = let f = first.told' in let n = next.told' in omega (arith, f, n); met' = next.met' ∙ first.met' }

pub rose_then : (a b c : Counter) → Stands a b → Rose b c → Rose a c
rose_then a b c first next = record {
  told' = let f = first.told' in let n = next.told' in omega (arith, f, n);
  met' = let f = first.met' in let n = next.met' in omega (arith, f, n);
}

pub take_then : {T : Type 0} (r : Result T TakeFault) (a b c : Counter) → Stands a b → TakeCause r b c → TakeCause r a c
take_then (Ok x) a b c first next = stands_then a b c first next
take_then (Err takes.Failed) a b c first next = rose_then a b c first next
take_then (Err takes.TooLong) a b c first next = stands_then a b c first next
take_then (Err takes.NoMemory) a b c first next = stands_then a b c first next

pub write_then : {T : Type 0} (r : Result T SinkFault) (a b c : Counter) → Stands a b → WriteCause r b c → WriteCause r a c
write_then (Ok x) a b c first next = stands_then a b c first next
write_then (Err sinks.Failed) a b c first next = rose_then a b c first next
write_then (Err sinks.NoMemory) a b c first next = stands_then a b c first next

pub shortage_then : {T : Type 0} (r : Result T SinkFault) (a b c : Counter) → Stands a b → ShortageCause r b c → ShortageCause r a c
shortage_then (Ok x) a b c first next = stands_then a b c first next
shortage_then (Err sinks.Failed) a b c first next = stands_then a b c first next
shortage_then (Err sinks.NoMemory) a b c first next = rose_then a b c first next

-- ---- bytes

pub front_read : (xs to : List ℕ) (at count : ℕ) → take count to ≡ take count (drop at xs) → drop at xs ≡ take count to ++ drop (at + count) xs
front_read xs to at count e = sym (take-append-drop count (drop at xs)) ∙ rw (e, drop-drop count at xs) refl

pub at_end : (xs : List ℕ) (at count : ℕ) → length (drop at xs) ≡ 0 → drop (at + count) xs ≡ []
at_end xs at count none = drop_all (at + count) xs (omega (arith, length-drop at xs))

pub consumes_none : (a : Option (List ℕ)) → Consumes a a []
consumes_none None = tt
consumes_none (Some xs) = refl

pub consumes_then : (a b c : Option (List ℕ)) (p q : List ℕ) → Consumes a b p → Consumes b c q → Consumes a c (p ++ q)
consumes_then None b c p q f g = tt
consumes_then (Some xs) None c p q f g = absurd f
consumes_then (Some xs) (Some ys) None p q f g = absurd g
consumes_then (Some xs) (Some ys) (Some zs) p q f g = f ∙ ap (λ (l : List ℕ). p ++ l) g ∙ sym (append_assoc p q zs)

pub appends_then : (a b c : Option (List ℕ)) (p q : List ℕ) → Appends a b p → Appends b c q → Appends a c (p ++ q)
appends_then None b c p q f g = tt
appends_then (Some xs) None c p q f g = absurd f
appends_then (Some xs) (Some ys) None p q f g = absurd g
appends_then (Some xs) (Some ys) (Some zs) p q f g = g ∙ ap (λ (l : List ℕ). l ++ q) f ∙ append_assoc xs p q

pub appends_kept : (a b c : Option (List ℕ)) (p : List ℕ) → Appends a b p → Keeps b c → Appends a c p
appends_kept None b c p f g = tt
appends_kept (Some xs) None c p f g = absurd f
appends_kept (Some xs) (Some ys) None p f g = absurd g
appends_kept (Some xs) (Some ys) (Some zs) p f g = g ∙ f

-- ---- taking

-- nothing was taken
pub took_none : (a : Option (List ℕ)) (most : ℕ) → TakesAtMost most a a
took_none a most = record { taken = []; few = omega arith; took = consumes_none a }

pub took_then : (a b c : Option (List ℕ)) (p : List ℕ) (most more : ℕ) → Consumes a b p → TakesAtMost more b c → length p + more ≤ most → TakesAtMost most a c
took_then a b c p most more first next few = record {
  taken = p ++ next.taken;
  few = let rest = next.few in omega (arith, rest, few, length-append p next.taken);
  took = consumes_then a b c p next.taken first next.took;
}

-- ---- giving

-- a front of the text was appended, and this is the rest
pub record Gave (a b : Option (List ℕ)) (text rest : List ℕ) : Type 0 where
  pub front : List ℕ
  pub split : text ≡ front ++ rest
  pub given : Appends a b front

pub gave_more : (a b c : Option (List ℕ)) (text rest : List ℕ) (count : ℕ) → Gave a b text rest → Appends b c (take count rest) →
    Gave a c text (drop count rest)
gave_more a b c text rest count so_far more = record {
  front = so_far.front ++ take count rest;
  split = so_far.split ∙ ap (λ (l : List ℕ). so_far.front ++ l) (sym (take-append-drop count rest))
      ∙ sym (append_assoc so_far.front (take count rest) (drop count rest));
  given = appends_then a b c so_far.front (take count rest) so_far.given more;
}

pub gave_front : (a b c : Option (List ℕ)) (text rest : List ℕ) → Gave a b text rest → 0 < length rest → Keeps b c →
    (count : ℕ) × (count < length text) × Appends a c (take count text)
gave_front a b c text rest so_far some kept =
    let whole : take (length so_far.front) text ≡ so_far.front = ap (λ (l : List ℕ). take (length so_far.front) l) so_far.split
    ∙ take_at so_far.front rest (length so_far.front) refl in
    (length so_far.front, omega (arith, ap length so_far.split, length-append so_far.front rest), rw whole (appends_kept a b c so_far.front so_far.given kept))

-- ---- reading from memory

-- the front of a buffer into which a front was copied
pub copied_front : (xs buf to : List ℕ) (count : ℕ) → count ≤ length xs → to ≡ take count xs ++ drop count buf → take count to ≡ take count xs
copied_front xs buf to count le e = ap (λ (l : List ℕ). take count l) e ∙ take_at (take count xs) (drop count buf) count (omega (arith, length-take count xs))

pub copied_length : (xs buf to : List ℕ) (count : ℕ) → count ≤ length xs → count ≤ length buf → to ≡ take count xs ++ drop count buf → length to ≡ length buf
copied_length xs buf to count le le2 e =
    omega (arith, ap length e, length-append (take count xs) (drop count buf), length-take count xs, length-drop count buf)

pub read_front : (xs buf to : List ℕ) (at count : ℕ) → count ≤ length (drop at xs) → to ≡ take count (drop at xs) ++ drop count buf →
    drop at xs ≡ take count to ++ drop (at + count) xs
read_front xs buf to at count le e = front_read xs to at count (copied_front (drop at xs) buf to count le e)

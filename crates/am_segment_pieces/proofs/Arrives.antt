-- Where all pieces of a transfer ran and none of its places was written over later, the segment holds the block.
use Rattle.std.proofs.Common.{leb}
use Rattle.std.proofs.Common.{◌≡◌, ℕ, zero, suc, ◌+◌, ◌*◌, ◌/◌, ◌-◌, ◌<◌, ◌≤◌, Bool, true, false, ◌&&◌, ◌||◌, cond, Option, Some, None, List, [], ◌∷◌, ◌++◌}
use Rattle.std.proofs.Common.{refl, sym, ap, ◌∙◌, length, drop, map, count_by, get_or, slice_index, replicate, nat_eq, arith, add-one, zero-add, min, inl, inr}
use Rattle.std.specs.List.{list_any, range_with_len}
use Rattle.std.proofs.lemmas.Bool.{le-leb, lt-ltb, leb-true, ltb-true, eqb-true}
use Rattle.std.proofs.lemmas.Bool.Decides.{eqb_tells}
use Rattle.std.proofs.lemmas.List.{get_or-drop, get_or-take, get_or_append_left, length-take, length-drop, length-append, length-replicate, append_assoc}
use Rattle.std.proofs.lemmas.List.{append-nil}
use Rattle.std.proofs.lemmas.List.Folds.{list_any-append}
use Rattle.std.proofs.lemmas.List.FromFn.{sum_by-map-range_with_len_more, length-map-range_with_len}
use Rattle.std.proofs.lemmas.List.Sums.{count_by-le-length}
use Rattle.am_lemmas.proofs.Bytes.{bytes-padded, bytes-take}
use Rattle.am_lemmas.proofs.Bools.{and_first, and_second}
use Rattle.am_names.specs.declared.Words.{Words}
use Rattle.am_office_entries.specs.declared.Entry.{Entry}
use Rattle.am_segment_pieces.specs.declared.parts.Piece.{Piece}
use Rattle.am_segment_pieces.specs.declared.segment.SegmentLine.{SegmentLine}
use Rattle.am_segment_pieces.specs.Lists.{TransferLists}
use Rattle.am_segment_pieces.specs.Pieces.{piece_of, words_of}
use Rattle.am_segment_pieces.specs.Blocks.{bytes_at, padded, piece_at, piece_count}
use Rattle.am_segment_pieces.specs.Segments.{after_write, byte_after, byte_at, covers, has_run, has_words, ran_count, same_words, words_run}
use Rattle.am_segment_pieces.specs.Segments.{written_by}
use Rattle.am_segment_pieces.proofs.Written.{byte_at_next}
use Rattle.am_segment_pieces.specs.Laws.Laws.{BlocksArrive, HasBegun, IsFor, IsOwnPiece, IsPiece, IsUndisturbed}
use Rattle.am_segment_pieces.proofs.RoundTrip.{pieces_are_words}

-- ---- the bytes of a piece

length-bytes_at : (block : List ℕ) (k : ℕ) → length (bytes_at block k) ≡ min 24 (length block - 24 * k)
length-bytes_at block k = length-take 24 (drop (24 * k) block) ∙ ap (min 24) (length-drop (24 * k) block)

byte_in : (block : List ℕ) (k j : ℕ) → j < length (bytes_at block k) → get_or (padded (bytes_at block k)) j 0 ≡ get_or block (24 * k + j) 0
byte_in block k j below =
    let few : j < 24 = omega (arith, length-bytes_at block k) in
    get_or_append_left (bytes_at block k) (replicate (24 - length (bytes_at block k)) 0) 0 j below
    ∙ get_or-take 24 (drop (24 * k) block) j 0 few
    ∙ get_or-drop (24 * k) block j 0

-- an own piece that covers a place writes the block's byte there
own_byte : (number : ℕ) (t : TransferLists) (k i : ℕ) → covers (t.offset + i) (piece_at number t k) ≡ true →
    slice_index (piece_at number t k).bytes ((t.offset + i) - (piece_at number t k).offset) ≡ slice_index t.bytes i
unfolding piece_at
own_byte number t k i covered =
    let low : t.offset + 24 * k ≤ t.offset + i = leb-true (t.offset + 24 * k) (t.offset + i) (and_first _ _ covered) in
    let high : t.offset + i < t.offset + 24 * k + length (bytes_at t.bytes k) =
    ltb-true (t.offset + i) (t.offset + 24 * k + length (bytes_at t.bytes k)) (and_second _ _ covered) in
    let j : ℕ = (t.offset + i) - (t.offset + 24 * k) in
    byte_in t.bytes k j (omega arith) ∙ ap (λ (n : ℕ). get_or t.bytes n 0) (omega arith)

-- the piece of a place covers it
own_covers : (number : ℕ) (t : TransferLists) (i : ℕ) → i < length t.bytes → covers (t.offset + i) (piece_at number t (i / 24)) ≡ true
unfolding piece_at
own_covers number t i below =
    let low : t.offset + 24 * (i / 24) ≤ t.offset + i = omega arith in
    let high : t.offset + i < t.offset + 24 * (i / 24) + length (bytes_at t.bytes (i / 24)) = omega (arith, length-bytes_at t.bytes (i / 24)) in
    rw (le-leb (t.offset + 24 * (i / 24)) (t.offset + i) low, lt-ltb (t.offset + i) (t.offset + 24 * (i / 24) + length (bytes_at t.bytes (i / 24))) high) refl

padded_zero : (bytes : List ℕ) (n : ℕ) (i : ℕ) → length bytes ≤ i → get_or (bytes ++ replicate n 0) i 0 ≡ 0
padded_zero [] zero i past = refl
padded_zero [] (suc n) zero past = refl
padded_zero [] (suc n) (suc i) past = padded_zero [] n i (omega arith)
padded_zero (b ∷ bytes) n zero past = absurd (omega arith)
padded_zero (b ∷ bytes) n (suc i) past = padded_zero bytes n i (omega arith)

-- each piece is one
is_piece : (s : SegmentLine) (number : ℕ) (t : TransferLists) (k : ℕ) → IsFor s t → k < piece_count t → IsPiece (piece_at number t k)
unfolding piece_at
is_piece s number t k for below =
    let size : length (bytes_at t.bytes k) ≡ min 24 (length t.bytes - 24 * k) = length-bytes_at t.bytes k in
    let within : t.offset + length t.bytes ≤ s.size = for.within in
    let most : s.size ≤ 65_536 = for.size in
    let front : 24 * k < length t.bytes = omega arith in
    record {
      offset = omega arith;
      some = omega arith;
      few = omega arith;
      size =
          length-append (bytes_at t.bytes k) (replicate (24 - length (bytes_at t.bytes k)) 0)
          ∙ ap (λ (n : ℕ). length (bytes_at t.bytes k) + n) (length-replicate (24 - length (bytes_at t.bytes k)) 0)
          ∙ omega arith;
      bytes = bytes-padded (bytes_at t.bytes k) (24 - length (bytes_at t.bytes k)) (bytes-take 24 (drop (24 * k) t.bytes)
          (λ (i : ℕ). rw (get_or-drop (24 * k) t.bytes i 0) (for.bytes (24 * k + i))));
      zeros = padded_zero (bytes_at t.bytes k) (24 - length (bytes_at t.bytes k));
    }

abbrev IsWithin : SegmentLine → Piece → Type 0
IsWithin s piece = leb (piece.offset + piece.len) s.size ≡ true

own_within : (s : SegmentLine) (number : ℕ) (t : TransferLists) (k : ℕ) → IsFor s t → k < piece_count t →
    IsWithin s (piece_at number t k)
unfolding piece_at
own_within s number t k for below =
    let size : length (bytes_at t.bytes k) ≡ min 24 (length t.bytes - 24 * k) = length-bytes_at t.bytes k in
    let within : t.offset + length t.bytes ≤ s.size = for.within in
    let front : 24 * k < length t.bytes = omega arith in
    le-leb (t.offset + 24 * k + length (bytes_at t.bytes k)) s.size (omega arith)

-- ---- the runs

pub record Found (test : Entry → Bool) (journal : List Entry) : Type 0 where
  pub past : List Entry
  pub entry : Entry
  pub later : List Entry
  pub split : journal ≡ past ++ entry ∷ later
  pub passes : test entry ≡ true

found_here : (test : Entry → Bool) (x : Entry) (xs : List Entry) (b : Bool) → test x ≡ b → (b || list_any test xs) ≡ true →
    (list_any test xs ≡ true → Found test xs) → Found test (x ∷ xs)
found_here test x xs true here any behind = record { past = []; entry = x; later = xs; split = refl; passes = here }
found_here test x xs false here any behind =
    let f : Found test xs = behind any in
    record { past = x ∷ f.past; entry = f.entry; later = f.later; split = ap (λ (rest : List Entry). x ∷ rest) f.split; passes = f.passes }

found : (test : Entry → Bool) (journal : List Entry) → list_any test journal ≡ true → Found test journal
found test [] any = absurd (cc)
found test (x ∷ xs) any = found_here test x xs (test x) refl any (found test xs)

abbrev of : ℕ → ℕ → ℕ → ℕ → Words
of a b c d = record { a = a; b = b; c = c; d = d }

rewritten : (a a' b b' c c' d d' : ℕ) → a ≡ a' → b ≡ b' → c ≡ c' → d ≡ d' → of a b c d ≡ of a' b' c' d'
rewritten a a' b b' c c' d d' ea eb ec ed = rw (ea, eb, ec, ed) refl

same_words_are : (v w : Words) → same_words v w ≡ true → v ≡ w
same_words_are v w same =
    let a : v.a ≡ w.a = eqb-true v.a w.a (and_first _ _ same) in
    let rest : (nat_eq v.b w.b && (nat_eq v.c w.c && nat_eq v.d w.d)) ≡ true = and_second _ _ same in
    let b : v.b ≡ w.b = eqb-true v.b w.b (and_first _ _ rest) in
    let last : (nat_eq v.c w.c && nat_eq v.d w.d) ≡ true = and_second _ _ rest in
    let c : v.c ≡ w.c = eqb-true v.c w.c (and_first _ _ last) in
    let d : v.d ≡ w.d = eqb-true v.d w.d (and_second _ _ last) in
    rewritten v.a w.a v.b w.b v.c w.c v.d w.d a b c d

words_are : (words : Words) (o : Option Words) → has_words words o ≡ true → o ≡ Some words
words_are words None e = absurd (cc)
words_are words (Some other) e = ap Some (same_words_are other words e)

written : (s : SegmentLine) (x : Entry) (piece : Piece) → words_run s.end s.handler x ≡ Some (words_of piece) → piece_of (words_of piece) ≡ Some piece →
    IsWithin s piece → written_by s x ≡ Some piece
unfolding written_by
written s x piece ran spelled within = rw (ran, spelled, within) refl

-- ---- all pieces ran

all_here : (p : Piece → Bool) (f : ℕ → Piece) (n : ℕ) (b : Bool) → p (f n) ≡ b → count_by p (map f (range_with_len 0 n)) + cond b 1 0 ≡ suc n →
    (count_by p (map f (range_with_len 0 n)) ≡ n) × (p (f n) ≡ true)
all_here p f n true here e = (omega arith, here)
all_here p f n false here e =
    absurd (omega (arith, count_by-le-length p (map f (range_with_len 0 n)), length-map-range_with_len f 0 n))

all_true : (p : Piece → Bool) (f : ℕ → Piece) (n : ℕ) → count_by p (map f (range_with_len 0 n)) ≡ n → (k : ℕ) → k < n → p (f k) ≡ true
all_true p f zero e k below = absurd (omega arith)
all_true p f (suc n) e k below =
    let now : count_by p (map f (range_with_len 0 n)) + cond (p (f n)) 1 0 ≡ suc n =
    sym (sum_by-map-range_with_len_more (λ (x : Piece). cond (p x) 1 0) f 0 n n (zero-add n))
    ∙ ap (λ (m : ℕ). count_by p (map f (range_with_len 0 m))) (add-one n) ∙ e in
    let both = all_here p f n (p (f n)) refl now in
    elim (eqb_tells k n) [
      | inl (found, same) ↦ rw same both.1
      | inr (missed, other) ↦ all_true p f n both.0 k (omega arith)
    ]

-- ---- entry by entry

covered_byte : (number : ℕ) (t : TransferLists) (i : ℕ) (piece : Piece) (byte : ℕ) → covers (t.offset + i) piece ≡ true → IsOwnPiece number t piece →
    byte_after piece (t.offset + i) byte ≡ slice_index t.bytes i
covered_byte number t i piece byte covered own =
    let at : covers (t.offset + i) (piece_at number t own.0) ≡ true = ap (covers (t.offset + i)) (sym own.2) ∙ covered in
    rw covered (ap (λ (q : Piece). slice_index q.bytes ((t.offset + i) - q.offset)) own.2 ∙ own_byte number t own.0 i at)

after_piece : (number : ℕ) (t : TransferLists) (i : ℕ) (piece : Piece) (byte : ℕ) (b : Bool) → covers (t.offset + i) piece ≡ b → byte ≡ slice_index t.bytes i →
    (covers (t.offset + i) piece ≡ true → IsOwnPiece number t piece) → byte_after piece (t.offset + i) byte ≡ slice_index t.bytes i
after_piece number t i piece byte true covered right own = covered_byte number t i piece byte covered (own covered)
after_piece number t i piece byte false missed right own = rw missed right

after_own : (number : ℕ) (t : TransferLists) (i : ℕ) (o : Option Piece) (byte : ℕ) → byte ≡ slice_index t.bytes i →
    ((piece : Piece) → o ≡ Some piece → covers (t.offset + i) piece ≡ true → IsOwnPiece number t piece) →
    after_write o (t.offset + i) byte ≡ slice_index t.bytes i
after_own number t i None byte right own = right
after_own number t i (Some piece) byte right own = after_piece number t i piece byte (covers (t.offset + i) piece) refl right (own piece refl)

begun_more : (past later : List Entry) (s : SegmentLine) (number : ℕ) (t : TransferLists) → HasBegun past s number t → HasBegun (past ++ later) s number t
begun_more past later s number t begun = (
  begun.0,
  begun.1,
  list_any-append (λ (x : Entry). has_words (words_of (piece_at number t begun.0)) (words_run s.end s.handler x)) past later
      ∙ ap (λ (b : Bool). b || has_run later s.end s.handler (words_of (piece_at number t begun.0))) begun.2,
)

keep : (s : SegmentLine) (number : ℕ) (t : TransferLists) (i : ℕ) (journal : List Entry) → IsUndisturbed journal s number t → i < length t.bytes →
    (later past : List Entry) → journal ≡ past ++ later → HasBegun past s number t → byte_at s past (t.offset + i) ≡ slice_index t.bytes i →
    byte_at s journal (t.offset + i) ≡ slice_index t.bytes i
keep s number t i journal undisturbed below [] past split begun right = ap (λ (j : List Entry). byte_at s j (t.offset + i)) (split ∙ append-nil past) ∙ right
keep s number t i journal undisturbed below (x ∷ rest) past split begun right =
    keep s number t i journal undisturbed below rest (past ++ x ∷ []) (split
    ∙ sym (append_assoc past (x ∷ []) rest)) (begun_more past (x ∷ []) s number t begun)
    (byte_at_next s past x (t.offset + i)
    ∙ after_own number t i (written_by s x) (byte_at s past (t.offset + i)) right (λ (piece : Piece) (wrote : written_by s x ≡ Some piece)
    (covered : covers (t.offset + i) piece ≡ true). undisturbed past rest x piece i split begun wrote below covered))

or_true : (b : Bool) → (b || (true || false)) ≡ true
or_true true = refl
or_true false = refl

counted : (journal : List Entry) (s : SegmentLine) (number : ℕ) (t : TransferLists) → ran_count journal s number t ≡ piece_count t →
    count_by (λ (piece : Piece). has_run journal s.end s.handler (words_of piece)) (map (piece_at number t) (range_with_len 0 (piece_count t))) ≡ piece_count t
unfolding ran_count
counted journal s number t all = all

pub blocks_arrive : BlocksArrive
blocks_arrive s number t journal for all undisturbed i below =
    let small : i / 24 < piece_count t = omega arith in
    let piece : Piece = piece_at number t (i / 24) in
    let test : Entry → Bool = λ (x : Entry). has_words (words_of piece) (words_run s.end s.handler x) in
    let ran : list_any test journal ≡ true = all_true (λ (p : Piece). has_run journal s.end s.handler (words_of p)) (piece_at number t) (piece_count t)
    (counted journal s number t all) (i / 24) small in
    let f : Found test journal = found test journal ran in
    let wrote : written_by s f.entry ≡ Some piece =
    written s f.entry piece (words_are (words_of piece) (words_run s.end s.handler f.entry) f.passes)
    (pieces_are_words piece (is_piece s number t (i / 24) for small)) (own_within s number t (i / 24) for small) in
    let begun : HasBegun (f.past ++ f.entry ∷ []) s number t = (
      i / 24,
      small,
      list_any-append test f.past (f.entry ∷ []) ∙ ap (λ (b : Bool). list_any test f.past || (b || false)) f.passes
          ∙ or_true (list_any test f.past),
    ) in
    keep s number t i journal undisturbed below f.later (f.past ++ f.entry ∷ []) (f.split ∙ sym (append_assoc f.past (f.entry ∷ []) f.later)) begun
    (byte_at_next s f.past f.entry (t.offset + i)
    ∙ ap (λ (o : Option Piece). after_write o (t.offset + i) (byte_at s f.past (t.offset + i))) wrote
    ∙ covered_byte number t i piece (byte_at s f.past (t.offset + i)) (own_covers number t i below) (i / 24, small, refl))

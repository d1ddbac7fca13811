-- The bytes of a segment after one entry more.
use Rattle.std.proofs.Common.{◌≡◌, ℕ, ◌<◌, ◌+◌, ◌-◌, Bool, true, false, Option, Some, None, List, [], ◌∷◌, ◌++◌, refl, sym, ap, ◌∙◌, length, take, map, get_or, arith}
use Rattle.std.proofs.Common.{slice_index, reverse, filter_map, find, if◌then◌else◌, add-one, zero-add, replicate}
use Rattle.std.specs.List.{cons_option, range_with_len}
use Rattle.std.proofs.lemmas.List.{append-nil, reverse-append, same_lists, get_or_default, get_or-replicate, length-replicate}
use Rattle.std.proofs.lemmas.List.FromFn.{length-map-range_with_len, get_or-map-range_with_len}
use Rattle.std.proofs.lemmas.List.Elements.{filter_map-append}
use Rattle.std.proofs.Math.Seq.{take-suc}
use Rattle.std.specs.Borrow.{Bor}
use Rattle.am_office_entries.specs.declared.Entry.{Entry}
use Rattle.am_office_entries.specs.Logged.Behind.{entries_behind}
use Rattle.am_office_entries.proofs.Entries.{behind_at, length_behind}
use Rattle.am_segment_pieces.specs.declared.parts.Piece.{Piece}
use Rattle.am_segment_pieces.specs.declared.segment.SegmentLine.{SegmentLine}
use Rattle.am_segment_pieces.specs.Segments.{written_by, covers, byte_of, byte_at, byte_after, after_write, segment_bytes}

chosen : (b : Bool) (piece : Piece) (place : ℕ) (other : Option Piece) →
    byte_of place (if b then Some piece else other) ≡ (if b then slice_index piece.bytes (place - piece.offset) else byte_of place other)
chosen true piece place other = refl
chosen false piece place other = refl

last_of : (pieces : List Piece) (piece : Piece) (place : ℕ) →
    byte_of place (find (covers place) (reverse (pieces ++ piece ∷ []))) ≡ byte_after piece place (byte_of place (find (covers place) (reverse pieces)))
last_of pieces piece place = rw (reverse-append pieces (piece ∷ [])) (chosen (covers place piece) piece place (find (covers place) (reverse pieces)))

one_more : (pieces : List Piece) (o : Option Piece) (place : ℕ) →
    byte_of place (find (covers place) (reverse (pieces ++ cons_option o []))) ≡ after_write o place (byte_of place (find (covers place) (reverse pieces)))
one_more pieces None place = rw (append-nil pieces) refl
one_more pieces (Some piece) place = last_of pieces piece place

pub byte_at_next : (s : SegmentLine) (journal : List Entry) (x : Entry) (place : ℕ) →
    byte_at s (journal ++ x ∷ []) place ≡ after_write (written_by s x) place (byte_at s journal place)
unfolding byte_at
byte_at_next s journal x place =
    rw (filter_map-append (written_by s) journal (x ∷ [])) (one_more (filter_map (written_by s) journal) (written_by s x) place)

-- the places of a segment have these bytes
pub record Holds (s : SegmentLine) (bytes : List ℕ) (journal : List Entry) : Type 0 where
  pub size : length bytes ≡ s.size
  pub each : (place : ℕ) → place < s.size → slice_index bytes place ≡ byte_at s journal place

pub holds_nothing : (s : SegmentLine) → Holds s (replicate s.size 0) []
unfolding byte_at
holds_nothing s = record {
  size = length-replicate s.size 0;
  each = λ (place : ℕ) (below : place < s.size). get_or-replicate s.size place 0 0 below;
}

-- one entry more
pub holds_next : (s : SegmentLine) (bytes new : List ℕ) (xs : List Entry) (i : ℕ) (d : Entry) → i < length xs → length new ≡ length bytes →
    ((place : ℕ) → slice_index new place ≡ after_write (written_by s (get_or xs i d)) place (slice_index bytes place)) → Holds s bytes (take i xs) →
    Holds s new (take (i + 1) xs)
holds_next s bytes new xs i d below same wrote holds =
    rw (add-one, take-suc xs i d below)
    (record {
      size = same ∙ holds.size;
      each = λ (place : ℕ) (small : place < s.size).
          wrote place ∙ ap (after_write (written_by s (get_or xs i d)) place) (holds.each place small) ∙ sym (byte_at_next s (take i xs) (get_or xs i d) place);
    })

-- the same behind references
pub holds_next_behind : (s : SegmentLine) (bytes new : List ℕ) (xs : List (Bor Entry)) (i : ℕ) (d : Bor Entry) → i < length xs → length new ≡ length bytes →
    ((place : ℕ) → slice_index new place ≡ after_write (written_by s (get_or xs i d).now) place (slice_index bytes place)) →
    Holds s bytes (take i (entries_behind xs)) → Holds s new (take (i + 1) (entries_behind xs))
holds_next_behind s bytes new xs i d below same wrote holds =
    holds_next s bytes new (entries_behind xs) i d.now (omega (arith, length_behind xs, below)) same
    (λ place. wrote place ∙ ap (λ (e : Entry). after_write (written_by s e) place (slice_index bytes place)) (sym (behind_at xs i d d.now below))) holds

pub holds_start : (s : SegmentLine) (bytes : List ℕ) → bytes ≡ replicate s.size 0 → Holds s bytes []
holds_start s bytes zeros = rw zeros (holds_nothing s)

pub holds_all : (s : SegmentLine) (bytes : List ℕ) (journal : List Entry) → Holds s bytes journal → bytes ≡ segment_bytes s journal
unfolding segment_bytes
holds_all s bytes journal holds =
    same_lists bytes (map (byte_at s journal) (range_with_len 0 s.size))
    (holds.size ∙ sym (length-map-range_with_len (byte_at s journal) 0 s.size))
    (λ (k d : ℕ) (below : k < length bytes).
    let small : k < s.size = rw (sym holds.size) below in
    get_or_default bytes k d 0 below ∙ holds.each k small ∙ sym (get_or-map-range_with_len (byte_at s journal) 0 s.size k k d small (zero-add k)))

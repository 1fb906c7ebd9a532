-- The readers before document 02's requests changed them, and what is promised of the sheets that they read: nothing changes for them.
use Rattle.std.specs.Prelude.{◌≡◌, List, [], ◌∷◌, ◌++◌, Bool, cond, ◌⊎◌, ℕ, zero, ◌+◌, ◌≤◌, ◌<◌, ℤ, pos, neg_ℤ, ◌+ℤ◌, ◌*ℤ◌, leb, length, get_or, take, replicate}
use Rattle.std.proofs.Math.Option.{Option, none, some}
use Rattle.whole.specs.Integer.{larger}
use Rattle.meaning.specs.Number.{unsigned16}
use Rattle.meaning.specs.Form.{value, subtract}
use Rattle.meaning.specs.Record.{Kind, loop_kind, kind_of, Loop, stride_size, Record, loop_record, decode_record, sheet_length}
use Rattle.meaning.specs.Reader.{Result, ok, refused, read_from_of, read_from, read}
use Rattle.meaning.specs.Time.{difference, entry_cost, trip_count, trips, index_at}
use Rattle.meaning.specs.Range.{Range, range, index_range, ceiling}
use Rattle.meaning.specs.Closed.{push_own, asked_difference}
use Rattle.meaning.specs.Converter.{change_loop}

-- ---- the readers

-- document 01: at most 64 records
abbrev pub earlier_record_limit : ℕ
earlier_record_limit = 64

-- document 01: kinds 1 to 5
unfoldable pub first_kind_of : ℕ → Option Kind
first_kind_of n = cond (leb n 5) (kind_of n) none

-- a loop with another stride
unfoldable pub with_stride : ℤ → Loop → Loop
with_stride stride l = record { start = l.start; step = l.step; stride = stride; lower = l.lower; upper = l.upper; skip = l.skip }

-- document 01: the stride has "unsigned 16 bits"
unfoldable pub decode_unsigned : Kind → List ℕ → Record
decode_unsigned k body = change_loop (with_stride (pos (unsigned16 body 4))) (decode_record k body)

-- document 01's reader
unfoldable pub first_read : List ℕ → Result (List Record)
first_read sheet = read_from_of first_kind_of decode_unsigned earlier_record_limit 0 [] sheet

-- with kind 6 (document 02, C-12)
unfoldable pub unsigned_read : List ℕ → Result (List Record)
unsigned_read sheet = read_from_of kind_of decode_unsigned earlier_record_limit 0 [] sheet

-- with signed strides too (C-17)
unfoldable pub short_read : List ℕ → Result (List Record)
short_read sheet = read_from earlier_record_limit 0 [] sheet

-- ---- what they read

-- document 01's loop: no skip; entering it costs start, with or without a trip; closing a loop around it asks minus its stride
pub record LoopAsBefore (l : Loop) : Type 0 where
  pub no_skip : l.skip ≡ none
  pub entry : (trips : ℕ) → entry_cost l trips ≡ l.start
  pub asked : asked_difference l ≡ neg_ℤ (pos (stride_size l))

-- a loop with an unsigned stride: whatever a sign changed is what document 01 says: D is upper minus lower form, the index grows by the stride, its
-- range begins at the lower form's smallest value, and a push moves it up by the stride
pub record CountsUp (l : Loop) : Type 0 where
  pub positive : l.stride ≡ pos (stride_size l)
  pub difference_up : difference l ≡ subtract l.upper l.lower
  pub trips_up : (parameters indexes : List ℤ) →
      trips parameters l indexes ≡ trip_count (value parameters (subtract l.upper l.lower) indexes) (stride_size l)
  pub index_up : (parameters indexes : List ℤ) (trip : ℕ) →
      index_at parameters l indexes trip ≡ value parameters l.lower indexes +ℤ pos trip *ℤ pos (stride_size l)
  pub index_range_up : (parameters : List ℤ) (ranges : List Range) →
      let lo : ℤ = (range parameters l.lower ranges).lo in
      index_range parameters l ranges ≡ record { lo = lo; hi = larger lo (range parameters l.upper ranges).hi }
  pub ceiling_up : (parameters : List ℤ) (ranges : List Range) →
      ceiling parameters l ranges ≡ trip_count (range parameters (subtract l.upper l.lower) ranges).hi (stride_size l)
  pub push_up : (depth : ℕ) → push_own l depth ≡ replicate depth (pos zero) ++ (pos (stride_size l) ∷ [])

-- a loop stands there whose stride's field is 64,536 or more: it was above every stride, and is now a negative one
abbrev pub StrideAbove : List ℕ → ℕ → Type 0
StrideAbove sheet at = (has_skip : Bool) × (kind_of (get_or sheet at 0) ≡ some (loop_kind has_skip)) × (64536 ≤ unsigned16 sheet (at + 5))

-- this, or the sheet was refused 4: bytes follow its 64th record (C-19)
abbrev pub UnlessTooLong : List ℕ → Type 0 → Type 0
UnlessTooLong sheet A = A ⊎ ((at : ℕ) × (short_read sheet ≡ refused 4 at))

-- a sheet is read alike, refusals and places too, or it was refused 2 at a byte 6, 3 at a loop whose stride's field is 64,536 or more, or 4; a sheet
-- that is now read was read if it has at most 64 records, and was refused 4 at its 65th if it has more; each loop that was read is as it was
pub record ReadAsBefore (sheet : List ℕ) : Type 0 where
  pub alike : (first_read sheet ≡ unsigned_read sheet) ⊎ ((at : ℕ) × (first_read sheet ≡ refused 2 at) × (get_or sheet at 0 ≡ 6))
  pub alike_signed : (unsigned_read sheet ≡ short_read sheet) ⊎ ((at : ℕ) × (unsigned_read sheet ≡ refused 3 at) × StrideAbove sheet at)
  pub alike_longer : UnlessTooLong sheet (short_read sheet ≡ read sheet)
  pub shorter : (rs : List Record) → read sheet ≡ ok rs → length rs ≤ earlier_record_limit → short_read sheet ≡ ok rs
  pub longer : (rs : List Record) → read sheet ≡ ok rs → earlier_record_limit < length rs →
      short_read sheet ≡ refused 4 (sheet_length (take earlier_record_limit rs))
  pub loops : (before after : List Record) (l : Loop) → first_read sheet ≡ ok (before ++ (loop_record l ∷ after)) → LoopAsBefore l
  pub loops_up : (before after : List Record) (l : Loop) → unsigned_read sheet ≡ ok (before ++ (loop_record l ∷ after)) → CountsUp l

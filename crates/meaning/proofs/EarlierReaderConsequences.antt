-- What the promise of the sheets before document 02's requests comes to, drawn from it alone, so that a weaker part breaks a theorem: each is read as it
-- was, its loops mean what they meant, and only the refusals 2, 3 and 4 of what is new may change.
use mathlib.Core.Path.{◌≡◌, sym, ◌∙◌, subst}
use mathlib.Core.List.{List, [], ◌∷◌, ◌++◌}
use mathlib.Core.Bool.{Bool}
use mathlib.Core.Logic.{◌⊎◌, inl, inr}
use mathlib.Core.Option.{none, some}
use Prim.Native.Nat.{ℕ, zero, ◌+◌, ◌≤◌, ◌<◌}
use lib.IntN.{ℤ, pos, neg_ℤ, ◌+ℤ◌, ◌*ℤ◌}
use lib.ListN.{length, get_or, take, replicate}
use Rattle.whole.specs.Integer.{larger}
use Rattle.meaning.specs.Number.{unsigned16}
use Rattle.meaning.specs.Form.{value, subtract}
use Rattle.meaning.specs.Record.{loop_kind, kind_of, Loop, stride_size, Record, loop_record, sheet_length}
use Rattle.meaning.specs.Reader.{ok, refused, read}
use Rattle.meaning.specs.Time.{difference, entry_cost, trip_count, trips, index_at}
use Rattle.meaning.specs.Range.{Range, range, index_range, ceiling}
use Rattle.meaning.specs.Closed.{push_own, asked_difference}
use Rattle.meaning.specs.Answer.{answer_by}
use Rattle.meaning.specs.EarlierReaders.{first_read, unsigned_read, short_read, StrideAbove, ReadAsBefore}
use Rattle.meaning.proofs.Logic.{refused-is-not-ok, refused-number, refused-place}
use Rattle.meaning.proofs.Answers.{BudgetInRange, in-range-passes, answer-unread}

-- written out once more, so that a weaker promise breaks what follows
abbrev pub AboveAt : List ℕ → ℕ → Type 0
AboveAt sheet at = (has_skip : Bool) × (kind_of (get_or sheet at 0) ≡ some (loop_kind has_skip)) × (64536 ≤ unsigned16 sheet (at + 5))

module _ {sheet : List ℕ} (before : ReadAsBefore sheet) where
  -- ---- read

  -- before there was a sign
  pub still-unsigned : (rs : List Record) → first_read sheet ≡ ok rs → unsigned_read sheet ≡ ok rs
  still-unsigned rs e = go before.alike
    where
      go : (first_read sheet ≡ unsigned_read sheet) ⊎ ((at : ℕ) × (first_read sheet ≡ refused 2 at) × (get_or sheet at 0 ≡ 6)) → unsigned_read sheet ≡ ok rs
      go (inl same) = sym same ∙ e
      go (inr (at, refusal, six)) = refused-is-not-ok (sym refusal ∙ e)

  -- before there were longer sheets
  pub still-signed : (rs : List Record) → unsigned_read sheet ≡ ok rs → short_read sheet ≡ ok rs
  still-signed rs e = go before.alike_signed
    where
      go : (unsigned_read sheet ≡ short_read sheet) ⊎ ((at : ℕ) × (unsigned_read sheet ≡ refused 3 at) × StrideAbove sheet at) → short_read sheet ≡ ok rs
      go (inl same) = sym same ∙ e
      go (inr (at, refusal, above)) = refused-is-not-ok (sym refusal ∙ e)

  pub still-longer : (rs : List Record) → short_read sheet ≡ ok rs → read sheet ≡ ok rs
  still-longer rs e = go before.alike_longer
    where
      go : (short_read sheet ≡ read sheet) ⊎ ((at : ℕ) × (short_read sheet ≡ refused 4 at)) → read sheet ≡ ok rs
      go (inl same) = sym same ∙ e
      go (inr (at, refusal)) = refused-is-not-ok (sym refusal ∙ e)

  pub still_read : (rs : List Record) → first_read sheet ≡ ok rs → read sheet ≡ ok rs
  still_read rs e = still-longer rs (still-signed rs (still-unsigned rs e))

  -- a sheet that is now read and has at most 64 records was read before, and one that has more was not
  pub was_read : (rs : List Record) → read sheet ≡ ok rs → length rs ≤ 64 → short_read sheet ≡ ok rs
  was_read rs e h = before.shorter rs e h

  pub was-refused : (rs : List Record) → read sheet ≡ ok rs → 64 < length rs → short_read sheet ≡ refused 4 (sheet_length (take 64 rs))
  was-refused rs e h = before.longer rs e h

  -- and the library call turned it down so, at every budget within its range
  pub was-turned-down : (rs : List Record) (ps : List ℤ) (budget : ℕ) → BudgetInRange budget → read sheet ≡ ok rs → 64 < length rs →
      answer_by short_read sheet ps budget ≡ refused 4 (sheet_length (take 64 rs))
  was-turned-down rs ps budget within e h =
      answer-unread short_read sheet ps budget 4 (sheet_length (take 64 rs)) (in-range-passes budget within) (was-refused rs e h)

  -- ---- loops

  -- each loop of document 01's sheets has no skip, costs its start, whatever its trips, and is asked for minus its stride
  pub still-so : (rs after : List Record) (l : Loop) → first_read sheet ≡ ok (rs ++ (loop_record l ∷ after)) →
      (l.skip ≡ none) × ((trips : ℕ) → entry_cost l trips ≡ l.start) × (asked_difference l ≡ neg_ℤ (pos (stride_size l)))
  still-so rs after l e = let as_before = before.loops rs after l e in (as_before.no_skip, as_before.entry, as_before.asked)

  -- and each loop of these and of C-12's has document 01's D, trips, indexes, ranges, ceilings and pushes
  module _ (rs after : List Record) (l : Loop) (e : unsigned_read sheet ≡ ok (rs ++ (loop_record l ∷ after))) where
    pub still-up : (depth : ℕ) → (l.stride ≡ pos (stride_size l)) × (difference l ≡ subtract l.upper l.lower)
        × (push_own l depth ≡ replicate depth (pos zero) ++ (pos (stride_size l) ∷ []))
    still-up depth = let as_before = before.loops_up rs after l e in (as_before.positive, as_before.difference_up, as_before.push_up depth)

    pub still-moves : (ps indexes : List ℤ) (trip : ℕ) →
        (trips ps l indexes ≡ trip_count (value ps (subtract l.upper l.lower) indexes) (stride_size l))
        × (index_at ps l indexes trip ≡ value ps l.lower indexes +ℤ pos trip *ℤ pos (stride_size l))
    still-moves ps indexes trip = let as_before = before.loops_up rs after l e in (as_before.trips_up ps indexes, as_before.index_up ps indexes trip)

    pub still-ranges : (ps : List ℤ) (ranges : List Range) → let lo : ℤ = (range ps l.lower ranges).lo in
        (index_range ps l ranges ≡ record { lo = lo; hi = larger lo (range ps l.upper ranges).hi })
        × (ceiling ps l ranges ≡ trip_count (range ps (subtract l.upper l.lower) ranges).hi (stride_size l))
    still-ranges ps ranges = let as_before = before.loops_up rs after l e in (as_before.index_range_up ps ranges, as_before.ceiling_up ps ranges)

  -- ---- refusals

  -- a kind changes only a refusal 2, at a byte 6
  still-refused-unsigned : (number at : ℕ) → first_read sheet ≡ refused number at →
      (unsigned_read sheet ≡ refused number at) ⊎ ((number ≡ 2) × (get_or sheet at 0 ≡ 6))
  still-refused-unsigned number at e = go before.alike
    where
      go : (first_read sheet ≡ unsigned_read sheet) ⊎ ((at : ℕ) × (first_read sheet ≡ refused 2 at) × (get_or sheet at 0 ≡ 6)) →
          (unsigned_read sheet ≡ refused number at) ⊎ ((number ≡ 2) × (get_or sheet at 0 ≡ 6))
      go (inl same) = inl (sym same ∙ e)
      go (inr (six-at, refusal, six)) =
          inr (refused-number (sym e ∙ refusal), subst (λ (n : ℕ). get_or sheet n 0 ≡ 6) (sym (refused-place (sym e ∙ refusal))) six)

  -- a sign only a refusal 3: there stands a loop with a field that is a negative stride
  pub still-refused-signed : (number at : ℕ) → unsigned_read sheet ≡ refused number at →
      (short_read sheet ≡ refused number at) ⊎ ((number ≡ 3) × AboveAt sheet at)
  still-refused-signed number at e = go before.alike_signed
    where
      go : (unsigned_read sheet ≡ short_read sheet) ⊎ ((at : ℕ) × (unsigned_read sheet ≡ refused 3 at) × StrideAbove sheet at) →
          (short_read sheet ≡ refused number at) ⊎ ((number ≡ 3) × AboveAt sheet at)
      go (inl same) = inl (sym same ∙ e)
      go (inr (above_at, refusal, above)) =
          inr (refused-number (sym e ∙ refusal), subst (AboveAt sheet) (sym (refused-place (sym e ∙ refusal))) above)

  -- and more records only a refusal 4
  pub still-refused-longer : (number at : ℕ) → short_read sheet ≡ refused number at → (read sheet ≡ refused number at) ⊎ (number ≡ 4)
  still-refused-longer number at e = go before.alike_longer
    where
      go : (short_read sheet ≡ read sheet) ⊎ ((at : ℕ) × (short_read sheet ≡ refused 4 at)) → (read sheet ≡ refused number at) ⊎ (number ≡ 4)
      go (inl same) = inl (sym same ∙ e)
      go (inr (long-at, refusal)) = inr (refused-number (sym e ∙ refusal))

  -- any other refusal stays, with its place
  abbrev StillRefused : ℕ → ℕ → Type 0
  StillRefused number at =
      (read sheet ≡ refused number at) ⊎ (((number ≡ 2) × (get_or sheet at 0 ≡ 6)) ⊎ (((number ≡ 3) × AboveAt sheet at) ⊎ (number ≡ 4)))

  pub still-refused : (number at : ℕ) → first_read sheet ≡ refused number at → StillRefused number at
  still-refused number at e = by_kind (still-refused-unsigned number at e)
    where
      by_length : (read sheet ≡ refused number at) ⊎ (number ≡ 4) → StillRefused number at
      by_length (inl same) = inl same
      by_length (inr four) = inr (inr (inr four))

      by_stride : (short_read sheet ≡ refused number at) ⊎ ((number ≡ 3) × AboveAt sheet at) → StillRefused number at
      by_stride (inl same) = by_length (still-refused-longer number at same)
      by_stride (inr negative) = inr (inr (inl negative))

      by_kind : (unsigned_read sheet ≡ refused number at) ⊎ ((number ≡ 2) × (get_or sheet at 0 ≡ 6)) → StillRefused number at
      by_kind (inl same) = by_stride (still-refused-signed number at same)
      by_kind (inr six) = inr (inl six)

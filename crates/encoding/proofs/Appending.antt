-- Bytes appended one after another are appended as one list; what stands in the buffer afterwards.
use mathlib.Core.Path.{◌≡◌, refl, sym, ap, subst, ◌∙◌}
use mathlib.Core.List.{List, [], ◌∷◌, ◌++◌, append_assoc, append-nil}
use Prim.Native.Nat.{ℕ, ◌+◌, ◌-◌, ◌≤◌, ◌<◌}
use native.Mathlib.Nat.{zero-add, add-zero}
use native.Mathlib.Numerals.{add-one}
use native.Mathlib.Omega.{arith}
use lib.ListN.{length, take, drop, set, length-append, length-drop, take-append-drop, drop_of_length-le}
use lib.Seq.{length-take-le, take_at, drop_at, drop-append-add, drop-drop, append_snoc, set_split}
use Rattle.encoding.specs.Append.{written, Appended}

-- a copy of the bytes to the part of the buffer from `at` on that is as long as they are
pub copied : {before : List ℕ} {at : ℕ} {bytes part : List ℕ} {n : ℕ} → at + length bytes ≤ length before → n ≡ length bytes → part ≡ bytes
    → Appended before at bytes (take at before ++ (part ++ drop n (drop at before))) (at + length bytes)
unfolding written
copied {before} {at} {bytes} {part} {n} room e f = record {
  fits = room;
  stored = rw (f, e, drop-drop, append_assoc);
  ends = refl;
}

-- one byte
pub stored-byte : {before : List ℕ} {at byte : ℕ} → at < length before → Appended before at (byte ∷ []) (set before at byte) (at + 1)
unfolding written
stored-byte {before} {at} {byte} room = record {
  fits = omega arith;
  stored = rw (add-one, append_snoc) (set_split before at byte room);
  ends = refl;
}

-- no bytes
pub nothing : {before : List ℕ} {at : ℕ} → at ≤ length before → Appended before at [] before at
unfolding written
nothing {before} {at} room = record {
  fits = omega arith;
  stored = rw (add-zero at, append-nil) (sym (take-append-drop at before));
  ends = sym (add-zero at);
}

-- the same bytes
pub same_bytes : {before : List ℕ} {at : ℕ} {x y after : List ℕ} {next : ℕ} → x ≡ y → Appended before at x after next → Appended before at y after next
same_bytes {before} {at} {x} {y} {after} {next} e h = subst (λ (z : List ℕ). Appended before at z after next) e h

-- how far so many bytes reach
pub ends-after : {before : List ℕ} {at : ℕ} {bytes after : List ℕ} {next n : ℕ} → length bytes ≡ n → Appended before at bytes after next → next ≡ at + n
ends-after {before} {at} e h = h.ends ∙ ap (λ (k : ℕ). at + k) e

module _ {before : List ℕ} {at : ℕ} {x middle : List ℕ} {next : ℕ} (first : Appended before at x middle next) where
  abbrev head : List ℕ
  head = take at before ++ x

  abbrev rest : List ℕ
  rest = drop (at + length x) before

  head-length : length head ≡ at + length x
  head-length = simp (length-append, length-take-le at before (omega (arith, first.fits)))

  stored_is : middle ≡ head ++ rest
  unfolding written
  stored_is = first.stored

  -- the buffer keeps its length
  pub keeps-length : length middle ≡ length before
  keeps-length = ap length stored_is ∙ omega (arith, length-append head rest, head-length, length-drop (at + length x) before, first.fits)

  -- the bytes stand up to where they end
  pub up-to-end : take next middle ≡ take at before ++ x
  up-to-end = (λ i. take (first.ends i) (stored_is i)) ∙ take_at head rest (at + length x) head-length

  -- and between where they begin and end
  pub between : take (next - at) (drop at middle) ≡ x
  between =
      let long : next - at ≡ length x = omega (arith, first.ends) in
      let short : length (take at before) ≡ at = length-take-le at before (omega (arith, first.fits)) in
      (λ i. take (long i) (drop at ((stored_is ∙ append_assoc (take at before) x rest) i)))
      ∙ ap (take (length x)) (drop_at (take at before) (x ++ rest) at short) ∙ take_at x rest (length x) refl

  past-both : (y : List ℕ) → drop (next + length y) middle ≡ drop (at + length (x ++ y)) before
  past-both y =
      let far : at + length x + length y ≡ at + length (x ++ y) = omega (arith, length-append x y) in
      (λ i. drop ((first.ends ∙ sym head-length) i + length y) (stored_is i))
      ∙ drop-append-add head rest (length y) ∙ drop-drop (length y) (at + length x) before ∙ ap (λ (k : ℕ). drop k before) far

  -- the bytes x, and after them the bytes y
  pub and_then : {y after : List ℕ} {end : ℕ} → Appended middle next y after end → Appended before at (x ++ y) after end
  unfolding written
  and_then {y} {after} {end} second = record {
    fits = omega (arith, length-append x y, keeps-length, first.ends, second.fits);
    stored = second.stored ∙ (λ i. up-to-end i ++ y ++ past-both y i)
        ∙ ap (λ (l : List ℕ). l ++ drop (at + length (x ++ y)) before) (append_assoc (take at before) x y);
    ends = omega (arith, length-append x y, first.ends, second.ends);
  }

-- from the buffer's start on
module _ {before bytes after : List ℕ} {n : ℕ} (h : Appended before 0 bytes after n) where
  pub from_start : after ≡ bytes ++ drop (length bytes) before
  unfolding written
  from_start = h.stored ∙ ap (λ (k : ℕ). bytes ++ drop k before) (zero-add (length bytes))

  pub length-written : n ≡ length bytes
  length-written = h.ends ∙ zero-add (length bytes)

  -- where they fill it
  pub fills : length before ≤ length bytes → after ≡ bytes
  fills room = from_start ∙ ap (λ (l : List ℕ). bytes ++ l) (drop_of_length-le before room) ∙ append-nil bytes

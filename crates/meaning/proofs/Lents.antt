-- What a call that stores bytes in a lent buffer does, and when; what it stores is read back, and all other bytes stay.
use mathlib.Core.Path.{◌≡◌, refl, sym, ap, ◌∙◌, subst}
use mathlib.Core.List.{List, ◌++◌}
use mathlib.Core.Logic.{◌↔◌}
use Prim.Native.Nat.{ℕ, ◌^◌, ◌≤◌, ◌<◌}
use native.Mathlib.Decide.{dec_le}
use native.Mathlib.Omega.{arith}
use lib.ListN.{length, take, drop, length-append, length-drop}
use lib.Seq.{take-append_seam, drop-append_seam}
use lib.Dec.{leb}
use borrow.Author.Tests.{le-leb, lt-leb}
use Rattle.meaning.specs.Limits.{length_size}
use Rattle.meaning.specs.Number.{little_endian}
use Rattle.meaning.specs.Reader.{Result, ok, refused, require}
use Rattle.meaning.specs.Lent.{Lent, store_lent, lent_in}
use Rattle.meaning.proofs.Number.{unsigned-little_endian}

-- ---- what it leaves

module _ (bytes buffer area : List ℕ) where
  -- what such a call returns and leaves, where `bytes` is what it has to store
  pub record Stores (called : Lent) : Type 0 where
    -- it returns 0 only where the area has room for a length and the buffer for the bytes
    pub room : called.number ≡ 0 → (length_size ≤ length area) × (length bytes ≤ length buffer)
    -- the bytes are read back, if their length has 64 bits
    pub read_back : called.number ≡ 0 → length bytes < 2 ^ 64 → lent_in called.buffer called.area ≡ bytes
    -- a refusal writes nothing
    pub refusal : ¬ (called.number ≡ 0) → (called.buffer ≡ buffer) × (called.area ≡ area)
    -- the buffer and the area keep their lengths
    pub buffer_keeps_length : length called.buffer ≡ length buffer
    pub area_keeps_length : length called.area ≡ length area
    -- the buffer's bytes past those stored and the area's past their length never change
    pub buffer_tail : drop (length bytes) called.buffer ≡ drop (length bytes) buffer
    pub area_tail : drop length_size called.area ≡ drop length_size area

  stores-nothing : (number : ℕ) → ¬ (number ≡ 0) → Stores (record { number = number; buffer = buffer; area = area })
  stores-nothing number h = record {
    room = λ z. absurd (h z);
    read_back = λ z small. absurd (h z);
    refusal = λ z. (refl, refl);
    buffer_keeps_length = refl;
    area_keeps_length = refl;
    buffer_tail = refl;
    area_tail = refl;
  }

  stores-bytes : length_size ≤ length area → length bytes ≤ length buffer → Stores (store_lent buffer area (ok bytes))
  unfolding lent_in store_lent little_endian
  stores-bytes h fits = record {
    room = λ z. (h, fits);
    read_back = λ z small. ap (λ (n : ℕ). take n (bytes ++ drop (length bytes) buffer)) (unsigned-little_endian length_size (length bytes) small)
        ∙ take-append_seam bytes (drop (length bytes) buffer);
    refusal = λ z. absurd (z refl);
    buffer_keeps_length = omega (arith, length-append bytes (drop (length bytes) buffer), length-drop (length bytes) buffer);
    area_keeps_length = omega (arith, length-drop length_size area);
    buffer_tail = drop-append_seam bytes (drop (length bytes) buffer);
    area_tail = refl;
  }

-- ---- where there is room

-- for their length in the area: otherwise 9
module _ (buffer area : List ℕ) (r : Result (List ℕ)) where
  abbrev pub in_area : Lent
  in_area = store_lent buffer area (require (leb length_size (length area)) 9 0 r)

  pub area-refused : length area < length_size → in_area ≡ record { number = 9; buffer = buffer; area = area }
  unfolding require store_lent
  area-refused h = ap (λ c. store_lent buffer area (require c 9 0 r)) (lt-leb length_size (length area) h)

  pub area-ok : length_size ≤ length area → in_area ≡ store_lent buffer area r
  unfolding require
  area-ok h = ap (λ c. store_lent buffer area (require c 9 0 r)) (le-leb length_size (length area) h)

-- for themselves in the buffer: otherwise the refusal `short`
module _ (bytes buffer : List ℕ) (short : ℕ) where
  abbrev pub in_buffer : Result (List ℕ)
  in_buffer = require (leb (length bytes) (length buffer)) short 0 (ok bytes)

  pub buffer-refused : length buffer < length bytes → in_buffer ≡ refused short 0
  unfolding require
  buffer-refused h = ap (λ c. require c short 0 (ok bytes)) (lt-leb (length bytes) (length buffer) h)

  pub buffer-ok : length bytes ≤ length buffer → in_buffer ≡ ok bytes
  unfolding require
  buffer-ok h = ap (λ c. require c short 0 (ok bytes)) (le-leb (length bytes) (length buffer) h)

-- ---- the call

module _ (bytes buffer area : List ℕ) (short : ℕ) (is_refusal : ¬ (short ≡ 0)) where
  abbrev pub lending : Lent
  lending = in_area buffer area (in_buffer bytes buffer short)

  stored : length_size ≤ length area → length bytes ≤ length buffer → lending ≡ store_lent buffer area (ok bytes)
  stored h fits = area-ok buffer area (in_buffer bytes buffer short) h ∙ ap (store_lent buffer area) (buffer-ok bytes buffer short fits)

  pub lending-stores : Stores bytes buffer area lending
  unfolding store_lent
  lending-stores = by_area (dec_le length_size (length area))
    where
      same : {called : Lent} → lending ≡ called → Stores bytes buffer area called → Stores bytes buffer area lending
      same e s = subst (Stores bytes buffer area) (sym e) s

      by_buffer : length_size ≤ length area → Dec (length bytes ≤ length buffer) → Stores bytes buffer area lending
      by_buffer h (yes fits) = same (stored h fits) (stores-bytes bytes buffer area h fits)
      by_buffer h (no over) =
          same (area-ok buffer area (in_buffer bytes buffer short) h ∙ ap (store_lent buffer area) (buffer-refused bytes buffer short (omega arith)))
          (stores-nothing bytes buffer area short is_refusal)

      by_area : Dec (length_size ≤ length area) → Stores bytes buffer area lending
      by_area (yes h) = by_buffer h (dec_le (length bytes) (length buffer))
      by_area (no h) =
          same (area-refused buffer area (in_buffer bytes buffer short) (omega arith)) (stores-nothing bytes buffer area 9 (λ z. omega arith))

  -- it returns 0 exactly where the area has room for a length and the buffer for the bytes
  pub lending-number-zero : (lending.number ≡ 0) ↔ ((length_size ≤ length area) × (length bytes ≤ length buffer))
  unfolding store_lent
  lending-number-zero = (lending-stores.room, λ h. ap (λ (c : Lent). c.number) (stored h.0 h.1))

-- One record in bytes: a decoded body is written as it was, and a written body is decoded as it was.
use mathlib.Core.Path.{◌≡◌, refl, sym, ap, ◌∙◌, subst}
use mathlib.Core.List.{List, [], ◌∷◌, ◌++◌, append_assoc}
use mathlib.Core.Bool.{Bool, true, false, cond}
use mathlib.Core.Option.{Option, none, some}
use Prim.Native.Nat.{ℕ, zero, suc, ◌+◌, ◌*◌, ◌≤◌, ◌<◌, ◌^◌}
use native.Mathlib.Nat.{add-zero}
use native.Mathlib.Omega.{arith}
use lib.IntN.{ℤ, pos}
use lib.ListN.{length, get_or, drop, length-append, length-map}
use lib.Seq.{get_or-drop, drop_at, drop-drop}
use lib.Dec.{T, eqb, eqb→eq}
use Rattle.whole.proofs.Elements.{table, elements}
use Rattle.meaning.specs.Limits.{body_limit, record_length_limit, constant_half, factor_half, index_factors, parameter_factors}
use Rattle.meaning.specs.Number.{unsigned, little_endian, decode_signed, encode_signed, has_pattern, unsigned16, signed16, signed8}
use Rattle.meaning.specs.Form.{Form, form_at, form_bytes, factors_fit}
use Rattle.meaning.specs.Record.{Kind, work_kind, loop_kind, end_kind, choice_kind, next_arm_kind, kind_number, kind_of, body_length}
use Rattle.meaning.specs.Record.{Loop, is_given, skip_where, skip_or, skip_cycles, Record, work_record, loop_record, end_record, choice_record, next_arm_record, kind, record_length, sheet_length}
use Rattle.meaning.specs.Record.{decode_record, skip_bytes, body_bytes, Open, loop_depth, fields_in_range}
use Rattle.meaning.proofs.Logic.{T_and, none-is-not-some}
use Rattle.meaning.proofs.Number.{Bytes, bytes-get_d, length-little_endian, unsigned-little_endian, little_endian-unsigned}
use Rattle.meaning.proofs.Number.{unsigned-bound, decode-encode, encode-decode, encode-bound}
use Rattle.meaning.proofs.Strides.{stride-pattern}
use Rattle.meaning.proofs.Accepted.{FormInRange, loop-in-range, work-in-range}

-- ---- kinds

pub kind_of-kind_number : (k : Kind) → kind_of (kind_number k) ≡ some k
unfolding kind_of kind_number
kind_of-kind_number work_kind = refl
kind_of-kind_number (loop_kind false) = refl
kind_of-kind_number (loop_kind true) = refl
kind_of-kind_number end_kind = refl
kind_of-kind_number choice_kind = refl
kind_of-kind_number next_arm_kind = refl

-- one test of `kind_of`; the others answer o
kind-test : (n : ℕ) (c : Kind) (o : Option Kind) → ((k : Kind) → o ≡ some k → kind_number k ≡ n) →
    (k : Kind) → cond (eqb n (kind_number c)) (some c) o ≡ some k → kind_number k ≡ n
kind-test n c o h k e = go (eqb n (kind_number c)) refl e
  where
    go : (b : Bool) → eqb n (kind_number c) ≡ b → cond b (some c) o ≡ some k → kind_number k ≡ n
    go true t q = let z : c ≡ k = cc in ap kind_number (sym z) ∙ sym (eqb→eq n (kind_number c) (subst T (sym t) tt))
    go false t q = h k q

pub kind_number-kind_of : (n : ℕ) (k : Kind) → kind_of n ≡ some k → kind_number k ≡ n
unfolding kind_of kind_number
kind_number-kind_of n =
    kind-test n work_kind _ (kind-test n (loop_kind false) _ (kind-test n end_kind _ (kind-test n choice_kind _ (kind-test n next_arm_kind _
    (kind-test n (loop_kind true) none (λ k e. none-is-not-some e))))))

pub body_length-bound : (k : Kind) → body_length k ≤ body_limit
unfolding body_length
body_length-bound work_kind = omega arith
body_length-bound (loop_kind false) = omega arith
body_length-bound (loop_kind true) = omega arith
body_length-bound end_kind = omega arith
body_length-bound choice_kind = omega arith
body_length-bound next_arm_kind = omega arith

pub record_length-bound : (r : Record) → record_length r ≤ record_length_limit
unfolding record_length
record_length-bound r = omega (arith, body_length-bound (kind r))

pub sheet_length-append : (rs ss : List Record) → sheet_length (rs ++ ss) ≡ sheet_length rs + sheet_length ss
unfolding sheet_length
sheet_length-append [] ss = omega arith
sheet_length-append (r ∷ rs) ss = omega (arith, sheet_length-append rs ss)

pub sheet_length-bound : (rs : List Record) → sheet_length rs ≤ record_length_limit * length rs
unfolding sheet_length
sheet_length-bound [] = omega arith
sheet_length-bound (r ∷ rs) = omega (arith, record_length-bound r, sheet_length-bound rs)

-- ---- a decoded body is written as it was

module _ (body : List ℕ) (h : Bytes body) where
  two_bytes : (i j : ℕ) → Bytes (get_or body i 0 ∷ get_or body j 0 ∷ [])
  unfolding Bytes
  two_bytes i j = (bytes-get_d body h i, (bytes-get_d body h j, tt))

  pub unsigned16-bound : (at : ℕ) → unsigned16 body at < 65536
  unfolding unsigned16
  unsigned16-bound at = unsigned-bound (get_or body at 0 ∷ get_or body (at + 1) 0 ∷ []) (two_bytes at (at + 1))

  pub unsigned16-bytes : (at : ℕ) → little_endian 2 (unsigned16 body at) ≡ get_or body at 0 ∷ get_or body (at + 1) 0 ∷ []
  unfolding unsigned16
  unsigned16-bytes at = little_endian-unsigned (get_or body at 0 ∷ get_or body (at + 1) 0 ∷ []) (two_bytes at (at + 1))

  pub signed16-bytes : (at : ℕ) → little_endian 2 (encode_signed constant_half (signed16 body at)) ≡ get_or body at 0 ∷ get_or body (at + 1) 0 ∷ []
  unfolding signed16
  signed16-bytes at = ap (little_endian 2) (encode-decode constant_half (unsigned16 body at) (unsigned16-bound at)) ∙ unsigned16-bytes at

  pub signed8-byte : (at : ℕ) → encode_signed factor_half (signed8 body at) ≡ get_or body at 0
  unfolding signed8
  signed8-byte at = encode-decode factor_half (get_or body at 0) (bytes-get_d body h at)

  pub form_at-bytes : (at : ℕ) → form_bytes (form_at body at)
      ≡ get_or body at 0 ∷ get_or body (at + 1) 0 ∷ get_or body (at + 2) 0 ∷ get_or body (at + 3) 0 ∷ get_or body (at + 4) 0
      ∷ get_or body (at + 5) 0 ∷ get_or body (at + 6) 0 ∷ get_or body (at + 7) 0 ∷ get_or body (at + 8) 0 ∷ []
  unfolding form_bytes form_at
  form_at-bytes at =
      λ t. signed16-bytes at t
      ++ (signed8-byte (at + 2) t ∷ signed8-byte (at + 3) t ∷ signed8-byte (at + 4) t ∷ [])
      ++ (signed8-byte (at + 5) t ∷ signed8-byte (at + 6) t ∷ signed8-byte (at + 7) t ∷ signed8-byte (at + 8) t ∷ [])

  pub body_bytes-decode_record : (k : Kind) → length body ≡ body_length k → body_bytes (decode_record k body) ≡ body
  unfolding body_bytes skip_bytes decode_record skip_where body_length
  body_bytes-decode_record work_kind e = (λ t. unsigned16-bytes 0 t ++ unsigned16-bytes 2 t) ∙ elements 4 body 0 e
  body_bytes-decode_record (loop_kind false) e =
      (λ t. unsigned16-bytes 0 t ++ unsigned16-bytes 2 t ++ signed16-bytes 4 t ++ form_at-bytes 6 t ++ form_at-bytes 15 t ++ []) ∙ elements 24 body 0 e
  body_bytes-decode_record (loop_kind true) e =
      (λ t. unsigned16-bytes 0 t ++ unsigned16-bytes 2 t ++ signed16-bytes 4 t ++ form_at-bytes 6 t ++ form_at-bytes 15 t ++ unsigned16-bytes 24 t)
      ∙ elements 26 body 0 e
  body_bytes-decode_record end_kind e = elements 0 body 0 e
  body_bytes-decode_record choice_kind e = elements 0 body 0 e
  body_bytes-decode_record next_arm_kind e = elements 0 body 0 e

-- ---- a written body is decoded as it was

-- a form may be decoded from what follows the bytes before it
pub form_at-drop : (body : List ℕ) (at : ℕ) → form_at body at ≡ form_at (drop at body) 0
unfolding form_at signed16 signed8 unsigned16
form_at-drop body at =
    λ t. record {
      constant = decode_signed constant_half (unsigned (first t ∷ same 1 t ∷ []));
      index = factor 2 t ∷ factor 3 t ∷ factor 4 t ∷ [];
      parameter = factor 5 t ∷ factor 6 t ∷ factor 7 t ∷ factor 8 t ∷ [];
    }
  where
    same : (i : ℕ) → get_or body (at + i) 0 ≡ get_or (drop at body) i 0
    same i = sym (get_or-drop at body i 0)

    first : get_or body at 0 ≡ get_or (drop at body) 0 0
    first = ap (λ (i : ℕ). get_or body i 0) (sym (add-zero at)) ∙ same 0

    factor : (i : ℕ) → decode_signed factor_half (get_or body (at + i) 0) ≡ decode_signed factor_half (get_or (drop at body) i 0)
    factor i = ap (decode_signed factor_half) (same i)

-- each of factors that have patterns has one
pub factor-fits : (xs : List ℤ) → T (factors_fit xs) → (i : ℕ) → T (has_pattern factor_half (get_or xs i (pos 0)))
unfolding factors_fit
factor-fits [] t i = unfold has_pattern in tt
factor-fits (x ∷ xs) t zero = (T_and (has_pattern factor_half x) (factors_fit xs) t).0
factor-fits (x ∷ xs) t (suc i) = factor-fits xs (T_and (has_pattern factor_half x) (factors_fit xs) t).1 i

-- a signed number of 16 bits is read back
signed-little_endian : (z : ℤ) → T (has_pattern constant_half z) → decode_signed constant_half (unsigned (little_endian 2 (encode_signed constant_half z))) ≡ z
signed-little_endian z fits =
    ap (decode_signed constant_half) (unsigned-little_endian 2 (encode_signed constant_half z) (encode-bound constant_half z fits))
    ∙ decode-encode constant_half z fits

module _ (depth : ℕ) (f : Form) (i : FormInRange depth f) where
  pub length-form_bytes : length (form_bytes f) ≡ 9
  unfolding form_bytes
  length-form_bytes = simp (length-append, length-map, length-little_endian) (omega (arith, i.index_count, i.parameter_count))

  pub form_at-form_bytes : (rest : List ℕ) → form_at (form_bytes f ++ rest) 0 ≡ f
  unfolding form_at form_bytes signed16 signed8 unsigned16 little_endian
  form_at-form_bytes rest = subst (λ (g : Form). form_at (form_bytes g ++ rest) 0 ≡ g) listed decoded
    where
      x : ℕ → ℤ
      x n = get_or f.index n (pos 0)

      y : ℕ → ℤ
      y n = get_or f.parameter n (pos 0)

      -- the form with its factors written out
      listed : record { constant = f.constant; index = table index_factors x; parameter = table parameter_factors y } ≡ f
      listed = λ t. record {
        constant = f.constant;
        index = elements index_factors f.index (pos 0) i.index_count t;
        parameter = elements parameter_factors f.parameter (pos 0) i.parameter_count t;
      }

      c : decode_signed constant_half (unsigned (little_endian 2 (encode_signed constant_half f.constant))) ≡ f.constant
      c = signed-little_endian f.constant i.constant_fits

      p : (n : ℕ) → decode_signed factor_half (encode_signed factor_half (x n)) ≡ x n
      p n = decode-encode factor_half (x n) (factor-fits f.index i.index_fit n)

      q : (n : ℕ) → decode_signed factor_half (encode_signed factor_half (y n)) ≡ y n
      q n = decode-encode factor_half (y n) (factor-fits f.parameter i.parameter_fit n)

      decoded : form_at (form_bytes (record { constant = f.constant; index = table index_factors x; parameter = table parameter_factors y }) ++ rest) 0
          ≡ record { constant = f.constant; index = table index_factors x; parameter = table parameter_factors y }
      decoded = λ t. record { constant = c t; index = p 0 t ∷ p 1 t ∷ p 2 t ∷ []; parameter = q 0 t ∷ q 1 t ∷ q 2 t ∷ q 3 t ∷ [] }

-- a loop whose fields fit their bytes is read back
module _ (depth : ℕ) (l : Loop) (start_fits : l.start < 2 ^ 16) (step_fits : l.step < 2 ^ 16) (stride_fits : T (has_pattern constant_half l.stride))
    (lower_fits : FormInRange depth l.lower) (upper_fits : FormInRange depth l.upper) (skip_fits : skip_cycles l < 2 ^ 16) where
  pub loop-decoded : decode_record (kind (loop_record l)) (body_bytes (loop_record l)) ≡ loop_record l
  unfolding decode_record kind is_given skip_where body_bytes unsigned16 signed16 little_endian
  loop-decoded =
      λ t. loop_record (record {
        start = unsigned-little_endian 2 l.start start_fits t;
        step = unsigned-little_endian 2 l.step step_fits t;
        stride = signed-little_endian l.stride stride_fits t;
        lower = lower t;
        upper = upper t;
        skip = skip l.skip refl t;
      })
    where
      body : List ℕ
      body = body_bytes (loop_record l)

      forms : List ℕ
      forms = form_bytes l.lower ++ (form_bytes l.upper ++ skip_bytes l.skip)

      -- both forms and the skip stand after six bytes
      costs_before : drop 6 body ≡ forms
      costs_before = append_assoc (form_bytes l.lower) (form_bytes l.upper) (skip_bytes l.skip)

      lower : form_at body 6 ≡ l.lower
      lower = form_at-drop body 6 ∙ ap (λ (x : List ℕ). form_at x 0) costs_before ∙ form_at-form_bytes depth l.lower lower_fits (form_bytes l.upper ++ skip_bytes l.skip)

      -- the upper form after the nine bytes of the lower form, and the skip after its nine
      lower_before : drop 15 body ≡ form_bytes l.upper ++ skip_bytes l.skip
      lower_before = ap (drop 9) costs_before ∙ drop_at (form_bytes l.lower) (form_bytes l.upper ++ skip_bytes l.skip) 9 (length-form_bytes depth l.lower lower_fits)

      upper : form_at body 15 ≡ l.upper
      upper = form_at-drop body 15 ∙ ap (λ (x : List ℕ). form_at x 0) lower_before ∙ form_at-form_bytes depth l.upper upper_fits (skip_bytes l.skip)

      forms_before : drop 24 body ≡ skip_bytes l.skip
      forms_before = sym (drop-drop 9 15 body) ∙ ap (drop 9) lower_before ∙ drop_at (form_bytes l.upper) (skip_bytes l.skip) 9 (length-form_bytes depth l.upper upper_fits)

      skip : (s : Option ℕ) → l.skip ≡ s → skip_where (is_given s) (unsigned (get_or body 24 0 ∷ get_or body 25 0 ∷ [])) ≡ s
      skip none e = refl
      skip (some n) e =
          let here : drop 24 body ≡ little_endian 2 n = forms_before ∙ (unfold skip_bytes in ap (λ (s : Option ℕ). skip_bytes s) e) in
          let cycles : skip_cycles l ≡ n = unfold skip_cycles skip_or in ap (λ (s : Option ℕ). skip_or s l.start) e in
          let fits : n < 2 ^ 16 = subst (λ (m : ℕ). m < 2 ^ 16) cycles skip_fits in
          sym (λ t. some (unsigned (get_or-drop 24 body 0 0 t ∷ get_or-drop 24 body 1 0 t ∷ []))) ∙ (λ t. some (unsigned (get_or (here t) 0 0 ∷ get_or (here t) 1 0 ∷ [])))
          ∙ ap (λ (m : ℕ). some m) (unsigned-little_endian 2 n fits)

pub length-skip_bytes : (s : Option ℕ) → 24 + length (skip_bytes s) ≡ body_length (loop_kind (is_given s))
unfolding skip_bytes body_length is_given
length-skip_bytes none = refl
length-skip_bytes (some n) = simp length-little_endian

pub length-loop : (depth : ℕ) (l : Loop) → FormInRange depth l.lower → FormInRange depth l.upper →
    length (body_bytes (loop_record l)) ≡ body_length (loop_kind (is_given l.skip))
unfolding body_bytes
length-loop depth l lower upper =
    simp (length-append, length-little_endian, length-form_bytes depth l.lower lower, length-form_bytes depth l.upper upper) (length-skip_bytes l.skip)

module _ (os : List Open) where
  pub length-body_bytes : (r : Record) → T (fields_in_range os r) → length (body_bytes r) ≡ body_length (kind r)
  unfolding body_bytes body_length kind
  length-body_bytes (work_record least most) t = simp (length-append, length-little_endian)
  length-body_bytes (loop_record l) t = let i = loop-in-range os l t in length-loop (loop_depth os) l i.lower_in_range i.upper_in_range
  length-body_bytes end_record t = refl
  length-body_bytes choice_record t = refl
  length-body_bytes next_arm_record t = refl

  pub decode_record-body_bytes : (r : Record) → T (fields_in_range os r) → decode_record (kind r) (body_bytes r) ≡ r
  unfolding decode_record body_bytes kind unsigned16 little_endian
  decode_record-body_bytes (work_record least most) t =
      let w = work-in-range os least most t in
      λ s. work_record (unsigned-little_endian 2 least (omega (arith, w.ordered, w.most_small)) s) (unsigned-little_endian 2 most (omega (arith, w.most_small)) s)
  decode_record-body_bytes (loop_record l) t =
      let i = loop-in-range os l t in
      loop-decoded (loop_depth os) l (omega (arith, i.start_small)) (omega (arith, i.step_small)) (stride-pattern l i.stride_small) i.lower_in_range i.upper_in_range (omega (arith, i.skip_small))
  decode_record-body_bytes end_record t = refl
  decode_record-body_bytes choice_record t = refl
  decode_record-body_bytes next_arm_record t = refl

-- Refusal 3: what the bytes of a body say of its fields' ranges.
use mathlib.Core.Path.{◌≡◌, refl, sym, ap, ◌∙◌}
use mathlib.Core.List.{List, [], ◌∷◌}
use mathlib.Core.Logic.{◌⊎◌, ⊎_elim}
use mathlib.Core.Bool.{Bool, true, false, cond, ◌&&◌, and-true}
use Prim.Native.Nat.{ℕ, zero, suc, ◌+◌, ◌-◌, ◌<◌, ◌≤◌}
use native.Mathlib.Omega.{arith}
use borrow.Author.Tests.{ltb-false, lt-ltb, le-leb, ne_eqb}
use lib.IntN.{pos, negsuc, nat_abs}
use lib.Signed.{mag}
use lib.ListN.{get_or, drop}
use lib.Seq.{drop-nil}
use lib.Dec.{leb, ltb, eqb}
use Rattle.std.specs.List.{list_all, range_with_len}
use Rattle.meaning.specs.Limits.{index_factors, cost_limit, stride_limit, constant_half, factor_half}
use Rattle.meaning.specs.Number.{decode_signed, has_pattern, unsigned16, signed16, signed8}
use Rattle.meaning.specs.Form.{form_at, is_zero, all_zero, factors_fit, form_in_range}
use Rattle.meaning.specs.Record.{loop_kind, stride_size, skip_cycles, decode_record, Open, loop_depth, fields_in_range}
use Rattle.meaning.proofs.Accepted.{loop-in-range}
use Rattle.records.specs.View.{skip_in}
use Rattle.records.proofs.Tests.{and-pass, and-stop, refuted}

-- ---- factors

positive : (n : ℕ) → is_zero (pos n) ≡ eqb n 0
unfolding is_zero
positive zero = refl
positive (suc n) = sym (ne_eqb (suc n) 0 (λ e. omega arith))

zero_pattern : (half b : ℕ) → 0 < half → is_zero (decode_signed half b) ≡ eqb b 0
unfolding decode_signed is_zero
zero_pattern half b h = go (ltb b half) refl
  where
    go : (c : Bool) → ltb b half ≡ c → is_zero (cond c (pos b) (negsuc (half + half - suc b))) ≡ eqb b 0
    go true e = positive b
    go false e = let k = ltb-false b half e in sym (ne_eqb b 0 (λ z. omega arith))

zero-factor : (body : List ℕ) (at : ℕ) → eqb (get_or body at 0) 0 ≡ is_zero (signed8 body at)
unfolding signed8
zero-factor body at = sym (zero_pattern factor_half (get_or body at 0) (omega arith))

-- the factors of a form in a body: those that count are 0
abbrev pub enclosed : List ℕ → ℕ → ℕ → Bool
enclosed body at depth = all_zero (drop depth (signed8 body at ∷ signed8 body (at + 1) ∷ signed8 body (at + 2) ∷ []))

-- those from the depth on, byte by byte
pub by-depth : (body : List ℕ) (at depth : ℕ) → list_all (λ (i : ℕ). eqb (get_or body (at + i) 0) 0) (range_with_len depth (index_factors - depth)) ≡ enclosed body at depth
unfolding all_zero
by-depth body at zero =
    let first : at + 0 ≡ at = omega arith in
    λ i. (ap (λ (n : ℕ). eqb (get_or body n 0) 0) first ∙ zero-factor body at) i && (zero-factor body (at + 1) i && (zero-factor body (at + 2) i && true))
by-depth body at (suc zero) = λ i. zero-factor body (at + 1) i && (zero-factor body (at + 2) i && true)
by-depth body at (suc (suc zero)) = λ i. zero-factor body (at + 2) i && true
by-depth body at (suc (suc (suc depth))) =
    let none : index_factors - suc (suc (suc depth)) ≡ 0 = omega arith in
    ap (λ (n : ℕ). list_all (λ (i : ℕ). eqb (get_or body (at + i) 0) 0) (range_with_len (suc (suc (suc depth))) n)) none ∙ sym (ap all_zero (drop-nil depth))

-- ---- a form that was decoded has its nine bytes

has-pattern : (half n : ℕ) → 0 < half → has_pattern half (decode_signed half n) ≡ true
unfolding has_pattern decode_signed
has-pattern half n h = go (ltb n half) refl
  where
    go : (c : Bool) → ltb n half ≡ c → ltb (mag (cond c (pos n) (negsuc (half + half - suc n)))) half ≡ true
    go true e = e
    go false e = let k = ltb-false n half e in lt-ltb (half + half - suc n) half (omega arith)

decoded-form-in-range : (depth : ℕ) (body : List ℕ) (at : ℕ) → form_in_range depth (form_at body at) ≡ all_zero (drop depth (form_at body at).index)
unfolding form_in_range form_at factors_fit signed16 signed8
decoded-form-in-range depth body at =
    (λ i.
    all_zero (drop depth (form_at body at).index) && has-pattern constant_half (unsigned16 body at) (omega arith) i && true
    && (factor 2 i && (factor 3 i && (factor 4 i && true))) && true
    && (factor 5 i && (factor 6 i && (factor 7 i && (factor 8 i && true)))))
    ∙ and-trues (all_zero (drop depth (form_at body at).index))
  where
    factor : (k : ℕ) → has_pattern factor_half (decode_signed factor_half (get_or body (at + k) 0)) ≡ true
    factor k = has-pattern factor_half (get_or body (at + k) 0) (omega arith)

    and-trues : (b : Bool) → b && true && true && true && true && true ≡ b
    and-trues true = refl
    and-trues false = refl

-- ---- a loop

module _ (os : List Open) {depth : ℕ} (deep : loop_depth os ≡ depth) (body : List ℕ) (has_skip : Bool) where
  abbrev in_range : Bool
  in_range = fields_in_range os (decode_record (loop_kind has_skip) body)

  pub cost-over : {start step : ℕ} → start ≡ unsigned16 body 0 → step ≡ unsigned16 body 2 → (cost_limit < start) ⊎ (cost_limit < step) → false ≡ in_range
  unfolding decode_record
  cost-over p q h =
      refuted in_range λ t.
      let r = loop-in-range os _ t in
      ⊎_elim (λ a. omega (arith, r.start_small)) (λ a. omega (arith, r.step_small)) h

  pub skip-over : {skip : ℕ} → skip ≡ skip_in has_skip body → cost_limit < skip → false ≡ in_range
  unfolding decode_record skip_cycles
  skip-over p h = refuted in_range λ t. omega (arith, (loop-in-range os _ t).skip_small)

  pub stride-off : {size : ℕ} → size ≡ nat_abs (signed16 body 4) → (size < 1) ⊎ (stride_limit < size) → false ≡ in_range
  unfolding decode_record stride_size
  stride-off p h =
      refuted in_range λ t.
      let r = loop-in-range os _ t in
      ⊎_elim (λ a. omega (arith, r.moves)) (λ a. omega (arith, r.stride_small)) h

  module _ {start step skip size : ℕ} (p : start ≡ unsigned16 body 0) (q : step ≡ unsigned16 body 2) (s : skip ≡ skip_in has_skip body)
      (r : size ≡ nat_abs (signed16 body 4)) (a : start ≤ cost_limit) (b : step ≤ cost_limit) (c : skip ≤ cost_limit) (l : 1 ≤ size) (h : size ≤ stride_limit) where
    factors-left : enclosed body 8 depth && enclosed body 17 depth ≡ in_range
    unfolding fields_in_range decode_record form_at stride_size skip_cycles
    factors-left =
        sym ((λ i. le-leb start cost_limit a i && le-leb step cost_limit b i && le-leb 1 size l i && le-leb size stride_limit h i
        && enclosed body 8 depth && enclosed body 17 depth && le-leb skip cost_limit c i) ∙ and-true (enclosed body 8 depth && enclosed body 17 depth))
        ∙ (λ i. leb (p i) cost_limit && leb (q i) cost_limit && leb 1 (r i) && leb (r i) stride_limit
        && (ap (λ (d : ℕ). enclosed body 8 d) (sym deep) ∙ sym (decoded-form-in-range (loop_depth os) body 6)) i
        && (ap (λ (d : ℕ). enclosed body 17 d) (sym deep) ∙ sym (decoded-form-in-range (loop_depth os) body 15)) i
        && leb (s i) cost_limit)

    pub lower-bad : {first : Bool} → first ≡ enclosed body 8 depth → first ≡ false → first ≡ in_range
    lower-bad d f = d ∙ and-stop (enclosed body 8 depth) (enclosed body 17 depth) (sym d ∙ f) factors-left

    pub upper-decides : {first second : Bool} → first ≡ enclosed body 8 depth → first ≡ true → second ≡ enclosed body 17 depth → second ≡ in_range
    upper-decides d f g = g ∙ and-pass (enclosed body 8 depth) (enclosed body 17 depth) (sym d ∙ f) factors-left

-- Numbers stored one after another: one more of a list, and one element more of an array.
use mathlib.Core.Path.{◌≡◌, refl, sym, ap, ap₂, ◌∙◌}
use mathlib.Core.List.{List, [], ◌∷◌, ◌++◌, append_assoc, append-nil}
use Prim.Native.Nat.{ℕ, zero, suc, ◌+◌, ◌*◌, ◌<◌, ◌%◌}
use native.Mathlib.Nat.{suc-mul, mul-le-mul_right, mod-eq_of_lt}
use native.Mathlib.Omega.{arith}
use lib.ListN.{length, get_or, take, drop, set, length-append, get_or-append}
use lib.Seq.{paste, paste-zero, paste-suc, take_at, take_all, drop-append-add, get_or-append-add, drop-drop}
use Rattle.layout.specs.Numbers.{joined, stored_in}

-- numbers stored behind those stored before
pub stored_more : (before numbers values : List ℕ) (at n : ℕ) → at ≡ length numbers → n ≡ length values →
    paste (stored_in before numbers) at values n ≡ stored_in before (numbers ++ values)
unfolding stored_in
stored_more before numbers values at n a e =
    let rest : List ℕ = drop (length numbers) before in
    let back : drop (at + n) (numbers ++ rest) ≡ drop (length (numbers ++ values)) before =
    ap (λ (k : ℕ). drop (k + n) (numbers ++ rest)) a ∙ drop-append-add numbers rest n ∙ drop-drop n (length numbers) before
    ∙ ap (λ (k : ℕ). drop k before) (let f : length numbers + n ≡ length (numbers ++ values) = omega (arith, length-append numbers values) in f) in
    ap₂ (λ (xs ys : List ℕ). (xs ++ take n values) ++ ys) (take_at numbers rest at (sym a)) back
    ∙ ap (λ (xs : List ℕ). (numbers ++ xs) ++ drop (length (numbers ++ values)) before) (take_all n values (omega arith))

pub stored-none : (before : List ℕ) → stored_in before [] ≡ before
unfolding stored_in
stored-none before = refl

-- a number that was stored
pub stored_at : (before numbers : List ℕ) (i : ℕ) → i < length numbers → get_or (stored_in before numbers) i 0 ≡ get_or numbers i 0
unfolding stored_in
stored_at before numbers i h = get_or-append numbers (drop (length numbers) before) 0 i h

module _ {A : Type 0} (numbers : A → List ℕ) where
  pub joined-append : (xs ys : List A) → joined numbers (xs ++ ys) ≡ joined numbers xs ++ joined numbers ys
  unfolding joined
  joined-append [] ys = refl
  joined-append (x ∷ xs) ys = ap (λ (l : List ℕ). numbers x ++ l) (joined-append xs ys) ∙ sym (append_assoc (numbers x) (joined numbers xs) (joined numbers ys))

  joined-one : (x : A) → joined numbers (x ∷ []) ≡ numbers x
  unfolding joined
  joined-one x = append-nil (numbers x)

  module _ (width : ℕ) (wide : (x : A) → length (numbers x) ≡ width) where
    pub joined_length : (xs : List A) → length (joined numbers xs) ≡ length xs * width
    unfolding joined
    joined_length [] = omega arith
    joined_length (x ∷ xs) =
        let i = joined_length xs in
        let w = wide x in
        omega (arith, length-append (numbers x) (joined numbers xs), suc-mul (length xs) width)

    -- number j of element k
    pub joined_at : (xs : List A) (k j : ℕ) (d : A) → k < length xs → j < width → get_or (joined numbers xs) (k * width + j) 0 ≡ get_or (numbers (get_or xs k d)) j 0
    unfolding joined
    joined_at [] k j d h i = absurd (omega arith)
    joined_at (x ∷ xs) zero j d h i =
        ap (λ (m : ℕ). get_or (numbers x ++ joined numbers xs) m 0) (let e : 0 * width + j ≡ j = omega arith in e)
        ∙ get_or-append (numbers x) (joined numbers xs) 0 j (let w = wide x in omega arith)
    joined_at (x ∷ xs) (suc k) j d h i =
        let e : suc k * width + j ≡ length (numbers x) + (k * width + j) = let w = wide x in omega (arith, suc-mul k width) in
        ap (λ (m : ℕ). get_or (numbers x ++ joined numbers xs) m 0) e
        ∙ get_or-append-add (numbers x) (joined numbers xs) (k * width + j) 0 ∙ joined_at xs k j d (omega arith) i

    -- positions are taken below a limit
    module _ (limit : ℕ) (before : List ℕ) where
      -- number j of element k is read back
      pub read_back : (xs : List A) (k j : ℕ) (d : A) → k < length xs → k < limit → j < width →
          get_or (stored_in before (joined numbers xs)) (k % limit * width + j) 0 ≡ get_or (numbers (get_or xs k d)) j 0
      read_back xs k j d h below i =
          let room = mul-le-mul_right {m = suc k} {n = length xs} width h in
          ap (λ (m : ℕ). get_or (stored_in before (joined numbers xs)) (m * width + j) 0) (mod-eq_of_lt below)
          ∙ stored_at before (joined numbers xs) (k * width + j) (omega (arith, room, suc-mul k width, joined_length xs)) ∙ joined_at xs k j d h i

      -- one element more is stored behind the others
      pub store-next : (xs : List A) (x : A) (k : ℕ) (values : List ℕ) → k ≡ length xs → k < limit → values ≡ numbers x →
          paste (stored_in before (joined numbers xs)) (k % limit * width) values width ≡ stored_in before (joined numbers (xs ++ (x ∷ [])))
      store-next xs x k values a below v =
          stored_more before (joined numbers xs) values (k % limit * width) width
          (ap (λ (m : ℕ). m * width) (mod-eq_of_lt below ∙ a) ∙ sym (joined_length xs)) (sym (wide x) ∙ ap length (sym v))
          ∙ ap (stored_in before) (ap (λ (l : List ℕ). joined numbers xs ++ l) (v ∙ sym (joined-one x)) ∙ sym (joined-append xs (x ∷ [])))

-- a number that is written is one that is pasted
pub set_paste : (numbers : List ℕ) (i n : ℕ) → i < length numbers → set numbers i n ≡ paste numbers i (n ∷ []) 1
set_paste numbers i n h =
    ap₂ (λ (xs : List ℕ) (m : ℕ). set xs m n) (paste-zero numbers i (n ∷ [])) (let e : i ≡ i + 0 = omega arith in e)
    ∙ paste-suc numbers i (n ∷ []) 0 0 (omega arith) (omega arith)

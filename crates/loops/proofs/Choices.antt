-- How many loops are barred by the innermost open choice, from the binary digits of what is open.
use mathlib.Core.Bool.{Bool, true, false}
use mathlib.Core.Path.{◌≡◌, refl, sym, ap, ap₂, subst, ◌∙◌}
use mathlib.Core.List.{List, [], ◌∷◌}
use Prim.Native.Nat.{ℕ, zero, suc, ◌+◌, ◌*◌, ◌-◌, ◌/◌, ◌%◌, ◌^◌, ◌<◌, ◌≤◌}
use mir.Syntax.{w64}
use lib.Dec.{ltb}
use lib.Count.{count_trailing_zeros}
use borrow.Author.Tests.{ltb-true, ltb-false}
use Rattle.std.specs.Prelude as Std
use Rattle.std.specs.Prelude.{Some, None, SomeIff}
use Rattle.std.specs.Option.{unwrap_or}
use Rattle.std.specs.Int.{bit_at, trailing_ones}
use Rattle.std.proofs.lemmas.Nat.Bits.{bit_at_lowest, bit_at-suc, bit_at_ones, bit_at_ones_above, bit_at_above, bit_at-trailing_ones}
use native.Mathlib.Omega.{arith}
use Rattle.meaning.specs.Record.{Open, open_loop, open_choice, loop_depth}
use Rattle.sheet.specs.declared.nesting.Nesting.{Nesting}
use Rattle.sheet.specs.Nestings.{loop_digit, loop_bits, nesting_of}
use Rattle.loops.specs.declared.forms.Barred.{Barred}
use Rattle.loops.specs.Enclosing.{choice_depth, rank_depth}
use Rattle.loops.specs.Reckoned.{barred_by}

-- what the choice stands in has the next digit
rank-beyond : (us : List Open) {rank : ℕ} → rank ≡ loop_depth us - loop_bits us % 2 → rank ≡ rank_depth (open_choice ∷ us)
unfolding loop_bits loop_digit loop_depth rank_depth
rank-beyond [] e = omega arith
rank-beyond (open_loop ∷ us) e = omega arith
rank-beyond (open_choice ∷ us) e = omega arith

-- so many of the lowest digits are 1, and the next is 0
record OnesBelow (n t : ℕ) : Type 0 where
  pub next : bit_at n t ≡ 0
  pub below : (i : ℕ) → i < t → bit_at n i ≡ 1

ones-below : (n : ℕ) → n < 2 ^ 64 → OnesBelow n (trailing_ones w64 n)
unfolding count_trailing_zeros
ones-below n h = go (ltb (n + 1) (2 ^ 64)) refl
  where
    count : trailing_ones w64 (2 ^ 64 - 1) ≡ 64
    count = refl

    at-most : OnesBelow (2 ^ 64 - 1) 64
    at-most = record { next = bit_at_ones_above 64 64 (omega arith); below = λ i less. bit_at_ones 64 i less }

    all-ones : (m : ℕ) → m ≡ 2 ^ 64 - 1 → OnesBelow m (trailing_ones w64 m)
    all-ones m e = subst (λ (k : ℕ). OnesBelow k (trailing_ones w64 k)) (sym e) (subst (OnesBelow (2 ^ 64 - 1)) (sym count) at-most)

    go : (c : Bool) → ltb (n + 1) (2 ^ 64) ≡ c → OnesBelow n (trailing_ones w64 n)
    go true e = let law = bit_at-trailing_ones w64 n (ltb-true (n + 1) (2 ^ 64) e) in record { next = law.1; below = law.2 }
    go false e = let more = ltb-false (n + 1) (2 ^ 64) e in all-ones n (omega arith)

-- the loops inside the innermost choice have these digits
barred-from : (os : List Open) (t : ℕ) → OnesBelow (loop_bits os) t →
    (loop_depth os - t ≡ choice_depth os) × (loop_depth os - t - bit_at (loop_bits os) (t + 1) ≡ rank_depth os)
unfolding loop_bits loop_digit loop_depth choice_depth rank_depth
barred-from [] t h = (omega arith, omega arith)
barred-from (open_loop ∷ os) zero h =
    let e : (2 * loop_bits os + 1) % 2 ≡ 0 = sym (bit_at_lowest (2 * loop_bits os + 1)) ∙ h.next in
    absurd (omega arith)
barred-from (open_loop ∷ os) (suc t) h =
    let n : ℕ = 2 * loop_bits os + 1 in
    let half : n / 2 ≡ loop_bits os = omega arith in
    let digit : (i : ℕ) → bit_at n (suc i) ≡ bit_at (loop_bits os) i = λ i. bit_at-suc n i ∙ ap (λ (m : ℕ). bit_at m i) half in
    let r = barred-from os t (record { next = sym (digit t) ∙ h.next; below = λ i less. sym (digit i) ∙ h.below (suc i) (omega (arith, less)) }) in
    let one : suc (loop_depth os) - suc t ≡ loop_depth os - t = omega arith in
    (one ∙ r.0, ap₂ (λ (a b : ℕ). a - b) one (ap (bit_at n) (let e : suc t + 1 ≡ suc (t + 1) = omega arith in e) ∙ digit (t + 1)) ∙ r.1)
barred-from (open_choice ∷ os) zero h =
    let n : ℕ = 2 * loop_bits os + 0 in
    let half : n / 2 ≡ loop_bits os = omega arith in
    let digit : bit_at n 1 ≡ loop_bits os % 2 = bit_at-suc n 0 ∙ bit_at_lowest (n / 2) ∙ ap (λ (m : ℕ). m % 2) half in
    (omega arith, rank-beyond os (ap (λ (d : ℕ). loop_depth os - 0 - d) digit ∙ omega arith))
barred-from (open_choice ∷ os) (suc t) h =
    let e : (2 * loop_bits os + 0) % 2 ≡ 1 = sym (bit_at_lowest (2 * loop_bits os + 0)) ∙ h.below 0 (omega arith) in
    absurd (omega arith)

digit-read : (n k : ℕ) → n < 2 ^ 64 → (r : Std.Option ℕ) → SomeIff r (k < 64) (n / 2 ^ k) → {beyond : ℕ} → beyond ≡ unwrap_or r 0 → beyond % 2 ≡ bit_at n k
digit-read n k h None s b = ap (λ (m : ℕ). m % 2) b ∙ sym (bit_at_above n 64 k h (omega (arith, s)))
digit-read n k h (Some x) s b = ap (λ (m : ℕ). m % 2) (b ∙ s.1)

pub barred-read : (here : Nesting) (os : List Open) → here ≡ nesting_of os → here.loops < 2 ^ 64 → {inside choice beyond rank : ℕ} → inside ≡ trailing_ones w64 here.loops →
    choice ≡ here.depth - inside → (r : Std.Option ℕ) → SomeIff r (inside + 1 < 64) (here.loops / 2 ^ (inside + 1)) → beyond ≡ unwrap_or r 0 → rank ≡ choice - beyond % 2 →
    ◌≡◌ {A = Barred} (record { choice = choice; rank = rank }) (barred_by os)
unfolding nesting_of barred_by
barred-read here os e h {inside} {choice} {beyond} {rank} i c r s b k =
    let bits : here.loops ≡ loop_bits os = ap (λ (x : Nesting). x.loops) e in
    let deep : here.depth ≡ loop_depth os = ap (λ (x : Nesting). x.depth) e in
    let ones = subst (λ (n : ℕ). OnesBelow n inside) bits (subst (OnesBelow here.loops) (sym i) (ones-below here.loops h)) in
    let are = barred-from os inside ones in
    let first : choice ≡ choice_depth os = c ∙ ap (λ (d : ℕ). d - inside) deep ∙ are.0 in
    let digit : beyond % 2 ≡ bit_at (loop_bits os) (inside + 1) = digit-read here.loops (inside + 1) h r s b ∙ ap (λ (n : ℕ). bit_at n (inside + 1)) bits in
    let second : rank ≡ rank_depth os = k ∙ ap₂ (λ (a b : ℕ). a - b) (c ∙ ap (λ (d : ℕ). d - inside) deep) digit ∙ are.1 in
    λ t. record { choice = first t; rank = second t }

pub choice_depth-small : (os : List Open) → choice_depth os ≤ loop_depth os
unfolding choice_depth loop_depth
choice_depth-small [] = omega arith
choice_depth-small (open_loop ∷ os) = let i = choice_depth-small os in omega arith
choice_depth-small (open_choice ∷ os) = omega arith

-- what bars ranking bars closing
pub rank-closing : (os : List Open) → rank_depth os ≤ choice_depth os
unfolding rank_depth choice_depth loop_depth
rank-closing [] = omega arith
rank-closing (open_loop ∷ os) = rank-closing os
rank-closing (open_choice ∷ []) = omega arith
rank-closing (open_choice ∷ open_loop ∷ os) = omega arith
rank-closing (open_choice ∷ open_choice ∷ os) = omega arith

-- A reason's line reads back to it, and no other line reads back to a reason.
use mathlib.Core.Path.{◌≡◌, refl, sym, ap, subst, ◌∙◌}
use mathlib.Core.List.{List, [], ◌∷◌, ◌++◌, append_assoc, append-nil}
use mathlib.Core.Bool.{Bool, true, false, cond, ◌&&◌}
use mathlib.Core.Option.{some}
use Prim.Native.Nat.{ℕ, ◌+◌, ◌*◌, ◌-◌, ◌/◌, ◌%◌, ◌<◌}
use native.Mathlib.Nat.{add-mul-mod_self_left}
use native.Mathlib.Omega.{arith}
use lib.Dec.{leb, eqb}
use lib.ListN.{length, drop}
use lib.Seq.{drop-append_seam}
use borrow.Author.Tests.{le-leb, eq-eqb, eqb-true}
use Rattle.meaning.specs.Limits.{offset_limit}
use Rattle.meaning.specs.Text.{text, decimal}
use Rattle.meaning.specs.Reason.{Reason, holds_loop, too_few_trips, uneven_in}
use Rattle.meaning.specs.ReasonLine.{choice_phrase, loop_phrase, holds_loop_phrase, too_few_trips_phrase, uneven_in_phrase, line_feed}
use Rattle.meaning.specs.ReasonLine.{uneven_line_start, reason_line, number_after, number_at, same_text, first_with_line, read_reason, OffsetsBelow, ReadsBack}
use Rattle.meaning.proofs.Logic.{none-is-not-some, true-is-not-false}
use Rattle.meaning.proofs.Decimal.{numeral_after, numeral, AllDigits, decimal-numeral, decimal-digits}

-- ---- the number at a position

-- no digit stands at the start, so that a number before it ends there
unfoldable EndsNumber : List ℕ → Type 0
EndsNumber [] = Unit {0}
EndsNumber (c ∷ cs) = (leb 48 c && leb c 57) ≡ false

-- the number of the digits, modulo the limit
number-after : (n m : ℕ) (digits rest : List ℕ) → m ≡ n % offset_limit → AllDigits digits → EndsNumber rest →
    number_after m (digits ++ rest) ≡ numeral_after n digits % offset_limit
unfolding number_after numeral_after AllDigits EndsNumber
number-after n m [] [] e all ends = e
number-after n m [] (c ∷ rest) e all ends = rw ends e
number-after n m (d ∷ digits) rest e (low, high, all) ends =
    let more : 10 * n + (d - 48) ≡ 10 * m + (d - 48) + offset_limit * (10 * (n / offset_limit)) = omega arith in
    let next : (10 * m + (d - 48)) % offset_limit ≡ (10 * n + (d - 48)) % offset_limit =
    sym (ap (λ (k : ℕ). k % offset_limit) more ∙ add-mul-mod_self_left (10 * m + (d - 48)) offset_limit (10 * (n / offset_limit))) in
    rw (le-leb 48 d low, le-leb d 57 high) (number-after (10 * n + (d - 48)) ((10 * m + (d - 48)) % offset_limit) digits rest next all ends)

number-below : (n : ℕ) (cs : List ℕ) → n < offset_limit → number_after n cs < offset_limit
unfolding number_after
number-below n [] h = h
number-below n (c ∷ cs) h = go (leb 48 c && leb c 57) (number-below ((10 * n + (c - 48)) % offset_limit) cs (omega arith))
  where
    go : (b : Bool) → number_after ((10 * n + (c - 48)) % offset_limit) cs < offset_limit →
        cond b (number_after ((10 * n + (c - 48)) % offset_limit) cs) n < offset_limit
    go true i = i
    go false i = h

number-at-below : (at : ℕ) (line : List ℕ) → number_at at line < offset_limit
unfolding number_at
number-at-below at line = number-below 0 (drop at line) (omega arith)

number-between : (before after : List ℕ) (n : ℕ) → n < offset_limit → EndsNumber after → number_at (length before) (before ++ decimal n ++ after) ≡ n
unfolding number_at numeral
number-between before after n h ends =
    ap (number_after 0) (ap (drop (length before)) (append_assoc before (decimal n) after) ∙ drop-append_seam before (decimal n ++ after))
    ∙ number-after 0 0 (decimal n) after refl (decimal-digits n) ends
    ∙ omega (arith, decimal-numeral n (omega arith))

-- ---- the same text

same-prefix : (before x y : List ℕ) → same_text (before ++ x) (before ++ y) ≡ same_text x y
unfolding same_text
same-prefix [] x y = refl
same-prefix (c ∷ before) x y = rw (eq-eqb c c refl) (same-prefix before x y)

pub same-itself : (cs : List ℕ) → same_text cs cs ≡ true
unfolding same_text
same-itself cs = simp append-nil at (same-prefix cs [] [])

pub same-equal : (cs ds : List ℕ) → same_text cs ds ≡ true → cs ≡ ds
unfolding same_text
same-equal [] [] e = refl
same-equal [] (d ∷ ds) e = true-is-not-false (sym e)
same-equal (c ∷ cs) [] e = true-is-not-false (sym e)
same-equal (c ∷ cs) (d ∷ ds) e = go (eqb c d) refl e (same-equal cs ds)
  where
    go : (b : Bool) → eqb c d ≡ b → (b && same_text cs ds) ≡ true → (same_text cs ds ≡ true → cs ≡ ds) → c ∷ cs ≡ d ∷ ds
    go true f g i = λ t. eqb-true c d f t ∷ i g t
    go false f g i = true-is-not-false (sym g)

-- ---- the reason that has a line

module _ (line : List ℕ) (r : Reason) (rs : List Reason) where
  first_found : reason_line r ≡ line → first_with_line line (r ∷ rs) ≡ some r
  unfolding first_with_line
  first_found e = rw (ap (λ (l : List ℕ). same_text l line) e ∙ same-itself line)

  first-passed : same_text (reason_line r) line ≡ false → first_with_line line (r ∷ rs) ≡ first_with_line line rs
  unfolding first_with_line
  first-passed e = rw e

-- the first letters differ
choice-or-few : (c k : ℕ) → same_text (reason_line (holds_loop c)) (reason_line (too_few_trips k)) ≡ false
unfolding reason_line text same_text
choice-or-few c k = refl

choice-or-uneven : (c k m : ℕ) → same_text (reason_line (holds_loop c)) (reason_line (uneven_in k m)) ≡ false
unfolding reason_line uneven_line_start text same_text
choice-or-uneven c k m = refl

choice-at : (c : ℕ) → c < offset_limit → number_at (length (text choice_phrase)) (reason_line (holds_loop c)) ≡ c
unfolding reason_line text EndsNumber
choice-at c h = number-between (text choice_phrase) (text holds_loop_phrase) c h refl

few-at : (k : ℕ) → k < offset_limit → number_at (length (text loop_phrase)) (reason_line (too_few_trips k)) ≡ k
unfolding reason_line text EndsNumber
few-at k h = number-between (text loop_phrase) (text too_few_trips_phrase) k h refl

module _ (k m : ℕ) (hk : k < offset_limit) (hm : m < offset_limit) where
  -- what follows the offset of loop K
  abbrev uneven_rest : List ℕ
  uneven_rest = text uneven_in_phrase ++ decimal m ++ text line_feed

  uneven-is : reason_line (uneven_in k m) ≡ text loop_phrase ++ decimal k ++ uneven_rest
  unfolding reason_line uneven_line_start
  uneven-is = simp append_assoc

  inner-at : number_at (length (text loop_phrase)) (reason_line (uneven_in k m)) ≡ k
  unfolding text EndsNumber
  inner-at = ap (number_at (length (text loop_phrase))) uneven-is ∙ number-between (text loop_phrase) uneven_rest k hk refl

  outer-at : number_at (length (uneven_line_start k)) (reason_line (uneven_in k m)) ≡ m
  unfolding reason_line text EndsNumber
  outer-at = number-between (uneven_line_start k) (text line_feed) m hm refl

  -- with the same K, the other phrase
  few-or-uneven : same_text (reason_line (too_few_trips k)) (reason_line (uneven_in k m)) ≡ false
  unfolding reason_line text same_text
  few-or-uneven =
      ap (same_text (text loop_phrase ++ decimal k ++ text too_few_trips_phrase)) uneven-is
      ∙ same-prefix (text loop_phrase ++ decimal k) (text too_few_trips_phrase) uneven_rest

reads : (r : Reason) → OffsetsBelow r → read_reason (reason_line r) ≡ some r
unfolding read_reason OffsetsBelow
reads (holds_loop c) h =
    let e = choice-at c h in
    first_found (reason_line (holds_loop c)) (holds_loop _) _ (ap (λ (n : ℕ). reason_line (holds_loop n)) e) ∙ ap (λ (n : ℕ). some (holds_loop n)) e
reads (too_few_trips k) h =
    let line : List ℕ = reason_line (too_few_trips k) in
    let e = few-at k h in
    first-passed line (holds_loop _) _ (choice-or-few _ k)
    ∙ first_found line (too_few_trips _) _ (ap (λ (n : ℕ). reason_line (too_few_trips n)) e) ∙ ap (λ (n : ℕ). some (too_few_trips n)) e
reads (uneven_in k m) (hk, hm) =
    let line : List ℕ = reason_line (uneven_in k m) in
    let ek = inner-at k m hk hm in
    let em = ap (λ (n : ℕ). number_at (length (uneven_line_start n)) line) ek ∙ outer-at k m hk hm in
    first-passed line (holds_loop _) _ (choice-or-uneven _ k m)
    ∙ first-passed line (too_few_trips _) _ (ap (λ (n : ℕ). same_text (reason_line (too_few_trips n)) line) ek ∙ few-or-uneven k m hk hm)
    ∙ first_found line (uneven_in _ _) _ (λ i. reason_line (uneven_in (ek i) (em i))) ∙ (λ i. some (uneven_in (ek i) (em i)))

-- ---- and no other line

AllBelow : List Reason → Type 0
AllBelow [] = Unit {0}
AllBelow (r ∷ rs) = OffsetsBelow r × AllBelow rs

first-has : (line : List ℕ) (rs : List Reason) (r : Reason) → AllBelow rs → first_with_line line rs ≡ some r → (reason_line r ≡ line) × OffsetsBelow r
unfolding first_with_line AllBelow
first-has line [] r below e = none-is-not-some e
first-has line (s ∷ rs) r (h, below) e = go (same_text (reason_line s) line) refl e (first-has line rs r below)
  where
    go : (b : Bool) → same_text (reason_line s) line ≡ b → cond b (some s) (first_with_line line rs) ≡ some r →
        (first_with_line line rs ≡ some r → (reason_line r ≡ line) × OffsetsBelow r) → (reason_line r ≡ line) × OffsetsBelow r
    go true f g i = let same : s ≡ r = cc in (sym (ap reason_line same) ∙ same-equal (reason_line s) line f, subst OffsetsBelow same h)
    go false f g i = i g

reads_only : (line : List ℕ) (r : Reason) → read_reason line ≡ some r → (reason_line r ≡ line) × OffsetsBelow r
unfolding read_reason AllBelow OffsetsBelow
reads_only line r e =
    let below : (at : ℕ) → number_at at line < offset_limit = λ at. number-at-below at line in
    first-has line _ r (below _, (below _, ((below _, below _), tt))) e

-- document 02: "a line reads back to its reason"
pub reads-back : (line : List ℕ) → ReadsBack line (read_reason line)
reads-back line = record {
  its = λ r h e. ap read_reason (sym e) ∙ reads r h;
  only = reads_only line;
}

-- The tests of a loop K inside a loop for closing and ranking, on the numbers that are stored of it, and the search over the loops K.
use mathlib.Core.Bool.{Bool, cond, false, not, or_assoc, or-false, true, ◌||◌}
use mathlib.Core.List.{List, [], ◌∷◌}
use mathlib.Core.Option.{Option, none, some}
use mathlib.Core.Path.{ap, ap₂, refl, subst, sym, ◌∙◌, ◌≡◌}
use Prim.Native.Nat.{◌%◌, ◌+◌, ◌-◌, ◌<◌, ◌^◌, max, suc, zero, ℕ, ◌≤◌}
use native.Mathlib.Numerals.{add-one}
use native.Mathlib.Omega.{arith}
use native.Mathlib.Nat.{mod-eq_of_lt, zero-mod}
use borrow.Author.Tests.{eq-eqb, le-ltb, lt-ltb, ne_eqb}
use lib.ListN.{drop, drop_of_length-le, get_or, length, take}
use lib.Dec.{eqb, ltb}
use lib.Seq.{drop-cons}
use mir.Syntax.{w64}
use mir.Val.{SFits, sel, to_z, of_z}
use mir.Facts.{to_z-of_z}
use lib.IntN.{nat_abs, negsuc, pos, ℤ}
use Rattle.whole.specs.Integer.{floor_remainder, divides}
use Rattle.meaning.specs.Limits.{index_factors, depth_limit}
use Rattle.layout.specs.Loops.{choice_depth_at, enough_at, limit_number, push_word_at, rank_depth_at, stride_at, word_of}
use Rattle.layout.specs.Rows.{depth_at, end_at, loop_at, role_at, role_number}
use Rattle.std.specs.List.{list_any, range_with_len}
use Rattle.planner.specs.Known.{KnownFacts, KnownInside}
use Rattle.planner.specs.Closing.{bars_closing, bars_ranking, class_among, height_above, is_ranked, limit_of, number_among, number_of, prevents, some_prevents, some_uneven, uneven_at, word_size}
use Rattle.meaning.specs.Closed.{closed_class, ranked_class, walked_class}
use Rattle.meaning.proofs.Logic.{true-is-not-false}
use Rattle.loops.specs.Facts.{LoopFacts}

-- ---- words

-- the size of the integer that a word stands for, as std has it
pub size-cast : {word size : ℕ} {z : ℤ} → SFits w64 z → word < 2 ^ 64 → z ≡ to_z w64 word → size ≡ nat_abs (to_z w64 (of_z w64 z)) → size ≡ word_size word
unfolding word_size
size-cast {word} s h e f = f ∙ ap nat_abs (to_z-of_z s ∙ e) ∙ by-half (ltb word (2 ^ 63))
  where
    by-half : (t : Bool) → nat_abs (sel t (pos word) (negsuc (2 ^ 64 - suc word))) ≡ cond t word (2 ^ 64 - word)
    by-half true = refl
    by-half false = omega arith

-- a word's size is that of the integer that it stands for
size-of-word : (z : ℤ) → nat_abs z < 2 ^ 63 → word_size (word_of z) ≡ nat_abs z
unfolding word_size word_of floor_remainder
size-of-word (pos n) s =
    let m : n % 2 ^ 64 ≡ n = mod-eq_of_lt (omega arith) in
    rw m (rw (lt-ltb n (2 ^ 63) (omega arith)))
size-of-word (negsuc n) s =
    let m : n % 2 ^ 64 ≡ n = mod-eq_of_lt (omega arith) in
    rw (le-ltb (2 ^ 64 - suc (n % 2 ^ 64)) (2 ^ 63) (omega arith)) (omega arith)

-- ---- unevenness

even-on : (s : ℕ) (ps : List ℤ) (m : ℕ) → not (divides s (get_or ps m (pos zero))) ≡ false → some_uneven s (drop m ps) ≡ some_uneven s (drop (suc m) ps)
unfolding some_uneven
even-on s [] zero e = refl
even-on s [] (suc m) e = refl
even-on s (p ∷ ps) zero e = ap (λ (c : Bool). c || some_uneven s ps) e
even-on s (p ∷ ps) (suc m) e = even-on s ps m e

zero-even : (s : ℕ) → not (divides s (pos zero)) ≡ true → ⊥
zero-even s e = true-is-not-false (sym e ∙ ap not (eq-eqb (0 % s) 0 (zero-mod s)))

odd-stops : (s : ℕ) (ps : List ℤ) (m : ℕ) → not (divides s (get_or ps m (pos zero))) ≡ true → true ≡ some_uneven s (drop m ps)
unfolding some_uneven
odd-stops s [] zero e = absurd (zero-even s e)
odd-stops s [] (suc m) e = absurd (zero-even s e)
odd-stops s (p ∷ ps) zero e = sym (ap (λ (c : Bool). c || some_uneven s ps) e)
odd-stops s (p ∷ ps) (suc m) e = odd-stops s ps m e

module _ {differences facts : List ℕ} {j : ℕ} {f : LoopFacts} (known : KnownFacts differences facts j f) where
  -- the test against the loop with m loops around it
  pub uneven-at : {m : ℕ} → m < index_factors → uneven_at differences j m ≡ not (divides f.stride (get_or f.pushes m (pos zero)))
  unfolding uneven_at
  uneven-at {m} less =
      let push : ℤ = get_or f.pushes m (pos zero) in
      let sized : word_size (push_word_at differences j m) ≡ nat_abs push = ap word_size (known.pushes_are m less) ∙ size-of-word push (known.small m) in
      ap (λ (c : Bool). cond c false (not (eqb (word_size (push_word_at differences j m) % stride_at differences j) 0)))
      (ne_eqb (stride_at differences j) 0 (λ e. absurd (omega (arith, e, known.stride_is, known.moves))))
      ∙ ap₂ (λ (a b : ℕ). not (eqb (a % b) 0)) sized known.stride_is

  module _ {m : ℕ} (less : m < index_factors) {uneven : Bool} (uneven_is : uneven ≡ uneven_at differences j m) where
    pub uneven-found : uneven ≡ true → true ≡ some_uneven f.stride (drop m f.pushes)
    uneven-found e = odd-stops f.stride f.pushes m (sym (uneven_is ∙ uneven-at less) ∙ e)

    pub uneven-next : uneven ≡ false → some_uneven f.stride (drop m f.pushes) ≡ some_uneven f.stride (drop (m + 1) f.pushes)
    uneven-next e =
        even-on f.stride f.pushes m (sym (uneven_is ∙ uneven-at less) ∙ e) ∙ ap (λ (n : ℕ). some_uneven f.stride (drop n f.pushes)) (sym (add-one m))

  pub uneven-none : {m : ℕ} → index_factors ≤ m → false ≡ some_uneven f.stride (drop m f.pushes)
  unfolding some_uneven
  uneven-none {m} h = sym (ap (some_uneven f.stride) (drop_of_length-le f.pushes {i = m} (omega (arith, known.few))))

  -- the search over the loops M from the one with m loops around it inward
  pub uneven-among : (n m : ℕ) → n ≡ index_factors - m → list_any (uneven_at differences j) (range_with_len m n) ≡ some_uneven f.stride (drop m f.pushes)
  uneven-among zero m e = uneven-none (omega (arith, e))
  uneven-among (suc n) m e = go (uneven_at differences j m) refl (uneven-among n (m + 1) (omega (arith, e)))
    where
      less : m < index_factors
      less = omega (arith, e)

      go : (c : Bool) → uneven_at differences j m ≡ c →
          list_any (uneven_at differences j) (range_with_len (m + 1) n) ≡ some_uneven f.stride (drop (m + 1) f.pushes) →
          uneven_at differences j m || list_any (uneven_at differences j) (range_with_len (m + 1) n) ≡ some_uneven f.stride (drop m f.pushes)
      go true u later = ap (λ (c : Bool). c || list_any (uneven_at differences j) (range_with_len (m + 1) n)) u ∙ uneven-found less refl u
      go false u later = ap (λ (c : Bool). c || list_any (uneven_at differences j) (range_with_len (m + 1) n)) u ∙ later ∙ sym (uneven-next less refl u)

  -- ---- the three tests

  module _ {depth rank : ℕ} (rank_is : rank ≡ rank_depth_at facts j) where
    pub prevents-choice : depth < rank → true ≡ prevents (bars_ranking f) depth f
    unfolding prevents
    prevents-choice h = rw (lt-ltb depth f.rank_depth (omega (arith, rank_is, known.rank_is)))

    module _ (above : rank ≤ depth) {enough : Bool} (enough_is : enough ≡ enough_at facts j) where
      prevents-after : prevents (bars_ranking f) depth f ≡ not enough || some_uneven f.stride (drop depth f.pushes)
      unfolding prevents
      prevents-after =
          ap₂ (λ (a b : Bool). a || not b || some_uneven f.stride (drop depth f.pushes))
          (le-ltb depth f.rank_depth (omega (arith, rank_is, known.rank_is))) (sym (enough_is ∙ known.enough_is))

      pub prevents-short : enough ≡ false → true ≡ prevents (bars_ranking f) depth f
      prevents-short e = sym (prevents-after ∙ ap (λ (b : Bool). not b || some_uneven f.stride (drop depth f.pushes)) e)

      pub prevents-uneven : enough ≡ true → {uneven : Bool} → uneven ≡ some_uneven f.stride (drop depth f.pushes) → uneven ≡ prevents (bars_ranking f) depth f
      prevents-uneven e u = u ∙ sym (prevents-after ∙ ap (λ (b : Bool). not b || some_uneven f.stride (drop depth f.pushes)) e)

-- where K does not prevent ranking, only a choice prevents closing
by-choice : (depth : ℕ) (f : LoopFacts) → prevents (bars_ranking f) depth f ≡ false → prevents (bars_closing f) depth f ≡ ltb depth f.choice_depth
unfolding prevents
by-choice depth f e = go (ltb depth f.rank_depth) (not f.enough) (some_uneven f.stride (drop depth f.pushes)) e (ltb depth f.choice_depth)
  where
    go : (a b u : Bool) → a || b || u ≡ false → (c : Bool) → c || b || u ≡ c
    go true b u h c = true-is-not-false h
    go false true u h c = true-is-not-false h
    go false false true h c = true-is-not-false h
    go false false false h true = refl
    go false false false h false = refl

max-less : (a b d : ℕ) → max (a - d) (b - d) ≡ max a b - d
max-less a b d = omega arith

max-join : (a b c : ℕ) → max a (max b c) ≡ max (max a b) c
max-join a b c = omega arith

higher : (deepest depth d fd h deepest2 : ℕ) → d ≡ fd → deepest2 ≡ max deepest d → max (deepest - depth) (max (fd - depth) h) ≡ max (deepest2 - depth) h
higher deepest depth d fd h deepest2 e m =
    max-join (deepest - depth) (fd - depth) h
    ∙ ap (λ (n : ℕ). max n h) (ap (λ (n : ℕ). max (deepest - depth) (n - depth)) (sym e) ∙ max-less deepest d depth ∙ ap (λ (n : ℕ). n - depth) (sym m))

-- ---- the search over the loops K

-- the facts of the records from i up to the end
abbrev pub inside : List (Option LoopFacts) → ℕ → ℕ → List (Option LoopFacts)
inside fs end i = take (end - i) (drop i fs)

-- what is known of all loops inside, once those before the ones left are passed
pub record Passed (depth : ℕ) (all left : List (Option LoopFacts)) (deepest : ℕ) (ranked : Bool) : Type 0 where
  pub ranking : some_prevents bars_ranking depth all ≡ some_prevents bars_ranking depth left
  pub closing : some_prevents bars_closing depth all ≡ ranked || some_prevents bars_closing depth left
  pub height : height_above depth all ≡ max (deepest - depth) (height_above depth left)

pub record Limiting (rows differences facts : List ℕ) (number depth end deepest : ℕ) (ranked : Bool) (i : ℕ) : Type 0 where
  pub depth_is : depth ≡ depth_at rows number
  pub end_is : end ≡ end_at rows number
  pub past : number < i
  pub deep : depth ≤ deepest
  pub low : deepest ≤ depth_limit
  pub rest : (fs : List (Option LoopFacts)) → KnownInside rows differences facts number fs →
      Passed depth (inside fs end (number + 1)) (inside fs end i) deepest ranked

abbrev number_there : List ℕ → ℕ → List (Option LoopFacts) → ℕ
number_there rows number fs = number_among (depth_at rows number) (take (end_at rows number - (number + 1)) (drop (number + 1) fs))

depth_below : (rows : List ℕ) (n : ℕ) → depth_at rows n ≤ depth_limit
depth_below rows n = omega arith

number-walked : (height : ℕ) → number_of walked_class height ≡ 0
unfolding number_of is_ranked limit_of limit_number
number-walked height = refl

-- the number that is stored where nothing prevents ranking
number-summed : (ranked : Bool) (height : ℕ) → limit_number ranked (suc height) ≡ number_of (cond ranked ranked_class closed_class) height
unfolding number_of is_ranked limit_of
number-summed true height = refl
number-summed false height = refl

module _ {rows differences facts : List ℕ} {number depth end deepest : ℕ} {ranked : Bool} {i : ℕ}
    (g : Limiting rows differences facts number depth end deepest ranked i) where
  -- the number, from what is found of the loops inside
  number-of : (fs : List (Option LoopFacts)) (a b : Bool) → some_prevents bars_ranking depth (inside fs end (number + 1)) ≡ a →
      some_prevents bars_closing depth (inside fs end (number + 1)) ≡ b →
      number_of (cond a walked_class (cond b ranked_class closed_class)) (height_above depth (inside fs end (number + 1))) ≡ number_there rows number fs
  unfolding number_among class_among
  number-of fs a b e f =
      sym (ap₂ (λ (x y : Bool). number_of (cond x walked_class (cond y ranked_class closed_class)) (height_above depth (inside fs end (number + 1)))) e f)
      ∙ ap₂ (λ (d n : ℕ). number_among d (take (n - (number + 1)) (drop (number + 1) fs))) g.depth_is g.end_is

  pub limiting-done : end ≤ i → {stored : ℕ} → stored ≡ limit_number ranked (deepest - depth + 1) →
      (fs : List (Option LoopFacts)) → KnownInside rows differences facts number fs → stored ≡ number_there rows number fs
  unfolding some_prevents height_above
  limiting-done h stored_is fs known =
      let r = g.rest fs known in
      let none_left : inside fs end i ≡ [] = ap (λ (n : ℕ). take n (drop i fs)) (let e : end - i ≡ 0 = omega arith in e) in
      let height = r.height ∙ ap (λ l. max (deepest - depth) (height_above depth l)) none_left in
      stored_is
      ∙ ap (limit_number ranked) (let e : deepest - depth + 1 ≡ suc (height_above depth (inside fs end (number + 1))) = omega (arith, height) in e)
      ∙ number-summed ranked (height_above depth (inside fs end (number + 1)))
      ∙ number-of fs false ranked (r.ranking ∙ ap (some_prevents bars_ranking depth) none_left)
      (r.closing ∙ ap (λ l. ranked || some_prevents bars_closing depth l) none_left ∙ or-false ranked)

  module _ (more : i < end) where
    module _ (fs : List (Option LoopFacts)) (known : KnownInside rows differences facts number fs) where
      within : i < length fs
      within = omega (arith, known.ends, g.end_is)

      first : inside fs end i ≡ get_or fs i none ∷ inside fs end (i + 1)
      first =
          ap₂ (λ (n : ℕ) (l : List (Option LoopFacts)). take n l) (let e : end - i ≡ suc (end - (i + 1)) = omega arith in e) (drop-cons fs i none within)
          ∙ ap (λ (n : ℕ). get_or fs i none ∷ take (end - (i + 1)) (drop n fs)) (sym (add-one i))

      no_loop : (role_at rows i ≡ 1 → ⊥) → get_or fs i none ≡ none
      no_loop n = go (get_or fs i none) refl
        where
          go : (o : Option LoopFacts) → get_or fs i none ≡ o → o ≡ none
          go none e = refl
          go (some f) e = absurd (n ((known.loops i f g.past e).0 ∙ (unfold role_number in refl)))

      a-loop : role_at rows i ≡ 1 → (f : LoopFacts) × (get_or fs i none ≡ some f)
      a-loop y = go (get_or fs i none) refl
        where
          go : (o : Option LoopFacts) → get_or fs i none ≡ o → (f : LoopFacts) × (get_or fs i none ≡ some f)
          go none e = absurd (known.others i g.past within e (y ∙ (unfold role_number in refl)))
          go (some f) e = (f, e)

    pub limiting-skip : (role_at rows i ≡ 1 → ⊥) → Limiting rows differences facts number depth end deepest ranked (i + 1)
    unfolding some_prevents height_above
    limiting-skip n = record {
      depth_is = g.depth_is;
      end_is = g.end_is;
      past = omega (arith, g.past);
      deep = g.deep;
      low = g.low;
      rest = λ fs known.
          let r = g.rest fs known in
          let e = first fs known ∙ ap (λ (o : Option LoopFacts). o ∷ inside fs end (i + 1)) (no_loop fs known n) in
          record {
            ranking = r.ranking ∙ ap (some_prevents bars_ranking depth) e;
            closing = r.closing ∙ ap (λ l. ranked || some_prevents bars_closing depth l) e;
            height = r.height ∙ ap (λ l. max (deepest - depth) (height_above depth l)) e;
          };
    }

    module _ (y : role_at rows i ≡ 1) {j : ℕ} (j_is : j ≡ loop_at rows i) {b : Bool}
        (b_is : (f : LoopFacts) → KnownFacts differences facts j f → b ≡ prevents (bars_ranking f) depth f) where
      module _ (fs : List (Option LoopFacts)) (known : KnownInside rows differences facts number fs) where
        abbrev this : LoopFacts
        this = (a-loop fs known y).0

        known-this : KnownFacts differences facts j this
        known-this = subst (λ (n : ℕ). KnownFacts differences facts n this) (sym j_is) (known.loops i this g.past (a-loop fs known y).1).1.1

        left : inside fs end i ≡ some this ∷ inside fs end (i + 1)
        left = first fs known ∙ ap (λ (o : Option LoopFacts). o ∷ inside fs end (i + 1)) (a-loop fs known y).1

        all-prevent : some_prevents bars_ranking depth (inside fs end (number + 1)) ≡ b || some_prevents bars_ranking depth (inside fs end (i + 1))
        unfolding some_prevents
        all-prevent =
            (g.rest fs known).ranking ∙ ap (some_prevents bars_ranking depth) left
            ∙ ap (λ (c : Bool). c || some_prevents bars_ranking depth (inside fs end (i + 1))) (sym (b_is this known-this))

      pub limiting-prevented : b ≡ true → (fs : List (Option LoopFacts)) → KnownInside rows differences facts number fs → 0 ≡ number_there rows number fs
      limiting-prevented t fs known =
          sym (number-walked (height_above depth (inside fs end (number + 1))))
          ∙ number-of fs true (some_prevents bars_closing depth (inside fs end (number + 1)))
          (all-prevent fs known ∙ ap (λ (c : Bool). c || some_prevents bars_ranking depth (inside fs end (i + 1))) t) refl

      module _ (t : b ≡ false) {ranked2 : Bool} (ranked_is : ranked2 ≡ ranked || ltb depth (choice_depth_at facts j)) where
        all-bar : (fs : List (Option LoopFacts)) → KnownInside rows differences facts number fs →
            some_prevents bars_closing depth (inside fs end (number + 1)) ≡ ranked2 || some_prevents bars_closing depth (inside fs end (i + 1))
        unfolding some_prevents
        all-bar fs known =
            let f : LoopFacts = this fs known in
            let others : Bool = some_prevents bars_closing depth (inside fs end (i + 1)) in
            let held = known-this fs known in
            (g.rest fs known).closing ∙ ap (λ l. ranked || some_prevents bars_closing depth l) (left fs known)
            ∙ ap (λ (c : Bool). ranked || (c || others)) (by-choice depth f (sym (b_is f held) ∙ t) ∙ ap (ltb depth) (sym held.choice_is))
            ∙ sym (or_assoc ranked (ltb depth (choice_depth_at facts j)) others) ∙ ap (λ (c : Bool). c || others) (sym ranked_is)

        pub limiting-next : {d deepest2 : ℕ} → d ≡ depth_at rows i → deepest2 ≡ max deepest d →
            Limiting rows differences facts number depth end deepest2 ranked2 (i + 1)
        unfolding height_above
        limiting-next {d} {deepest2} d_is m = record {
          depth_is = g.depth_is;
          end_is = g.end_is;
          past = omega (arith, g.past);
          deep = omega (arith, g.deep);
          low = omega (arith, g.low, depth_below rows i);
          rest = λ fs known.
              let f : LoopFacts = this fs known in
              let fd : d ≡ f.depth = d_is ∙ (known.loops i f g.past (a-loop fs known y).1).1.0 in
              let h : ℕ = height_above depth (inside fs end (i + 1)) in
              let high = (g.rest fs known).height ∙ ap (λ l. max (deepest - depth) (height_above depth l)) (left fs known) in
              record {
                ranking = all-prevent fs known ∙ ap (λ (c : Bool). c || some_prevents bars_ranking depth (inside fs end (i + 1))) t;
                closing = all-bar fs known;
                height = high ∙ higher deepest depth d f.depth h deepest2 fd m;
              };
        }

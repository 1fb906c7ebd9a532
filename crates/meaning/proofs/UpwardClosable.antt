-- The tests for closing and for ranking pass in the nest that counts up exactly where they pass in the other (C-17, C-18).
use mathlib.Core.Path.{◌≡◌, refl, ap, ◌∙◌}
use mathlib.Core.List.{List, [], ◌∷◌, map}
use mathlib.Core.Bool.{Bool, not, ◌&&◌}
use Prim.Native.Nat.{zero}
use lib.IntN.{ℤ, pos}
use lib.Signed.{le_z}
use lib.Dec.{eqb}
use lib.ListN.{length, replicate, length-replicate}
use Rattle.whole.specs.Integer.{divides}
use Rattle.meaning.specs.Record.{Loop, counts_down}
use Rattle.meaning.specs.Tree.{Block, Arms, empty, work, loop, choice, last_arm, arm}
use Rattle.meaning.specs.Range.{Range, inner_ranges}
use Rattle.meaning.specs.Closed.{push, push_own, push_inner, stride_divides, closable, closed, arms_closable, rankable, ranked}
use Rattle.meaning.specs.ReasonsTold.{Each, no_member, one_more}
use Rattle.meaning.proofs.Upward.{turn, turn_range, turn_each, upward_loop, downs_inside, upward, upward_arms}
use Rattle.meaning.proofs.TestLists.{each_map}
use Rattle.meaning.proofs.UpwardForms.{turn-length, append-one-length}
use Rattle.meaning.proofs.UpwardLoops.{size-upward, asked-upward, push-upward, push-own-upward, push-inner-upward}
use Rattle.meaning.proofs.UpwardLoops.{difference-range-upward, inner-ranges-upward, inner-ranges-length}
use Rattle.meaning.proofs.UpwardTrees.{arms-loops-upward}

-- the pushes of each loop on the exchanged indexes
abbrev turn_pushes : List Bool → List (List ℤ) → List (List ℤ)
turn_pushes downs pushes = map (turn_each turn downs) pushes

-- each loop has a push on the index of each loop around
abbrev PushEach : List Bool → List (List ℤ) → Type 0
PushEach downs pushes = Each (λ p. length p ≡ length downs) pushes

module _ (downs : List Bool) (k : Loop) where
  divides-upward : (pushes : List (List ℤ)) → stride_divides (upward_loop downs k) (turn_pushes downs pushes) ≡ stride_divides k pushes
  unfolding stride_divides
  divides-upward [] = refl
  divides-upward (p ∷ pushes) = λ t. divides (size-upward downs k t) (push-upward downs k p t) && divides-upward pushes t

  inner-upward : {pushes : List (List ℤ)} → PushEach downs pushes →
      map (push_inner (upward_loop downs k)) (turn_pushes downs pushes) ≡ turn_pushes (downs_inside k downs) (map (push_inner k) pushes)
  inner-upward no_member = refl
  inner-upward (one_more {x} first others) = λ t. push-inner-upward downs k x first t ∷ inner-upward others t

  module _ (ranges : List Range) (same : length ranges ≡ length downs) where
    own-upward : push_own (upward_loop downs k) (length (turn_each turn_range downs ranges)) ≡ turn_each turn (downs_inside k downs) (push_own k (length ranges))
    own-upward = ap (push_own (upward_loop downs k)) (turn-length turn_range downs ranges) ∙ push-own-upward downs k (length ranges) same

    own-length : length (push_own k (length ranges)) ≡ length (downs_inside k downs)
    unfolding push_own downs_inside
    own-length = append-one-length (replicate (length ranges) (pos zero)) downs k.stride (counts_down k) (length-replicate (length ranges) (pos zero) ∙ same)

    each-inside : {pushes : List (List ℤ)} → PushEach downs pushes → PushEach (downs_inside k downs) (push_own k (length ranges) ∷ map (push_inner k) pushes)
    unfolding push_inner downs_inside
    each-inside each = one_more own-length (each_map _ (λ p e. append-one-length p downs (push k.lower p) (counts_down k) e) each)

module _ (ps : List ℤ) where
  closable-upward : (b : Block) (downs : List Bool) (ranges : List Range) (pushes : List (List ℤ)) → length ranges ≡ length downs → PushEach downs pushes →
      closable ps (upward downs b) (turn_each turn_range downs ranges) (turn_pushes downs pushes) ≡ closable ps b ranges pushes
  unfolding closable upward
  closable-upward empty downs ranges pushes same each = refl
  closable-upward (work least most rest) downs ranges pushes same each = closable-upward rest downs ranges pushes same each
  closable-upward (loop k body rest) downs ranges pushes same each =
      let inside = downs_inside k downs in
      let inner = (λ t. closable ps (upward inside body) (inner-ranges-upward downs k ps ranges same t) (own-upward downs k ranges same t ∷ inner-upward downs k each t))
      ∙ closable-upward body inside (inner_ranges ps k ranges) (push_own k (length ranges) ∷ map (push_inner k) pushes) (inner-ranges-length downs k ps ranges same)
      (each-inside downs k ranges same each) in
      λ t. le_z (asked-upward downs k t) (difference-range-upward downs k ps ranges t).lo && divides-upward downs k pushes t && inner t
      && closable-upward rest downs ranges pushes same each t
  closable-upward (choice arms rest) downs ranges pushes same each =
      λ t. eqb (arms-loops-upward arms downs t) zero && closable-upward rest downs ranges pushes same each t

  arms-closable-upward : (arms : Arms) (downs : List Bool) (ranges : List Range) (pushes : List (List ℤ)) → length ranges ≡ length downs → PushEach downs pushes →
      arms_closable ps (upward_arms downs arms) (turn_each turn_range downs ranges) (turn_pushes downs pushes) ≡ arms_closable ps arms ranges pushes
  unfolding arms_closable upward
  arms-closable-upward (last_arm b) downs ranges pushes same each = closable-upward b downs ranges pushes same each
  arms-closable-upward (arm b arms) downs ranges pushes same each =
      λ t. closable-upward b downs ranges pushes same each t && arms-closable-upward arms downs ranges pushes same each t

  rankable-upward : (b : Block) (downs : List Bool) (ranges : List Range) (pushes : List (List ℤ)) → length ranges ≡ length downs → PushEach downs pushes →
      rankable ps (upward downs b) (turn_each turn_range downs ranges) (turn_pushes downs pushes) ≡ rankable ps b ranges pushes
  unfolding rankable upward
  rankable-upward empty downs ranges pushes same each = refl
  rankable-upward (work least most rest) downs ranges pushes same each = rankable-upward rest downs ranges pushes same each
  rankable-upward (loop k body rest) downs ranges pushes same each =
      λ t. closable-upward (loop k body empty) downs ranges pushes same each t && rankable-upward rest downs ranges pushes same each t
  rankable-upward (choice arms rest) downs ranges pushes same each =
      λ t. arms-closable-upward arms downs ranges pushes same each t && rankable-upward rest downs ranges pushes same each t

  -- a loop, and the body inside it
  module _ (downs : List Bool) (l : Loop) (body : Block) (ranges : List Range) (same : length ranges ≡ length downs) where
    inside-upward : (test : Block → List Range → List (List ℤ) → Bool) →
        test (upward (downs_inside l downs) body) (inner_ranges ps (upward_loop downs l) (turn_each turn_range downs ranges))
        (push_own (upward_loop downs l) (length (turn_each turn_range downs ranges)) ∷ [])
        ≡ test (upward (downs_inside l downs) body) (turn_each turn_range (downs_inside l downs) (inner_ranges ps l ranges))
        (turn_pushes (downs_inside l downs) (push_own l (length ranges) ∷ []))
    inside-upward test =
        λ t. test (upward (downs_inside l downs) body) (inner-ranges-upward downs l ps ranges same t) (own-upward downs l ranges same t ∷ [])

    pub closed-upward : closed ps (upward_loop downs l) (upward (downs_inside l downs) body) (turn_each turn_range downs ranges) ≡ closed ps l body ranges
    unfolding closed
    closed-upward =
        inside-upward (closable ps)
        ∙ closable-upward body (downs_inside l downs) (inner_ranges ps l ranges) (push_own l (length ranges) ∷ []) (inner-ranges-length downs l ps ranges same)
        (each-inside downs l ranges same no_member)

    pub ranked-upward : ranked ps (upward_loop downs l) (upward (downs_inside l downs) body) (turn_each turn_range downs ranges) ≡ ranked ps l body ranges
    unfolding ranked
    ranked-upward =
        let tests = inside-upward (rankable ps)
        ∙ rankable-upward body (downs_inside l downs) (inner_ranges ps l ranges) (push_own l (length ranges) ∷ []) (inner-ranges-length downs l ps ranges same)
        (each-inside downs l ranges same no_member) in
        λ t. not (closed-upward t) && tests t

-- The tree of a tree's records is that tree, and `after_end` goes over a tree's records.
use mathlib.Core.Path.{◌≡◌, refl, sym, ap, ◌∙◌}
use mathlib.Core.List.{List, [], ◌∷◌, ◌++◌, append_assoc, append-nil}
use Prim.Native.Nat.{ℕ, suc}
use Rattle.meaning.specs.Record.{Record, end_record, next_arm_record}
use Rattle.meaning.specs.Tree.{Block, Arms, empty, work, loop, choice, last_arm, arm, Segments, final, before_end, before_next_arm}
use Rattle.meaning.specs.Tree.{on_first, take_body, take_arms, segments, first_segment, tree, records, arms_records}
use Rattle.meaning.specs.Stage.{after_end}

-- What a tree's records open they also end, so the end looked for lies after them.
mutual
  unfolding after_end records

  pub after_end-records : (b : Block) (inside : ℕ) (q : List Record) → after_end inside (records b ++ q) ≡ after_end inside q
  after_end-records empty inside q = refl
  after_end-records (work least most rest) inside q = after_end-records rest inside q
  after_end-records (loop l body rest) inside q =
      ap (after_end (suc inside)) (append_assoc (records body) (end_record ∷ records rest) q)
      ∙ after_end-records body (suc inside) (end_record ∷ (records rest ++ q)) ∙ after_end-records rest inside q
  after_end-records (choice arms rest) inside q =
      ap (after_end (suc inside)) (append_assoc (arms_records arms) (end_record ∷ records rest) q)
      ∙ after_end-arms arms (suc inside) (end_record ∷ (records rest ++ q)) ∙ after_end-records rest inside q

  pub after_end-arms : (arms : Arms) (inside : ℕ) (q : List Record) → after_end inside (arms_records arms ++ q) ≡ after_end inside q
  after_end-arms (last_arm b) inside q = after_end-records b inside q
  after_end-arms (arm b arms) inside q =
      ap (after_end inside) (append_assoc (records b) (next_arm_record ∷ arms_records arms) q)
      ∙ after_end-records b inside (next_arm_record ∷ (arms_records arms ++ q)) ∙ after_end-arms arms inside q

-- one tree after another
unfoldable pub followed_by : Block → Block → Block
followed_by empty b = b
followed_by (work least most rest) b = work least most (followed_by rest b)
followed_by (loop l body rest) b = loop l body (followed_by rest b)
followed_by (choice arms rest) b = choice arms (followed_by rest b)

pub followed_by-empty : (b : Block) → followed_by b empty ≡ b
unfolding followed_by
followed_by-empty empty = refl
followed_by-empty (work least most rest) = ap (work least most) (followed_by-empty rest)
followed_by-empty (loop l body rest) = ap (loop l body) (followed_by-empty rest)
followed_by-empty (choice arms rest) = ap (choice arms) (followed_by-empty rest)

on_first-twice : (f g : Block → Block) (s : Segments) → on_first f (on_first g s) ≡ on_first (λ b. f (g b)) s
unfolding on_first
on_first-twice f g (final b) = refl
on_first-twice f g (before_end b s) = refl
on_first-twice f g (before_next_arm b s) = refl

on_first-same : (s : Segments) → on_first (λ b. b) s ≡ s
unfolding on_first
on_first-same (final b) = refl
on_first-same (before_end b s) = refl
on_first-same (before_next_arm b s) = refl

-- A tree's records come back as that tree, before what follows them in its first segment.
mutual
  unfolding segments records followed_by take_body take_arms on_first

  pub segments-records : (b : Block) (q : List Record) → segments (records b ++ q) ≡ on_first (followed_by b) (segments q)
  segments-records empty q = sym (on_first-same (segments q))
  segments-records (work least most rest) q =
      ap (on_first (work least most)) (segments-records rest q) ∙ on_first-twice (work least most) (followed_by rest) (segments q)
  segments-records (loop l body rest) q =
      ap (λ rs. take_body l (segments rs)) (append_assoc (records body) (end_record ∷ records rest) q)
      ∙ ap (take_body l) (segments-records body (end_record ∷ (records rest ++ q)))
      ∙ ap (λ b. on_first (loop l b) (segments (records rest ++ q))) (followed_by-empty body)
      ∙ ap (on_first (loop l body)) (segments-records rest q) ∙ on_first-twice (loop l body) (followed_by rest) (segments q)
  segments-records (choice arms rest) q =
      ap (λ rs. take_arms (λ further. further) (segments rs)) (append_assoc (arms_records arms) (end_record ∷ records rest) q)
      ∙ segments-arms arms (λ further. further) (records rest ++ q)
      ∙ ap (on_first (choice arms)) (segments-records rest q) ∙ on_first-twice (choice arms) (followed_by rest) (segments q)

  pub segments-arms : (arms : Arms) (f : Arms → Arms) (q : List Record) →
      take_arms f (segments (arms_records arms ++ (end_record ∷ q))) ≡ on_first (choice (f arms)) (segments q)
  segments-arms (last_arm b) f q =
      ap (take_arms f) (segments-records b (end_record ∷ q)) ∙ ap (λ last. on_first (choice (f (last_arm last))) (segments q)) (followed_by-empty b)
  segments-arms (arm b arms) f q =
      ap (λ rs. take_arms f (segments rs)) (append_assoc (records b) (next_arm_record ∷ arms_records arms) (end_record ∷ q))
      ∙ ap (take_arms f) (segments-records b (next_arm_record ∷ (arms_records arms ++ (end_record ∷ q))))
      ∙ ap (λ first. take_arms (λ further. f (arm first further)) (segments (arms_records arms ++ (end_record ∷ q)))) (followed_by-empty b)
      ∙ segments-arms arms (λ further. f (arm b further)) q

pub tree-before-end : (b : Block) (q : List Record) → tree (records b ++ (end_record ∷ q)) ≡ b
unfolding tree segments first_segment on_first
tree-before-end b q = ap first_segment (segments-records b (end_record ∷ q)) ∙ followed_by-empty b

pub tree-records : (b : Block) → tree (records b) ≡ b
unfolding tree segments first_segment on_first
tree-records b = ap tree (sym (append-nil (records b))) ∙ ap first_segment (segments-records b []) ∙ followed_by-empty b

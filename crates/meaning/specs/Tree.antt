-- The tree of a sheet's records.
use Rattle.std.specs.Prelude.{List, [], ◌∷◌, ◌++◌, ℕ, zero, suc, ◌+◌, max}
use Rattle.meaning.specs.Record.{Loop, Record, work_record, loop_record, end_record, choice_record, next_arm_record}

mutual
  -- what follows one another in a body, an arm or the sheet
  pub data Block : Type 0 where
    empty : Block
    work : (least most : ℕ) (rest : Block) → Block
    loop : (l : Loop) (body rest : Block) → Block
    choice : (arms : Arms) (rest : Block) → Block

  -- the arms of a choice, at least one
  pub data Arms : Type 0 where
    last_arm : Block → Arms
    arm : Block → Arms → Arms

-- Records cut at the ends and next arms of what was opened before them.
pub data Segments : Type 0 where
  final : Block → Segments
  before_end : Block → Segments → Segments
  before_next_arm : Block → Segments → Segments

unfoldable pub on_first : (Block → Block) → Segments → Segments
on_first f (final b) = final (f b)
on_first f (before_end b s) = before_end (f b) s
on_first f (before_next_arm b s) = before_next_arm (f b) s

-- the body up to the loop's end, and what follows it
unfoldable pub take_body : Loop → Segments → Segments
take_body l (final b) = final b
take_body l (before_end b s) = on_first (loop l b) s
take_body l (before_next_arm b s) = final b

-- the arms up to the choice's end, and what follows it; f puts the arms before them
unfoldable pub take_arms : (Arms → Arms) → Segments → Segments
take_arms f (final b) = final b
take_arms f (before_end b s) = on_first (choice (f (last_arm b))) s
take_arms f (before_next_arm b s) = take_arms (λ arms. f (arm b arms)) s

unfoldable pub segments : List Record → Segments
segments [] = final empty
segments (work_record least most ∷ rs) = on_first (work least most) (segments rs)
segments (loop_record l ∷ rs) = take_body l (segments rs)
segments (end_record ∷ rs) = before_end empty (segments rs)
segments (choice_record ∷ rs) = take_arms (λ arms. arms) (segments rs)
segments (next_arm_record ∷ rs) = before_next_arm empty (segments rs)

unfoldable pub first_segment : Segments → Block
first_segment (final b) = b
first_segment (before_end b s) = b
first_segment (before_next_arm b s) = b

-- the records' tree, up to the first end or next arm of what was opened before them
unfoldable pub tree : List Record → Block
tree rs = first_segment (segments rs)

-- the records of a tree
unfoldable mutual
  pub records : Block → List Record
  records empty = []
  records (work least most rest) = work_record least most ∷ records rest
  records (loop l body rest) = loop_record l ∷ (records body ++ (end_record ∷ records rest))
  records (choice arms rest) = choice_record ∷ (arms_records arms ++ (end_record ∷ records rest))

  pub arms_records : Arms → List Record
  arms_records (last_arm b) = records b
  arms_records (arm b arms) = records b ++ (next_arm_record ∷ arms_records arms)

-- how many loops there are
unfoldable mutual
  pub loops : Block → ℕ
  loops empty = zero
  loops (work least most rest) = loops rest
  loops (loop l body rest) = suc (loops body) + loops rest
  loops (choice arms rest) = arms_loops arms + loops rest

  pub arms_loops : Arms → ℕ
  arms_loops (last_arm b) = loops b
  arms_loops (arm b arms) = loops b + arms_loops arms

-- document 01: height of a loop with this body: the greatest depth of loops nested inside it, 0 if none
unfoldable mutual
  pub height : Block → ℕ
  height empty = zero
  height (work least most rest) = height rest
  height (loop l body rest) = max (suc (height body)) (height rest)
  height (choice arms rest) = max (arms_height arms) (height rest)

  pub arms_height : Arms → ℕ
  arms_height (last_arm b) = height b
  arms_height (arm b arms) = max (height b) (arms_height arms)

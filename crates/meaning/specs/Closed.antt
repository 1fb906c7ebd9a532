-- Pushes, and which loops are closed, ranked or walked.
use Rattle.std.specs.Prelude.{List, [], ◌∷◌, ◌++◌, map, Bool, true, false, cond, not, ◌&&◌, ℕ, zero, ℤ, pos, neg_ℤ, eqb, length, replicate}
use Rattle.std.specs.Int.Signed.{le_z}
use Rattle.whole.specs.Integer.{dot, divides}
use Rattle.meaning.specs.Form.{Form}
use Rattle.meaning.specs.Record.{Loop, stride_size, skip_cycles}
use Rattle.meaning.specs.Tree.{Block, Arms, empty, work, loop, choice, last_arm, arm, arms_loops}
use Rattle.meaning.specs.Time.{difference}
use Rattle.meaning.specs.Range.{Range, inner_ranges, difference_range}

-- document 01: push of a loop on a form: what its next trip adds to the form's value, where `pushes` has what it adds to the indexes at
-- depths 1, 2, ..
unfoldable pub push : Form → List ℤ → ℤ
push f pushes = dot f.index pushes

-- a loop's pushes on the indexes up to its own, `depth` loops being around it: its own index moves by its stride, sign kept
unfoldable pub push_own : Loop → ℕ → List ℤ
push_own l depth = replicate depth (pos zero) ++ (l.stride ∷ [])

-- another loop's pushes, with the one on the index of loop l just inside: a deeper index moves by its lower form
unfoldable pub push_inner : Loop → List ℤ → List ℤ
push_inner l pushes = pushes ++ (push l.lower pushes ∷ [])

-- with those on the indexes of several loops inside, outermost first
unfoldable pub nest_pushes : List Loop → List ℤ → List ℤ
nest_pushes [] pushes = pushes
nest_pushes (l ∷ inner) pushes = nest_pushes inner (push_inner l pushes)

-- the size of the loop's stride divides the push on its D of each of the loops
unfoldable pub stride_divides : Loop → List (List ℤ) → Bool
stride_divides l [] = true
stride_divides l (pushes ∷ others) = divides (stride_size l) (push (difference l) pushes) && stride_divides l others

-- the smallest D that closing a loop asks of a loop inside it: minus the size of that one's stride; document 02: "Where skip and start differ", 0
unfoldable pub asked_difference : Loop → ℤ
asked_difference l = cond (eqb (skip_cycles l) l.start) (neg_ℤ (pos (stride_size l))) (pos zero)

-- document 01: a loop is closed, or otherwise walked; document 02, C-18: some of those that are not closed are ranked
pub data LoopClass : Type 0 where
  closed_class ranked_class walked_class : LoopClass

unfoldable pub is_closed : LoopClass → Bool
is_closed closed_class = true
is_closed ranked_class = false
is_closed walked_class = false

module _ (parameters : List ℤ) where
  -- what closing a loop asks of what is inside it: `ranges` are those of the indexes around, `pushes` those of that loop and of each
  -- loop between, innermost first
  unfoldable pub closable : Block → List Range → List (List ℤ) → Bool
  closable empty ranges pushes = true
  closable (work least most rest) ranges pushes = closable rest ranges pushes
  closable (loop l body rest) ranges pushes =
      le_z (asked_difference l) (difference_range parameters l ranges).lo && stride_divides l pushes
      && closable body (inner_ranges parameters l ranges) (push_own l (length ranges) ∷ map (push_inner l) pushes)
      && closable rest ranges pushes
  closable (choice arms rest) ranges pushes = eqb (arms_loops arms) zero && closable rest ranges pushes

  -- document 01: closed
  unfoldable pub closed : Loop → Block → List Range → Bool
  closed l body ranges = closable body (inner_ranges parameters l ranges) (push_own l (length ranges) ∷ [])

  -- "each arm itself passing the tests": as if it stood in the choice's place
  unfoldable pub arms_closable : Arms → List Range → List (List ℤ) → Bool
  arms_closable (last_arm b) ranges pushes = closable b ranges pushes
  arms_closable (arm b arms) ranges pushes = closable b ranges pushes && arms_closable arms ranges pushes

  -- what ranking a loop asks of its body: what closing asks, but of a choice standing directly in it only that each arm passes the tests
  unfoldable pub rankable : Block → List Range → List (List ℤ) → Bool
  rankable empty ranges pushes = true
  rankable (work least most rest) ranges pushes = rankable rest ranges pushes
  rankable (loop l body rest) ranges pushes = closable (loop l body empty) ranges pushes && rankable rest ranges pushes
  rankable (choice arms rest) ranges pushes = arms_closable arms ranges pushes && rankable rest ranges pushes

  -- document 02, C-18: ranked. "A loop whose only bar to closing is choices standing directly in its body"
  unfoldable pub ranked : Loop → Block → List Range → Bool
  ranked l body ranges = not (closed l body ranges) && rankable body (inner_ranges parameters l ranges) (push_own l (length ranges) ∷ [])

  unfoldable pub loop_class : Loop → Block → List Range → LoopClass
  loop_class l body ranges = cond (closed l body ranges) closed_class (cond (ranked l body ranges) ranked_class walked_class)

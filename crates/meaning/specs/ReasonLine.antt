-- A reason's line, and the reason read back from a line (document 02, C-11).
use Rattle.std.specs.Prelude.{◌≡◌, List, [], ◌∷◌, ◌++◌, Bool, true, false, cond, ◌&&◌, ℕ, ◌+◌, ◌*◌, ◌-◌, ◌%◌, ◌<◌, leb, eqb, length, drop}
use Rattle.std.proofs.Math.Option.{Option, none, some}
use Prim.Native.String.{String}
use Rattle.meaning.specs.Limits.{offset_limit}
use Rattle.meaning.specs.Text.{text, decimal}
use Rattle.meaning.specs.Reason.{Reason, holds_loop, too_few_trips, uneven_in}

-- the fixed phrases; those that end a line have its line feed
abbrev pub choice_phrase : String
choice_phrase = "choice "

abbrev pub loop_phrase : String
loop_phrase = "loop "

abbrev pub holds_loop_phrase : String
holds_loop_phrase = " holds a loop\n"

abbrev pub too_few_trips_phrase : String
too_few_trips_phrase = " may fall below no trips\n"

abbrev pub uneven_in_phrase : String
uneven_in_phrase = " is uneven in loop "

abbrev pub line_feed : String
line_feed = "\n"

-- the line of an uneven loop, up to the offset of loop M
unfoldable pub uneven_line_start : ℕ → List ℕ
uneven_line_start k = text loop_phrase ++ decimal k ++ text uneven_in_phrase

-- document 02: the line of a reason
unfoldable pub reason_line : Reason → List ℕ
reason_line (holds_loop c) = text choice_phrase ++ decimal c ++ text holds_loop_phrase
reason_line (too_few_trips k) = text loop_phrase ++ decimal k ++ text too_few_trips_phrase
reason_line (uneven_in k m) = uneven_line_start k ++ decimal m ++ text line_feed

-- a closed loop gets no line
unfoldable pub reason_lines : Option Reason → List ℕ
reason_lines none = []
reason_lines (some r) = reason_line r

-- ---- reading back: of the three reasons whose numbers stand where their lines have them, the one that has this line

-- the number of the digits at the start of a text, after the digits of n; below the limit, since a larger one is in no reason
unfoldable pub number_after : ℕ → List ℕ → ℕ
number_after n [] = n
number_after n (c ∷ cs) = cond (leb 48 c && leb c 57) (number_after ((10 * n + (c - 48)) % offset_limit) cs) n

-- the number at a position of a line
unfoldable pub number_at : ℕ → List ℕ → ℕ
number_at at line = number_after 0 (drop at line)

unfoldable pub same_text : List ℕ → List ℕ → Bool
same_text [] [] = true
same_text [] (d ∷ ds) = false
same_text (c ∷ cs) [] = false
same_text (c ∷ cs) (d ∷ ds) = eqb c d && same_text cs ds

-- the first of the reasons that has this line
unfoldable pub first_with_line : List ℕ → List Reason → Option Reason
first_with_line line [] = none
first_with_line line (r ∷ rs) = cond (same_text (reason_line r) line) (some r) (first_with_line line rs)

unfoldable pub read_reason : List ℕ → Option Reason
read_reason line =
    let k : ℕ = number_at (length (text loop_phrase)) line in
    first_with_line line
    (holds_loop (number_at (length (text choice_phrase)) line) ∷ too_few_trips k ∷ uneven_in k (number_at (length (uneven_line_start k)) line) ∷ [])

-- the reason's offsets are below the limit, as those of every sheet are
unfoldable pub OffsetsBelow : Reason → Type 0
OffsetsBelow (holds_loop c) = c < offset_limit
OffsetsBelow (too_few_trips k) = k < offset_limit
OffsetsBelow (uneven_in k m) = (k < offset_limit) × (m < offset_limit)

-- document 02: "Two different reasons never give the same line, and a line reads back to its reason"; no other line reads back to one
pub record ReadsBack (line : List ℕ) (found : Option Reason) : Type 0 where
  pub its : (r : Reason) → OffsetsBelow r → reason_line r ≡ line → found ≡ some r
  pub only : (r : Reason) → found ≡ some r → (reason_line r ≡ line) × OffsetsBelow r

-- The rows of the open records say what was open before each of them: what an end goes back to.
use mathlib.Core.List.{◌++◌, List, [], ◌∷◌}
use mathlib.Core.Path.{ap, refl, sym, ◌∙◌, ◌≡◌}
use Prim.Native.Nat.{ℕ, suc}
use lib.ListN.{drop, get_or, length}
use lib.Seq.{drop-drop}
use native.Mathlib.Numerals.{add-one}
use Rattle.meaning.specs.Record.{Open, Record, choice_record, end_record, kind, loop_depth, loop_record, next_arm_record, work_record, open_loop, open_choice}
use Rattle.layout.specs.declared.rows.Row.{Row}
use Rattle.layout.specs.declared.rows.Role.{Role}
use Rattle.layout.specs.Rows.{choice_role, loop_role, role_number, role_of, role_of_kind}
use Rattle.nest.specs.Rows.{Position, innermost, onward, row_at, rows_from, rows_of, sheet_start}
use Rattle.nest.specs.Walk.{numbers_after, opens_after}
use Rattle.nest.proofs.RowsOf.{get_d-from}
use Rattle.nest.proofs.Walks.{numbers_through, opens_through}

-- the role of the record that opened it
unfoldable pub opener_role : Open → Role
opener_role open_loop = loop_role
opener_role open_choice = choice_role

-- the row of a record that opened o where os with the numbers ns were open
pub record OpenerRow (r : Row) (o : Open) (ns : List ℕ) (os : List Open) : Type 0 where
  pub role_is : r.role ≡ role_number (opener_role o)
  pub enclosing_is : r.enclosing ≡ innermost ns
  pub frame_is : r.frame ≡ length os
  pub depth_is : r.depth ≡ loop_depth os

-- each open record has such a row
unfoldable pub OpenerRows : (ℕ → Row) → List ℕ → List Open → Type 0
OpenerRows row_of [] [] = Unit {0}
OpenerRows row_of [] (o ∷ os) = ⊥
OpenerRows row_of (n ∷ ns) [] = ⊥
OpenerRows row_of (n ∷ ns) (o ∷ os) = OpenerRow (row_of n) o ns os × OpenerRows row_of ns os

drop-next : {A : Type 0} (n : ℕ) (xs : List A) (y : A) (ys : List A) → drop n xs ≡ y ∷ ys → drop (suc n) xs ≡ ys
drop-next n xs y ys e = ap (λ (m : ℕ). drop m xs) (sym (add-one n)) ∙ sym (drop-drop 1 n xs) ∙ ap (drop 1) e

module _ (rows : List Row) (d : Row) where
  abbrev row_of : ℕ → Row
  row_of n = get_or rows n d

  opener-row : (p : Position) (o : Open) (r : Record) (rs : List Record) → drop p.number rows ≡ rows_from p (r ∷ rs) → role_of r ≡ opener_role o →
      OpenerRow (row_of p.number) o p.numbers p.opens
  unfolding rows_from row_at
  opener-row p o r rs e h =
      let same : row_of p.number ≡ row_at p r rs = get_d-from p.number rows d ∙ ap (λ xs. get_or xs 0 d) e in
      record {
        role_is = ap (λ (x : Row). x.role) same ∙ ap role_number h;
        enclosing_is = ap (λ (x : Row). x.enclosing) same;
        frame_is = ap (λ (x : Row). x.frame) same;
        depth_is = ap (λ (x : Row). x.depth) same;
      }

  openers-after : (p : Position) (r : Record) (rs : List Record) → drop p.number rows ≡ rows_from p (r ∷ rs) →
      OpenerRows row_of p.numbers p.opens → OpenerRows row_of (onward p r).numbers (onward p r).opens
  unfolding onward OpenerRows numbers_after opens_after role_of role_of_kind kind opener_role
  openers-after p (work_record least most) rs e h = h
  openers-after p (loop_record l) rs e h = (opener-row p open_loop (loop_record l) rs e refl, h)
  openers-after p end_record rs e h = outside p.numbers p.opens h
    where
      outside : (ns : List ℕ) (os : List Open) → OpenerRows row_of ns os → OpenerRows row_of (numbers_after p.number ns end_record) (opens_after os end_record)
      outside [] [] g = tt
      outside [] (o ∷ os) g = absurd g
      outside (n ∷ ns) [] g = absurd g
      outside (n ∷ ns) (o ∷ os) g = g.1
  openers-after p choice_record rs e h = (opener-row p open_choice choice_record rs e refl, h)
  openers-after p next_arm_record rs e h = h

  openers-through : (xs ys : List Record) (p : Position) → drop p.number rows ≡ rows_from p (xs ++ ys) → OpenerRows row_of p.numbers p.opens →
      OpenerRows row_of (numbers_through p.number p.numbers xs) (opens_through p.opens xs)
  unfolding numbers_through opens_through rows_from onward
  openers-through [] ys p e h = h
  openers-through (x ∷ xs) ys p e h =
      openers-through xs ys (onward p x) (drop-next p.number rows (row_at p x (xs ++ ys)) (rows_from (onward p x) (xs ++ ys)) e)
      (openers-after p x (xs ++ ys) e h)

-- of any sheet: the rows of the records that are open after the records xs
pub open-rows : (xs ys : List Record) (d : Row) → OpenerRows (λ n. get_or (rows_of (xs ++ ys)) n d) (numbers_through 0 [] xs) (opens_through [] xs)
unfolding rows_of OpenerRows
open-rows xs ys d = openers-through (rows_from sheet_start (xs ++ ys)) d xs ys sheet_start refl tt

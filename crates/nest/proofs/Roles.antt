-- What a record's role says: of the byte of its kind, and of what is open, ended and counted after it.
use mathlib.Core.Path.{◌≡◌, refl, sym, ap, ◌∙◌}
use mathlib.Core.List.{List, [], ◌∷◌}
use mathlib.Core.Bool.{cond}
use Prim.Native.Nat.{ℕ, suc, ◌+◌, ◌-◌, ◌≤◌, ◌<◌, zero}
use native.Mathlib.Numerals.{add-one}
use native.Mathlib.Omega.{arith}
use borrow.Author.Tests.{ne_eqb}
use lib.Dec.{eqb}
use Rattle.meaning.specs.Record.{kind_number, Record, work_record, loop_record, end_record, choice_record, next_arm_record, kind}
use Rattle.meaning.proofs.RecordBytes.{kind_of-kind_number}
use Rattle.layout.specs.declared.rows.Role.{Role}
use Rattle.layout.specs.Rows.{role_of_kind, role_of, enclosing_at}
use Rattle.layout.specs.declared.rows.Role.TheVariants as roles
use Rattle.nest.specs.Walk.{numbers_after, loops_after, records_inside}
use Rattle.nest.specs.Rows.{end_number, innermost}
use Rattle.nest.specs.Roles.{role_by, role_of_byte, open_after_role, end_of_role, loops_after_role, enclosing_after_role}
use Rattle.nest.specs.Known.{InnersKnown}

pub role-of-record : (r : Record) → role_of_byte (kind_number (kind r)) ≡ role_of r
unfolding role_of_byte role_by role_of
role-of-record r = ap role_by (kind_of-kind_number (kind r))

pub end-by-role : (r : Record) (n : ℕ) (rs : List Record) → end_of_role (role_of r) n rs ≡ end_number n r rs
unfolding end_of_role end_number role_of role_of_kind kind
end-by-role (work_record least most) n rs = refl
end-by-role (loop_record l) n rs = omega arith
end-by-role end_record n rs = refl
end-by-role choice_record n rs = omega arith
end-by-role next_arm_record n rs = refl

pub loops-by-role : (r : Record) (n : ℕ) → loops_after_role (role_of r) n ≡ loops_after n r
unfolding loops_after_role loops_after role_of role_of_kind kind
loops-by-role (work_record least most) n = refl
loops-by-role (loop_record l) n = add-one n
loops-by-role end_record n = refl
loops-by-role choice_record n = refl
loops-by-role next_arm_record n = refl

positive : (n a b : ℕ) → 0 < n → cond (eqb n 0) a b ≡ b
positive n a b h = rw (ne_eqb n 0 (λ e. omega arith))

pub enclosing-by-role : (rows : List ℕ) (r : Record) (n : ℕ) (ns : List ℕ) → InnersKnown rows ns →
    enclosing_after_role rows (role_of r) n (innermost ns) ≡ innermost (numbers_after n ns r)
unfolding enclosing_after_role numbers_after innermost role_of role_of_kind kind
enclosing-by-role rows (work_record least most) n ns known = refl
enclosing-by-role rows (loop_record l) n ns known = add-one n
enclosing-by-role rows end_record n [] known = refl
enclosing-by-role rows end_record n (m ∷ ms) known =
    positive (suc m) 0 (enclosing_at rows (suc m - 1)) (omega arith)
    ∙ ap (enclosing_at rows) (let e : suc m - 1 ≡ m = omega arith in e) ∙ known.around m ms refl
enclosing-by-role rows choice_record n ns known = add-one n
enclosing-by-role rows next_arm_record n ns known = refl

one_inside : (rs : List Record) (m after : ℕ) → after ≡ suc m → suc (records_inside m rs) ≡ cond (eqb after 0) 0 (suc (records_inside (after - 1) rs))
one_inside rs m after e =
    ap (λ (k : ℕ). suc (records_inside k rs)) (let f : m ≡ after - 1 = omega arith in f)
    ∙ sym (positive after 0 (suc (records_inside (after - 1) rs)) (omega arith))

-- a record's step in the search for an end, where one thing more is open than the records inside count: nothing is open after the end itself
pub inside-step : (r : Record) (rs : List Record) (n : ℕ) →
    let after : ℕ = open_after_role (role_of r) (n + 1) in
    records_inside n (r ∷ rs) ≡ cond (eqb after 0) 0 (suc (records_inside (after - 1) rs))
unfolding records_inside open_after_role role_of role_of_kind kind
inside-step (work_record least most) rs n = one_inside rs n (n + 1) (omega arith)
inside-step (loop_record l) rs n = one_inside rs (suc n) (n + 1 + 1) (omega arith)
inside-step end_record rs zero = refl
inside-step end_record rs (suc n) = one_inside rs n (suc n + 1 - 1) (omega arith)
inside-step choice_record rs n = one_inside rs (suc n) (n + 1 + 1) (omega arith)
inside-step next_arm_record rs n = one_inside rs n (n + 1) (omega arith)

pub open-small : (role : Role) (n : ℕ) → open_after_role role n ≤ n + 1
unfolding open_after_role
open-small roles.Straight n = omega arith
open-small roles.Loop n = omega arith
open-small roles.End n = omega arith
open-small roles.Choice n = omega arith
open-small roles.NextArm n = omega arith
open-small roles.Unknown n = omega arith

pub loops-more : (role : Role) (n : ℕ) → loops_after_role role n ≤ n + 1
unfolding loops_after_role
loops-more roles.Straight n = omega arith
loops-more roles.Loop n = omega arith
loops-more roles.End n = omega arith
loops-more roles.Choice n = omega arith
loops-more roles.NextArm n = omega arith
loops-more roles.Unknown n = omega arith

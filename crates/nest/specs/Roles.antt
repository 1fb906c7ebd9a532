-- What the walk over a sheet's bytes takes from the byte of a record's kind.
use Rattle.std.specs.Prelude.{List, Bool, true, false, cond, ℕ, ◌+◌, ◌-◌, eqb}
use Rattle.std.proofs.Math.Option.{Option, some, none}
use Rattle.meaning.specs.Number.{unsigned16}
use Rattle.meaning.specs.Record.{Kind, work_kind, loop_kind, end_kind, choice_kind, next_arm_kind, kind_of, Record}
use Rattle.records.specs.View.{skip_in}
use Rattle.layout.specs.declared.rows.Role.{Role}
use Rattle.layout.specs.Rows.{role_of_kind, enclosing_at}
use Rattle.layout.specs.declared.rows.Role.TheVariants as roles
use Rattle.nest.specs.Walk.{records_inside}

-- the role of a kind's records; what is no kind counts as straight
unfoldable pub role_by : Option Kind → Role
role_by (some k) = role_of_kind k
role_by none = roles.Straight

unfoldable pub role_of_byte : ℕ → Role
role_of_byte kind = role_by (kind_of kind)

-- the cost at an offset of the body: only works and loops have costs
unfoldable pub cost_by : Option Kind → List ℕ → ℕ → ℕ
cost_by (some work_kind) body at = unsigned16 body at
cost_by (some (loop_kind has_skip)) body at = unsigned16 body at
cost_by (some end_kind) body at = 0
cost_by (some choice_kind) body at = 0
cost_by (some next_arm_kind) body at = 0
cost_by none body at = 0

unfoldable pub cost_in : ℕ → List ℕ → ℕ → ℕ
cost_in kind body at = cost_by (kind_of kind) body at

-- what a loop costs where it makes no trip
unfoldable pub skip_cost_by : Option Kind → List ℕ → ℕ
skip_cost_by (some work_kind) body = 0
skip_cost_by (some (loop_kind has_skip)) body = skip_in has_skip body
skip_cost_by (some end_kind) body = 0
skip_cost_by (some choice_kind) body = 0
skip_cost_by (some next_arm_kind) body = 0
skip_cost_by none body = 0

unfoldable pub skip_cost_in : ℕ → List ℕ → ℕ
skip_cost_in kind body = skip_cost_by (kind_of kind) body

-- a record with this role opens something
abbrev pub opens : Role → Bool
opens roles.Straight = false
opens roles.Loop = true
opens roles.End = false
opens roles.Choice = true
opens roles.NextArm = false
opens roles.Unknown = false

-- how many records are open after one with this role, after so many before it
unfoldable pub open_after_role : Role → ℕ → ℕ
open_after_role roles.Straight n = n
open_after_role roles.Loop n = n + 1
open_after_role roles.End n = n - 1
open_after_role roles.Choice n = n + 1
open_after_role roles.NextArm n = n
open_after_role roles.Unknown n = n

-- the number of the end of the record with the number n and this role, before the records rs; 0 of a record that opens nothing
unfoldable pub end_of_role : Role → ℕ → List Record → ℕ
end_of_role role n rs = cond (opens role) (n + 1 + records_inside 0 rs) 0

-- how many loops there are up to a record with this role, after so many before it
unfoldable pub loops_after_role : Role → ℕ → ℕ
loops_after_role roles.Straight n = n
loops_after_role roles.Loop n = n + 1
loops_after_role roles.End n = n
loops_after_role roles.Choice n = n
loops_after_role roles.NextArm n = n
loops_after_role roles.Unknown n = n

-- the innermost open record's number plus 1 after the record with the number n and this role; an end goes back to what its opener's row has
unfoldable pub enclosing_after_role : List ℕ → Role → ℕ → ℕ → ℕ
enclosing_after_role rows roles.Straight n enclosing = enclosing
enclosing_after_role rows roles.Loop n enclosing = n + 1
enclosing_after_role rows roles.End n enclosing = cond (eqb enclosing 0) 0 (enclosing_at rows (enclosing - 1))
enclosing_after_role rows roles.Choice n enclosing = n + 1
enclosing_after_role rows roles.NextArm n enclosing = enclosing
enclosing_after_role rows roles.Unknown n enclosing = enclosing

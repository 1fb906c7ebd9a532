-- What the plan's answer counts.
use Rattle.std.specs.Prelude.{ℕ}
use Rattle.meaning.specs.Reader.{Result, ok, refused}
use Rattle.planner.specs.Plan.{Plan}

-- how many records the plan has, or the refusal
unfoldable pub plan_count : Result Plan → Result ℕ
plan_count (ok p) = ok p.count
plan_count (refused number place) = refused number place

-- What the steps make of so many kept arms.
use Rattle.std.proofs.Common.{◌≡◌, ℕ, suc, ◌-◌, ◌<◌, ◌≤◌, List, [], ◌∷◌, ◌++◌, Bool, cond, ltb, length, set, replicate, sym, ap, ◌∙◌, arith, length-append, drop_at, lt-ltb}
use Rattle.state.specs.declared.bounds.Bounds.{Bounds}
use Rattle.state.specs.declared.open.Arms.{Arms}
use Rattle.state.specs.Bounds.{no_bounds}
use Rattle.state.specs.Open.{kept_arms_limit, blanked, filled}
use Rattle.state.specs.Arms.{arm_count_in, arm_kept, arms_dropped}
use Rattle.state.proofs.Innermost.{blanked-behind, joined-blanks, filled-short, top-set, top-blank}

-- so many arms, and blank ones after them
abbrev pub all_arms : List Bounds → Arms
all_arms arms = record { count = length arms; bounds = filled no_bounds kept_arms_limit arms }

module _ (arms : List Bounds) where
  pub arm-count : length arms ≤ kept_arms_limit → arm_count_in (all_arms arms) ≡ length arms
  unfolding arm_count_in
  arm-count few = omega arith

  -- no arm is kept any more
  pub arms-dropped : length arms ≤ kept_arms_limit → arms_dropped (all_arms arms) ≡ all_arms []
  unfolding arms_dropped
  arms-dropped few =
      let n : ℕ = length arms in
      let m : ℕ = kept_arms_limit - n in
      let none : ℕ → List Bounds = λ k. replicate k no_bounds in
      let blank : blanked no_bounds (filled no_bounds kept_arms_limit arms) 0 (arm_count_in (all_arms arms)) ≡ filled no_bounds kept_arms_limit [] =
      ap (λ (k : ℕ). blanked no_bounds (filled no_bounds kept_arms_limit arms) 0 k) (arm-count few)
      ∙ ap (λ xs. blanked no_bounds xs 0 n) (filled-short no_bounds kept_arms_limit m arms (omega arith))
      ∙ blanked-behind no_bounds [] (arms ++ none m) 0 n (omega arith)
      ∙ ap (λ xs. none n ++ xs) (drop_at arms (none m) n (omega arith))
      ∙ joined-blanks no_bounds n m kept_arms_limit (omega arith)
      ∙ sym (filled-short no_bounds kept_arms_limit kept_arms_limit [] (omega arith)) in
      λ i. record { count = 0; bounds = blank i }

  -- one more arm is kept
  pub arm-kept : (arm : Bounds) → length arms < kept_arms_limit → arm_kept (all_arms arms) arm ≡ all_arms (arms ++ (arm ∷ []))
  unfolding arm_kept
  arm-kept arm h =
      let longer : suc (length arms) ≡ length (arms ++ (arm ∷ [])) = omega (arith, length-append arms (arm ∷ [])) in
      let more : set (filled no_bounds kept_arms_limit arms) (length arms) arm ≡ filled no_bounds kept_arms_limit (arms ++ (arm ∷ [])) =
      ap (λ xs. set xs (length arms) arm) (sym (top-blank no_bounds kept_arms_limit arms (length arms) (omega arith) h))
      ∙ top-set no_bounds kept_arms_limit arms (length arms) (omega arith) h no_bounds arm in
      let count = arm-count (omega arith) in
      let room = lt-ltb (length arms) kept_arms_limit h in
      ap (λ (k : ℕ). cond (ltb k kept_arms_limit) (record { count = suc k; bounds = set (filled no_bounds kept_arms_limit arms) k arm }) (all_arms arms)) count
      ∙ ap (λ (b : Bool). cond b (record { count = suc (length arms); bounds = set (filled no_bounds kept_arms_limit arms) (length arms) arm }) (all_arms arms)) room
      ∙ (λ i. record { count = longer i; bounds = more i })

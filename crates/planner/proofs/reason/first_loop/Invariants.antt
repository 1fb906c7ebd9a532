-- The invariants: the tests of the records from K on settle what is found, and those of K against the loops from M on settle what is found of K.
use Prim.Native.Nat.{◌-◌}
use Rattle.meaning.specs.Reason.{first_failing}
use Rattle.planner.specs.Reasons.{loop_tests_at, loop_tests_inside, tests_from, uneven_test_at}
use Rattle.planner.proofs.Searching.{Searching}
use Rattle.planner.proofs.reason.first_loop.Given as goal

abbrev pub invariant-loop-m : goal.invariant-loop-m
invariant-loop-m l =
    Searching (uneven_test_at l.rows l.arrays.differences l.k) (first_failing (tests_from (uneven_test_at l.rows l.arrays.differences l.k) l.depth (l.last - l.depth)))
    l.last l.m

abbrev pub invariant-loop-k : goal.invariant-loop-k
invariant-loop-k l =
    Searching (loop_tests_at l.rows l.arrays.differences l.arrays.facts l.depth) (first_failing (loop_tests_inside l.rows l.arrays.differences l.arrays.facts l.number))
    l.k-end l.k

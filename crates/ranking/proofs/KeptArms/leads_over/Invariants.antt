-- The loop keeps: what is still to be compared, from the comparison so far, gives that of all arms.
use Rattle.std.proofs.Common.{◌≡◌, suc, ◌-◌}
use Rattle.ranking.specs.Settled.{first_leads, leads_from}
use Rattle.ranking.proofs.KeptArms.leads_over.Given as goal

abbrev pub invariant-loop-arm : goal.invariant-loop-arm
invariant-loop-arm l =
    leads_from l.self.arms.now l.self.trips l.self.per_trip (l.end - l.arm) l.arm l.leads
    ≡ leads_from l.self.arms.now l.self.trips l.self.per_trip (l.end - suc l.first) (suc l.first) (first_leads l.self.arms.now l.self.trips l.self.per_trip l.first)

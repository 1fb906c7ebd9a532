-- The loop keeps: what is still to be compared, from the comparison so far, gives that of all arms.
use Rattle.std.proofs.Common.{◌∙◌, arith}
use Rattle.ranking.proofs.LeadSteps.{leads-done, leads-step}
use Rattle.ranking.proofs.KeptArms.leads_over.Goals as goal

pub loop-arm-preserved : goal.loop-arm-preserved
loop-arm-preserved c = let k = c.args.self in
    leads-step k.arms.now k.trips k.per_trip c.loop-arm.arm c.args.end c.loop-arm.leads _ (omega arith) c.next_leads-leads.ensures ∙ c.loop-arm.invariant

pub returns : goal.returns
returns c = let k = c.args.self in
    leads-done k.arms.now k.trips k.per_trip c.loop-arm.arm c.args.end c.loop-arm.leads (omega arith) ∙ c.loop-arm.invariant

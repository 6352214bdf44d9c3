-- What the plan of an object in memory stands for.
-- For proofs alone.
use Rattle.sst_device.specs.Plans.{Plan}
use Rattle.sst_device.specs.declared.memory.plan.FailPlan.{FailPlan}

-- the plan that the code keeps
-- Pinned by: new.plan
abbrev pub plan_of : FailPlan → Plan
plan_of plan = record { fail_at = plan.fail_at.items; calls = plan.calls }

-- How the fault of a step ends an operation.
use Rattle.vec_steps.specs.declared.fault.StepFault.{StepFault}
use Rattle.vec_steps.specs.declared.fault.StepFault.TheVariants as step
use Rattle.vec_steps.specs.declared.fault.OpFault.{OpFault}
use Rattle.vec_steps.specs.declared.fault.OpFault.TheVariants as op

-- the fault of an operation in which a step met this one
abbrev pub op_fault : StepFault → OpFault
op_fault step.Memory = op.Memory
op_fault (step.LogFull used size) = op.LogFull used size
op_fault (step.Disk count) = op.Disk count

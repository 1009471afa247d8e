-- What contracts see of the calls of a program that is being read.
use Rattle.std.specs.Prelude.{◌≡◌, ℕ, Option, Some, None, Result, Ok, Err}
use Rattle.ls_types_checked.specs.declared.fault.ProgramFault.{ProgramFault}
use Rattle.ls_types_checked.specs.declared.fault.ProgramFault.TheVariants as faults
use Rattle.ls_types_checked.specs.declared.calls.Callee.{Callee}
use Rattle.ls_types_checked.specs.declared.calls.Callee.TheVariants as callees
use Rattle.ls_types_checked.specs.declared.calls.Pending.{Pending}
use Rattle.ls_types_programs.specs.ProgramCalls as calls
use Rattle.ls_types_checked.specs.ProgramRefusals.{Says}
use Rattle.ls_types_programs.specs.Stops.{Fault, Bad, Unknown, References, Past}

abbrev pub callee_of : Callee → calls.Callee
callee_of (callees.Maker name class class_name) = calls.Maker name.now class class_name.now
callee_of (callees.Method name method method_name answers) = calls.Method name method method_name.now answers

abbrev pub pending_of : Pending → calls.Pending
pending_of p = record { callee = callee_of p.callee; types = p.types.items; values = p.values.items }

-- if the refusal is not "out of memory", the definition refuses too
abbrev pub Refuses : {X : Type 0} → ProgramFault → Option X → Type 0
Refuses e said = Says e (said ≡ None)

-- seen by `view`, the answer is what the definition says, or memory ran out
abbrev pub ReadsAs : {X Y : Type 0} → (X → Y) → Result X ProgramFault → Option Y → Type 0
ReadsAs view (Ok x) said = said ≡ Some (view x)
ReadsAs view (Err e) said = Refuses e said

abbrev pub fault_seen : Fault → ProgramFault
fault_seen (Bad at) = faults.BadProgram at
fault_seen (Unknown at) = faults.UnknownThing at
fault_seen (References at) = faults.ReferenceResult at
fault_seen Past = faults.ProgramLimit

-- the fault is this one, or memory ran out
abbrev pub IsFault : ProgramFault → Fault → Type 0
IsFault e f = Says e (e ≡ fault_seen f)

-- a call at its place, or this fault
abbrev pub Called : ℕ → Fault → Result Pending ProgramFault → Type 0
Called at f (Ok p) = p.at ≡ at
Called at f (Err e) = IsFault e f

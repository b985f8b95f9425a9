-- The cause of each fault of a node: an own event of the call, or the disk's count.
use Rattle.std.specs.Prelude.{ℕ, List}
use Rattle.delos_types.specs.declared.cause.Cause.{Cause}
use Rattle.delos_types.specs.declared.cause.Cause.TheVariants as cause
use Rattle.disk_model.specs.Disk.{Rose}
use Rattle.legal_journal.specs.declared.events.Event.{Event}
use Rattle.virtual_log.specs.declared.fault.Fault.TheVariants as log_fault
use Rattle.virtual_log.specs.declared.fault.Fault as virtual_log
use Rattle.virtual_log.specs.Causes.{HasCause}
use Rattle.base_engine.specs.declared.fault.Fault.{Fault}
use Rattle.base_engine.specs.declared.fault.Fault.TheVariants.{Because, Memory}

-- the fault of a log, as a node tells it
abbrev pub told : virtual_log.Fault → Fault
told (log_fault.NoQuorum id unreached) = Because (cause.NoQuorum id unreached)
told (log_fault.Full id) = Because (cause.Full id)
told log_fault.Meta = Because cause.Meta
told log_fault.Memory = Memory

-- an own event since old answered so
abbrev pub HasEventOf : ℕ → List Event → Cause → List Event → Type 0
HasEventOf who old (cause.NoQuorum id unreached) new = HasCause who old (log_fault.NoQuorum id unreached) new
HasEventOf who old (cause.Full id) new = HasCause who old (log_fault.Full id) new
HasEventOf who old cause.Meta new = HasCause who old log_fault.Meta new
HasEventOf who old cause.Store new = ⊥

-- The fault is want of memory, an own event since old answered so, or the disk's faults rose.
abbrev pub Blames : ℕ → List Event → ℕ → Fault → List Event → ℕ → Type 0
Blames who old faults Memory new faults' = Unit {0}
Blames who old faults (Because cause.Store) new faults' = Rose faults faults'
Blames who old faults (Because (cause.NoQuorum id unreached)) new faults' = HasEventOf who old (cause.NoQuorum id unreached) new
Blames who old faults (Because (cause.Full id)) new faults' = HasEventOf who old (cause.Full id) new
Blames who old faults (Because cause.Meta) new faults' = HasEventOf who old cause.Meta new

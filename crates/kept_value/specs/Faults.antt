-- Why a disk wasn't opened, by why its journal wasn't.
use Rattle.journal_core.specs.declared.fault.Fault.{Fault}
use Rattle.journal_core.specs.declared.fault.Fault.TheVariants as why
use Rattle.kept_value.specs.declared.fault.OpenFault.{OpenFault}
use Rattle.kept_value.specs.declared.fault.OpenFault.TheVariants.{Disk, Memory}

abbrev pub open_fault_of : Fault → OpenFault
open_fault_of why.Disk = Disk
open_fault_of why.Memory = Memory

-- The numbers of faults.
use Rattle.std.specs.Prelude.{ℕ}
use Rattle.cast_field.specs.declared.fault.FrameFault.{FrameFault}
use Rattle.cast_field.specs.declared.fault.FrameFault.TheVariants.{Short, Magic, Version}
use Rattle.cast_field.specs.declared.fault.FrameFault.TheVariants.{WrongType, Length}
use Rattle.cast_field.specs.declared.fault.FrameFault.TheVariants.{NotSorted, Range, NoMemory}

abbrev pub fault_code : FrameFault → ℕ
fault_code Short = 1
fault_code Magic = 2
fault_code Version = 3
fault_code WrongType = 4
fault_code Length = 5
fault_code NotSorted = 6
fault_code Range = 7
fault_code NoMemory = 8

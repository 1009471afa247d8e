-- The faults that are found before any copy of a finally block is made, as faults of the steps that would find them.
use Rattle.ls_linker.specs.declared.count_fault.CountFault.{CountFault}
use Rattle.ls_linker.specs.declared.count_fault.CountFault.TheVariants as counts
use Rattle.ls_lowered.specs.declared.fault.LowerFault.TheVariants.{Memory, TooManyCopies}
use Rattle.ls_emit.specs.declared.fault.EmitFault.TheVariants.{CodeTooLong}
use Rattle.ls_linker.specs.declared.fault.LinkFault.TheVariants as link
use Rattle.ls_linker.specs.declared.fault.BuildFault.{BuildFault}
use Rattle.ls_linker.specs.declared.fault.BuildFault.TheVariants.{Lower, Emit, Link}

abbrev pub of_counts : CountFault → BuildFault
of_counts counts.Memory = Lower Memory
of_counts counts.TooManyCopies = Lower TooManyCopies
of_counts counts.TooLong = Emit CodeTooLong
of_counts counts.TooLongTogether = Link link.CodeTooLong

-- When the lowering refuses a file.
use Rattle.ls_lowered.specs.Limits.{most_locals}
use Rattle.std.specs.Prelude.{◌≤◌, ◌<◌, List, length, All}
use Rattle.ls_checked.specs.CheckedTree.{Method, File}
use Rattle.ls_lowered.specs.declared.fault.LowerFault.{LowerFault}
use Rattle.ls_lowered.specs.declared.fault.LowerFault.TheVariants.{Memory, TooManyLocals, TooManyCopies}
use Rattle.ls_refs.specs.Temporaries.{locals_of}

-- no method has more than 128 locals, with those that are taken beside its own
abbrev pub AllFit : List Method → Type 0
AllFit methods = All (λ m. locals_of m ≤ most_locals) methods

-- each method has slots for `this` and its parameters
abbrev pub AllSlotted : List Method → Type 0
AllSlotted methods = All (λ m. m.parameters < length m.slots) methods

abbrev pub Refused : File → LowerFault → Type 0
Refused f Memory = AllFit f.methods
Refused f TooManyLocals = ¬ AllFit f.methods
Refused f TooManyCopies = ⊥

-- What a refusal says of a text.
use Rattle.std.specs.Prelude.{Option, Some, None}
use Rattle.ls_answers.specs.Answers as answers
use Rattle.ls_types_elaboration.specs.declared.rule.Broken.{Broken}
use Rattle.ls_types_elaboration.specs.declared.rule.CheckFault.{CheckFault}
use Rattle.ls_types_elaboration.specs.declared.rule.CheckFault.TheVariants as faults
use Rattle.ls_types_elaboration.specs.Elaborated.{Elaborated}

-- the rule that is broken; "out of memory" says nothing
abbrev pub meant : CheckFault → Option Broken
meant faults.Memory = None
meant (faults.Broken b) = Some b

-- the definition answers the broken rule
abbrev pub Fails : {Y : Type 0} → CheckFault → Elaborated Y → Type 0
Fails f said = answers.Refuses (meant f) said

-- Faults of the layers, here.
use Rattle.ls_families.specs.declared.fault.FamilyFault.{FamilyFault}
use Rattle.ls_families.specs.declared.fault.FamilyFault.TheVariants as family
use Rattle.ls_lexer.specs.declared.fault.TextFault.{TextFault}
use Rattle.ls_lexer.specs.declared.fault.TextFault.TheVariants as text
use Rattle.ls_class_programs.specs.declared.menu_fault.MenuFault.{MenuFault}
use Rattle.ls_class_programs.specs.declared.menu_fault.MenuFault.TheVariants as menu
use Rattle.ls_class_programs.specs.declared.fault.ClassFault.{ClassFault}
use Rattle.ls_class_programs.specs.declared.fault.ClassFault.TheVariants as faults

abbrev pub fault_of_text : TextFault → ClassFault
fault_of_text text.Memory = faults.Memory
fault_of_text f = faults.Text f

abbrev pub fault_of_menu : MenuFault → ClassFault
fault_of_menu menu.Memory = faults.Memory
fault_of_menu menu.TooMany = faults.TooManyCalls

abbrev pub fault_of_family : FamilyFault → ClassFault
fault_of_family family.Memory = faults.Memory
fault_of_family family.NoCalls = faults.NoCalls
fault_of_family family.BadBounds = faults.BadBounds
fault_of_family family.TooMany = faults.TooManyPrograms

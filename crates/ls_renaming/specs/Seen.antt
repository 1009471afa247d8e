-- The names that the code keeps, in the terms of the definitions.
use Rattle.std.specs.Prelude.{ℕ}
use Rattle.ls_renaming.specs.declared.names.Names.{Names}
use Rattle.ls_renaming.specs.Names.{naming}

abbrev pub names_of : Names → ℕ → ℕ
names_of names n = naming names.numbers.items names.others n

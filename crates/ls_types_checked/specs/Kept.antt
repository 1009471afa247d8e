-- What a checked file keeps.
use Rattle.std.specs.Prelude.{◌≡◌, Ok}
use Rattle.ls_types_elaboration.specs.Trees.{File}
use Rattle.ls_types_elaboration.specs.Elaboration.{ElaboratedFile, elaborated}

-- the file is the elaboration of a tree, so it keeps each rule of typing
pub record IsElaborated (o : ElaboratedFile) : Type 0 where
  pub tree : File
  pub is : elaborated tree ≡ Ok o

-- What a contract sees of a parsed file.
use Rattle.ls_tree.specs.declared.tree.ClassFile.{ClassFile}
use Rattle.ls_tree.specs.Trees.{File}
use Rattle.ls_tree.specs.Views.{file_of}

abbrev pub bare_file : ClassFile → File
bare_file f = file_of f.«package» f.imports.items f.classes.items

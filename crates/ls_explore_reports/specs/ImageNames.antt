-- The names of an image's classes and program.
use Rattle.ls_types_checked.specs.CheckedFile.{elaborated_file}
use Rattle.ls_image.specs.Images.{checked_of}
use Rattle.ls_image.specs.declared.image.Image.{Image}
use Rattle.ls_labels.specs.Names.{Names}
use Rattle.ls_translation.specs.Texts.{file_of, program_of}

-- the names of an image's classes and of what they declare, its file and its program
abbrev pub names_in : Image → Names
names_in i = record {
  classes = (elaborated_file (checked_of i)).names;
  signs = (elaborated_file (checked_of i)).signs;
  file = file_of i;
  program = program_of i;
}

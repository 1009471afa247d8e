-- The file and the program of an image, as plain data.
use Rattle.ls_checked.specs.CheckedTree.{File}
use Rattle.ls_checked.specs.CheckedProgram.{Program}
use Rattle.ls_checked.specs.PlainProgram.{plain_program}
use Rattle.ls_types_checked.specs.CheckedFile.{elaborated_file}
use Rattle.ls_image.specs.Images.{checked_of, program_of_image}
use Rattle.ls_image.specs.declared.image.Image.{Image}

abbrev pub file_of : Image → File
file_of image = (elaborated_file (checked_of image)).file

abbrev pub program_of : Image → Program
program_of image = plain_program (program_of_image image)

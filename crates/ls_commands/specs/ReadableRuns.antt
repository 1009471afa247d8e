-- What is printed of an image's runs.
use Rattle.std.specs.Prelude.{ℕ, List}
use Rattle.ls_code.specs.Machine.{machine_history}
use Rattle.ls_preservation.specs.Same.{IsCells}
use Rattle.ls_image.specs.Images.{code_of_image}
use Rattle.ls_image.specs.declared.image.Image.{Image}
use Rattle.ls_text_laws.specs.Histories.{IsReadable}
use Rattle.ls_commands.specs.Compiled.{plain_program_of}

-- on each number of cells and under each schedule, it is the text of a history
abbrev pub RunsAreReadable : Image → Type 0
RunsAreReadable i =
    (cells : ℕ) → IsCells (code_of_image i) cells → (schedule : List ℕ)
    → IsReadable (plain_program_of i) (machine_history (code_of_image i) cells schedule)

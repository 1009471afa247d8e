-- The merge of the tallies of two ranges of seeds, one after the other, is the tally of all the seeds.
use Rattle.std.specs.Prelude.{◌≡◌, ◌+◌, ◌<◌, ◌^◌, ℕ, List, ◌++◌, length, map}
use Rattle.ls_checked.specs.CheckedProgram.{Program}
use Rattle.ls_checked.specs.PlainProgram.{plain_program}
use Rattle.ls_code.specs.Machine.{machine_history}
use Rattle.ls_preservation.specs.Same.{IsCells}
use Rattle.ls_image.specs.declared.image.Image.{Image}
use Rattle.ls_image.specs.Images.{Compiles, code_of_image, program_of_image}
use Rattle.ls_report.specs.Events.{Text}
use Rattle.ls_report.specs.Printing.{run_text}
use Rattle.ls_batch.specs.Printing.{tally_text}
use Rattle.ls_batch.specs.Samples.{histories_of}
use Rattle.ls_batch.specs.declared.samples.Sampler.{Sampler}
use Rattle.ls_batch.specs.Tallies as counted
use Rattle.ls_batch.specs.Tallies.{History, IsTally}
use Rattle.ls_tallies.specs.Printing.{rows_text}
use Rattle.ls_tallies.specs.Tallies.{IsMerge, Row}
use Rattle.ls_batch.specs.Merging.{text_row}

abbrev pub program_in : Image → Program
program_in image = plain_program (program_of_image image)

-- the history of a schedule's run on so many cells
abbrev pub history_in : Image → ℕ → List ℕ → History
history_in image cells schedule = machine_history (code_of_image image) cells schedule

abbrev pub text_in : Image → History → Text
text_in image history = run_text (program_in image) history

-- Two runs of what two texts are compiled to whose histories have the same text, of fewer than 2^64 bytes, have the
-- same history.
abbrev pub TextsTellApart : Type 0
TextsTellApart =
    (classes text : Text) (image : Image) → Compiles classes text image
    → (cells : ℕ) → IsCells (code_of_image image) cells
    → (one other : List ℕ)
    → length (text_in image (history_in image cells one)) < 2 ^ 64
    → text_in image (history_in image cells one) ≡ text_in image (history_in image cells other)
    → history_in image cells one ≡ history_in image cells other

-- Tallies of the n seeds from `first` on, of the m seeds after these, and of all of them, of one code, number of cells
-- and drawing. The text of the tally of all has fewer than 2^64 bytes, as each string has.
pub record AreTallies (image : Image) (cells first n m : ℕ) (d : Sampler) (left right all : List counted.Row)
    : Type 0 where
  pub cells_fit : IsCells (code_of_image image) cells
  pub left_is : IsTally (histories_of (code_of_image image) cells first n d) first left
  pub right_is : IsTally (histories_of (code_of_image image) cells (first + n) m d) (first + n) right
  pub all_is : IsTally (histories_of (code_of_image image) cells first (n + m) d) first all
  pub text_fits : length (tally_text (program_in image) all) < 2 ^ 64

-- the tally of all is the merge of the two
abbrev pub BatchesMerge : Type 0
BatchesMerge =
    (classes text : Text) (image : Image) → Compiles classes text image
    → (cells first n m : ℕ) (d : Sampler) (left right all : List counted.Row)
    → AreTallies image cells first n m d left right all
    → IsMerge (map (text_row (program_in image)) (left ++ right)) (map (text_row (program_in image)) all)

-- so what is printed of the merge is what is printed of the tally of all
abbrev pub MergesPrintTheTally : Type 0
MergesPrintTheTally =
    (classes text : Text) (image : Image) → Compiles classes text image
    → (cells first n m : ℕ) (d : Sampler) (left right all : List counted.Row)
    → AreTallies image cells first n m d left right all
    → (merge : List Row)
    → IsMerge (map (text_row (program_in image)) (left ++ right)) merge
    → rows_text merge ≡ tally_text (program_in image) all

-- What is found of the programs of a class.
use Rattle.std.specs.Prelude.{◌≡◌, ◌++◌, ℕ, Bool, true, List, [], Option, Some, None, Err, Ok, codes, string_bytes}
use Rattle.ls_checked.specs.CheckedTree.{File}
use Rattle.ls_checked.specs.CheckedProgram.{Program}
use Rattle.ls_compiler.specs.Answers.{CompilesTo}
use Rattle.ls_explore_reports.specs.ImageNames.{names_in}
use Rattle.ls_explore_reports.specs.Waiting.{waiting}
use Rattle.ls_hopeless.specs.Hopeless.{IsHopelessLine}
use Rattle.ls_image.specs.Images.{Compiles, program_of_image}
use Rattle.ls_image.specs.declared.image.Image.{Image}
use Rattle.ls_labels.specs.Names.{Names}
use Rattle.ls_state.specs.Scene.{scene_of}
use Rattle.ls_translation.specs.Texts.{file_of, program_of}
use Rattle.ls_meaning.specs.Runs.{source_history}
use Rattle.ls_specification.specs.Specification.{Given, given_file, given_program}
use Rattle.ls_fewest_switches.specs.Wording.{switches_text}
use Rattle.ls_find.specs.Fewest.{IsFewest}
use Rattle.ls_find.specs.Sought.{IsGoodFor, IsUnknown}
use Rattle.ls_find.specs.Verdicts.{IsAsked, IsBad}
use Rattle.ls_find.specs.declared.sought.Sought.{Sought}
use Rattle.ls_schedule.specs.Printing.{schedule_text}
use Rattle.ls_schedule.specs.Reading.{schedule_of, thread_names}
use Rattle.ls_explore.specs.Rows.{ActAll}
use Rattle.ls_find.specs.declared.explorer.Why.{Why}
use Rattle.ls_find.specs.declared.explorer.Why.TheVariants as whys
use Rattle.ls_find.specs.declared.verdict.Reason.{Reason}
use Rattle.ls_find.specs.declared.verdict.Reason.TheVariants as reasons

abbrev pub Text : Type 0
Text = List ℕ

-- what a class text that is given specifies of this program: with it, it compiles to this; else nothing
abbrev pub IsGivenBy : Option Text → Text → Given → Type 0
IsGivenBy None program given = given ≡ None
IsGivenBy (Some specification) program given =
    (s : Image) × Compiles specification program s × (given ≡ Some (file_of s, program_of s))

-- With this program the class text compiles, and it is good for what is looked for, by the class text that specifies
-- it, if one is given.
pub record IsSound (sought : Sought) (specification : Option Text) (classes program : Text) : Type 0 where
  pub image : Image
  pub compiles : Compiles classes program image
  pub given : Given
  pub is_given : IsGivenBy specification program given
  pub good : IsGoodFor sought given (file_of image) (program_of image)

-- with this program it compiles, and nothing is said of it, for a reason
pub record IsCut (sought : Sought) (states : ℕ) (specification : Option Text) (classes program : Text) : Type 0 where
  pub image : Image
  pub compiles : Compiles classes program image
  pub given : Given
  pub is_given : IsGivenBy specification program given
  pub unknown : IsUnknown sought states given (file_of image) (program_of image)

-- why a schedule is shown; of threads that wait it is said for what they do
abbrev pub reason_text : Reason → Names → List Text → List ℕ → Text
reason_text reasons.NotLinearizable names threads schedule = codes "not linearizable"
reason_text reasons.Waits names threads schedule =
    codes "threads wait for ever: " ++ waiting names (scene_of names schedule) 0 threads
reason_text reasons.Illegal names threads schedule = codes "no order of the set calls is legal"
reason_text reasons.Turns names threads schedule = codes "threads turn for ever"

-- the same, and then how many context switches the schedule has, if none with which it is compared has fewer
abbrev pub why_text : Reason → Bool → Names → List Text → List ℕ → Text
why_text reason fewest names threads schedule =
    reason_text reason names threads schedule ++ switches_text fewest schedule

-- The line on the event that no order of whole calls explains, where a schedule is shown for its history. There is none
-- for another reason.
abbrev pub IsNote : Reason → Given → File → Program → List ℕ → Text → Type 0
IsNote reasons.NotLinearizable given file program schedule note =
    IsHopelessLine (given_file given file) (given_program given program) program (source_history file program schedule)
    note
IsNote reasons.Waits given file program schedule note = note ≡ []
IsNote reasons.Illegal given file program schedule note = note ≡ []
IsNote reasons.Turns given file program schedule note = note ≡ []

-- With this program it compiles, and a schedule is bad for a reason that is looked for. Each of its steps acts. These
-- are the texts of the reason, of the line on an event, and of the schedule, which is read as it is printed. If its
-- context switches are told, no schedule with which it is compared has fewer.
pub record IsBadProgram (sought : Sought) (specification : Option Text) (classes program because note text : Text) :
    Type 0
  where
    pub image : Image
    pub compiles : Compiles classes program image
    pub given : Given
    pub is_given : IsGivenBy specification program given
    pub reason : Reason
    pub schedule : List ℕ
    pub asked : IsAsked sought reason
    pub bad : IsBad reason given (file_of image) (program_of image) schedule
    pub acts : ActAll (file_of image) (program_of image) schedule
    pub is_fewest : Bool
    pub fewest : is_fewest ≡ true → IsFewest reason given (file_of image) (program_of image) schedule
    pub why : because ≡ why_text reason is_fewest (names_in image) (thread_names (program_of_image image)) schedule
    pub noted : IsNote reason given (file_of image) (program_of image) schedule note
    pub said : text ≡ schedule_text (thread_names (program_of_image image)) schedule
    pub reads : schedule_of (thread_names (program_of_image image)) text ≡ Ok schedule

-- so it is; or it doesn't compile, or what specifies it doesn't
abbrev pub IsWhy : Sought → Option Text → Text → Text → Why → Type 0
IsWhy sought specification classes program (whys.Bad why note text) =
    IsBadProgram sought specification classes program (string_bytes why) (string_bytes note) (string_bytes text)
IsWhy sought specification classes program (whys.NotCompiled f) = CompilesTo classes program (Err f)
IsWhy sought None classes program (whys.NotSpecified f) = ⊥
IsWhy sought (Some specification) classes program (whys.NotSpecified f) = CompilesTo specification program (Err f)

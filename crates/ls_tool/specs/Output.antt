-- What the program writes, for its words and its input.
use Rattle.std.specs.Prelude.{◌≡◌, ◌≢◌, ◌+◌, ◌*◌, ◌&&◌, ℕ, List, [], ◌∷◌, ◌++◌, length, codes, Bool, MatchBool}
use Rattle.std.specs.Prelude.{true, false, not, Option, Some, None, Result, Ok, Err, String, string_bytes}
use Rattle.std.specs.Prelude.{map, if◌then◌else◌}
use Rattle.std.specs.Global.{Global}
use Rattle.std.specs.Fmt.{decimal}
use Rattle.std.specs.List.{flat_map}
use Rattle.std.specs.Option.{option_map}
use denote.Ref.{Bor}
use Rattle.std.specs.Io.KnownBytes.{Appends, Keeps}
use Rattle.ls_report.specs.Events.{Text}
use Rattle.ls_commands.specs.Aimed.{AimsTo}
use Rattle.ls_commands.specs.Check.{ChecksTo}
use Rattle.ls_commands.specs.Ordered.{OrdersTo}
use Rattle.ls_commands.specs.SerialOrdered.{OrdersSerially}
use Rattle.ls_commands.specs.Compiled.{CountsTo, ReplaysTo}
use Rattle.ls_commands.specs.Judged.{JudgesTo}
use Rattle.ls_commands.specs.Likeness.{JudgesLike, OrdersLike}
use Rattle.ls_commands.specs.Lived.{LivesTo, ReplaysLiveTo}
use Rattle.ls_commands.specs.Sampled.{SamplesTo}
use Rattle.ls_commands.specs.Tallied.{drawing, sampling, TalliesTo}
use Rattle.ls_commands.specs.Translated.{TranslatesTo}
use Rattle.ls_commands.specs.Merging.{MergesTo}
use Rattle.ls_commands.specs.declared.batching.Sampling.{Sampling}
use Rattle.ls_explore_commands.specs.Explored.{ExploresTo}
use Rattle.ls_explore_commands.specs.Likeness.{ExploresLike, VerdictsLike}
use Rattle.ls_explore_reports.specs.declared.printing.Exploring.{Exploring}
use Rattle.ls_explore_commands.specs.Verdicts.{VerdictsTo}
use Rattle.ls_explore_commands.specs.Races.{RacesTo}
use Rattle.ls_explore_commands.specs.Endings.{EndsTo}
use Rattle.ls_commands.specs.Viewed.{ViewsTo}
use Rattle.ls_commands.specs.declared.showing.View.{View}
use Rattle.ls_commands.specs.declared.showing.View.TheVariants as views
use Rattle.ls_explanations.specs.Explanations.{note}
use Rattle.ls_explanations.specs.Named.{named_note}
use Rattle.ls_faults.specs.Faults.{fault_line}
use Rattle.ls_files.specs.Files.{unmarked}
use Rattle.ls_files.specs.Names.{asking, file_names_in}
use Rattle.ls_outlets.specs.Written.{Begins, IsWritten}
use Rattle.ls_items.specs.Parts.{is_text, parts_of}
use Rattle.ls_command_line.specs.Words.{AsksFor}
use Rattle.ls_command_line.specs.declared.words.CommandLine.{CommandLine}
use Rattle.ls_command_line.specs.declared.words.Request.{Request}
use Rattle.ls_command_line.specs.declared.words.Request.TheVariants as requests
use Rattle.ls_command_line.specs.declared.words.Seeking.{Seeking}
use Rattle.ls_command_line.specs.declared.words.WordsFault.{WordsFault}
use Rattle.ls_command_line.specs.declared.words.WordsFault.TheVariants as word_faults
use Rattle.ls_faults.specs.declared.fault.ToolFault.{ToolFault}
use Rattle.ls_faults.specs.declared.fault.ToolFault.TheVariants as faults
use Rattle.ls_tool.specs.Asked.{OnClass, OnClassLike}
use Rattle.ls_tool.specs.Notes.{is_noted, NotesOn}
use Rattle.ls_tool.specs.Restated.{IsRestated, WantsOne}
use Rattle.ls_tool.specs.Pages.{PagesByReference, PagesOn}
use Rattle.ls_tool.specs.Wanted.{wanted_of}
use Rattle.ls_find_reports.specs.Statuses.{status_of}
use Rattle.ls_tool.specs.declared.running.Exit.{Exit}
use Rattle.ls_tool.specs.declared.said.Said.{Said}
use Rattle.ls_tool.specs.declared.said.Telling.{Telling}
use Rattle.ls_tool.specs.declared.said.Telling.TheVariants as tellings
use Rattle.ls_tool.specs.declared.refusal.Refusal.{Refusal}
use Rattle.ls_tool.specs.declared.refusal.Refusal.TheVariants as refusals

-- what may be answered on two texts, and on no other number of them
abbrev pub OnTwo : (Text → Text → Result Text ToolFault → Type 0) → List Text → Result Text ToolFault → Type 0
OnTwo May (first ∷ second ∷ []) answer = May first second answer
OnTwo May other answer = answer ≡ Err faults.WrongParts

-- and on three
abbrev pub OnThree : (Text → Text → Text → Result Text ToolFault → Type 0) → List Text → Result Text ToolFault → Type 0
OnThree May (classes ∷ program ∷ third ∷ []) answer = May classes program third answer
OnThree May other answer = answer ≡ Err faults.WrongParts

-- what is said of a history, or of a history of a program
abbrev pub OnOrder : List Text → Result Text ToolFault → Type 0
OnOrder (history ∷ []) answer = OrdersTo history answer
OnOrder (classes ∷ program ∷ history ∷ []) answer = OrdersSerially classes program history answer
OnOrder other answer = answer ≡ Err faults.WrongParts

-- what is found in a class text, with a menu that is written by hand or without
abbrev pub OnFind : Seeking → List Text → Result Text ToolFault → Type 0
OnFind seeking (classes ∷ []) answer = OnClass seeking None classes None answer
OnFind seeking (classes ∷ menu ∷ []) answer = OnClass seeking None classes (Some menu) answer
OnFind seeking other answer = answer ≡ Err faults.WrongParts

-- what is shown of a run
abbrev pub trace_view : Bool → ℕ → ℕ → View
trace_view fold from to = if fold then views.Folded from to else views.Trace from to

abbrev pub state_view : Bool → ℕ → View
state_view dot to = if dot then views.Drawing to else views.State to

abbrev pub states_view : Bool → ℕ → ℕ → View
states_view dot from to = if dot then views.Drawings from to else views.States from to

-- what a command that draws schedules by seeds may answer on the parts of an input
abbrev pub Samples : Request → List Text → Result Text ToolFault → Type 0
Samples (requests.Batch seed count steps switch cells false) parts answer = OnTwo
    (TalliesTo cells (sampling seed count (drawing steps switch))) parts answer
Samples (requests.Batch seed count steps switch cells true) parts answer = OnTwo
    (JudgesTo cells (sampling seed count (drawing steps switch))) parts answer
Samples (requests.Sample seed steps switch cells) parts answer = OnTwo (SamplesTo cells seed (drawing steps switch))
    parts answer
Samples other parts answer = answer ≡ Err faults.WrongParts

abbrev pub exploring : Option ℕ → ℕ → Bool → Bool → Bool → Exploring
exploring cells states illegal first order = record {
  cells = cells;
  states = states;
  illegal = illegal;
  first = first;
  order = order;
}

-- a wrong run alone, where no option is given that goes with the histories
abbrev pub Verdicts : Bool → ℕ → Text → Text → Result Text ToolFault → Type 0
Verdicts false states classes program answer = VerdictsTo states classes program answer
Verdicts true states classes program answer = answer ≡ Err faults.BadOptions

-- a run with a data race alone, where no option is given that goes with the histories or with a wrong run
abbrev pub Races : Bool → ℕ → Text → Text → Result Text ToolFault → Type 0
Races false states classes program answer = RacesTo states classes program answer
Races true states classes program answer = answer ≡ Err faults.BadOptions

-- whether calls end alone, where no option is given that goes with the histories, with a wrong run or with a data race
abbrev pub EndsOn : Bool → Bool → ℕ → Text → Text → Result Text ToolFault → Type 0
EndsOn false again states classes program answer = EndsTo again states classes program answer
EndsOn true again states classes program answer = answer ≡ Err faults.BadOptions

-- and one that goes through all schedules
abbrev pub Explores : Request → List Text → Result Text ToolFault → Type 0
Explores (requests.Explore cells states illegal first order progress) parts answer = OnTwo
    (ExploresTo (exploring cells states illegal first order)) parts answer
Explores (requests.Verdict states mixed) parts answer = OnTwo (Verdicts mixed states) parts answer
Explores (requests.Races states mixed) parts answer = OnTwo (Races mixed states) parts answer
Explores (requests.Ends states mixed again) parts answer = OnTwo (EndsOn mixed again states) parts answer
Explores other parts answer = answer ≡ Err faults.WrongParts

-- what a command may answer on the parts of an input: a text or a fault
abbrev pub Answers : Request → List Text → Result Text ToolFault → Type 0
Answers requests.Check parts answer = OnTwo ChecksTo parts answer
Answers requests.Order parts answer = OnOrder parts answer
Answers requests.Compile parts answer = OnTwo CountsTo parts answer
Answers (requests.Replay cells false) parts answer = OnThree (ReplaysTo cells) parts answer
Answers (requests.Replay cells true) parts answer = OnThree (ReplaysLiveTo cells) parts answer
Answers requests.Source parts answer = OnThree (ViewsTo views.History) parts answer
Answers (requests.Trace from to fold) parts answer = OnThree (ViewsTo (trace_view fold from to)) parts answer
Answers (requests.Page paging) parts answer = PagesOn paging parts answer
Answers (requests.State dot to) parts answer = OnThree (ViewsTo (state_view dot to)) parts answer
Answers (requests.States dot from to) parts answer = OnThree (ViewsTo (states_view dot from to)) parts answer
Answers requests.Aim parts answer = OnThree AimsTo parts answer
Answers (requests.Translate to cells) parts answer = OnThree (TranslatesTo to cells) parts answer
Answers (requests.Live cells limit) parts answer = OnTwo (LivesTo cells limit) parts answer
Answers (requests.Batch seed count steps switch cells judge) parts answer = Samples
    (requests.Batch seed count steps switch cells judge) parts answer
Answers (requests.Sample seed steps switch cells) parts answer = Samples (requests.Sample seed steps switch cells) parts
    answer
Answers (requests.Explore cells states illegal first order progress) parts answer = Explores
    (requests.Explore cells states illegal first order progress) parts answer
Answers (requests.Verdict states mixed) parts answer = Explores (requests.Verdict states mixed) parts answer
Answers (requests.Races states mixed) parts answer = Explores (requests.Races states mixed) parts answer
Answers (requests.Ends states mixed again) parts answer =
    Explores (requests.Ends states mixed again) parts answer
Answers (requests.Find seeking) parts answer = OnFind seeking parts answer
Answers (requests.Merge count) parts answer = answer ≡ Err faults.WrongParts
Answers requests.Java parts answer = answer ≡ Err faults.WrongParts

-- ---- by a reference, which is the last part

abbrev pub OnFour : (Text → Text → Text → Text → Result Text ToolFault → Type 0) → List Text → Result Text ToolFault →
    Type 0
OnFour May (classes ∷ program ∷ third ∷ last ∷ []) answer = May classes program third last answer
OnFour May other answer = answer ≡ Err faults.WrongParts

abbrev pub FindsByReference : Seeking → List Text → Result Text ToolFault → Type 0
FindsByReference s (classes ∷ reference ∷ []) answer = OnClassLike s (Some reference) classes None answer
FindsByReference s (classes ∷ menu ∷ reference ∷ []) answer = OnClassLike s (Some reference) classes (Some menu) answer
FindsByReference s other answer = answer ≡ Err faults.WrongParts

-- a batch goes with a reference where its histories are judged
abbrev pub BatchesLike : Bool → ℕ → Sampling → Text → Text → Text → Result Text ToolFault → Type 0
BatchesLike false cells s classes program reference answer = answer ≡ Err faults.BadOptions
BatchesLike true cells s classes program reference answer = JudgesLike cells s reference classes program answer

abbrev pub VerdictsBy : Bool → ℕ → Text → Text → Text → Result Text ToolFault → Type 0
VerdictsBy false states classes program reference answer = VerdictsLike states reference classes program answer
VerdictsBy true states classes program reference answer = answer ≡ Err faults.BadOptions

-- What a command may answer that a reference is given; no other takes one. None goes with data races and with whether
-- calls end: these are said of a class text alone.
abbrev pub AnswersByReference : Request → List Text → Result Text ToolFault → Type 0
AnswersByReference requests.Order parts answer =
    OnFour (λ classes program history reference. OrdersLike reference classes program history) parts answer
AnswersByReference (requests.Explore cells states illegal first order progress) parts answer = OnThree
    (λ classes program reference. ExploresLike (exploring cells states illegal first order) reference classes program)
    parts answer
AnswersByReference (requests.Verdict states mixed) parts answer = OnThree (VerdictsBy mixed states) parts answer
AnswersByReference (requests.Races states mixed) parts answer = answer ≡ Err faults.BadOptions
AnswersByReference (requests.Ends states mixed again) parts answer = answer ≡ Err faults.BadOptions
AnswersByReference (requests.Batch seed count steps switch cells judge) parts answer = OnThree
    (BatchesLike judge cells (sampling seed count (drawing steps switch))) parts answer
AnswersByReference (requests.Find seeking) parts answer = FindsByReference seeking parts answer
AnswersByReference (requests.Page paging) parts answer = PagesByReference paging parts answer
AnswersByReference other parts answer = Answers other parts answer

-- with a reference or without
abbrev pub AnswersBy : Bool → Request → List Text → Result Text ToolFault → Type 0
AnswersBy false r parts answer = Answers r parts answer
AnswersBy true r parts answer = AnswersByReference r parts answer

-- and on an input, which is cut into parts unless it is one of tallies
abbrev pub AnswersInput : Bool → Request → Text → Result Text ToolFault → Type 0
AnswersInput spec (requests.Merge count) input answer = MergesTo count input answer
AnswersInput spec requests.Java input answer = WantsOne (parts_of input) answer
AnswersInput spec r input answer = AnswersBy spec r (parts_of input) answer

-- the text that a command reads: the input, or where names are given, its files as one text
abbrev pub read_as : Option (List Text) → Text → Text
read_as None input = input
read_as (Some names) input = unmarked input

abbrev pub AnswersText : Option (List Text) → CommandLine → Text → Result Text ToolFault → Type 0
AnswersText names l input answer = MatchBool (is_text input)
    (AnswersInput l.spec l.request (read_as names input) answer) (answer ≡ Err faults.NotText)

-- the texts in which a fault can stand: the parts of an input, where it is text, or all of it if it is one of tallies
abbrev pub cut_for : ToolFault → Text → List Text
cut_for (faults.Tally f) input = input ∷ []
cut_for other input = parts_of input

abbrev pub texts_of : Option (List Text) → ToolFault → Text → List Text
texts_of names f input = if is_text input then cut_for f (read_as names input) else []

-- what is told of a fault: its line alone, or more with `--explain` or where files are named
abbrev pub is_bare : Option (List Text) → CommandLine → Bool
is_bare None l = not l.explain
is_bare (Some names) l = false

-- where files are named, the file with line and column in front; else its line, and the line in which it stands
abbrev pub noted : Option (List Text) → CommandLine → ToolFault → Text → Text
noted None l f input = fault_line f ++ note f (texts_of None f input)
noted (Some names) l f input = named_note names input (wanted_of l) (texts_of (Some names) f input) f

abbrev pub told : Option (List Text) → CommandLine → ToolFault → Text → Text
told names l f input = if is_bare names l then fault_line f else noted names l f input

-- the status of a command that prints a text: what `find --check` found, and else 0
abbrev pub status_for : Request → Text → ℕ
status_for (requests.Find seeking) text = if seeking.check then status_of text else 0
status_for other text = 0

-- what is told beside the text of a command: with `--explain` what the command says of its parts, and else nothing
abbrev pub NotesText : Option (List Text) → Request → Text → Result Text ToolFault → Type 0
NotesText names r input note = MatchBool (is_text input) (NotesOn r (parts_of (read_as names input)) note)
    (note ≡ Err faults.NotText)

abbrev pub NotesAs : Option (List Text) → CommandLine → Text → Result Text ToolFault → Type 0
NotesAs names l input note = MatchBool (l.explain && is_noted l.request) (NotesText names l.request input note)
    (note ≡ Ok [])

-- What a run ends with: a status, a text and what is told beside it; what is told of a fault; or no more than the
-- command line's own text.
pub data Ending : Type 0 where
  Prints : (status : ℕ) → (text : Text) → (beside : Text) → Ending
  Tells : (told : Text) → Ending
  Usage : Ending

-- the words before the names of files ask for this, or for nothing
abbrev pub Asks : List Text → Option CommandLine → Type 0
Asks words line = AsksFor (asking words) line

-- What the words and the input ask for. Of a Java file it isn't said what is told beside its class text, nor why it
-- isn't restated.
pub data IsEnding (words : List Text) (input : Text) : Ending → Type 0 where
  BadLine : Asks words None → IsEnding words input Usage
  Answered : (l : CommandLine) (text beside : Text) →
      Asks words (Some l) →
      AnswersText (file_names_in words) l input (Ok text) →
      NotesAs (file_names_in words) l input (Ok beside) →
      IsEnding words input (Prints (status_for l.request text) text beside)
  Refused : (l : CommandLine) (f : ToolFault) →
      Asks words (Some l) →
      AnswersText (file_names_in words) l input (Err f) →
      IsEnding words input (Tells (told (file_names_in words) l f input))
  Restated : (l : CommandLine) (text beside : Text) →
      Asks words (Some l) →
      l.request ≡ requests.Java →
      is_text input ≡ true →
      IsRestated (parts_of (read_as (file_names_in words) input)) text →
      IsEnding words input (Prints 0 text beside)
  NotRestated : (l : CommandLine) (lines : Text) →
      Asks words (Some l) →
      l.request ≡ requests.Java →
      IsEnding words input (Tells lines)

-- ---- what the code answers

-- a fault alone, or as it is told with what is said of it; or memory ran out for that
abbrev pub RefusesAs : Option (List Text) → CommandLine → ToolFault → Text → Refusal → Type 0
RefusesAs names l f input (refusals.BadLine e) = ⊥
RefusesAs names l f input (refusals.Fault faults.Memory) = Unit {0}
RefusesAs names l f input (refusals.Fault g) = (g ≡ f) × (is_bare names l ≡ true)
RefusesAs names l f input (refusals.Explained bytes) = (bytes.items ≡ noted names l f input) ×
    (is_bare names l ≡ false) × (f ≢ faults.Memory)

-- the names that code has at hand
abbrev pub names_of : Option (Bor (List (String Global))) → Option (List Text)
names_of names = option_map (λ ns. map string_bytes ns.now) names

-- the words ask for nothing, or memory ran out before they were read
abbrev pub refused_words : WordsFault → Refusal
refused_words word_faults.Memory = refusals.Fault faults.Memory
refused_words (word_faults.BadLine e) = refusals.BadLine e

-- it isn't said that the words ask for nothing, nor by the status 2
abbrev pub IsTaken : Result Said Refusal → Type 0
IsTaken (Ok said) = said.status ≢ 2
IsTaken (Err (refusals.BadLine e)) = ⊥
IsTaken other = Unit {0}

-- it is an ending of the words and the input, or memory ran out
abbrev pub Decides : List Text → Text → Result Said Refusal → Type 0
Decides words input (Ok said) =
    IsEnding words input (Prints said.status (string_bytes said.text) (string_bytes said.beside))
Decides words input (Err (refusals.BadLine e)) = IsEnding words input Usage
Decides words input (Err (refusals.Fault faults.Memory)) = Unit {0}
Decides words input (Err (refusals.Fault f)) = IsEnding words input (Tells (fault_line f))
Decides words input (Err (refusals.Explained bytes)) = IsEnding words input (Tells bytes.items)

-- it holds of what a reader has left, where that is known, and else of some input
abbrev pub OfInput : Option Text → (Text → Type 0) → Type 0
OfInput None May = (input : Text) × May input
OfInput (Some input) May = May input

-- ---- what a run leaves

-- as `explore: 131072 states, depth 37`, of so many times 65,536 states
abbrev pub progress_line : ℕ → ℕ → Text
progress_line count depth =
    codes "explore: " ++ (decimal (65536 * count) ++ (codes " states, depth " ++ (decimal depth ++ codes "\n")))

-- after so many lines of progress, one more for each depth
abbrev pub progress_text : ℕ → List ℕ → Text
progress_text count [] = []
progress_text count (depth ∷ depths) = progress_line (count + 1) depth ++ progress_text (count + 1) depths

-- where so many lines were there, these are added and counted; or a beginning of them is, and the writer has failed
pub record HasTold (before after : ℕ) (is_open : Bool) (err err' : Option Text) (has_failed : Bool) : Type 0 where
  pub depths : List ℕ
  pub lines : is_open ≡ true → after ≡ before + length depths
  pub added : IsWritten (progress_text before depths) is_open err err' has_failed

-- as `find: 48 of 84 programs`, of so many and all
abbrev pub programs_line : ℕ × ℕ → Text
programs_line n = codes "find: " ++ (decimal n.0 ++ (codes " of " ++ (decimal n.1 ++ codes " programs\n")))

abbrev pub programs_text : List (ℕ × ℕ) → Text
programs_text notes = flat_map programs_line notes

-- these lines are added; or a beginning of them is, and the writer has failed
pub record HasToldPrograms (is_open : Bool) (err err' : Option Text) (has_failed : Bool) : Type 0 where
  pub notes : List (ℕ × ℕ)
  pub added : IsWritten (programs_text notes) is_open err err' has_failed

-- what a command tells of its progress
abbrev pub telling_if : Bool → Telling → Telling
telling_if true telling = telling
telling_if false telling = tellings.Nothing

abbrev pub progress_of : Request → Telling
progress_of (requests.Explore cells states illegal first order progress) = telling_if progress tellings.States
progress_of (requests.Find seeking) = telling_if seeking.progress tellings.Programs
progress_of other = tellings.Nothing

-- whole lines of progress, or a beginning of them, and the writer has failed
abbrev pub HasLines : Option Text → Option Text → Bool → Type 0
HasLines err err' has_failed = (depths : List ℕ) × (is_whole : Bool) × IsWritten (progress_text 0 depths) is_whole err
    err' has_failed

abbrev pub HasProgramLines : Option Text → Option Text → Bool → Type 0
HasProgramLines err err' has_failed = (is_whole : Bool) × HasToldPrograms is_whole err err' has_failed

-- the lines of progress went to the writer that a command tells, and else nothing
abbrev pub HasToldAs : Telling → Option Text → Option Text → Bool → Type 0
HasToldAs tellings.Nothing err err' has_failed = err' ≡ err
HasToldAs tellings.States err err' has_failed = HasLines err err' has_failed
HasToldAs tellings.Programs err err' has_failed = HasProgramLines err err' has_failed

abbrev pub Progresses : Request → Option Text → Option Text → Bool → Type 0
Progresses r err err' has_failed = HasToldAs (progress_of r) err err' has_failed

-- nothing went to the writer, or what does so for a command of these words
pub data TellsFirst (words : List Text) (err : Option Text) (has_failed : Bool) : Option Text → Type 0 where
  Silent : TellsFirst words err has_failed err
  Progressed : (l : CommandLine) (err' : Option Text) →
      Asks words (Some l) →
      Progresses l.request err err' has_failed →
      TellsFirst words err has_failed err'

-- a stream before and after a run, and whether its writer has failed then
pub record Left : Type 0 where
  pub old : Option Text
  pub new : Option Text
  pub has_failed : Bool

abbrev pub left : Option Text → Option Text → Bool → Left
left old new has_failed = record { old = old; new = new; has_failed = has_failed }

-- its own status with the whole text and what is told beside it; 1 with what is told of a fault; 2 for a bad command
-- line
abbrev pub Shows : Ending → Exit → Left → Left → Type 0
Shows (Prints status text beside) exit out err = (exit.status ≡ status) × Appends out.old out.new text ×
    IsWritten beside exit.is_told err.old err.new err.has_failed
Shows (Tells told) exit out err = (exit.status ≡ 1) × Keeps out.old out.new ×
    IsWritten told exit.is_told err.old err.new err.has_failed
Shows Usage exit out err = (exit.status ≡ 2) × Keeps out.old out.new

-- the writer has failed: a beginning of the text is there, and the fault's line is told
abbrev pub CutShort : Text → Exit → Left → Left → Type 0
CutShort text exit out err = (exit.status ≡ 1) × Begins out.old out.new text × (out.has_failed ≡ true) ×
    IsWritten (fault_line faults.WriteFailed) exit.is_told err.old err.new err.has_failed

-- what is printed, with what stands behind it
abbrev pub with_behind : Text → Ending → Ending
with_behind behind (Prints status text beside) = Prints status (text ++ behind) beside
with_behind behind (Tells told) = Tells told
with_behind behind Usage = Usage

-- A run ends as the words and the input ask, or it tells that memory ran out or that the writer failed. This stands
-- behind the text that is printed.
pub data Closes (words : List Text) (input behind : Text) (exit : Exit) (out err : Left) : Type 0 where
  AsAsked : (ending : Ending) →
      IsEnding words input ending →
      Shows (with_behind behind ending) exit out err →
      Closes words input behind exit out err
  OutOfMemory : Shows (Tells (fault_line faults.Memory)) exit out err →
      Closes words input behind exit out err
  WriterFailed : (status : ℕ) (text beside : Text) →
      IsEnding words input (Prints status text beside) →
      CutShort (text ++ behind) exit out err →
      Closes words input behind exit out err

-- A run ends so, after the lines of progress that the words ask for. Where they ask for none, there are none.
pub record Ends (words : List Text) (input behind : Text) (exit : Exit) (out err : Left) : Type 0 where
  pub between : Option Text
  pub progress : TellsFirst words err.old err.has_failed between
  pub end : Closes words input behind exit out (left between err.new err.has_failed)

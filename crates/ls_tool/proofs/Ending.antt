-- From what a layer answers to what a run does.
use Rattle.std.specs.Prelude.{IfSome, String, string_bytes, if◌then◌else◌}
use Rattle.std.proofs.Common.{ℕ, ◌≡◌, ◌∙◌, ap, sym, List, [], Bool, true, false, refl, subst, Option}
use Rattle.std.proofs.Common.{Some, None}
use Rattle.std.proofs.Common.{Result, Ok, Err, ◌==◌, ◌∷◌, ◌++◌, arith, eqb-true, length}
use Rattle.std.specs.Global.{Global}
use Rattle.std.specs.Io.KnownBytes.{Appends, Keeps}
use Rattle.clap.specs.declared.error.Error.{Error}
use Rattle.ls_outlets.specs.Written.{Begins, IsWritten}
use Rattle.ls_report.specs.Events.{Text}
use Rattle.ls_command_line.specs.Words.{IsWordsAnswer}
use Rattle.ls_files.specs.Names.{asking, file_names_in}
use Rattle.ls_command_line.specs.declared.words.CommandLine.{CommandLine}
use Rattle.ls_command_line.specs.declared.words.Request.{Request}
use Rattle.ls_command_line.specs.declared.words.WordsFault.{WordsFault}
use Rattle.ls_command_line.specs.declared.words.WordsFault.TheVariants as word_fault
use Rattle.ls_faults.specs.Faults.{fault_line}
use Rattle.ls_tool.specs.declared.running.Exit.{Exit}
use Rattle.ls_faults.specs.declared.fault.ToolFault.{ToolFault}
use Rattle.ls_faults.specs.declared.fault.ToolFault.TheVariants as fault
use Rattle.ls_tool.specs.declared.refusal.Refusal.{Refusal}
use Rattle.ls_tool.specs.declared.refusal.Refusal.TheVariants as refusal
use Rattle.ls_faults.specs.Given.{GivesText}
use Rattle.ls_tool.specs.Output.{Answered, AnswersText, AsAsked, Asks, BadLine, Closes, Decides, Ends}
use Rattle.ls_tool.specs.Output.{HasToldAs}
use Rattle.ls_tool.specs.Output.{programs_text, progress_of, status_for}
use Rattle.ls_tool.specs.declared.said.Said.{Said}
use Rattle.ls_tool.specs.declared.said.Telling.{Telling}
use Rattle.ls_tool.specs.declared.said.Telling.TheVariants as tellings
use Rattle.ls_tool.specs.Output.{IsEnding, IsTaken, Left, OfInput, OutOfMemory, Prints, Progressed, Progresses}
use Rattle.ls_tool.specs.Output.{NotesAs, Refused, RefusesAs, Silent, Tells}
use Rattle.ls_tool.specs.Output.{TellsFirst, WriterFailed}
use Rattle.ls_tool.specs.Output.{is_bare, left, noted, progress_text, refused_words, told}

-- what holds of each input
pub always : (o : Option Text) (Q : Text → Type 0) → ((x : Text) → Q x) → OfInput o Q
always None Q f = ([], f [])
always (Some x) Q f = f x

-- what holds of the bytes that were read
pub of_bytes : (o : Option Text) (bytes : Text) (Q : Text → Type 0) →
    IfSome o (λ input. bytes ≡ input) →
    Q bytes →
    OfInput o Q
of_bytes None bytes Q e h = (bytes, h)
of_bytes (Some x) bytes Q e h = subst Q e h

pub decide_ok : (words : List Text) (input : Text) (l : CommandLine) (text beside : String Global) (status : ℕ) →
    Asks words (Some l) →
    status ≡ status_for l.request (string_bytes text) →
    AnswersText (file_names_in words) l input (Ok (string_bytes text)) →
    NotesAs (file_names_in words) l input (Ok (string_bytes beside)) →
    Decides words input (Ok (record { text = text; beside = beside; status = status }))
decide_ok words input l text beside status e is h n =
    subst (λ k. IsEnding words input (Prints k (string_bytes text) (string_bytes beside))) (sym is)
    (Answered l (string_bytes text) (string_bytes beside) e h n)

-- a fault other than want of memory is one that may be given
given : (May : Result Text ToolFault → Type 0) (f : ToolFault) →
    ¬ (f ≡ fault.Memory) →
    GivesText May (Err f) →
    May (Err f)
given May fault.Memory other h = absurd (other refl)
given May fault.ReadFailed other h = h
given May (fault.Text f) other h = h
given May (fault.Check f) other h = h
given May (fault.Program f) other h = h
given May (fault.Build f) other h = h
given May fault.BadCells other h = h
given May (fault.Schedule f) other h = h
given May (fault.Translation f) other h = h
given May (fault.Live f) other h = h
given May (fault.Turns f) other h = h
given May (fault.Batch f) other h = h
given May (fault.Explore f) other h = h
given May (fault.Class f) other h = h
given May fault.BadNumbers other h = h
given May fault.BadOptions other h = h
given May (fault.BadEntry at) other h = h
given May (fault.Specification f) other h = h
given May (fault.UnlikeSpecification at) other h = h
given May (fault.LacksMethod span) other h = h
given May (fault.Aim f) other h = h
given May (fault.History f) other h = h
given May (fault.Order f) other h = h
given May (fault.Tally f) other h = h
given May fault.WrongParts other h = h
given May fault.TooManyTrapped other h = h
given May fault.NotText other h = h
given May fault.WriteFailed other h = h

asked : (words : List Text) (input : Text) (l : CommandLine) (f : ToolFault) →
    Asks words (Some l) →
    AnswersText (file_names_in words) l input (Err f)
    → IsEnding words input (Tells (told (file_names_in words) l f input))
asked words input l f e h = Refused l f e h

-- where nothing is said of it, its line is told
plain : (words : List Text) (input : Text) (l : CommandLine) (f g : ToolFault) → Asks words (Some l)
    → ((g ≡ f) × (is_bare (file_names_in words) l ≡ true)) → AnswersText (file_names_in words) l input (Err g) →
    IsEnding words input (Tells (fault_line g))
plain words input l f g e r h =
    subst (λ b. IsEnding words input (Tells (if b then fault_line g else noted (file_names_in words) l g input))) r.1
    (asked words input l g e h)

-- the fault of an answer is that of the words and the input
pub decide_err : (words : List Text) (input : Text) (l : CommandLine) (f : ToolFault) (r : Refusal) →
    Asks words (Some l)
    → GivesText (AnswersText (file_names_in words) l input) (Err f)
    → RefusesAs (file_names_in words) l f input r → Decides words input (Err r)
decide_err words input l f (refusal.BadLine x) e h r = absurd r
decide_err words input l f (refusal.Fault fault.Memory) e h r = tt
decide_err words input l f (refusal.Fault fault.ReadFailed) e h r = plain words input l f fault.ReadFailed e r
    (subst (λ x. GivesText (AnswersText (file_names_in words) l input) (Err x)) (sym r.0) h)
decide_err words input l f (refusal.Fault (fault.Text g)) e h r = plain words input l f (fault.Text g) e r
    (subst (λ x. GivesText (AnswersText (file_names_in words) l input) (Err x)) (sym r.0) h)
decide_err words input l f (refusal.Fault (fault.Check g)) e h r = plain words input l f (fault.Check g) e r
    (subst (λ x. GivesText (AnswersText (file_names_in words) l input) (Err x)) (sym r.0) h)
decide_err words input l f (refusal.Fault (fault.Program g)) e h r = plain words input l f (fault.Program g) e r
    (subst (λ x. GivesText (AnswersText (file_names_in words) l input) (Err x)) (sym r.0) h)
decide_err words input l f (refusal.Fault (fault.Build g)) e h r = plain words input l f (fault.Build g) e r
    (subst (λ x. GivesText (AnswersText (file_names_in words) l input) (Err x)) (sym r.0) h)
decide_err words input l f (refusal.Fault fault.BadCells) e h r = plain words input l f fault.BadCells e r
    (subst (λ x. GivesText (AnswersText (file_names_in words) l input) (Err x)) (sym r.0) h)
decide_err words input l f (refusal.Fault (fault.Schedule g)) e h r = plain words input l f (fault.Schedule g) e r
    (subst (λ x. GivesText (AnswersText (file_names_in words) l input) (Err x)) (sym r.0) h)
decide_err words input l f (refusal.Fault (fault.Translation g)) e h r = plain words input l f (fault.Translation g) e r
    (subst (λ x. GivesText (AnswersText (file_names_in words) l input) (Err x)) (sym r.0) h)
decide_err words input l f (refusal.Fault (fault.Live g)) e h r = plain words input l f (fault.Live g) e r
    (subst (λ x. GivesText (AnswersText (file_names_in words) l input) (Err x)) (sym r.0) h)
decide_err words input l f (refusal.Fault (fault.Turns g)) e h r = plain words input l f (fault.Turns g) e r
    (subst (λ x. GivesText (AnswersText (file_names_in words) l input) (Err x)) (sym r.0) h)
decide_err words input l f (refusal.Fault (fault.Batch g)) e h r = plain words input l f (fault.Batch g) e r
    (subst (λ x. GivesText (AnswersText (file_names_in words) l input) (Err x)) (sym r.0) h)
decide_err words input l f (refusal.Fault (fault.Explore g)) e h r = plain words input l f (fault.Explore g) e r
    (subst (λ x. GivesText (AnswersText (file_names_in words) l input) (Err x)) (sym r.0) h)
decide_err words input l f (refusal.Fault (fault.Class g)) e h r = plain words input l f (fault.Class g) e r
    (subst (λ x. GivesText (AnswersText (file_names_in words) l input) (Err x)) (sym r.0) h)
decide_err words input l f (refusal.Fault fault.BadNumbers) e h r = plain words input l f fault.BadNumbers e r
    (subst (λ x. GivesText (AnswersText (file_names_in words) l input) (Err x)) (sym r.0) h)
decide_err words input l f (refusal.Fault fault.BadOptions) e h r = plain words input l f fault.BadOptions e r
    (subst (λ x. GivesText (AnswersText (file_names_in words) l input) (Err x)) (sym r.0) h)
decide_err words input l f (refusal.Fault (fault.BadEntry at)) e h r = plain words input l f (fault.BadEntry at) e r
    (subst (λ x. GivesText (AnswersText (file_names_in words) l input) (Err x)) (sym r.0) h)
decide_err words input l f (refusal.Fault (fault.Specification g)) e h r =
    plain words input l f (fault.Specification g) e r
    (subst (λ x. GivesText (AnswersText (file_names_in words) l input) (Err x)) (sym r.0) h)
decide_err words input l f (refusal.Fault (fault.UnlikeSpecification at)) e h r =
    plain words input l f (fault.UnlikeSpecification at) e r
    (subst (λ x. GivesText (AnswersText (file_names_in words) l input) (Err x)) (sym r.0) h)
decide_err words input l f (refusal.Fault (fault.LacksMethod span)) e h r =
    plain words input l f (fault.LacksMethod span) e r
    (subst (λ x. GivesText (AnswersText (file_names_in words) l input) (Err x)) (sym r.0) h)
decide_err words input l f (refusal.Fault (fault.Aim g)) e h r = plain words input l f (fault.Aim g) e r
    (subst (λ x. GivesText (AnswersText (file_names_in words) l input) (Err x)) (sym r.0) h)
decide_err words input l f (refusal.Fault (fault.History g)) e h r = plain words input l f (fault.History g) e r
    (subst (λ x. GivesText (AnswersText (file_names_in words) l input) (Err x)) (sym r.0) h)
decide_err words input l f (refusal.Fault (fault.Order g)) e h r = plain words input l f (fault.Order g) e r
    (subst (λ x. GivesText (AnswersText (file_names_in words) l input) (Err x)) (sym r.0) h)
decide_err words input l f (refusal.Fault (fault.Tally g)) e h r = plain words input l f (fault.Tally g) e r
    (subst (λ x. GivesText (AnswersText (file_names_in words) l input) (Err x)) (sym r.0) h)
decide_err words input l f (refusal.Fault fault.WrongParts) e h r = plain words input l f fault.WrongParts e r
    (subst (λ x. GivesText (AnswersText (file_names_in words) l input) (Err x)) (sym r.0) h)
decide_err words input l f (refusal.Fault fault.TooManyTrapped) e h r = plain words input l f fault.TooManyTrapped e r
    (subst (λ x. GivesText (AnswersText (file_names_in words) l input) (Err x)) (sym r.0) h)
decide_err words input l f (refusal.Fault fault.NotText) e h r = plain words input l f fault.NotText e r
    (subst (λ x. GivesText (AnswersText (file_names_in words) l input) (Err x)) (sym r.0) h)
decide_err words input l f (refusal.Fault fault.WriteFailed) e h r = plain words input l f fault.WriteFailed e r
    (subst (λ x. GivesText (AnswersText (file_names_in words) l input) (Err x)) (sym r.0) h)
decide_err words input l f (refusal.Explained x) e h r =
    let same : x.items ≡ told (file_names_in words) l f input =
    r.0 ∙ ap (λ b. if b then fault_line f else noted (file_names_in words) l f input) (sym r.1) in
    subst (λ t. IsEnding words input (Tells t)) (sym same) (asked words input l f e
    (given (AnswersText (file_names_in words) l input) f r.2 h))

-- a fault of the words, for each input
pub refused : (words : List Text) (input : Text) (f : WordsFault) →
    IsWordsAnswer (asking words) (Err f) →
    Decides words input (Err (refused_words f))
refused words input word_fault.Memory h = tt
refused words input (word_fault.BadLine e) h = BadLine h

-- a refusal of a fault says that the words were taken
pub takes : (names : Option (List Text)) (l : CommandLine) (f : ToolFault) (input : Text) (r : Refusal) →
    RefusesAs names l f input r →
    IsTaken (Err r)
takes names l f input (refusal.BadLine e) h = absurd h
takes names l f input (refusal.Fault g) h = tt
takes names l f input (refusal.Explained x) h = tt

-- a run that tells a fault
tells : (words : List Text) (input behind : Text) (f : ToolFault) (exit : Exit) (out err : Left) →
    exit.status ≡ 1 →
    Keeps out.old out.new →
    IsWritten (fault_line f) exit.is_told err.old err.new err.has_failed →
    Decides words input (Err (refusal.Fault f)) →
    Closes words input behind exit out err
tells words input behind fault.Memory exit out err s k t d = OutOfMemory (s, k, t)
tells words input behind fault.ReadFailed exit out err s k t d =
    AsAsked (Tells (fault_line fault.ReadFailed)) d (s, k, t)
tells words input behind (fault.Text f) exit out err s k t d = AsAsked (Tells (fault_line (fault.Text f))) d (s, k, t)
tells words input behind (fault.Check f) exit out err s k t d = AsAsked (Tells (fault_line (fault.Check f))) d (s, k, t)
tells words input behind (fault.Program f) exit out err s k t d =
    AsAsked (Tells (fault_line (fault.Program f))) d (s, k, t)
tells words input behind (fault.Build f) exit out err s k t d = AsAsked (Tells (fault_line (fault.Build f))) d (s, k, t)
tells words input behind fault.BadCells exit out err s k t d = AsAsked (Tells (fault_line fault.BadCells)) d (s, k, t)
tells words input behind (fault.Schedule f) exit out err s k t d =
    AsAsked (Tells (fault_line (fault.Schedule f))) d (s, k, t)
tells words input behind (fault.Translation f) exit out err s k t d =
    AsAsked (Tells (fault_line (fault.Translation f))) d (s, k, t)
tells words input behind (fault.Live f) exit out err s k t d = AsAsked (Tells (fault_line (fault.Live f))) d (s, k, t)
tells words input behind (fault.Turns f) exit out err s k t d = AsAsked (Tells (fault_line (fault.Turns f))) d (s, k, t)
tells words input behind (fault.Batch f) exit out err s k t d = AsAsked (Tells (fault_line (fault.Batch f))) d (s, k, t)
tells words input behind (fault.Explore f) exit out err s k t d =
    AsAsked (Tells (fault_line (fault.Explore f))) d (s, k, t)
tells words input behind (fault.Class f) exit out err s k t d = AsAsked (Tells (fault_line (fault.Class f))) d (s, k, t)
tells words input behind fault.BadNumbers exit out err s k t d =
    AsAsked (Tells (fault_line fault.BadNumbers)) d (s, k, t)
tells words input behind fault.BadOptions exit out err s k t d =
    AsAsked (Tells (fault_line fault.BadOptions)) d (s, k, t)
tells words input behind (fault.BadEntry at) exit out err s k t d =
    AsAsked (Tells (fault_line (fault.BadEntry at))) d (s, k, t)
tells words input behind (fault.Specification f) exit out err s k t d =
    AsAsked (Tells (fault_line (fault.Specification f))) d (s, k, t)
tells words input behind (fault.UnlikeSpecification at) exit out err s k t d =
    AsAsked (Tells (fault_line (fault.UnlikeSpecification at))) d (s, k, t)
tells words input behind (fault.LacksMethod span) exit out err s k t d =
    AsAsked (Tells (fault_line (fault.LacksMethod span))) d (s, k, t)
tells words input behind (fault.Aim f) exit out err s k t d = AsAsked (Tells (fault_line (fault.Aim f))) d (s, k, t)
tells words input behind (fault.History f) exit out err s k t d =
    AsAsked (Tells (fault_line (fault.History f))) d (s, k, t)
tells words input behind (fault.Order f) exit out err s k t d = AsAsked (Tells (fault_line (fault.Order f))) d (s, k, t)
tells words input behind (fault.Tally f) exit out err s k t d = AsAsked (Tells (fault_line (fault.Tally f))) d (s, k, t)
tells words input behind fault.WrongParts exit out err s k t d =
    AsAsked (Tells (fault_line fault.WrongParts)) d (s, k, t)
tells words input behind fault.TooManyTrapped exit out err s k t d =
    AsAsked (Tells (fault_line fault.TooManyTrapped)) d (s, k, t)
tells words input behind fault.NotText exit out err s k t d = AsAsked (Tells (fault_line fault.NotText)) d (s, k, t)
tells words input behind fault.WriteFailed exit out err s k t d =
    AsAsked (Tells (fault_line fault.WriteFailed)) d (s, k, t)

-- the same of an answer that is that fault
pub tells_fault : (words : List Text) (input behind : Text) (f : ToolFault) (exit : Exit) (out err : Left) →
    exit.status ≡ 1 →
    Keeps out.old out.new →
    IsWritten (fault_line f) exit.is_told err.old err.new err.has_failed →
    Decides words input (Err (refusal.Fault f)) →
    Closes words input behind exit out err
tells_fault words input behind f exit out err s k t d = tells words input behind f exit out err s k t d

-- and one that tells it with what is said of it
pub explains : (words : List Text) (input behind told : Text) (exit : Exit) (out err : Left) →
    exit.status ≡ 1 →
    Keeps out.old out.new →
    IsWritten told exit.is_told err.old err.new err.has_failed →
    IsEnding words input (Tells told) →
    Closes words input behind exit out err
explains words input behind told exit out err s k t d = AsAsked (Tells told) d (s, k, t)

pub done : (words : List Text) (input behind : Text) (said : Said) (exit : Exit) (out err : Left) →
    exit.status ≡ said.status →
    IsWritten (string_bytes said.beside) exit.is_told err.old err.new err.has_failed →
    Appends out.old out.new (string_bytes said.text ++ behind) →
    Decides words input (Ok said) →
    Closes words input behind exit out err
done words input behind said exit out err s k a d =
    AsAsked (Prints said.status (string_bytes said.text) (string_bytes said.beside)) d (s, a, k)

pub cut_short : (words : List Text) (input behind : Text) (said : Said) (exit : Exit) (out err : Left) →
    exit.status ≡ 1 →
    Begins out.old out.new (string_bytes said.text ++ behind) × (out.has_failed ≡ true) →
    IsWritten (fault_line fault.WriteFailed) exit.is_told err.old err.new err.has_failed →
    Decides words input (Ok said) →
    Closes words input behind exit out err
cut_short words input behind said exit out err s b t d =
    WriterFailed said.status (string_bytes said.text) (string_bytes said.beside) d (s, b.0, b.1, t)

-- no bytes
pub nothing_there : (bytes : Text) → (length bytes == 0) ≡ true → bytes ≡ []
nothing_there [] e = refl
nothing_there (byte ∷ bytes) e =
    let none : length (byte ∷ bytes) ≡ 0 = eqb-true (length (byte ∷ bytes)) 0 e in
    let never : ⊥ = omega (arith, none) in
    absurd never

-- what is written at once: all, or a beginning
pub all_written : (bytes : Text) (is_written : Bool) (old new : Option Text) (has_failed : Bool) →
    is_written ≡ true →
    IsWritten bytes is_written old new has_failed →
    Appends old new bytes
all_written bytes is_written old new has_failed e h = subst (λ b. IsWritten bytes b old new has_failed) e h

pub part_written : (bytes : Text) (is_written : Bool) (old new : Option Text) (has_failed : Bool) →
    is_written ≡ false →
    IsWritten bytes is_written old new has_failed →
    Begins old new bytes × (has_failed ≡ true)
part_written bytes is_written old new has_failed e h = subst (λ b. IsWritten bytes b old new has_failed) e h

-- lines of progress are as they were, whatever a writer that has failed does then
later : (r : Request) (a b : Option Text) (before after : Bool) →
    (before ≡ true → after ≡ true) →
    Progresses r a b before →
    Progresses r a b after
later r a b before after kept = on (progress_of r)
  where
    written : (text : Text) (is_whole : Bool) → IsWritten text is_whole a b before → IsWritten text is_whole a b after
    written text true h = h
    written text false h = (h.0, kept h.1)

    on : (t : Telling) → HasToldAs t a b before → HasToldAs t a b after
    on tellings.Nothing h = h
    on tellings.States h = (h.0, h.1, written (progress_text 0 h.0) h.1 h.2)
    on tellings.Programs h = (
      h.0,
      record {
        notes = h.1.notes;
        added = written (programs_text h.1.notes) h.0 h.1.added;
      },
    )

later_first : (words : List Text) (err between : Option Text) (before after : Bool) →
    (before ≡ true → after ≡ true) →
    TellsFirst words err before between →
    TellsFirst words err after between
later_first words err between before after kept Silent = Silent
later_first words err between before after kept (Progressed l new a p) = Progressed l new a
    (later l.request err new before after kept p)

-- after the lines of progress
pub ends_so : (words : List Text) (input behind : Text) (exit : Exit) (out err : Left) (between : Option Text)
    (before : Bool) →
    (before ≡ true → err.has_failed ≡ true) →
    TellsFirst words err.old before between →
    Closes words input behind exit out (left between err.new err.has_failed) →
    Ends words input behind exit out err
ends_so words input behind exit out err between before kept p e = record {
  between = between;
  progress = later_first words err.old between before err.has_failed kept p;
  end = e;
}

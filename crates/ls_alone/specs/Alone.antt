-- What is told of calls that run one at a time: that one throws, waits for ever, or turns for ever.
use Rattle.std.specs.Prelude.{◌≡◌, ℕ, Bool, true, false, List, ◌++◌, Option, Some, None, string_bytes}
use Rattle.ls_events.specs.declared.kind.Kind.{Kind}
use Rattle.ls_labels.specs.Names.{Names}
use Rattle.ls_schedule.specs.Printing.{schedule_text}
use Rattle.ls_search_laws.specs.Stepping.{ActAll}
use Rattle.ls_serial_faults.specs.Faults.{MeetsBound, NoneThrows, NoneTurns, NoneWaits, ThrowsAlone, TurnsAlone}
use Rattle.ls_serial_faults.specs.Faults.{WaitsAlone}
use Rattle.ls_serial_search.specs.Told.{usual}
use Rattle.ls_alone.specs.Words.{Text, pending_text, fault_line, thrown_text, waits_text}
use Rattle.ls_alone.specs.declared.telling.Fault.{Fault}
use Rattle.ls_alone.specs.declared.telling.Fault.TheVariants as faults
use Rattle.ls_alone.specs.declared.telling.Faulty.{Faulty}
use Rattle.ls_alone.specs.declared.telling.Tellings.{Tellings}
use Rattle.ls_alone.specs.declared.telling.Told.{Told}
use Rattle.ls_alone.specs.declared.telling.Told.TheVariants as told
use Rattle.ls_alone.specs.declared.telling.Wanted.{Wanted}
use Rattle.ls_alone.specs.declared.telling.Wanted.TheVariants as wanted

-- what is told of one, in these words, and after this schedule of threads of these names
pub record IsFaulty (words : Text) (threads : List Text) (steps : List ℕ) (t : Told) : Type 0 where
  pub faulty : Faulty
  pub is : t ≡ told.So faulty
  pub words_are : string_bytes faulty.words ≡ words
  pub schedule_is : string_bytes faulty.schedule ≡ schedule_text threads steps

-- the names of a program, and of its threads
module _ (names : Names) (threads : List Text) where
  -- Each step of the schedule acts, and after it the call in these words has ended by an exception.
  pub record SaysThrown (f : Faulty) : Type 0 where
    pub steps : List ℕ
    pub thread : ℕ
    pub call : ℕ
    pub kind : Kind
    pub throws : ThrowsAlone names.file names.program steps thread call kind
    pub acts : ActAll names.file names.program steps
    pub is : string_bytes f.words ≡ thrown_text names.program thread call kind
    pub schedule_is : string_bytes f.schedule ≡ schedule_text threads steps

  -- or its thread waits for ever
  pub record SaysWaits (f : Faulty) : Type 0 where
    pub steps : List ℕ
    pub thread : ℕ
    pub call : ℕ
    pub waits : WaitsAlone names.file names.program steps thread call
    pub acts : ActAll names.file names.program steps
    pub is : string_bytes f.words ≡ waits_text names steps thread call
    pub schedule_is : string_bytes f.schedule ≡ schedule_text threads steps

  -- or its thread turns for ever
  pub record SaysTurns (f : Faulty) : Type 0 where
    pub steps : List ℕ
    pub thread : ℕ
    pub call : ℕ
    pub turns : TurnsAlone names.file names.program steps thread call
    pub acts : ActAll names.file names.program steps
    pub is : string_bytes f.words ≡ pending_text names.program thread call
    pub schedule_is : string_bytes f.schedule ≡ schedule_text threads steps

  abbrev pub Says : Fault → Faulty → Type 0
  Says faults.Throws f = SaysThrown f
  Says faults.Waits f = SaysWaits f
  Says faults.Turns f = SaysTurns f

  -- no call has it, after any schedule
  abbrev pub NoneHas : Fault → Type 0
  NoneHas faults.Throws = NoneThrows names.file names.program
  NoneHas faults.Waits = NoneWaits names.file names.program
  NoneHas faults.Turns = NoneTurns names.file names.program

  -- what is told is so; if it isn't known, a bound was met
  abbrev pub Tells : Fault → Told → Type 0
  Tells fault told.Never = NoneHas fault
  Tells fault (told.So f) = Says fault f
  Tells fault told.Unknown = MeetsBound names.file names.program usual

  pub record AreTold (t : Tellings) : Type 0 where
    pub throws : Tells faults.Throws t.throws
    pub waits : Tells faults.Waits t.waits
    pub turns : Tells faults.Turns t.turns

-- what is told of a fault
abbrev pub told_by : Fault → Tellings → Told
told_by faults.Throws t = t.throws
told_by faults.Waits t = t.waits
told_by faults.Turns t = t.turns

-- ---- the first fault that a call has, and that call

abbrev pub so_of : Fault → Told → Option (Fault × Faulty)
so_of fault told.Never = None
so_of fault (told.So f) = Some (fault, f)
so_of fault told.Unknown = None

abbrev pub first_of : Option (Fault × Faulty) → Option (Fault × Faulty) → Option (Fault × Faulty)
first_of None second = second
first_of (Some first) second = Some first

abbrev pub first_of_all : Tellings → Option (Fault × Faulty)
first_of_all t = first_of (so_of faults.Throws t.throws)
    (first_of (so_of faults.Waits t.waits) (so_of faults.Turns t.turns))

-- of those that are looked for
abbrev pub first_fault : Wanted → Tellings → Option (Fault × Faulty)
first_fault wanted.Nothing t = None
first_fault wanted.Waits t = so_of faults.Waits t.waits
first_fault wanted.All t = first_of_all t

-- ---- faults that were found of no call

-- of one that was found of no call, where no bound was met, or where one was
abbrev pub unfound : Bool → Told
unfound true = told.Never
unfound false = told.Unknown

-- what is said of a program's calls: a line for each fault, unless no call has it
pub record AreSaid (names : Names) (threads : List Text) (text : Text) : Type 0 where
  pub tellings : Tellings
  pub told : AreTold names threads tellings
  pub is : text ≡ fault_line faults.Throws tellings.throws ++
      (fault_line faults.Waits tellings.waits ++ fault_line faults.Turns tellings.turns)

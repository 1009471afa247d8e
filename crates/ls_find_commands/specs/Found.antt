-- What the command `find` says.
use Rattle.std.specs.Prelude.{◌≡◌, ◌↔◌, ◌+◌, ◌-◌, ◌<◌, ◌≤◌, ◌⊎◌, ℕ, Bool, true, false, List, ◌++◌, Option, None}
use Rattle.std.specs.Prelude.{Some, Result, Ok, Err}
use Rattle.std.specs.Prelude.{length, min}
use Rattle.std.specs.Prelude.{slice_get}
use Rattle.std.specs.Prelude.{string_bytes}
use Rattle.ls_alone.specs.declared.telling.Wanted.{Wanted}
use Rattle.ls_any_size.specs.Alone.{RunsAlone, whole_text}
use Rattle.ls_class_programs.specs.ClassPrograms.{AreProgramsOf, IsClassFault}
use Rattle.ls_class_programs.specs.declared.choosing.Choosing.{Choosing}
use Rattle.ls_class_programs.specs.declared.fault.ClassFault.{ClassFault}
use Rattle.ls_class_programs.specs.Entries.{AllAreCalls, HasNoCall}
use Rattle.ls_class_programs.specs.declared.entry_fault.EntryFault.{EntryFault}
use Rattle.ls_explore.specs.Faults.{AreBadStates}
use Rattle.ls_explore.specs.declared.fault.ExploreFault.TheVariants as explore
use Rattle.ls_compiler.specs.Answers.{CompilesTo}
use Rattle.ls_compiler.specs.declared.fault.CompileFault.{CompileFault}
use Rattle.ls_families.specs.Families.{Plan, plans}
use Rattle.ls_family_search.specs.Judged.{Programs, calls_of, making_of, text_of}
use Rattle.ls_family_search.specs.declared.judging.Halted.{Halted}
use Rattle.ls_family_search.specs.declared.judging.Passed.{Passed}
use Rattle.ls_family_search.specs.declared.searching.Finding.{Finding}
use Rattle.ls_faults.specs.Faults.{lifted_class, lifted_compile, lifted_entry, lifted_reference}
use Rattle.ls_faults.specs.declared.fault.ToolFault.{ToolFault}
use Rattle.ls_faults.specs.declared.fault.ToolFault.TheVariants as faults
use Rattle.ls_find.specs.declared.sought.Sought.{Sought}
use Rattle.ls_find_races.specs.Family.{IsRaceFinding, PassedAreFree}
use Rattle.ls_find_races.specs.declared.explorer.RaceWhy.{RaceWhy}
use Rattle.ls_find.specs.declared.explorer.Why.{Why}
use Rattle.ls_find.specs.declared.explorer.Why.TheVariants as whys
use Rattle.ls_find_reports.specs.Printing.{figures_of, found_text, none_text}
use Rattle.ls_find_reports.specs.declared.figures.Figures.{Figures}
use Rattle.ls_report.specs.Events.{Text}
use Rattle.ls_find_commands.specs.Lacking.{IsFirstFault, IsNoReference, LacksNone, no_calls}
use Rattle.ls_find_commands.specs.Besides.{AreBeside}
use Rattle.ls_find_commands.specs.Racing.{race_halted_answer}
use Rattle.ls_find_commands.specs.Faulty.{IsFoundAmong}
use Rattle.ls_find_commands.specs.Giving.{IsWanted}
use Rattle.ls_find_commands.specs.declared.command.Range.{Range}

-- no program, of so many, has the first number, or the last comes before it
abbrev pub IsBadRange : Range → ℕ → Type 0
IsBadRange r count = (r.from ≡ 0) ⊎ (r.to < r.from) ⊎ (count < r.from)

-- The text of the program of a number with which a search ends, below the line on an event if there is one. Or its
-- fault.
abbrev pub why_answer : Figures → ℕ → Text → Why → Result Text ToolFault
why_answer f number program (whys.Bad why note schedule) =
    Ok (found_text f number (string_bytes why) (string_bytes note ++ program) (string_bytes schedule))
why_answer f number program (whys.NotCompiled fault) = Err (lifted_compile fault)
why_answer f number program (whys.NotSpecified fault) = Err (lifted_reference fault)

-- of the numbers after so many, up to one, of so many in all
abbrev pub halted_answer : ℕ → ℕ → ℕ → List Passed → Option (Halted Why) → Result Text ToolFault
halted_answer before to count ps None = Ok (none_text (figures_of before to count ps))
halted_answer before to count ps (Some h) =
    why_answer (figures_of before to count ps) (before + length ps + 1) (string_bytes h.program) h.halt

-- What a search for data races finds is told as what any search finds: as many are passed, and it ends so.
pub record AreTold (f : Finding RaceWhy) (g : Finding Why) : Type 0 where
  pub passed : g.passed.items ≡ f.passed.items
  pub none : f.halted ≡ None → g.halted ≡ None
  pub answer : (before to count : ℕ) (ps : List Passed) →
      halted_answer before to count ps g.halted ≡ race_halted_answer before to count ps f.halted

-- the same, with what is said beside `none`
abbrev pub answer_beside : ℕ → ℕ → ℕ → List Passed → Option (Halted Why) → Text → Result Text ToolFault
answer_beside before to count ps None beside = Ok (none_text (figures_of before to count ps) ++ beside)
answer_beside before to count ps (Some h) beside = halted_answer before to count ps (Some h)

-- no range is asked for: it has the numbers of all programs that a family may have
abbrev pub AreAllNumbers : Range → Type 0
AreAllNumbers r = (r.from ≡ 1) × (1000000 ≤ r.to)

-- more is said beside `none` where no range is asked for
abbrev pub IsAskedBeside : Range → Option (Halted Why) → Bool → Type 0
IsAskedBeside r halted asked = (asked ≡ true) ↔ (AreAllNumbers r × (halted ≡ None))

-- What is found among programs: what a search of the numbers of a range says, by a reference if one is given. Each
-- program that it has passed is good for what is looked for, if none up to that one is cut. The first program with a
-- call that has a fault when calls run one at a time is found too, if no other is before it: each fault, if it is
-- strict; else a wait for a lock that no call of the menu gives back.
-- Beside `none` it is said what calls do that run one at a time, and what a search for data races says; or such a
-- search alone is asked for.
pub data FindsIn (reference : Option Text) (classes : Text) (p : Programs) (r : Range) : Result Text ToolFault → Type 0
  where
    NoNumbers : IsBadRange r (length (plans p.family)) → FindsIn reference classes p r (Err faults.BadNumbers)
    Searched : (wanted : Wanted) (g : Finding Why) (asked : Bool) (beside : Text) →
        ¬ IsBadRange r (length (plans p.family)) →
        r.races ≡ false →
        IsWanted r.strict r.sought.waiting classes p wanted →
        IsFoundAmong wanted r.sought r.states reference classes p (r.from - 1) (min r.to (length (plans p.family))) g →
        IsAskedBeside r g.halted asked →
        AreBeside asked r.states classes p beside →
        FindsIn reference classes p r
        (answer_beside (r.from - 1) (min r.to (length (plans p.family))) (length (plans p.family)) g.passed.items
        g.halted beside)
    Raced : (f : Finding RaceWhy) →
        ¬ IsBadRange r (length (plans p.family)) →
        r.races ≡ true →
        IsRaceFinding r.states classes p (r.from - 1) (min r.to (length (plans p.family))) f →
        PassedAreFree classes p (r.from - 1) f →
        FindsIn reference classes p r
        (race_halted_answer (r.from - 1) (min r.to (length (plans p.family))) (length (plans p.family)) f.passed.items
        f.halted)

-- each entry of a menu that is written by hand is calls of the class, as each of so many threads makes them
abbrev pub EntriesFit : Text → Text → ℕ → Option Text → Type 0
EntriesFit classes making threads None = Unit {0}
EntriesFit classes making threads (Some menu) = AllAreCalls classes making threads menu

-- one isn't
abbrev pub IsUnfit : Text → Text → ℕ → Option Text → EntryFault → Type 0
IsUnfit classes making threads None f = ⊥
IsUnfit classes making threads (Some menu) f = HasNoCall classes making threads menu f

-- the programs of a class text, over a menu that is written by hand if one is given
pub record AreOwnPrograms (o : Choosing) (classes : Text) (menu : Option Text) (p : Programs) : Type 0 where
  pub programs : AreProgramsOf o classes menu p
  pub fit : EntriesFit classes (making_of p) o.bounds.threads menu

-- why there are none
pub data HasNoOwn (o : Choosing) (classes : Text) (menu : Option Text) : ToolFault → Type 0 where
  NoPrograms : (f : ClassFault) → IsClassFault o classes menu f → HasNoOwn o classes menu (lifted_class f)
  NotCalls : (p : Programs) (f : EntryFault) →
      AreProgramsOf o classes menu p →
      IsUnfit classes (making_of p) o.bounds.threads menu f →
      HasNoOwn o classes menu (lifted_entry f)

-- Why a reference has no programs that are programs of the class too: the class text isn't compiled, or the reference;
-- or it has no programs; or the class lacks one of their calls.
pub data HasNoLike (o : Choosing) (reference classes : Text) (menu : Option Text) : ToolFault → Type 0 where
  NotCompiled : (f : CompileFault) →
      CompilesTo classes no_calls (Err f) →
      HasNoLike o reference classes menu (lifted_compile f)
  NotReference : (f : ToolFault) → IsNoReference reference no_calls f → HasNoLike o reference classes menu f
  NoneThere : (f : ToolFault) → HasNoOwn o reference menu f → HasNoLike o reference classes menu f
  Lacks : (p : Programs) (f : ToolFault) →
      AreOwnPrograms o reference menu p →
      IsFirstFault o reference classes p f →
      HasNoLike o reference classes menu f

-- ---- the programs

-- those of the class text; or of a reference that is given, and the class text lacks none of their calls
abbrev pub AreProgramsFor : Choosing → Option Text → Text → Option Text → Programs → Type 0
AreProgramsFor o None classes menu p = AreOwnPrograms o classes menu p
AreProgramsFor o (Some reference) classes menu p = AreOwnPrograms o reference menu p × LacksNone reference classes p

abbrev pub HasNoPrograms : Choosing → Option Text → Text → Option Text → ToolFault → Type 0
HasNoPrograms o None classes menu f = HasNoOwn o classes menu f
HasNoPrograms o (Some reference) classes menu f = HasNoLike o reference classes menu f

-- the programs of the class in which each int that a call passes is 1: their menu has each method
abbrev pub smallest : Choosing → Choosing
smallest o =
    record { class = o.class; values = 1; given = o.given; bounds = record { threads = 2; calls = 1; setup = 0 } }

-- Each call of the menu runs alone, whatever the size of a program and whatever the bounds. Nothing is left to
-- explore.
pub record IsWhole (o : Choosing) (sought : Sought) (classes : Text) (menu : Option Text) (text : Text) : Type 0 where
  pub programs : Programs
  pub of_class : AreProgramsOf (smallest o) classes menu programs
  pub said : Text
  pub alone : RunsAlone sought classes (making_of programs) (calls_of programs) said
  pub is : text ≡ whole_text said

-- What is found among those of a class text, by a reference if one is given; or why there are none. Nothing is said at
-- once by a reference.
pub data FindsTo (o : Choosing) (r : Range) (reference : Option Text) (classes : Text) (menu : Option Text)
    : Result Text ToolFault → Type 0 where
  NoStates : AreBadStates r.states → FindsTo o r reference classes menu (Err (faults.Explore explore.BadStates))
  NotAny : (f : ToolFault) →
      ¬ AreBadStates r.states →
      HasNoPrograms o reference classes menu f →
      FindsTo o r reference classes menu (Err f)
  Among : (p : Programs) (answer : Result Text ToolFault) →
      ¬ AreBadStates r.states →
      AreProgramsFor o reference classes menu p →
      FindsIn reference classes p r answer →
      FindsTo o r reference classes menu answer
  AtOnce : (text : Text) →
      ¬ AreBadStates r.states →
      AreAllNumbers r →
      r.races ≡ false →
      r.strict ≡ false →
      reference ≡ None →
      IsWhole o r.sought classes menu text →
      FindsTo o r reference classes menu (Ok text)

-- The program of a number, from 1, or why there is none.
pub data PrintsTo (o : Choosing) (n : ℕ) (reference : Option Text) (classes : Text) (menu : Option Text)
    : Result Text ToolFault → Type 0 where
  NoProgram : (f : ToolFault) →
      HasNoPrograms o reference classes menu f →
      PrintsTo o n reference classes menu (Err f)
  NoNumber : (p : Programs) →
      AreProgramsFor o reference classes menu p →
      (n ≡ 0) ⊎ (length (plans p.family) < n) →
      PrintsTo o n reference classes menu (Err faults.BadNumbers)
  Prints : (p : Programs) (plan : Plan) →
      AreProgramsFor o reference classes menu p →
      slice_get (plans p.family) (n - 1) ≡ Some plan →
      PrintsTo o n reference classes menu (Ok (text_of p plan))

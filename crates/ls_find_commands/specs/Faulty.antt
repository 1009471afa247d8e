-- What is found where calls are looked for too that have a fault when calls run one at a time: they throw, wait for
-- ever, or never end.
use Rattle.std.specs.Prelude.{◌≡◌, ◌+◌, ◌≤◌, ℕ, List, [], ◌++◌, Option, Some, None, codes, length, min, position}
use Rattle.std.specs.Prelude.{slice_get, string_bytes}
use Rattle.ls_alone.specs.Alone.{first_fault}
use Rattle.ls_alone.specs.Words.{wanted_words}
use Rattle.ls_alone.specs.declared.telling.Fault.{Fault}
use Rattle.ls_alone.specs.declared.telling.Faulty.{Faulty}
use Rattle.ls_alone.specs.declared.telling.Tellings.{Tellings}
use Rattle.ls_alone.specs.declared.telling.Wanted.{Wanted}
use Rattle.ls_alone.specs.declared.telling.Wanted.TheVariants as kinds
use Rattle.ls_families.specs.Families.{Plan, plans}
use Rattle.ls_family_search.specs.Judged.{Programs, text_of}
use Rattle.ls_family_search.specs.declared.judging.Halted.{Halted}
use Rattle.ls_family_search.specs.declared.searching.Finding.{Finding}
use Rattle.ls_find.specs.Family.{IsFound, PassedAreSound}
use Rattle.ls_find.specs.declared.explorer.Why.{Why}
use Rattle.ls_find.specs.declared.explorer.Why.TheVariants as whys
use Rattle.ls_find.specs.declared.sought.Sought.{Sought}
use Rattle.ls_find_commands.specs.declared.faulty.FaultyProgram.{FaultyProgram}
use Rattle.ls_find_serial.specs.Lines.{has_wanted}
use Rattle.ls_find_serial.specs.Told.{AreToldOf}
use Rattle.ls_report.specs.Events.{Text}

-- as `a call throws when calls run one at a time: s.inc(), NullPointerException`
abbrev pub faulty_reason : Wanted → Fault × Faulty → Text
faulty_reason wanted p = wanted_words wanted p.0 ++ (codes ": " ++ string_bytes p.1.words)

-- the call is shown, and the schedule up to where it is seen
pub data IsShown (wanted : Wanted) (p : Fault × Faulty) : Why → Type 0 where
  Shows : (why note schedule : _) →
      string_bytes why ≡ faulty_reason wanted p →
      string_bytes note ≡ [] →
      string_bytes schedule ≡ string_bytes p.1.schedule →
      IsShown wanted p (whys.Bad why note schedule)

-- the text of the program of a number
pub record IsTextAt (p : Programs) (n : ℕ) (text : Text) : Type 0 where
  pub plan : Plan
  pub there : slice_get (plans p.family) n ≡ Some plan
  pub is : text ≡ text_of p plan

-- the program of a number, with the first fault that is looked for and that a call of it is told to have
pub record IsFaultyAt (wanted : Wanted) (p : Programs) (n : ℕ) (t : Tellings) (f : FaultyProgram) : Type 0 where
  pub number : f.number ≡ n
  pub fault : Fault × Faulty
  pub first : first_fault wanted t ≡ Some fault
  pub text : IsTextAt p n (string_bytes f.halted.program)
  pub shows : IsShown wanted fault f.halted.halt

-- The first program of these numbers of which a call is told to have a fault that is looked for; or none. Nothing has
-- to be told if none is looked for.
pub data IsFirstFaulty (wanted : Wanted) (classes : Text) (p : Programs) (from to : ℕ) : Option FaultyProgram → Type 0
  where
    NoneIsSought : wanted ≡ kinds.Nothing → IsFirstFaulty wanted classes p from to None
    NoneIsFaulty : (told : List Tellings) →
        AreToldOf classes p from to told →
        position (has_wanted wanted) told ≡ None →
        IsFirstFaulty wanted classes p from to None
    OneIsFaulty : (told : List Tellings) (at : ℕ) (t : Tellings) (f : FaultyProgram) →
        AreToldOf classes p from to told →
        position (has_wanted wanted) told ≡ Some at →
        slice_get told at ≡ Some t →
        IsFaultyAt wanted p (from + at) t f →
        IsFirstFaulty wanted classes p from to (Some f)

-- the number up to which is searched for what else is looked for
abbrev pub searched_to : Option FaultyProgram → ℕ → ℕ
searched_to None to = to
searched_to (Some f) to = f.number

abbrev pub or_faulty : Option (Halted Why) → Option FaultyProgram → Option (Halted Why)
or_faulty (Some h) faulty = Some h
or_faulty None None = None
or_faulty None (Some f) = Some f.halted

-- a search that ends with no program ends with the one that is found already
pub record EndsAs (f : Finding Why) (faulty : Option FaultyProgram) (g : Finding Why) : Type 0 where
  pub passed : g.passed.items ≡ f.passed.items
  pub halted : g.halted ≡ or_faulty f.halted faulty

-- What a search of the numbers up to that program comes to, ended with it.
pub record IsSearchedTo (sought : Sought) (states : ℕ) (reference : Option Text) (classes : Text) (p : Programs)
    (from to : ℕ) (faulty : Option FaultyProgram) (g : Finding Why) : Type 0 where
  pub search : Finding Why
  pub found : IsFound sought states reference classes p from (searched_to faulty to) search
  pub sound : PassedAreSound sought reference classes p from search
  pub ends : EndsAs search faulty g

-- What is found among numbers. Calls that run one at a time are asked up to a number of the range: those of each
-- program that is passed, if some are looked for.
pub record IsFoundAmong (wanted : Wanted) (sought : Sought) (states : ℕ) (reference : Option Text) (classes : Text)
    (p : Programs) (from to : ℕ) (g : Finding Why) : Type 0 where
  pub last : ℕ
  pub faulty : Option FaultyProgram
  pub first : IsFirstFaulty wanted classes p from last faulty
  pub searched : IsSearchedTo sought states reference classes p from to faulty g
  pub asked : min (from + length g.passed.items) (searched_to faulty to) ≤ last
  pub order : from ≤ last
  pub within : last ≤ to

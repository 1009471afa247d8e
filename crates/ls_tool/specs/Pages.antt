-- Which page the command line asks for, by how many parts there are.
use Rattle.std.specs.Prelude.{◌≡◌, ◌||◌, ℕ, Bool, List, MatchBool, [], ◌∷◌, Option, Some, None, Result, Err, is_some}
use Rattle.ls_report.specs.Events.{Text}
use Rattle.ls_choosing.specs.Chosen.{ChoosesTo}
use Rattle.ls_commands.specs.Paged.{PagesTo, PagesWithOrderTo}
use Rattle.ls_command_line.specs.declared.words.Paging.{Paging}
use Rattle.ls_faults.specs.declared.fault.ToolFault.{ToolFault}
use Rattle.ls_faults.specs.declared.fault.ToolFault.TheVariants as faults

abbrev pub number_or : ℕ → Option ℕ → ℕ
number_or default None = default
number_or default (Some n) = n

-- the first step that is shown, and the last
abbrev pub first_of : Paging → ℕ
first_of p = number_or 1 p.from

abbrev pub last_of : Paging → ℕ
last_of p = number_or 1000000 p.to

-- the most states that are kept where one chooses
abbrev pub states_of : Paging → ℕ
states_of p = number_or 20000 p.states

-- a range of steps is asked for
abbrev pub has_range : Paging → Bool
has_range p = is_some p.from || is_some p.to

-- the options don't go together, or not with these parts
abbrev pub Refused : Result Text ToolFault → Type 0
Refused answer = answer ≡ Err faults.BadOptions

-- two parts: the page on which one chooses, which has no range of steps
abbrev pub PagesOnTwo : Paging → Text → Text → Result Text ToolFault → Type 0
PagesOnTwo p classes program answer = MatchBool (has_range p || p.choose) (Refused answer)
    (ChoosesTo None (states_of p) classes program [] answer)

-- the page of a run, which keeps no states
abbrev pub PagesRun : Paging → Text → Text → Text → Result Text ToolFault → Type 0
PagesRun p classes program schedule answer = MatchBool (is_some p.states) (Refused answer)
    (PagesTo (first_of p) (last_of p) classes program schedule answer)

-- three: with `--choose` the page on which one chooses and which begins with the run, else that of the run
abbrev pub PagesOnThree : Paging → Text → Text → Text → Result Text ToolFault → Type 0
PagesOnThree p classes program schedule answer = MatchBool p.choose
    (MatchBool (has_range p) (Refused answer) (ChoosesTo None (states_of p) classes program schedule answer))
    (PagesRun p classes program schedule answer)

-- four: the page of the run with an order
abbrev pub PagesOnFour : Paging → Text → Text → Text → Text → Result Text ToolFault → Type 0
PagesOnFour p classes program schedule order answer = MatchBool (p.choose || is_some p.states) (Refused answer)
    (PagesWithOrderTo (first_of p) (last_of p) classes program schedule order answer)

-- by how many parts there are
abbrev pub PagesOn : Paging → List Text → Result Text ToolFault → Type 0
PagesOn p (classes ∷ program ∷ []) answer = PagesOnTwo p classes program answer
PagesOn p (classes ∷ program ∷ schedule ∷ []) answer = PagesOnThree p classes program schedule answer
PagesOn p (classes ∷ program ∷ schedule ∷ order ∷ []) answer = PagesOnFour p classes program schedule order answer
PagesOn p other answer = answer ≡ Err faults.WrongParts

-- by a reference one chooses, with a run to begin with or without, and there is no range of steps
abbrev pub PagesLike : Paging → Text → Text → Text → Text → Result Text ToolFault → Type 0
PagesLike p reference classes program schedule answer = MatchBool (has_range p) (Refused answer)
    (ChoosesTo (Some reference) (states_of p) classes program schedule answer)

abbrev pub PagesByReference : Paging → List Text → Result Text ToolFault → Type 0
PagesByReference p (classes ∷ program ∷ reference ∷ []) answer = PagesLike p reference classes program [] answer
PagesByReference p (classes ∷ program ∷ schedule ∷ reference ∷ []) answer =
    PagesLike p reference classes program schedule answer
PagesByReference p other answer = answer ≡ Err faults.WrongParts

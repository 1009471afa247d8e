-- What is said of one program.
use Rattle.std.specs.Prelude.{◌≡◌, ◌<◌, ◌≤◌, ◌⊎◌, ℕ, List, [], ◌++◌, Some, slice_get, slice_index_or}
use Rattle.std.specs.Prelude.{string_bytes, true}
use Rattle.ls_families.specs.Doubles.{is_double, other_of}
use Rattle.ls_families.specs.Families.{Family, Menu, Plan, plans}
use Rattle.ls_families.specs.Texts.{plan_text}
use Rattle.ls_family_search.specs.declared.judging.Halted.{Halted}
use Rattle.ls_family_search.specs.declared.judging.Judgement.{Judgement}
use Rattle.ls_family_search.specs.declared.judging.Judgement.TheVariants as judgements
use Rattle.ls_family_search.specs.declared.judging.ProgramOutcome.{ProgramOutcome}
use Rattle.ls_family_search.specs.declared.judging.ProgramOutcome.TheVariants as outcomes
use Rattle.ls_family_search.specs.declared.judging.Passed.{Passed}
use Rattle.ls_family_search.specs.declared.judging.Passed.TheVariants as passed

abbrev pub Text : Type 0
Text = List ℕ

-- the programs of a family over a menu
pub record Programs : Type 0 where
  pub family : Family
  pub menu : Menu

abbrev pub text_of : Programs → Plan → Text
text_of p plan = plan_text p.menu plan

-- how they make the object first, and all calls of their menu: those of the setup, and those of threads
abbrev pub making_of : Programs → Text
making_of p = slice_index_or p.menu.makings 0 []

abbrev pub calls_of : Programs → List Text
calls_of p = p.menu.setup ++ p.menu.threads

-- a judge's answer on a program that may be good, or cut, or halt the search
abbrev pub IsJudgement : {H : Type 0} → Type 0 → Type 0 → (H → Type 0) → Judgement H → Type 0
IsJudgement IsGood IsCut Halts judgements.Good = IsGood
IsJudgement IsGood IsCut Halts judgements.Cut = IsCut
IsJudgement IsGood IsCut Halts (judgements.Halt h) = Halts h

-- a double that is good if the program is that stands before it, with two threads exchanged
pub record Follows (p : Programs) (IsGood : Text → Type 0) (plan : Plan) : Type 0 where
  pub double : is_double p.menu plan ≡ true
  pub good : IsGood (text_of p (other_of plan)) → IsGood (text_of p plan)

-- The program with these two threads exchanged has a number of a range, from its first number up to this one.
pub record StandsFrom (p : Programs) (from n : ℕ) (plan : Plan) : Type 0 where
  pub number : ℕ
  pub first : from ≤ number
  pub before : number < n
  pub there : slice_get (plans p.family) number ≡ Some (other_of plan)

-- Such a double is passed if that program stands in the range, or the judge says that the double itself is good.
pub record IsDouble (p : Programs) (IsGood : Text → Type 0) (from n : ℕ) (plan : Plan) : Type 0 where
  pub follows : Follows p IsGood plan
  pub known : StandsFrom p from n plan ⊎ IsGood (text_of p plan)

-- a program of a number that the search of a range passes: it is such a double, or the judge says so of its text
abbrev pub IsPassed : Programs → (Text → Type 0) → (Text → Type 0) → ℕ → ℕ → Plan → Passed → Type 0
IsPassed p IsGood IsCut from n plan passed.Double = IsDouble p IsGood from n plan
IsPassed p IsGood IsCut from n plan passed.Good = IsGood (text_of p plan)
IsPassed p IsGood IsCut from n plan passed.Cut = IsCut (text_of p plan)

-- a program with which it ends
pub record IsHalted {H : Type 0} (p : Programs) (Halts : Text → H → Type 0) (plan : Plan) (h : Halted H) : Type 0 where
  pub text : string_bytes h.program ≡ text_of p plan
  pub halts : Halts (text_of p plan) h.halt

abbrev pub IsOutcome : {H : Type 0} → Programs → (Text → Type 0) → (Text → Type 0) → (Text → H → Type 0) → ℕ → ℕ →
    Plan → ProgramOutcome H → Type 0
IsOutcome p IsGood IsCut Halts from n plan (outcomes.Passes said) = IsPassed p IsGood IsCut from n plan said
IsOutcome p IsGood IsCut Halts from n plan (outcomes.Ends h) = IsHalted p Halts plan h

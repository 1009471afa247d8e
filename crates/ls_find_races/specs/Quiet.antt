-- What is found of a program that is explored, and whose data races are looked for in the same states.
use Rattle.std.specs.Prelude.{◌≡◌, ◌<◌, ◌++◌, ℕ, false, Option, Some, replicate, slice_get}
use Rattle.ls_families.specs.Families.{Plan, plans}
use Rattle.ls_family_search.specs.Judged.{Programs, text_of}
use Rattle.ls_family_search.specs.Searched.{IsFinding}
use Rattle.ls_family_search.specs.declared.judging.Passed.TheVariants.{Good}
use Rattle.ls_family_search.specs.declared.searching.Finding.{Finding}
use Rattle.ls_find.specs.Found.{IsSound, Text}
use Rattle.ls_find.specs.declared.sought.Sought.{Sought}
use Rattle.ls_find_races.specs.Raced.{IsRaceFree}
use Rattle.ls_find_races.specs.declared.explorer.RaceWhy.{RaceWhy}
use Rattle.ls_find_races.specs.declared.quiet.Unsettled.{Unsettled}

-- the same is looked for, but threads that turn for ever
abbrev pub but_turning : Sought → Sought
but_turning s = record { waiting = s.waiting; turning = false; set = s.set }

-- it is good for what is looked for, and its accesses never meet
pub record IsQuiet (sought : Sought) (specification : Option Text) (classes program : Text) : Type 0 where
  pub sound : IsSound sought specification classes program
  pub free : IsRaceFree classes program

-- a search of these numbers passes programs of which both is so, up to one of which it isn't known
abbrev pub IsQuietFinding : Sought → Option Text → Text → Programs → ℕ → ℕ → Finding Unsettled → Type 0
IsQuietFinding sought specification classes p from to f =
    IsFinding p (IsQuiet sought specification classes) (λ program. ⊥) (λ program why. Unit {0}) from to f

-- the accesses of each of the first so many programs never meet
abbrev pub FirstAreFree : Text → Programs → ℕ → Type 0
FirstAreFree classes p many =
    (n : ℕ) (plan : Plan) → n < many → slice_get (plans p.family) n ≡ Some plan → IsRaceFree classes (text_of p plan)

-- a search from a number on, and the numbers before it passed as good, as one search
pub record GoesOnFrom (many : ℕ) (f all : Finding RaceWhy) : Type 0 where
  pub passed : all.passed.items ≡ replicate many Good ++ f.passed.items
  pub halted : all.halted ≡ f.halted

-- What a search says of the programs of a family.
use Rattle.std.specs.Prelude.{◌≡◌, ◌<◌, ℕ, Option, None, Some, length, slice_get}
use Rattle.ls_families.specs.Belonging.{IsPlanOf}
use Rattle.ls_families.specs.Families.{HaveNone, Plan, family_of, plans}
use Rattle.ls_families.specs.declared.menus.MenuSizes.{MenuSizes}
use Rattle.ls_families.specs.declared.shapes.Bounds.{Bounds}
use Rattle.ls_family_search.specs.Judged.{Programs, text_of}
use Rattle.ls_family_search.specs.Searched.{IsFinding, PassedAreGood}
use Rattle.ls_family_search.specs.declared.judging.Passed.TheVariants.{Cut}
use Rattle.ls_family_search.specs.declared.searching.Finding.{Finding}
use Rattle.ls_find.specs.Found.{IsCut, IsSound, IsWhy, Text}
use Rattle.ls_find.specs.declared.explorer.Why.{Why}
use Rattle.ls_find.specs.declared.sought.Sought.{Sought}

-- what a search of a class text's programs from one number to another says
abbrev pub IsFound : Sought → ℕ → Option Text → Text → Programs → ℕ → ℕ → Finding Why → Type 0
IsFound sought states specification classes p from to f =
    IsFinding p (IsSound sought specification classes) (IsCut sought states specification classes)
    (IsWhy sought specification classes) from to f

-- it has gone through all programs, with none that ends it, and none is cut
pub record IsWhole (sought : Sought) (states : ℕ) (specification : Option Text) (classes : Text) (p : Programs)
    (f : Finding Why) : Type 0 where
  pub found : IsFound sought states specification classes p 0 (length (plans p.family)) f
  pub none : f.halted ≡ None
  pub uncut : (k : ℕ) → slice_get f.passed.items k ≡ Some Cut → ⊥

-- Then each program within the bounds is good for what is looked for, doubles too: the history of each of its schedules
-- is linearizable, by what specifies it if that is given, no thread waits or turns for ever, and each history is legal
-- as one of a set.
abbrev pub EachIsSound : Type 0
EachIsSound =
    (z : MenuSizes) (b : Bounds) (sought : Sought) (states : ℕ) (specification : Option Text) (classes : Text)
    (p : Programs) (f : Finding Why) → ¬ HaveNone z → 0 < b.calls → p.family ≡ family_of z b →
    IsWhole sought states specification classes p f → (plan : Plan) → IsPlanOf z b plan →
    IsSound sought specification classes (text_of p plan)

-- Each program that a search has passed from a number on is so, if none up to that one is cut.
abbrev pub PassedAreSound : Sought → Option Text → Text → Programs → ℕ → Finding Why → Type 0
PassedAreSound sought specification classes p from f = PassedAreGood p (IsSound sought specification classes) from f

-- So it is of each range.
abbrev pub EachPassedIsSound : Type 0
EachPassedIsSound =
    (sought : Sought) (states : ℕ) (specification : Option Text) (classes : Text) (p : Programs) (from to : ℕ)
    (f : Finding Why) → IsFound sought states specification classes p from to f →
    PassedAreSound sought specification classes p from f

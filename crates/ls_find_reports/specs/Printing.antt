-- The text of what is found.
use Rattle.std.specs.Prelude.{ℕ, zero, suc, ◌+◌, Bool, true, false, List, [], ◌∷◌, ◌++◌, Option, Some, None, codes}
use Rattle.std.specs.Prelude.{count_by}
use Rattle.std.specs.Prelude.{position}
use Rattle.std.specs.Fmt.{decimal}
use Rattle.ls_family_search.specs.Judged.{Text}
use Rattle.ls_family_search.specs.declared.judging.Passed.{Passed}
use Rattle.ls_family_search.specs.declared.judging.Passed.TheVariants as passed
use Rattle.ls_find_reports.specs.declared.figures.Figures.{Figures}

abbrev pub is_double : Passed → Bool
is_double passed.Double = true
is_double passed.Good = false
is_double passed.Cut = false

abbrev pub is_cut : Passed → Bool
is_cut passed.Double = false
is_cut passed.Good = false
is_cut passed.Cut = true

-- the number of the one at a place after so many numbers; 0 if there is none
abbrev pub number_after : ℕ → Option ℕ → ℕ
number_after before None = 0
number_after before (Some i) = before + i + 1

-- What is counted of a range of numbers: the first comes after so many, the last is this, and so many are all. Those
-- that were passed are the first of them.
abbrev pub figures_of : ℕ → ℕ → ℕ → List Passed → Figures
figures_of before to count ps = record {
  from = before + 1;
  to = to;
  count = count;
  doubles = count_by is_double ps;
  cut = count_by is_cut ps;
  first = number_after before (position is_cut ps);
}

-- as ` from number 37 on`, if some are cut
abbrev pub first_text : ℕ → ℕ → Text
first_text zero first = []
first_text (suc cut) first = codes " from number " ++ (decimal first ++ codes " on")

-- as `// numbers 1 to 84 of 84 with 3 doubles and 2 cut from number 37 on`
abbrev pub figures_line : Figures → Text
figures_line f =
    codes "// numbers " ++ (decimal f.from ++ (codes " to " ++ (decimal f.to ++ (codes " of " ++ (decimal f.count
    ++ (codes " with " ++ (decimal f.doubles ++ (codes " doubles and " ++ (decimal f.cut ++ (codes " cut" ++
    first_text f.cut f.first))))))))))

-- as `// number 14 of 84: `, before the reason
abbrev pub number_text : ℕ → ℕ → Text
number_text number count = codes "// number " ++ (decimal number ++ (codes " of " ++ (decimal count ++ codes ": ")))

-- none is found; if some are cut, that is said only of what was explored
abbrev pub none_line : ℕ → Text
none_line zero = codes "// none"
none_line (suc cut) = codes "// none in what was explored"

-- The number of the program that is found, and why; what is counted; the program, below a line of a comment if there is
-- one; and the schedule as another part.
abbrev pub found_text : Figures → ℕ → Text → Text → Text → Text
found_text f number reason program schedule =
    number_text number f.count ++ (reason ++ (10 ∷ (figures_line f ++ (10 ∷ (program ++ (codes "%%\n" ++ schedule))))))

abbrev pub none_text : Figures → Text
none_text f = none_line f.cut ++ (10 ∷ (figures_line f ++ 10 ∷ []))

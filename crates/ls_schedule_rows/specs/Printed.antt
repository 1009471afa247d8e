-- Schedules as texts. The setup is thread 0, A thread 1, B thread 2.
use Rattle.std.specs.Prelude.{◌≡◌, ℕ, List, [], ◌∷◌, ◌++◌, codes}
use Rattle.ls_schedule.specs.Printing.{schedule_text}
use Rattle.ls_schedule_rows.specs.Said.{names}

-- the steps are this text and a line feed; `@2` comes first
abbrev pub IsPrinted : List ℕ → List ℕ → Type 0
IsPrinted steps text = schedule_text names steps ≡ text ++ 10 ∷ []

abbrev pub NoSteps : Type 0
NoSteps = IsPrinted [] (codes "@2")

-- neighbouring steps of one thread are one item; the count 1 isn't written
abbrev pub StepsInARow : Type 0
StepsInARow =
    IsPrinted (1 ∷ []) (codes "@2 A")
    × IsPrinted (1 ∷ 1 ∷ 2 ∷ 1 ∷ []) (codes "@2 A*2 B A")
    × IsPrinted (1 ∷ 1 ∷ 2 ∷ 1 ∷ 1 ∷ 2 ∷ 1 ∷ 2 ∷ []) (codes "@2 A*2 B A*2 B A B")
    × IsPrinted (2 ∷ 2 ∷ 2 ∷ 2 ∷ 2 ∷ 2 ∷ 2 ∷ 2 ∷ 2 ∷ 2 ∷ 2 ∷ []) (codes "@2 B*11")

abbrev pub NamesByNumber : Type 0
NamesByNumber = IsPrinted (0 ∷ 1 ∷ 2 ∷ []) (codes "@2 setup A B")

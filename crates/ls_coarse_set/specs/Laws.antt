-- The list with one lock is a set.
use Rattle.std.specs.Prelude.{◌≡◌, ◌⊎◌, ◌∷◌, ℕ, pos, int_lt, true, List, [], codes}
use Rattle.ls_events.specs.declared.value.Value.{Value}
use Rattle.ls_events.specs.declared.value.Value.TheVariants as values
use Rattle.ls_checked.specs.CheckedProgram.{ThreadProgram, ProgramCall, Making, Calling, SetupName}
use Rattle.ls_meaning.specs.Runs.{source_history}
use Rattle.ls_report.specs.Events.{Text}
use Rattle.ls_explore_reports.specs.Verdicts.{HasLegalOrder}
use Rattle.ls_one_at_a_time.specs.CoarseList.{file, of_list}
use Rattle.ls_legal_laws.specs.Laws.{HasOwnNames}

-- the method with this number is called by its name
abbrev pub IsNameOf : ℕ → Text → Type 0
IsNameOf m text =
    ((m ≡ 2) × (text ≡ codes "add")) ⊎
    (((m ≡ 3) × (text ≡ codes "remove")) ⊎ ((m ≡ 4) × (text ≡ codes "contains")))

-- an int below the greatest one, which the last node has
abbrev pub IsSmallItem : List Value → Type 0
IsSmallItem (values.Int z ∷ []) = int_lt z (pos 2147483647) ≡ true
IsSmallItem _ = ⊥

-- each call is add, remove or contains of one such int, by its name
abbrev pub AreSmallSetCalls : List ProgramCall → Type 0
AreSmallSetCalls [] = Unit {0}
AreSmallSetCalls (Making n c text vs ∷ cs) = ⊥
AreSmallSetCalls (Calling n m text result vs ∷ cs) =
    (n ≡ 0) × IsNameOf m text × IsSmallItem vs × AreSmallSetCalls cs

abbrev pub AllSmallSetCalls : List ThreadProgram → Type 0
AllSmallSetCalls [] = Unit {0}
AllSmallSetCalls (t ∷ ts) = AreSmallSetCalls t.calls × AllSmallSetCalls ts

-- with as many threads and calls as one likes, the history of each schedule has a legal order
abbrev pub CheckedListIsASet : Type 0
CheckedListIsASet =
    (name : SetupName) (text setup : List ℕ) (more : List ProgramCall) (threads : List ThreadProgram) →
    AreSmallSetCalls more → AllSmallSetCalls threads → HasOwnNames (of_list name text setup more threads) →
    (schedule : List ℕ) →
    HasLegalOrder (of_list name text setup more threads)
    (source_history file (of_list name text setup more threads) schedule)

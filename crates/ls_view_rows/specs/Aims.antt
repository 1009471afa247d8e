-- Texts with targets, worked out by hand, that the definitions compute.
use Rattle.std.specs.Prelude.{◌≡◌, ℕ, List, [], ◌∷◌, ◌++◌, replicate, codes, Some, None, Ok, Err}
use Rattle.ls_view_rows.specs.Traces.{one_lock}
use Rattle.ls_schedule.specs.declared.fault.ScheduleFault.TheVariants as schedule
use Rattle.ls_aim.specs.Aims.{aimed, gone_to}
use Rattle.ls_aim.specs.Reading.{Before, Rest, stop_said}
use Rattle.ls_aim.specs.Runs.{run_of}
use Rattle.ls_aim.specs.Texts.{items_of}
use Rattle.ls_aim.specs.declared.fault.AimFault.TheVariants as fault

-- gaps in parentheses and between quotes divide no items, and a first `@2` is none
abbrev pub Divided : Type 0
Divided =
    items_of (codes "@2  A:\"a b\" (A B)*2 A!")
    ≡ (4, codes "A:\"a b\"") ∷ (12, codes "(A B)*2") ∷ (20, codes "A!") ∷ []

abbrev pub Said : Type 0
Said =
    (stop_said (codes "!") ≡ Some Rest)
    × (stop_said (codes ":writes") ≡ Some (Before 0 (codes "writes")))
    × (stop_said (codes ":2:writes") ≡ Some (Before 1 (codes "writes")))
    × (stop_said (codes ":2:\"v: 1\"") ≡ Some (Before 1 (codes "v: 1")))
    × (stop_said (codes ":v:1") ≡ Some (Before 0 (codes "v:1")))

abbrev pub HalfQuoted : Type 0
HalfQuoted =
    (stop_said (codes ":\"v") ≡ None)
    × (stop_said (codes ":\"v\"1") ≡ None)
    × (stop_said (codes ":v\"") ≡ None)
    × (stop_said (codes ":\"\"") ≡ None)
    × (stop_said (codes ":") ≡ None)
    × (stop_said (codes "!1") ≡ None)

-- The setup has seven steps. A call of f has six: its call, two reads round its enter, the lock and its return. The
-- second thread waits for the lock, which the first keeps.
abbrev pub Steps : Type 0
Steps =
    (aimed one_lock (codes "setup! A! B!") ≡ Ok (replicate 7 0 ++ replicate 6 1 ++ replicate 4 2))
    × (aimed one_lock (codes "setup! A:locks B:2:reads (A B)*1") ≡ Ok
    (replicate 7 0 ++ replicate 4 1 ++ replicate 3 2 ++ 1 ∷ 2 ∷ []))

-- a thread that hasn't started, one that ends before, one that waits before, and one that is none
abbrev pub Missed : Type 0
Missed =
    (aimed one_lock (codes "setup*6 A!") ≡ Err (fault.NotStarted 8))
    × (aimed one_lock (codes "setup! A:unlocks") ≡ Err (fault.NotMet 7))
    × (aimed one_lock (codes "setup! A! B:locks") ≡ Err (fault.NotMet 10))
    × (aimed one_lock (codes "setup! C!") ≡ Err (fault.Schedule (schedule.UnknownThread 7)))

-- where there is room for three steps alone
abbrev pub Lost : Type 0
Lost = gone_to one_lock 7 1 (run_of one_lock (replicate 7 0)) Rest (replicate 7 0) 3 ≡ Err (fault.TooFar 7)

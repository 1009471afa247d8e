-- The machine's runs, in the form of runs of anything that steps.
use Rattle.std.proofs.Common.{◌≡◌, ℕ, List, [], ◌∷◌, ◌++◌, refl, ap, ◌∙◌}
use Rattle.ls_meaning.specs.Steps.{Stepped, Moved, Acted, after, traced, run, trace}
use Rattle.ls_code.specs.Machine.{Machine, Entry, machine_step, machine_run, machine_trace}
use Rattle.ls_code.specs.Machine as machine
use Rattle.ls_code.specs.declared.step.Did.{Did}
use Rattle.ls_code.specs.declared.step.Did.TheVariants as did

-- what a step of the machine did, as a step of any run
abbrev pub stepped_so : ℕ → Machine → Did → Stepped Machine Entry
stepped_so t m did.Silent = Moved m
stepped_so t m (did.Acted action answer) = Acted m (record { thread = t; action = action; answer = answer })
stepped_so t m did.Waits = Moved m
stepped_so t m did.Idle = Moved m
stepped_so t m did.Stopped = Moved m

-- the machine as something that steps thread by thread
abbrev pub md : Machine → ℕ → Stepped Machine Entry
md m t = stepped_so t (machine_step m t).machine (machine_step m t).did

after_so : (t : ℕ) (m m' : Machine) (d : Did) → after m (stepped_so t m' d) ≡ m'
after_so t m m' did.Silent = refl
after_so t m m' (did.Acted action answer) = refl
after_so t m m' did.Waits = refl
after_so t m m' did.Idle = refl
after_so t m m' did.Stopped = refl

traced_so : (t : ℕ) (m' : Machine) (d : Did) (rest : List Entry) →
    traced (stepped_so t m' d) rest ≡ machine.traced t d rest
traced_so t m' did.Silent rest = refl
traced_so t m' (did.Acted action answer) rest = refl
traced_so t m' did.Waits rest = refl
traced_so t m' did.Idle rest = refl
traced_so t m' did.Stopped rest = refl

-- its runs are the machine's runs
pub run_is : (ts : List ℕ) (m : Machine) → run md m ts ≡ machine_run m ts
run_is [] m = refl
run_is (t ∷ ts) m = ap (λ z. run md z ts) (after_so t m (machine_step m t).machine (machine_step m t).did) ∙
    run_is ts (machine_step m t).machine

-- its traces are the machine's traces
pub trace_is : (ts : List ℕ) (m : Machine) → trace md m ts ≡ machine_trace m ts
trace_is [] m = refl
trace_is (t ∷ ts) m =
    traced_so t (machine_step m t).machine (machine_step m t).did _
    ∙ ap (λ z. machine.traced t (machine_step m t).did (trace md z ts))
    (after_so t m (machine_step m t).machine (machine_step m t).did)
    ∙ ap (machine.traced t (machine_step m t).did) (trace_is ts (machine_step m t).machine)

-- a run of two schedules, one after the other
pub run-append : (m : Machine) (ts us : List ℕ) → machine_run m (ts ++ us) ≡ machine_run (machine_run m ts) us
run-append m [] us = refl
run-append m (t ∷ ts) us = run-append (machine_step m t).machine ts us

traced-append : (t : ℕ) (d : Did) (xs ys : List Entry) → machine.traced t d (xs ++ ys) ≡ machine.traced t d xs ++ ys
traced-append t did.Silent xs ys = refl
traced-append t (did.Acted action answer) xs ys = refl
traced-append t did.Waits xs ys = refl
traced-append t did.Idle xs ys = refl
traced-append t did.Stopped xs ys = refl

-- a trace of two schedules, one after the other
pub trace-append : (m : Machine) (ts us : List ℕ) →
    machine_trace m (ts ++ us) ≡ machine_trace m ts ++ machine_trace (machine_run m ts) us
trace-append m [] us = refl
trace-append m (t ∷ ts) us =
    ap (machine.traced t (machine_step m t).did) (trace-append (machine_step m t).machine ts us)
    ∙ traced-append t (machine_step m t).did (machine_trace (machine_step m t).machine ts) _

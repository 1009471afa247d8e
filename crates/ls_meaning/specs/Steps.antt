-- Runs of anything that steps thread by thread.
use Rattle.std.specs.Prelude.{ℕ, List, [], ◌∷◌}
use Rattle.ls_events.specs.declared.action.Action.{Action}
use Rattle.ls_events.specs.declared.action.Answer.{Answer}

-- one line of a trace: a thread, its action, and the answer
pub record Entry (V : Type 0) : Type 0 where
  pub thread : ℕ
  pub action : Action V
  pub answer : Answer V

-- what one step of a thread does to the whole state
pub data Stepped (State Line : Type 0) : Type 0 where
  -- nothing changes
  Same : Stepped State Line
  -- the state changes, and no action is performed
  Moved : (after : State) → Stepped State Line
  -- one action is performed
  Acted : (after : State) (line : Line) → Stepped State Line

-- the state after a step
abbrev pub after : {State Line : Type 0} → State → Stepped State Line → State
after s Same = s
after s (Moved s') = s'
after s (Acted s' line) = s'

-- what a step puts before the rest of a trace
abbrev pub traced : {State Line : Type 0} → Stepped State Line → List Line → List Line
traced Same lines = lines
traced (Moved s') lines = lines
traced (Acted s' line) lines = line ∷ lines

-- the state after a schedule
abbrev pub run : {State Line : Type 0} → (State → ℕ → Stepped State Line) → State → List ℕ → State
run does s [] = s
run does s (t ∷ ts) = run does (after s (does s t)) ts

-- the actions that a schedule performs, in order
abbrev pub trace : {State Line : Type 0} → (State → ℕ → Stepped State Line) → State → List ℕ → List Line
trace does s [] = []
trace does s (t ∷ ts) = traced (does s t) (trace does (after s (does s t)) ts)

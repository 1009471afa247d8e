-- Which threads are due, runs of one step more, and why no due step is idle.
use Rattle.std.proofs.Common.{◌≡◌, ◌≢◌, ℕ, List, [], ◌∷◌, ◌++◌, Option, Some, None, Bool, true, false, slice_get, refl}
use Rattle.std.specs.Prelude.{◌||◌, ◌&&◌, ◌==◌, if◌then◌else◌}
use Rattle.ls_code.specs.Cells.{Answers, Cells, Effect, Stops, Unfit, Waits, effect}
use Rattle.ls_code.specs.Exchanges.{Plan, Quietly, Reports, Says, Seen, Stores, Touches}
use Rattle.ls_code.specs.Machine.{Machine, due_step, is_due, is_running, machine_run, machine_state, machine_step}
use Rattle.ls_code.specs.Machine.{mode_state, open_step, running_state, setup_ended, state_in, step_of}
use Rattle.ls_code.specs.Steps.{Asks, Move, Plans, Silent, Still, ended_so, performed, planned, replied, seen_outcome}
use Rattle.ls_code.specs.Steps.{settled, thread_move, touched}
use Rattle.ls_code.specs.Thread.{Thread}
use Rattle.ls_code.specs.declared.step.Did.TheVariants as did
use Rattle.ls_code.specs.declared.step.Mode.{Mode}
use Rattle.ls_code.specs.declared.step.Mode.TheVariants as mode
use Rattle.ls_code.specs.declared.step.ThreadState.{ThreadState}
use Rattle.ls_code.specs.declared.step.ThreadState.TheVariants as state
use Rattle.ls_events.specs.declared.action.Action.{Action}
use Rattle.ls_events.specs.declared.action.Answer.{Answer}
use Rattle.ls_events.specs.declared.action.Answer.TheVariants.{Done, Fails, Gives}
use Rattle.ls_live.specs.Answers.{is_final, is_not_started, is_over, is_trapped}
use Rattle.ls_live.specs.Due.{AreDue, DueIsNotIdle}

running_state_of : (s : ThreadState) (b : Bool) →
    (is_final s || b) ≡ false →
    is_not_started s ≡ false →
    s ≡ state.Running
running_state_of state.NotStarted b h k = absurd (cc)
running_state_of state.Running b h k = refl
running_state_of state.Ended b h k = absurd (cc)
running_state_of state.Trapped b h k = absurd (cc)
running_state_of state.Stopped b h k = absurd (cc)

-- a thread that isn't over, and has started, is due
pub is_due_now : (m : Machine) (t : ℕ) →
    is_over m t ≡ false →
    is_not_started (machine_state m t) ≡ false →
    machine_state m t ≡ state.Running
unfolding is_over
is_due_now m t h k = running_state_of (machine_state m t) (is_trapped (machine_state m 0)) h k

-- due steps, and one more
pub due_more : (m : Machine) (ns : List ℕ) (n : ℕ) →
    AreDue m ns →
    machine_state (machine_run m ns) n ≡ state.Running →
    AreDue m (ns ++ n ∷ [])
due_more m [] n d h = (h, tt)
due_more m (x ∷ ns) n d h = (d.0, due_more (machine_step m x).machine ns n d.1 h)

-- ---- why no due step is idle

replied_acts : (c : Cells) (t : Thread) (action : Action ℕ) (answer : Answer ℕ) (o : Option Thread) →
    (replied c t action answer o).did ≢ did.Idle
replied_acts c t action answer None = λ e. absurd (cc)
replied_acts c t action answer (Some s) = λ e. absurd (cc)

settled_acts : (c : Cells) (t : Thread) (action : Action ℕ) (go : Answer ℕ → Option Thread) (e : Effect) →
    (settled c t action go e).did ≢ did.Idle
settled_acts c t action go (Answers d answer) = replied_acts d t action answer (go answer)
settled_acts c t action go Waits = λ e. absurd (cc)
settled_acts c t action go Stops = λ e. absurd (cc)
settled_acts c t action go Unfit = λ e. absurd (cc)

quiet_acts : (c : Cells) (t : Thread) (o : Option Thread) → (ended_so c t o did.Silent).did ≢ did.Idle
quiet_acts c t None = λ e. absurd (cc)
quiet_acts c t (Some s) = λ e. absurd (cc)

reported_acts : (c : Cells) (t : Thread) (action : Action ℕ) (answer : Answer ℕ) (o : Option Thread) →
    (ended_so c t o (did.Acted action answer)).did ≢ did.Idle
reported_acts c t action answer None = λ e. absurd (cc)
reported_acts c t action answer (Some s) = λ e. absurd (cc)

seen_acts : (c : Cells) (t : Thread) (s : Seen) → (seen_outcome c t s).did ≢ did.Idle
seen_acts c t (Quietly s) = quiet_acts c t s
seen_acts c t (Reports action answer s) = reported_acts c t action answer s

touched_acts : (c : Cells) (t : Thread) (go : ℕ → Seen) (e : Effect) → (touched c t go e).did ≢ did.Idle
touched_acts c t go (Answers d Done) = seen_acts d t (go 0)
touched_acts c t go (Answers d (Gives word)) = seen_acts d t (go word)
touched_acts c t go (Answers d (Fails kind)) = λ e. absurd (cc)
touched_acts c t go Waits = λ e. absurd (cc)
touched_acts c t go Stops = λ e. absurd (cc)
touched_acts c t go Unfit = λ e. absurd (cc)

planned_acts : (c : Cells) (n : ℕ) (t : Thread) (p : Plan) → (planned c n t p).did ≢ did.Idle
planned_acts c n t (Says seen) = seen_acts c t seen
planned_acts c n t (Touches operation touch go) = touched_acts c t go (effect c n touch)
planned_acts c n t (Stores touch seen) = touched_acts c t (λ word. seen) (effect c n touch)

performed_acts : (c : Cells) (n : ℕ) (t : Thread) (m : Move) → (performed c n t m).did ≢ did.Idle
performed_acts c n t (Silent s) = λ e. absurd (cc)
performed_acts c n t Still = λ e. absurd (cc)
performed_acts c n t (Asks action go) = settled_acts c t action go (effect c n action)
performed_acts c n t (Plans go) = planned_acts c n t (go n)

due_where_running : (mo : Mode) (b : Bool) →
    (if b then mode_state mo else state.NotStarted) ≡ state.Running →
    (is_running mo && b) ≡ true
due_where_running mode.Running true h = refl
due_where_running mode.Ended true h = absurd (cc)
due_where_running mode.Trapped true h = absurd (cc)
due_where_running mo false h = absurd (cc)

due_acts : (m : Machine) (n : ℕ) (t : Thread) (b : Bool) → b ≡ true → (due_step m n t b).did ≢ did.Idle
due_acts m n t true h = performed_acts m.cells n t (thread_move m.code t)
due_acts m n t false h = absurd (cc)

open_acts : (m : Machine) (n : ℕ) (t : Thread) (b : Bool) →
    (if b then state.Stopped else running_state m n t) ≡ state.Running →
    (open_step m n t b).did ≢ did.Idle
open_acts m n t true h = absurd (cc)
open_acts m n t false h = due_acts m n t (is_due m.threads n t)
    (due_where_running t.mode (n == 0 || setup_ended (slice_get m.threads 0)) h)

there_acts : (m : Machine) (n : ℕ) (o : Option Thread) → state_in m n o ≡ state.Running → (step_of m n o).did ≢ did.Idle
there_acts m n None h = absurd (cc)
there_acts m n (Some t) h = open_acts m n t m.stopped h

-- the law: a step that is due is not idle
pub none_is_idle : DueIsNotIdle
none_is_idle m [] d = tt
none_is_idle m (n ∷ ns) d = (there_acts m n (slice_get m.threads n) d.0, none_is_idle (machine_step m n).machine ns d.1)

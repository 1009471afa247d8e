-- A machine of which no thread takes steps.
use Rattle.std.proofs.Common.{◌≡◌, ◌∙◌, ◌<◌, ◌≤◌, ◌+◌, ◌/◌, ◌%◌, ℕ, zero, suc, Bool, true, false, true≢false, ◌||◌}
use Rattle.std.proofs.Common.{◌&&◌, ◌==◌, [], ◌∷◌, Option, Some, None, refl, sym, ap, subst, arith, inl, inr}
use Rattle.std.specs.Prelude.{All, slice_get, if◌then◌else◌}
use Rattle.std.proofs.lemmas.List.Elements.{All-cons, All-head, All-nil, All-tail}
use Rattle.std.proofs.lemmas.Bool.{cases_lt}
use Rattle.std.proofs.lemmas.Nat.{mod_below}
use Rattle.rand_xoshiro.specs.SplitMix64.{mix_u64}
use Rattle.ls_code.specs.Machine.{due_step, Machine, machine_run, machine_state, machine_step, mode_state, open_step}
use Rattle.ls_code.specs.Machine.{running_state, setup_ended, state_in, step_of, is_running}
use Rattle.ls_code.specs.Thread.{Thread}
use Rattle.ls_code.specs.declared.step.Mode.{Mode}
use Rattle.ls_code.specs.declared.step.Mode.TheVariants as mode
use Rattle.ls_code.specs.declared.step.ThreadState.TheVariants as state
use Rattle.ls_batch.specs.Ended.{IsOver, IsThread, OverStays, takes_steps}
use Rattle.ls_batch.specs.Samples.{draws, next_thread, sample_of}
use Rattle.ls_batch.specs.declared.samples.Sampler.{Sampler}

not_due : (m : Machine) (n : ℕ) (t : Thread) (set : Bool) (k : Mode) →
    takes_steps (if set then mode_state k else state.NotStarted) ≡ false
    → (due_step m n t (is_running k && set)).machine ≡ m
not_due m n t false mode.Running h = refl
not_due m n t true mode.Running h = absurd (true≢false h)
not_due m n t set mode.Ended h = refl
not_due m n t set mode.Trapped h = refl

not_open : (m : Machine) (n : ℕ) (t : Thread) (b : Bool) →
    takes_steps (if b then state.Stopped else running_state m n t) ≡ false →
    (open_step m n t b).machine ≡ m
not_open m n t true h = refl
not_open m n t false h = not_due m n t (n == 0 || setup_ended (slice_get m.threads 0)) t.mode h

no_step : (m : Machine) (n : ℕ) (o : Option Thread) → takes_steps (state_in m n o) ≡ false → (step_of m n o).machine ≡ m
no_step m n None h = refl
no_step m n (Some t) h = not_open m n t m.stopped h

-- a thread that doesn't take steps changes nothing
rests : (m : Machine) (n : ℕ) → takes_steps (machine_state m n) ≡ false → (machine_step m n).machine ≡ m
rests m n h = no_step m n (slice_get m.threads n) h

pub over_stays : OverStays
over_stays m threads [] over all = refl
over_stays m threads (n ∷ ns) over all =
    let one = All-head (IsThread threads) n ns all in
    ap (λ (s : Machine). machine_run s ns) (rests m n (over n one.0 one.1)) ∙
    over_stays m threads ns over (All-tail (IsThread threads) n ns all)

-- ---- the threads that are drawn

drawn_thread : (b : Bool) (threads number last : ℕ) →
    0 < threads →
    last ≤ threads →
    ((last == 0) ≡ false → 0 < last) →
    (w : Bool) →
    (last == 0 || w) ≡ b
    → IsThread threads (if b then 1 + number % threads else last)
drawn_thread true threads number last some there past w e = let below = mod_below number threads some in
    (omega arith, omega arith)
drawn_thread false threads number last some there past w e = (past (first (last == 0) e), there)
  where
    first : (b : Bool) → (b || w) ≡ false → b ≡ false
    first true e = e
    first false e = refl

not_zero : (n : ℕ) → (n == 0) ≡ false → 0 < n
not_zero zero e = absurd cc
not_zero (suc n) e = omega arith

pub next_is_thread : (threads switch last word : ℕ) →
    0 < threads →
    last ≤ threads →
    IsThread threads (next_thread threads switch last word)
next_is_thread threads switch last word some there =
    drawn_thread (last == 0 || word % switch == 0) threads (word / switch) last some there (not_zero last)
    (word % switch == 0) refl

pub draws_are_threads : (threads switch last n x : ℕ) →
    0 < threads →
    last ≤ threads →
    All (IsThread threads) (draws threads switch last n x)
unfolding draws
draws_are_threads threads switch last zero x some there = All-nil (IsThread threads)
draws_are_threads threads switch last (suc n) x some there =
    let next = next_thread threads switch last (mix_u64 x).0 in
    let is = next_is_thread threads switch last (mix_u64 x).0 some there in
    All-cons (IsThread threads) next (draws threads switch next n (mix_u64 x).1) is
    (draws_are_threads threads switch next n (mix_u64 x).1 some is.1)

-- a run that is over is done
pub over_run : (threads switch last n x : ℕ) (m all : Machine) →
    0 < threads →
    last ≤ threads →
    IsOver m threads →
    machine_run m (draws threads switch last n x) ≡ all →
    m ≡ all
over_run threads switch last n x m all some there over h =
    sym (over_stays m threads (draws threads switch last n x) over
    (draws_are_threads threads switch last n x some there)) ∙ h

-- a thread more doesn't take steps
pub one_over : (m : Machine) (k : ℕ) → IsOver m k → takes_steps (machine_state m (k + 1)) ≡ false → IsOver m (k + 1)
one_over m k over last t some le = elim (cases_lt k t) [
  | inl past ↦ subst (λ (n : ℕ). takes_steps (machine_state m n) ≡ false) (omega (arith, past, le)) last
  | inr within ↦ over t some within
]

pub sample_is : (threads seed : ℕ) (d : Sampler) →
    0 < threads →
    draws threads d.switch 0 d.steps seed ≡ sample_of seed threads d
sample_is zero seed d some = absurd (omega arith)
sample_is (suc threads) seed d some = refl

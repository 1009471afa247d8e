-- A machine whose setup has ended, and which hasn't stopped, stays so in a burst.
use Rattle.std.proofs.Common.{◌≡◌, ℕ, zero, suc, Bool, true, false, ◌&&◌, Option, Some, None, refl, sym, ap}
use Rattle.std.proofs.Common.{◌∙◌, slice_get, slice_set}
use Rattle.ls_code.specs.Thread.{Thread}
use Rattle.ls_code.specs.Steps.{performed, thread_move}
use Rattle.ls_code.specs.Machine.{Machine, has_ended, is_running, is_due, setup_ended, stops, due_step}
use Rattle.ls_code.specs.Machine.{open_step, step_of, machine_step}
use Rattle.ls_code.specs.declared.step.Mode.{Mode}
use Rattle.ls_code.specs.declared.step.Mode.TheVariants as mode
use Rattle.ls_code.specs.declared.step.Did.{Did}
use Rattle.ls_code.specs.declared.step.Did.TheVariants as did
use Rattle.ls_preservation.proofs.Lists.{set_other}
use Rattle.ls_explore.specs.Bursts.{acted_or, burst}

pub record IsReady (m : Machine) : Type 0 where
  pub goes : m.stopped ≡ false
  pub ready : setup_ended (slice_get m.threads 0) ≡ true

over_not_running : (z : Mode) (b : Bool) → has_ended z ≡ true → (is_running z && b) ≡ true → ⊥
over_not_running mode.Running b h g = cc
over_not_running mode.Ended b h g = cc
over_not_running mode.Trapped b h g = cc

module _ (m : Machine) (h : IsReady m) where
  -- a thread that is due isn't the setup
  setup_stays : (t : ℕ) (x x' : Thread) →
      slice_get m.threads t ≡ Some x →
      is_due m.threads t x ≡ true →
      setup_ended (slice_get (slice_set m.threads t x') 0) ≡ true
  setup_stays zero x x' there due =
      let e : has_ended x.mode ≡ true = ap setup_ended (sym there) ∙ h.ready in
      absurd (over_not_running x.mode _ e due)
  setup_stays (suc t) x x' there due = ap setup_ended (set_other m.threads (suc t) 0 x' (λ e. absurd cc)) ∙ h.ready

  by_due : (t : ℕ) (x : Thread) →
      slice_get m.threads t ≡ Some x →
      (b : Bool) →
      is_due m.threads t x ≡ b →
      stops (due_step m t x b).did ≡ false →
      IsReady (due_step m t x b).machine
  by_due t x there false due goes = h
  by_due t x there true due goes = record {
    goes = goes;
    ready = setup_stays t x
        (performed m.cells t x (thread_move m.code x)).thread there due;
  }

  by_stopped : (t : ℕ) (x : Thread) →
      slice_get m.threads t ≡ Some x →
      (b : Bool) →
      stops (open_step m t x b).did ≡ false →
      IsReady (open_step m t x b).machine
  by_stopped t x there true goes = absurd cc
  by_stopped t x there false goes = by_due t x there (is_due m.threads t x) refl goes

  by_thread : (t : ℕ) (o : Option Thread) →
      slice_get m.threads t ≡ o →
      stops (step_of m t o).did ≡ false →
      IsReady (step_of m t o).machine
  by_thread t None there goes = h
  by_thread t (Some x) there goes = by_stopped t x there m.stopped goes

  pub ready_step : (t : ℕ) → stops (machine_step m t).did ≡ false → IsReady (machine_step m t).machine
  ready_step t goes = by_thread t (slice_get m.threads t) refl goes

by_did : (m m' : Machine) (t : ℕ) (rest : Option Machine) →
    IsReady m →
    (IsReady (machine_step m t).machine → rest ≡ Some m' → IsReady m') →
    (d : Did) →
    (machine_step m t).did ≡ d →
    acted_or d (machine_step m t).machine rest ≡ Some m' →
    IsReady m'
by_did m m' t rest h more (did.Acted a x) e is = subst_ready (ready_step m h t (ap stops e)) (some_is is)
  where
    some_is : {A : Type 0} {x y : A} → Some x ≡ Some y → x ≡ y
    some_is h = cc

    subst_ready : {a b : Machine} → IsReady a → a ≡ b → IsReady b
    subst_ready r e = record {
      goes = ap (λ (z : Machine). z.stopped) (sym e) ∙ r.goes;
      ready = ap (λ (z : Machine). setup_ended (slice_get z.threads 0)) (sym e) ∙ r.ready;
    }
by_did m m' t rest h more did.Silent e is = more (ready_step m h t (ap stops e)) is
by_did m m' t rest h more did.Waits e is = absurd cc
by_did m m' t rest h more did.Idle e is = absurd cc
by_did m m' t rest h more did.Stopped e is = absurd cc

pub ready_burst : (n : ℕ) (m m' : Machine) (t : ℕ) → IsReady m → burst n m t ≡ Some m' → IsReady m'
unfolding burst
ready_burst zero m m' t h is = absurd cc
ready_burst (suc n) m m' t h is =
    by_did m m' t (burst n (machine_step m t).machine t) h (λ g more.
    ready_burst n (machine_step m t).machine m' t g more) (machine_step m t).did refl is

-- The next steps of a thread alone, with cells that none of them changes until it acts.
use Rattle.std.proofs.Common.{◌≡◌, ◌≤◌, ◌⊎◌, inl, inr, ℕ, zero, suc, Bool, true, false, not, Option, Some, refl, ap}
use Rattle.std.proofs.Common.{◌∙◌, arith, nat_eq, slice_get}
use Rattle.ls_events.specs.declared.action.Action.{Action}
use Rattle.ls_events.specs.declared.action.Answer.{Answer}
use Rattle.ls_code.specs.Code.{Code}
use Rattle.ls_code.specs.Thread.{Thread}
use Rattle.ls_code.specs.Cells.{Cells, Answers, Waits, Stops, effect}
use Rattle.ls_code.specs.Steps.{Asks as MoveAsks, step_result, settled, replied, performed, thread_move}
use Rattle.ls_code.specs.Machine.{Machine}
use Rattle.ls_code.specs.Machine as machine
use Rattle.ls_code.specs.declared.step.Mode.TheVariants as mode
use Rattle.ls_code.specs.declared.step.Did.{Did}
use Rattle.ls_code.specs.declared.step.Did.TheVariants as did
use Rattle.ls_preservation.specs.Parts.{one}
use Rattle.ls_preservation.proofs.Lists.{set_same}
use Rattle.ls_preservation.specs.Acting.{acts_or_stops, or_later, first_did}
use Rattle.ls_preservation.proofs.Quieted.{Ready, step_is, silent_step, still_ready}

-- a step that acts; or, if there is no room, a step that stops the machine
abbrev pub Acting : Bool → Did → Type 0
Acting r d = acts_or_stops r d ≡ true

acting_now : (r : Bool) (d later : Did) → Acting r d → Acting r (or_later d later)
acting_now r (did.Acted a y) later e = refl
acting_now r did.Stopped later e = e
acting_now r did.Silent later e = cc
acting_now r did.Waits later e = cc
acting_now r did.Idle later e = cc

-- the effect of an action: it is answered and the thread goes on, or there is no room in the cells
pub data Replies (r : Bool) (c : Cells) (t : ℕ) (b : Action ℕ) (go : Answer ℕ → Option Thread) : Type 0 where
  Goes : (d : Cells) (w : Answer ℕ) (x : Thread) → effect c t b ≡ Answers d w → go w ≡ Some x → Replies r c t b go
  Ends : r ≡ false → effect c t b ≡ Stops → Replies r c t b go

same_answer : (d e : Cells) (v w : Answer ℕ) → Answers d v ≡ Answers e w → v ≡ w
same_answer d e v w h = cc

module _ (r : Bool) (c : Cells) (t : ℕ) (b : Action ℕ) (go : Answer ℕ → Option Thread) where
  -- if the answer is known, the thread goes on with it
  pub goes_on : (d : Cells) (w : Answer ℕ) →
      effect c t b ≡ Answers d w →
      Replies r c t b go →
      (x : Thread) × (go w ≡ Some x)
  goes_on d w e (Goes d' w' x ee eg) = let h : Answers d w ≡ Answers d' w' =
      (let q : effect c t b ≡ Answers d' w' = ee in cc) in (x, ap go (same_answer d d' w w' h) ∙ eg)
  goes_on d w e (Ends er ee) = cc

  -- an action that is answered, or that stops the machine, doesn't wait
  pub waits_not : effect c t b ≡ Waits → Replies r c t b go → ⊥
  waits_not e (Goes d w x ee eg) = cc
  waits_not e (Ends er ee) = cc

module _ (r : Bool) (code : Code) (t : ℕ) where
  -- within n steps, all silent but the last, the thread acts or stops the machine
  abbrev pub Comes : Cells → ℕ → Thread → Type 0
  Comes c zero x = ⊥
  Comes c (suc n) x = (x.mode ≡ mode.Running) × (Acting r (one code t c x).did ⊎
      ((x' : Thread) × (one code t c x ≡ step_result x' c did.Silent) × Comes c n x'))

  -- with more steps it is reached too
  pub longer : (c : Cells) (n k : ℕ) (x : Thread) → n ≤ k → Comes c n x → Comes c k x
  longer c zero k x le h = absurd h
  longer c (suc n) zero x le h = absurd (omega arith)
  longer c (suc n) (suc k) x le (runs, inl acts) = (runs, inl acts)
  longer c (suc n) (suc k) x le (runs, inr (x', e, h)) = (runs, inr (x', e, longer c n k x' (omega arith) h))

  -- an action by one instruction
  pub plain : (c : Cells) (x : Thread) (b : Action ℕ) (go : Answer ℕ → Option Thread) →
      thread_move code x ≡ MoveAsks b go →
      Replies r c t b go →
      Acting r (one code t c x).did
  plain c x b go em (Goes d w x' ee eg) =
      ap (λ z. acts_or_stops r (performed c t x z).did) em ∙ ap (λ z. acts_or_stops r (settled c x b go z).did) ee ∙
      ap (λ z. acts_or_stops r (replied d x b w z).did) eg
  plain c x b go em (Ends er ee) =
      ap (λ z. acts_or_stops r (performed c t x z).did) em ∙ ap (λ z. acts_or_stops r (settled c x b go z).did) ee ∙
      ap not er

  -- so it is in a machine with these cells
  pub acts_first : (n : ℕ) (m : Machine) (x : Thread) →
      m.code ≡ code →
      m.stopped ≡ false →
      Ready code t m →
      slice_get m.threads t ≡ Some x →
      Comes m.cells n x →
      Acting r (first_did n m t)
  acts_first zero m x image goes ready there h = absurd h
  acts_first (suc n) m x image goes ready there (runs, inl acts) =
      ap (λ (z : machine.Stepped). acts_or_stops r (or_later z.did (first_did n z.machine t)))
      (step_is code t m x image goes runs ready there)
      ∙ acting_now r (one code t m.cells x).did _ acts
  acts_first (suc n) m x image goes ready there (runs, inr (x', e, h)) =
      ap (λ (z : machine.Stepped). acts_or_stops r (or_later z.did (first_did n z.machine t)))
      (silent_step code t m x x' image goes runs ready there e)
      ∙ acts_first n (machine.after m t (step_result x' m.cells did.Silent)) x' image refl
      (still_ready code t m x' (nat_eq t 0) refl ready) (set_same m.threads t x x' there) h

-- The example's source asks for actions on things and values of the right types.
use Rattle.std.proofs.Common.{◌≡◌, ◌≢◌, ℕ, zero, suc, List, [], ◌∷◌, None, refl, sym, subst, arith}
use Rattle.ls_events.specs.declared.value.Value.{Value}
use Rattle.ls_events.specs.declared.value.Value.TheVariants.{Int, Boolean, Reference, Pair}
use Rattle.ls_events.specs.declared.value.ValueType.{ValueType}
use Rattle.ls_events.specs.declared.value.ValueType.TheVariants as type
use Rattle.ls_events.specs.declared.action.Action.{Action}
use Rattle.ls_events.specs.declared.action.Answer.{Answer}
use Rattle.ls_events.specs.declared.action.Answer.TheVariants.{Done as Did, Gives, Fails}
use Rattle.ls_meaning.specs.declared.sort.Sort.{Sort}
use Rattle.ls_meaning.specs.declared.sort.Sort.TheVariants.{NoValue, NewOf}
use Rattle.ls_meaning.specs.Course.{Answers}
use Rattle.ls_meaning.specs.Methods.{invoke, depth_limit}
use Rattle.ls_meaning.specs.Threads.{Next, Goes, Ended, Trapped, next}
use Rattle.ls_preservation.specs.Sorts.{Refers, Suits, Known, ActionHas}
use Rattle.ls_preservation.specs.Threads.{IsSound}
use Rattle.ls_preservation.specs.Example.{file, program}
use Rattle.ls_checked.specs.declared.tree.Called.TheVariants.{LockIt}
use Rattle.ls_checked.specs.CheckedTree.{Slot, Call, MakeLock, End, Block, SetSlot, Evaluate, Done, Then}
use Rattle.ls_checked.specs.CheckedProgram.{Making, Calling}
use Rattle.ls_meaning.specs.Constants.{UsesConstants, CallsHaveConstants, FileHasConstants, ProgramHasConstants}
use Rattle.ls_preservation.proofs.Example.{next_on, next_further}

some : (n : ℕ) → suc n ≢ 0
some n e = absurd (omega arith)

-- the right types
abbrev HoldsAt : List ValueType → ℕ → Next → Type 0
HoldsAt σ t (Goes a s) = ActionHas file program σ t a s
HoldsAt σ t Ended = Unit {0}
HoldsAt σ t Trapped = Unit {0}

setup_holds : (σ : List ValueType) (had : Answers) → Known file program σ 0 had → HoldsAt σ 0 (next file program 0 had)
unfolding invoke depth_limit
setup_holds σ [] h = refl
setup_holds σ (x ∷ []) h = (omega arith, refl)
setup_holds σ (x ∷ (Gives (Reference n) ∷ [])) h = refl
setup_holds σ (x ∷ (Gives (Reference n) ∷ (y ∷ []))) h = (type.Class 0, refl, h.1.0.1, refl)
setup_holds σ (x ∷ (Gives (Reference n) ∷ (y ∷ (z ∷ [])))) h = (tt, refl)
setup_holds σ (x ∷ (Gives (Reference n) ∷ (y ∷ (z ∷ (w ∷ rest))))) h = tt
setup_holds σ (x ∷ (Gives (Int z) ∷ rest)) h = absurd h.1.0
setup_holds σ (x ∷ (Gives (Boolean b) ∷ rest)) h = absurd h.1.0
setup_holds σ (x ∷ (Gives (Pair n m) ∷ rest)) h = absurd h.1.0
setup_holds σ (x ∷ (Did ∷ rest)) h = let e = h.1.0 in absurd (cc)
setup_holds σ (x ∷ (Fails k ∷ rest)) h = absurd h.1.0

module _ (σ : List ValueType) where
  at : (t : ℕ) (d e : Next) → d ≡ e → HoldsAt σ t e → HoldsAt σ t d
  at t d e p h = subst (HoldsAt σ t) (sym p) h

  suits_at : (d e : Next) (x : Answer Value) → d ≡ e → Suits (Refers σ) d x → Suits (Refers σ) e x
  suits_at d e x p h = subst (λ z. Suits (Refers σ) z x) p h

  lock_holds : (x y : Answer Value) (n k : ℕ) (rest : Answers) →
      Refers σ (suc k) type.Lock →
      HoldsAt σ 1 (next file program 1 (x ∷ (Gives (Reference (suc n)) ∷ (y ∷ (Gives (Reference (suc k)) ∷ rest)))))
  lock_holds x y n k [] g = at 1 _ _ (next_further x y (suc n) (suc k) [] (some n) (some k)) (g, refl)
  lock_holds x y n k (Did ∷ []) g = at 1 _ _ (next_further x y (suc n) (suc k) (Did ∷ []) (some n) (some k)) (tt, refl)
  lock_holds x y n k (Did ∷ (w ∷ rest)) g = at 1 _ _ (next_further x y (suc n) (suc k) (Did ∷ (w ∷ rest)) (some n)
      (some k)) tt
  lock_holds x y n k (Gives v ∷ []) g = at 1 _ _ (next_further x y (suc n) (suc k) (Gives v ∷ []) (some n) (some k))
      (tt, refl)
  lock_holds x y n k (Gives v ∷ (w ∷ rest)) g = at 1 _ _ (next_further x y (suc n) (suc k) (Gives v ∷ (w ∷ rest))
      (some n) (some k)) tt
  lock_holds x y n k (Fails e ∷ []) g = at 1 _ _ (next_further x y (suc n) (suc k) (Fails e ∷ []) (some n) (some k))
      refl
  lock_holds x y n k (Fails e ∷ (w ∷ rest)) g = at 1 _ _ (next_further x y (suc n) (suc k) (Fails e ∷ (w ∷ rest))
      (some n) (some k)) tt

  work_holds : (had : Answers) → Known file program σ 1 had → HoldsAt σ 1 (next file program 1 had)
  unfolding invoke depth_limit
  work_holds [] h = refl
  work_holds (x ∷ []) h = (type.Class 0, refl, refl)
  work_holds (x ∷ (Gives (Reference zero) ∷ [])) h = refl
  work_holds (x ∷ (Gives (Reference zero) ∷ (y ∷ rest))) h = tt
  work_holds (x ∷ (Gives (Reference (suc n)) ∷ [])) h = at 1 _ _ (next_on x (suc n) [] (some n)) refl
  work_holds (x ∷ (Gives (Reference (suc n)) ∷ (y ∷ []))) h = at 1 _ _ (next_on x (suc n) (y ∷ []) (some n)) refl
  work_holds (x ∷ (Gives (Reference (suc n)) ∷ (y ∷ (Gives (Reference zero) ∷ rest)))) h = absurd
      ((suits_at _ _ (Gives (Reference zero)) (next_on x (suc n) (y ∷ []) (some n)) h.1.1.1.0).0 refl)
  work_holds (x ∷ (Gives (Reference (suc n)) ∷ (y ∷ (Gives (Reference (suc k)) ∷ rest)))) h =
      lock_holds x y n k rest (suits_at _ _ (Gives (Reference (suc k))) (next_on x (suc n) (y ∷ []) (some n))
      h.1.1.1.0).1
  work_holds (x ∷ (Gives (Reference (suc n)) ∷ (y ∷ (Gives (Int z) ∷ rest)))) h = absurd
      (suits_at _ _ (Gives (Int z)) (next_on x (suc n) (y ∷ []) (some n)) h.1.1.1.0)
  work_holds (x ∷ (Gives (Reference (suc n)) ∷ (y ∷ (Gives (Boolean b) ∷ rest)))) h = absurd
      (suits_at _ _ (Gives (Boolean b)) (next_on x (suc n) (y ∷ []) (some n)) h.1.1.1.0)
  work_holds (x ∷ (Gives (Reference (suc n)) ∷ (y ∷ (Gives (Pair m b) ∷ rest)))) h = absurd
      (suits_at _ _ (Gives (Pair m b)) (next_on x (suc n) (y ∷ []) (some n)) h.1.1.1.0)
  work_holds (x ∷ (Gives (Reference (suc n)) ∷ (y ∷ (Did ∷ rest)))) h = absurd
      (lock_answer (suits_at _ _ Did (next_on x (suc n) (y ∷ []) (some n)) h.1.1.1.0))
    where
      lock_answer : NewOf type.Lock ≡ NoValue → ⊥
      lock_answer e = cc
  work_holds (x ∷ (Gives (Reference (suc n)) ∷ (y ∷ (Fails k ∷ rest)))) h = absurd
      (suits_at _ _ (Fails k) (next_on x (suc n) (y ∷ []) (some n)) h.1.1.1.0)
  work_holds (x ∷ (Gives (Int z) ∷ rest)) h = absurd h.1.0
  work_holds (x ∷ (Gives (Boolean b) ∷ rest)) h = absurd h.1.0
  work_holds (x ∷ (Gives (Pair n m) ∷ rest)) h = absurd h.1.0
  work_holds (x ∷ (Did ∷ rest)) h = let e = h.1.0 in absurd (cc)
  work_holds (x ∷ (Fails k ∷ rest)) h = absurd h.1.0

sound_all : (σ : List ValueType) (t : ℕ) (had : Answers) (a : Action Value) (s : Sort) →
    Known file program σ t had →
    next file program t had ≡ Goes a s →
    ActionHas file program σ t a s
sound_all σ zero had a s h e = subst (HoldsAt σ 0) e (setup_holds σ had h)
sound_all σ (suc zero) had a s h e = subst (HoldsAt σ 1) e (work_holds σ had h)
sound_all σ (suc (suc t)) had a s h e = cc

-- the example asks on things of the right types
pub example_sound : IsSound file program
example_sound = record { sound = sound_all }

in_file : FileHasConstants file
in_file zero m e =
    let e1 : Block (Then (SetSlot 1 MakeLock) (Then (Evaluate (Call (Slot 1) LockIt End)) Done)) ≡ m.body = cc in
    subst UsesConstants e1 (tt, ((tt, tt), tt))
in_file (suc zero) m e = let e1 : Block Done ≡ m.body = cc in subst UsesConstants e1 tt
in_file (suc (suc n)) m e = cc

in_program : ProgramHasConstants program
in_program zero t e = let e1 : Making 0 0 [] [] ∷ [] ≡ t.calls = cc in subst CallsHaveConstants e1 (tt, tt)
in_program (suc zero) t e = let e1 : Calling 0 0 [] None [] ∷ [] ≡ t.calls = cc in subst CallsHaveConstants e1 (tt, tt)
in_program (suc (suc n)) t e = cc

-- no constant of the example names an object
pub example_constants : FileHasConstants file × ProgramHasConstants program
example_constants = (in_file, in_program)

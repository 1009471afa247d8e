-- Schedules each of whose steps acts, one step more.
use Rattle.std.proofs.Common.{◌≡◌, ℕ, zero, suc, ◌+◌, ◌<◌, List, [], ◌∷◌, ◌++◌, map, replicate}
use Rattle.std.proofs.Common.{refl, sym, ap, ◌∙◌, subst, arith, append_assoc, append-nil}
use Rattle.std.proofs.lemmas.List.{map-append}
use Rattle.ls_events.specs.declared.value.Value.{Value}
use Rattle.ls_checked.specs.CheckedTree.{File}
use Rattle.ls_checked.specs.CheckedProgram.{Program}
use Rattle.ls_meaning.specs.declared.step.Did.{Did}
use Rattle.ls_meaning.specs.declared.step.Did.TheVariants as did
use Rattle.ls_meaning.specs.Steps.{Entry, trace, traced}
use Rattle.ls_meaning.specs.Runs.{State, source_run, source_step, source_trace, start, step, stepped}
use Rattle.ls_meaning.specs.Still.{IsActing, IsStill}
use Rattle.ls_search_laws.specs.Stepping.{ActAll, SetsUp}
use Rattle.ls_search_laws.proofs.Stepping.{trace-append}

replicate_suc : {A : Type 0} (n : ℕ) (x : A) → replicate (suc n) x ≡ replicate n x ++ x ∷ []
replicate_suc zero x = refl
replicate_suc (suc n) x = ap (λ l. x ∷ l) (replicate_suc n x)

pub replicate_last : {A : Type 0} (n : ℕ) (x : A) → replicate (n + 1) x ≡ replicate n x ++ x ∷ []
replicate_last n x =
    let one_more : n + 1 ≡ suc n = omega arith in
    ap (λ k. replicate k x) one_more ∙ replicate_suc n x

traced_acting : (t : ℕ) (d : Did) (s : State) → IsActing d →
    map (λ (e : Entry Value). e.thread) (traced (stepped t d s) []) ≡ t ∷ []
traced_acting t (did.Acted action answer) s acts = refl
traced_acting t did.Waits s acts = absurd acts
traced_acting t did.Idle s acts = absurd acts

traced_still : (t : ℕ) (d : Did) (s : State) → IsStill d →
    map (λ (e : Entry Value). e.thread) (traced (stepped t d s) []) ≡ []
traced_still t (did.Acted action answer) s still = absurd still
traced_still t did.Waits s still = refl
traced_still t did.Idle s still = refl

module _ (file : File) (program : Program) where
  -- the threads of the steps that act
  abbrev pub acting : List ℕ → List ℕ
  acting schedule = map (λ e. e.thread) (source_trace file program schedule)

  one_more : (s : List ℕ) (t : ℕ) →
      acting (s ++ t ∷ []) ≡ acting s ++ map (λ (e : Entry Value). e.thread)
      (trace (source_step file program) (source_run file program s) (t ∷ []))
  one_more s t =
      ap (map (λ (e : Entry Value). e.thread)) (trace-append (source_step file program) (start program) s (t ∷ []))
      ∙ map-append (λ (e : Entry Value). e.thread) (source_trace file program s)
      (trace (source_step file program) (source_run file program s) (t ∷ []))

  -- a step that acts is one more of them
  pub acting_more : (s : List ℕ) (t : ℕ) → IsActing (step file program (source_run file program s) t).did →
      acting (s ++ t ∷ []) ≡ acting s ++ t ∷ []
  acting_more s t acts =
      one_more s t ∙ ap (λ l. acting s ++ l) (traced_acting t (step file program (source_run file program s) t).did
      (step file program (source_run file program s) t).after acts)

  -- and one that doesn't isn't
  pub acting_still : (s : List ℕ) (t : ℕ) → IsStill (step file program (source_run file program s) t).did →
      acting (s ++ t ∷ []) ≡ acting s
  acting_still s t still =
      one_more s t ∙ ap (λ l. acting s ++ l) (traced_still t (step file program (source_run file program s) t).did
      (step file program (source_run file program s) t).after still) ∙ append-nil (acting s)

  pub acts_more : (s : List ℕ) (t : ℕ) → ActAll file program s →
      IsActing (step file program (source_run file program s) t).did → ActAll file program (s ++ t ∷ [])
  acts_more s t all acts = acting_more s t acts ∙ ap (λ l. l ++ t ∷ []) all

  -- so many steps of one thread
  pub acts_times : (s : List ℕ) (t n : ℕ) → ActAll file program s →
      ((j : ℕ) → j < n → IsActing (step file program (source_run file program (s ++ replicate j t)) t).did) →
      ActAll file program (s ++ replicate n t)
  acts_times s t zero all each = subst (ActAll file program) (sym (append-nil s)) all
  acts_times s t (suc n) all each =
      let one : suc n ≡ n + 1 = omega arith in
      let is : s ++ replicate (suc n) t ≡ (s ++ replicate n t) ++ t ∷ [] =
      ap (λ k. s ++ replicate k t) one ∙ ap (λ l. s ++ l) (replicate_last n t)
      ∙ sym (append_assoc s (replicate n t) (t ∷ [])) in
      subst (ActAll file program) (sym is)
      (acts_more (s ++ replicate n t) t (acts_times s t n all (λ j less. each j (omega (arith, less))))
      (each n (omega arith)))

  pub setup_acts : (k : ℕ) → SetsUp file program k → ActAll file program (replicate k 0)
  setup_acts k up = acts_times [] 0 k refl up

-- The setup, before which no other thread acts.
use Rattle.std.proofs.Common.{◌≡◌, ◌⊎◌, inl, inr, ℕ, zero, suc, ◌+◌, ◌-◌, ◌<◌, ◌≤◌, true, false, List, [], ◌∷◌}
use Rattle.std.proofs.Common.{◌++◌, length, replicate, refl, sym, ap, ◌∙◌, subst, arith, append_assoc, append-nil}
use Rattle.std.proofs.Common.{nat_eq, if◌then◌else◌}
use Rattle.std.specs.Prelude.{Contains}
use Rattle.std.proofs.lemmas.Bool.{cases_lt}
use Rattle.std.proofs.lemmas.Bool.Decides.{nat_tests}
use Rattle.std.proofs.lemmas.List.{replicate-append-replicate}
use Rattle.std.proofs.lemmas.List.Elements.{filter_map-append}
use Rattle.ls_events.specs.declared.value.Value.{Value}
use Rattle.ls_checked.specs.CheckedTree.{File}
use Rattle.ls_checked.specs.CheckedProgram.{Program}
use Rattle.ls_meaning.specs.Steps.{Entry}
use Rattle.ls_meaning.specs.Threads.{next}
use Rattle.ls_meaning.specs.Runs.{State, start, source_run, source_trace, source_history, source_step, history_of}
use Rattle.ls_meaning.specs.Runs.{event_of, step, step_of, idle, answers_of}
use Rattle.ls_meaning.specs.declared.step.Did.TheVariants as did
use Rattle.ls_code.specs.Code.{Code}
use Rattle.ls_code.specs.Machine.{Machine}
use Rattle.ls_preservation.specs.Same.{Fits, IsCells}
use Rattle.ls_preservation.specs.Translations.{most_silent, has_setup_ended}
use Rattle.ls_preservation.proofs.Shorter.{shorter}
use Rattle.ls_preservation.specs.Acting.{ActsInTime}
use Rattle.ls_explore.specs.Bursts.{IsClosed}
use Rattle.ls_explore.specs.Explored.{HasHistories, IsRoomy, IsSetUp, IsShown}
use Rattle.ls_events.specs.Beginnings.{IsBeginning}
use Rattle.ls_explore.proofs.SourceSteps.{Like, like_itself, like_more, like_still, idle_still}
use Rattle.ls_explore.proofs.SourceSteps as source_steps
use Rattle.ls_explore.proofs.Open.{IsReady}
use Rattle.ls_explore.proofs.Following

pub one_more : (j : ℕ) → ◌++◌ {A = ℕ} (replicate j 0) (0 ∷ []) ≡ replicate (suc j) 0
one_more j =
    let e : j + 1 ≡ suc j = omega arith in
    replicate-append-replicate j 1 0 ∙ ap (λ n. replicate n 0) e

module _ (file : File) (program : Program) where
  -- no other thread acts before the setup has ended
  pub not_started : (s : State) (t : ℕ) →
      has_setup_ended file program s ≡ false →
      (step file program s (suc t)).did ≡ did.Idle
  not_started s t e =
      let z : nat_eq (suc t) 0 ≡ false = grind (arith, nat_tests) in
      ap (λ b. (if (if b then true else has_setup_ended file program s) then
      step_of file s (suc t) (next file program (suc t) (answers_of s (suc t))) else idle s).did) z
      ∙ ap (λ b. (if b then step_of file s (suc t) (next file program (suc t) (answers_of s (suc t))) else idle s).did)
      e

  -- the history of fewer of its steps comes first
  pub fewer_first : (j k : ℕ) →
      j ≤ k →
      IsBeginning (source_history file program (replicate j 0)) (source_history file program (replicate k 0))
  fewer_first j k few =
      let e : j + (k - j) ≡ k = omega arith in
      let all : replicate j 0 ++ replicate (k - j) 0 ≡ replicate k 0 = replicate-append-replicate j (k - j) 0 ∙
      ap (λ n. replicate n 0) e in (
        history_of (source_steps.rest file program (replicate j 0) (replicate (k - j) 0)),
        sym (filter_map-append (λ (e : Entry Value). event_of e.thread e.action)
            (source_trace file program (replicate j 0)) (source_steps.rest file program (replicate j 0)
            (replicate (k - j) 0)))
            ∙ ap history_of
            (sym (source_steps.trace-append (source_step file program) (start program) (replicate j 0)
            (replicate (k - j) 0)))
            ∙ ap (source_history file program) all,
      )

module _ (file : File) (program : Program) (code : Code) (cells : ℕ) (within : IsCells code cells)
    (acts : ActsInTime file program code) (machines : List Machine)
    (closed : IsClosed (most_silent code + 1) (length program.threads) machines) (k : ℕ) (root : Machine)
    (up : IsSetUp file program code cells k root) (has_root : Contains machines root) where
  abbrev Reaches : List ℕ → Type 0
  Reaches = Following.Reaches file program code cells within acts machines closed

  -- a schedule is like some steps of the setup, or past it
  pub data Place (ts : List ℕ) : Type 0 where
    Setting : (j : ℕ) → j < k → Like file program ts (replicate j 0) → Place ts
    Past : Reaches ts → Place ts

  at_root : (ts : List ℕ) → Like file program ts (replicate k 0) → Reaches ts
  at_root ts like = record {
    steps = up.steps;
    like = subst (Like file program ts) (sym up.acting) like;
    ready = subst IsReady up.reached (record { goes = up.goes; ready = up.ready });
    there = subst (Contains machines) up.reached has_root;
  }

  begun : Place []
  begun = by_count k refl
    where
      by_count : (n : ℕ) → k ≡ n → Place []
      by_count zero e = Past
          (at_root [] (subst (λ n. Like file program [] (replicate n 0)) (sym e) (like_itself file program [])))
      by_count (suc n) e = Setting 0 (omega arith) (like_itself file program [])

  set_more : (j : ℕ) → j < k → (ts : List ℕ) → Like file program ts (replicate (suc j) 0) → Place ts
  set_more j lt ts like = by_count (cases_lt (suc j) k)
    where
      by_count : (suc j < k) ⊎ (k ≤ suc j) → Place ts
      by_count (inl less) = Setting (suc j) less like
      by_count (inr more) =
          let e : suc j ≡ k = omega arith in
          Past (at_root ts (subst (λ n. Like file program ts (replicate n 0)) e like))

  place_more : (ts : List ℕ) (t : ℕ) →
      ((r : Reaches ts) → Following.GoesAlong file program code cells within acts machines closed ts t r) →
      Place ts →
      Place (ts ++ t ∷ [])
  place_more ts t goes (Past r) = Past (Following.reaches_more file program code cells within acts machines closed ts t
      r (goes r))
  place_more ts zero goes (Setting j lt like) =
      set_more j lt (ts ++ 0 ∷ []) (subst (Like file program (ts ++ 0 ∷ [])) (one_more j)
      (like_more file program ts (replicate j 0) 0 like))
  place_more ts (suc t) goes (Setting j lt like) =
      let early : has_setup_ended file program (source_run file program ts) ≡ false = ap (has_setup_ended file program)
      like.states ∙ up.before j lt in
      Setting j lt (like_still file program ts (replicate j 0) (suc t)
      (idle_still file program (source_run file program ts) (suc t)
      (not_started file program (source_run file program ts) t early)) like)

  -- each schedule of a kind, where each beginning of one is one, and the machine goes along with it
  module _ (Allowed : List ℕ → Type 0) (less : (ts us : List ℕ) → Allowed (ts ++ us) → Allowed ts)
      (goes : (ts : List ℕ) (t : ℕ) → Allowed (ts ++ t ∷ []) → (r : Reaches ts) →
      Following.GoesAlong file program code cells within acts machines closed ts t r) where
    place_all : (us ts : List ℕ) → Place ts → Allowed (ts ++ us) → Place (ts ++ us)
    place_all [] ts p allowed = subst Place (sym (append-nil ts)) p
    place_all (u ∷ us) ts p allowed =
        let e : (ts ++ u ∷ []) ++ us ≡ ts ++ u ∷ us = append_assoc ts (u ∷ []) us in
        let allowed' : Allowed ((ts ++ u ∷ []) ++ us) = subst Allowed (sym e) allowed in
        subst Place e (place_all us (ts ++ u ∷ []) (place_more ts u (goes ts u (less (ts ++ u ∷ []) us allowed')) p)
        allowed')

    place_allowed : (ts : List ℕ) → Allowed ts → Place ts
    place_allowed ts allowed = place_all ts [] begun allowed

  pub place_of : (ts : List ℕ) → Fits file program cells ts → Place ts
  place_of =
      place_allowed (Fits file program cells) (shorter file program cells)
      (λ ts t fits r. Following.goes_fitting file program code cells within acts machines closed ts t r fits)

  pub place_roomy : IsRoomy (most_silent code + 1) (length program.threads) machines → (ts : List ℕ) → Place ts
  place_roomy room ts =
      place_allowed (λ us. Unit {0}) (λ us vs h. tt)
      (λ us t h r. Following.goes_roomy file program code cells within acts machines closed us t r room) ts tt

  pub shown : HasHistories file program code cells → (ts : List ℕ) → Place ts → IsShown file program machines ts
  shown histories ts (Past r) = record {
    machine = Following.behind file program code cells within acts machines closed r.steps;
    there = r.there;
    shows = (
      [],
      append-nil (source_history file program ts) ∙
          sym (Following.reached_history file program code cells within acts machines closed histories ts r),
    );
  }
  shown histories ts (Setting j lt like) =
      let first = fewer_first file program j k (omega arith) in
      let is : source_history file program ts ≡ source_history file program (replicate j 0) = ap history_of like.traces
      in
      let of_root : source_history file program (replicate k 0) ≡ root.history =
      ap (source_history file program) (sym up.acting) ∙ sym (histories up.steps) ∙
      ap (λ (m : Machine). m.history) (sym up.reached) in
      record { machine = root; there = has_root; shows = (first.0, ap (λ h. h ++ first.0) is ∙ first.1 ∙ of_root) }

-- Bursts along a path, as steps of the machine and of the source.
use Rattle.std.proofs.Common.{◌≡◌, ℕ, List, [], ◌∷◌, ◌++◌, map, replicate, Some, refl, sym, ap, ◌∙◌, subst}
use Rattle.std.proofs.lemmas.List.{map-append}
use Rattle.ls_meaning.specs.Runs.{source_history}
use Rattle.ls_code.specs.Code.{Code}
use Rattle.ls_code.specs.Machine.{Machine, Entry, loaded, machine_run, machine_trace}
use Rattle.ls_preservation.specs.Translations.{to_source}
use Rattle.ls_preservation.proofs.Runs.{run-append, trace-append}
use Rattle.ls_explore.specs.Bursts.{ActsAlong, burst}
use Rattle.ls_explore.specs.Explored.{LeadsAsSource}
use Rattle.ls_explore.proofs.Bursting.{IsBurst, burst_is}
use Rattle.ls_explore.proofs.Open.{IsReady, ready_burst}

-- steps of the machine that act once for each of these threads, in order
pub record IsAlong (m : Machine) (path : List ℕ) (last : Machine) : Type 0 where
  pub steps : List ℕ
  pub runs : machine_run m steps ≡ last
  pub acts : map (λ (e : Entry). e.thread) (machine_trace m steps) ≡ path

threads-append : (m : Machine) (ts us : List ℕ) →
    map (λ (e : Entry). e.thread) (machine_trace m (ts ++ us)) ≡ map (λ (e : Entry). e.thread) (machine_trace m ts) ++
    map (λ (e : Entry). e.thread) (machine_trace (machine_run m ts) us)
threads-append m ts us = ap (map (λ (e : Entry). e.thread)) (trace-append m ts us) ∙
    map-append (λ (e : Entry). e.thread) (machine_trace m ts) (machine_trace (machine_run m ts) us)

pub along_is : (n : ℕ) (m : Machine) (path : List ℕ) (last : Machine) → ActsAlong n m path last → IsAlong m path last
along_is n m [] last h = record { steps = []; runs = h; acts = refl }
along_is n m (t ∷ ts) last h =
    let b : IsBurst m t h.0 = burst_is n m h.0 t h.1 in
    let r : IsAlong h.0 ts last = along_is n h.0 ts last h.2 in
    record {
      steps = b.steps ++ r.steps;
      runs = run-append m b.steps r.steps ∙ ap (λ z. machine_run z r.steps) b.runs ∙ r.runs;
      acts =
          threads-append m b.steps r.steps
          ∙ ap (λ l. l ++ map (λ (e : Entry). e.thread) (machine_trace (machine_run m b.steps) r.steps)) b.acts
          ∙ ap (λ z. t ∷ map (λ (e : Entry). e.thread) (machine_trace z r.steps)) b.runs
          ∙ ap (λ l. t ∷ l) r.acts;
    }

-- one thread more
pub along_more : (n : ℕ) (m last next : Machine) (path : List ℕ) (t : ℕ) →
    ActsAlong n m path last →
    burst n last t ≡ Some next →
    ActsAlong n m (path ++ t ∷ []) next
along_more n m last next [] t h e = (next, ap (λ z. burst n z t) h ∙ e, refl)
along_more n m last next (u ∷ us) t h e = (h.0, h.1, along_more n h.0 last next us t h.2 e)

-- the machine to which they lead has neither stopped nor lost its setup's end
pub ready_along : (n : ℕ) (m : Machine) (path : List ℕ) (last : Machine) →
    IsReady m →
    ActsAlong n m path last →
    IsReady last
ready_along n m [] last r h = subst IsReady h r
ready_along n m (t ∷ ts) last r h = ready_along n h.0 ts last (ready_burst n m h.0 t r h.1) h.2

-- the same after the steps of the setup
module _ (code : Code) (cells : ℕ) (before : List ℕ) (root : Machine) where
  pub whole_run : (path : List ℕ) (m : Machine) →
      root ≡ machine_run (loaded code cells) before →
      (r : IsAlong root path m) →
      machine_run (loaded code cells) (before ++ r.steps) ≡ m
  whole_run path m reached r =
      run-append (loaded code cells) before r.steps ∙ ap (λ z. machine_run z r.steps) (sym reached) ∙ r.runs

  pub whole_source : (first path : List ℕ) (m : Machine) →
      root ≡ machine_run (loaded code cells) before →
      to_source code cells before ≡ first →
      (r : IsAlong root path m) →
      to_source code cells (before ++ r.steps) ≡ first ++ path
  whole_source first path m reached acting r =
      threads-append (loaded code cells) before r.steps
      ∙ ap (λ l. l ++ map (λ (e : Entry). e.thread) (machine_trace (machine_run (loaded code cells) before) r.steps))
      acting
      ∙ ap (λ z. first ++ map (λ (e : Entry). e.thread) (machine_trace z r.steps)) (sym reached)
      ∙ ap (λ l. first ++ l) r.acts

pub leads_as_source : LeadsAsSource
leads_as_source file program code cells k n root m path histories up along =
    let r : IsAlong root path m = along_is n root path m along in
    let whole : List ℕ = up.steps ++ r.steps in
    ap (λ (z : Machine). z.history) (sym (whole_run code cells up.steps root path m up.reached r))
    ∙ histories whole
    ∙ ap (source_history file program) (whole_source code cells up.steps root (replicate k 0) path m up.reached
    up.acting r)

-- What the book keeps, once a step is recorded.
use Rattle.std.proofs.Common.{◌≡◌, ◌≢◌, ℕ, ◌<◌, List, [], ◌∷◌, ◌++◌, length, false, sym, ap, ◌∙◌, arith, length-append}
use Rattle.std.proofs.lemmas.List.Elements.{All-push}
use Rattle.ls_code.proofs.Runs.{go_on}
use Rattle.ls_code.specs.Machine.{Machine, machine_step, machine_run, machine_state}
use Rattle.ls_live.proofs.Due.{due_more, is_due_now}
use Rattle.ls_live.proofs.Threads.{run_threads, is_there}
use Rattle.ls_live.specs.Answers.{is_not_started, is_over}
use Rattle.ls_live.specs.Books.{IsKept}

-- a run of one step more
pub run_more : (m : Machine) (ns : List ℕ) (n : ℕ) →
    machine_run m (ns ++ n ∷ []) ≡ (machine_step (machine_run m ns) n).machine
run_more m ns n = (go_on m ns (n ∷ [])).0

-- one step more is kept
pub kept_on : (start : Machine) (most : ℕ) (machine next : Machine) (steps : List ℕ) (limit t : ℕ)
    → IsKept start most machine steps limit → next ≡ (machine_step machine t).machine
    → is_over (machine_run start steps) t ≡ false → is_not_started (machine_state (machine_run start steps) t) ≡ false →
    length steps ≢ limit
    → IsKept start most next (steps ++ t ∷ []) limit
kept_on start most machine next steps limit t h e over started less =
    let n = run_threads start steps in
    let there = is_there (machine_run start steps) t over in
    let l = length-append steps (t ∷ []) in
    let w = h.within in
    record {
      run = e ∙ ap (λ m. (machine_step m t).machine) h.run ∙ sym (run_more start steps t);
      there = All-push (λ u. u < length start.threads) steps t h.there (omega arith);
      due = due_more start steps t h.due (is_due_now (machine_run start steps) t over started);
      within = omega arith;
      same = h.same;
      few = h.few;
    }

-- The setup's steps as a schedule.
use Rattle.std.proofs.Common.{◌≡◌, ℕ, ◌+◌, ◌<◌, ◌≤◌, length, subst, zero, suc, List, [], ◌∷◌, ◌++◌, refl, ap, sym, ◌∙◌}
use Rattle.std.proofs.Common.{arith, Bool, true, false}
use Rattle.std.specs.Prelude.{All, replicate}
use Rattle.std.proofs.lemmas.List.{length-append, length-replicate}
use Rattle.std.proofs.lemmas.List.Elements.{All-append, All-replicate}
use Rattle.ls_code.specs.Code.{Code}
use Rattle.ls_code.specs.Machine.{Machine, loaded, machine_state, machine_step, machine_run}
use Rattle.ls_batch.specs.Samples.{goes_on, played, sample_of, settled, settling, threads_of}
use Rattle.ls_batch.specs.Replays.{Replays}
use Rattle.ls_batch.specs.declared.samples.Sampler.{Sampler}
use Rattle.ls_machine.specs.Back.{RunsKeep}
use Rattle.ls_batch.proofs.Drawn.{sample_count, sample_there}
use Rattle.ls_batch.proofs.Settled.{settled_none, settled_on, settled_stop, settling_none, settling_on, settling_stop}

run_append : (m : Machine) (xs ys : List ℕ) → machine_run m (xs ++ ys) ≡ machine_run (machine_run m xs) ys
run_append m [] ys = refl
run_append m (x ∷ xs) ys = run_append (machine_step m x).machine xs ys

-- The steps that are taken, and that they are few.
record Settles (n : ℕ) (m : Machine) : Type 0 where
  few : settling n m ≤ n
  same : settled n m ≡ machine_run m (replicate (settling n m) 0)

settles_more : (n : ℕ) (m : Machine) →
    Settles n (machine_step m 0).machine →
    (b : Bool) →
    goes_on (machine_state m 0) ≡ b →
    Settles (suc n) m
settles_more n m rest true e =
    let more = settling_on n m e in
    let few = rest.few in
    record {
      few = omega arith;
      same = settled_on n m e ∙ (rest.same ∙ ap (λ (k : ℕ). machine_run m (replicate k 0)) (sym more));
    }
settles_more n m rest false e =
    let none = settling_stop (suc n) m e in
    record {
      few = omega arith;
      same = settled_stop (suc n) m e ∙ ap (λ (k : ℕ). machine_run m (replicate k 0)) (sym none);
    }

settles : (n : ℕ) (m : Machine) → Settles n m
settles zero m =
    let none = settling_none m in
    record {
      few = omega arith;
      same = settled_none m ∙ ap (λ (k : ℕ). machine_run m (replicate k 0)) (sym none);
    }
settles (suc n) m = settles_more n m (settles n (machine_step m 0).machine) (goes_on (machine_state m 0)) refl

played_is : (m : Machine) (threads seed : ℕ) (d : Sampler) →
    played m threads seed d ≡ machine_run (settled 100000 m) (sample_of seed threads d)
unfolding played
played_is m threads seed d = refl

-- a schedule of so many steps of the setup and a sample
seed_count : (taken steps : ℕ) (sample : List ℕ) →
    taken ≤ 100000 →
    length sample ≤ steps →
    length (replicate taken 0 ++ sample) ≤ 100000 + steps
seed_count taken steps sample few short =
    let both = length-append (replicate taken 0) sample in
    let zeros = length-replicate {A = ℕ} taken 0 in
    omega (arith, both, zeros, few, short)

pub seeds_replay : (code : Code) (cells seed : ℕ) (d : Sampler) → Replays code cells seed d
seeds_replay code cells seed d =
    let m = loaded code cells in
    let sample = sample_of seed (threads_of code) d in
    let s = settles 100000 m in
    record {
      few = s.few;
      there = λ some. All-append (λ t. t < length code.starts) (replicate (settling 100000 m) 0) sample
          (All-replicate (λ t. t < length code.starts) (settling 100000 m) 0 some)
          (subst (λ n. All (λ t. t < n) sample) (omega arith) (sample_there seed (threads_of code) d));
      count = seed_count (settling 100000 m) d.steps sample s.few (sample_count seed (threads_of code) d);
      history = ap (λ (z : Machine). z.history)
          (played_is m (threads_of code) seed d
          ∙ (ap (λ (z : Machine). machine_run z sample) s.same ∙
          sym (run_append m (replicate (settling 100000 m) 0) sample)));
    }

-- a seed's run from its start keeps the code and the number of cells
pub played_keeps : (m : Machine) (threads seed : ℕ) (d : Sampler) →
    RunsKeep →
    ((played m threads seed d).code ≡ m.code) × ((played m threads seed d).cells.limit ≡ m.cells.limit)
played_keeps m threads seed d keep =
    let s = settles 100000 m in
    let first = keep m (replicate (settling 100000 m) 0) in
    let then = keep (settled 100000 m) (sample_of seed threads d) in
    let code : Machine → Code = λ z. z.code in
    let cells : Machine → ℕ = λ z. z.cells.limit in (
      ap code (played_is m threads seed d) ∙ (then.0 ∙ (ap code s.same ∙ first.0)),
      ap cells (played_is m threads seed d) ∙ (then.1 ∙ (ap cells s.same ∙ first.1)),
    )

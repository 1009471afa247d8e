-- The threads of a machine as it is loaded.
use Rattle.std.proofs.Common.{◌≡◌, ℕ, zero, suc, ◌+◌, ◌-◌, ◌*◌, ◌<◌, ◌≤◌, List, [], ◌∷◌, length, map, get_or, refl, ap}
use Rattle.std.proofs.Common.{arith, sym, ◌∙◌}
use Rattle.std.proofs.lemmas.List.Sums.{sum_by-cons}
use Rattle.std.proofs.lemmas.List.{length-map}
use Rattle.std.specs.List.{All, sum_by}
use Rattle.ls_code.specs.Code.{Code, Start}
use Rattle.ls_code.specs.Machine.{started}
use Rattle.ls_machine_threads.specs.Memory.{KeptThread, MethodsFit, events_left, started_kept}
use Rattle.ls_machine.specs.Room.{HasMemory}

module _ (locals operands : ℕ) where
  pub events_started : (starts : List Start) →
      sum_by (λ t. events_left t.thread) (map (started_kept locals operands) starts) ≡ sum_by (λ s. 2 * length s.calls)
      starts
  events_started [] = refl
  events_started (s ∷ starts) =
      let h : 2 * (length s.calls - 0) - 0 ≡ 2 * length s.calls = omega arith in
      let f : KeptThread → ℕ = λ t. events_left t.thread in
      sum_by-cons f (started_kept locals operands s) (map (started_kept locals operands) starts) ∙
      (ap (λ n. n + sum_by f (map (started_kept locals operands) starts)) h ∙
      (ap (λ n. 2 * length s.calls + n) (events_started starts) ∙
      sym (sum_by-cons (λ (x : Start). 2 * length x.calls) s starts)))

  pub threads_started : (starts : List Start) →
      map (λ (t : KeptThread). t.thread) (map (started_kept locals operands) starts) ≡ map started starts
  threads_started [] = refl
  threads_started (s ∷ starts) = ap (λ ts. started s ∷ ts) (threads_started starts)

  rooms_started : (p : Code) →
      MethodsFit p.methods locals operands →
      (starts : List Start) (k : ℕ) (d : KeptThread) →
      k < length (map (started_kept locals operands) starts) →
      MethodsFit p.methods (get_or (map (started_kept locals operands) starts) k d).locals_room
      (get_or (map (started_kept locals operands) starts) k d).operands_room
  rooms_started p fit [] k d h = absurd (omega arith)
  rooms_started p fit (s ∷ starts) zero d h = fit
  rooms_started p fit (s ∷ starts) (suc k) d h = rooms_started p fit starts k d (omega arith)

  pub memory_started : (p : Code) (starts : List Start) →
      length starts ≤ 65 →
      All (λ m. m.arguments + m.more ≤ locals) p.methods →
      All (λ m. m.need ≤ operands) p.methods →
      HasMemory p (map (started_kept locals operands) starts) 0 (sum_by (λ s. 2 * length s.calls) starts)
  memory_started p starts few l o = record {
    few = rw length-map (omega arith);
    fit = rooms_started p (λ k d h. (l k d h, o k d h)) starts;
    events_fit = let e = events_started starts in omega (arith, e);
  }

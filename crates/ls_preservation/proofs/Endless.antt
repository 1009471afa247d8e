-- Threads that aren't over after their last event, in codes that are the same as their texts.
use Rattle.std.proofs.Common.{◌≡◌, ℕ, zero, suc, ◌≤◌, ◌<◌, ◌^◌, List, [], ◌∷◌, length, refl, sym, ap, ◌∙◌, subst, arith}
use Rattle.std.proofs.Common.{Bool, true, false, if◌then◌else◌}
use Rattle.ls_meaning.specs.Runs.{start, idle, stepped, has_started, source_step, source_trace, history_of}
use Rattle.ls_meaning.specs.Steps.{trace, traced, after, Same as Nothing}
use Rattle.ls_code.specs.Machine.{Machine, loaded, machine_step, machine_run, machine_trace}
use Rattle.ls_preservation.specs.InWords.{births, numbered, ArePlaces, Agree}
use Rattle.ls_preservation.specs.Same.{Same, Alike}
use Rattle.ls_preservation.specs.Translations.{to_machine}
use Rattle.ls_preservation.specs.WrongCodes.{no_file, no_calls, starting_at, goes_round, stuck}

quiet_if : (t : ℕ) (b : Bool) →
    stepped t (if b then idle (start no_calls) else idle (start no_calls)).did
    (if b then idle (start no_calls) else idle (start no_calls)).after ≡ Nothing
quiet_if t true = refl
quiet_if t false = refl

far : (n : ℕ) → source_step no_file no_calls (start no_calls) (suc (suc n)) ≡ Nothing
far n = quiet_if (suc (suc n)) (has_started no_file no_calls (start no_calls) (suc (suc n)))

-- the source never acts
source_none : (s : List ℕ) → trace (source_step no_file no_calls) (start no_calls) s ≡ []
source_none [] = refl
source_none (zero ∷ ts) = source_none ts
source_none (suc zero ∷ ts) = source_none ts
source_none (suc (suc n) ∷ ts) = ap (λ z. traced z (trace (source_step no_file no_calls) (after (start no_calls) z) ts))
    (far n) ∙ source_none ts

-- after the setup's end
abbrev over : ℕ → ℕ → Machine
over place cells = (machine_step (loaded (starting_at place) cells) 0).machine

round_over : (cells : ℕ) (s : List ℕ) →
    (machine_trace (over 1 cells) s ≡ []) × ((machine_run (over 1 cells) s).history ≡ [])
round_over cells [] = (refl, refl)
round_over cells (zero ∷ ts) = round_over cells ts
round_over cells (suc zero ∷ ts) = round_over cells ts
round_over cells (suc (suc n) ∷ ts) = round_over cells ts

round_all : (cells : ℕ) (s : List ℕ) →
    (machine_trace (loaded (starting_at 1) cells) s ≡ []) × ((machine_run (loaded (starting_at 1) cells) s).history ≡
    [])
round_all cells [] = (refl, refl)
round_all cells (zero ∷ ts) = round_over cells ts
round_all cells (suc zero ∷ ts) = round_all cells ts
round_all cells (suc (suc n) ∷ ts) = round_all cells ts

stuck_over : (cells : ℕ) (s : List ℕ) →
    (machine_trace (over 7 cells) s ≡ []) × ((machine_run (over 7 cells) s).history ≡ [])
stuck_over cells [] = (refl, refl)
stuck_over cells (zero ∷ ts) = stuck_over cells ts
stuck_over cells (suc zero ∷ ts) = stuck_over cells ts
stuck_over cells (suc (suc n) ∷ ts) = stuck_over cells ts

stuck_all : (cells : ℕ) (s : List ℕ) →
    (machine_trace (loaded (starting_at 7) cells) s ≡ []) × ((machine_run (loaded (starting_at 7) cells) s).history ≡
    [])
stuck_all cells [] = (refl, refl)
stuck_all cells (zero ∷ ts) = stuck_over cells ts
stuck_all cells (suc zero ∷ ts) = stuck_all cells ts
stuck_all cells (suc (suc n) ∷ ts) = stuck_all cells ts

none_places : ArePlaces 0 (numbered [])
none_places = record { distinct = λ m n h k e. omega arith; small = small_so }
  where
    small_so : (n : ℕ) → n ≤ 0 → numbered [] n < 2 ^ 32
    small_so zero h = omega arith
    small_so (suc n) h = absurd (omega arith)

alike : (place cells : ℕ) (a b : List ℕ) →
    (machine_trace (loaded (starting_at place) cells) a ≡ []) ×
    ((machine_run (loaded (starting_at place) cells) a).history ≡ []) →
    Alike no_file no_calls (starting_at place) cells a b
alike place cells a b h = record {
  traces = subst (λ z. Agree z (source_trace no_file no_calls b)) (sym h.0)
      (subst (λ z. Agree [] z) (sym (source_none b)) refl);
  places = subst (λ z. ArePlaces (length (births z)) (numbered (births z))) (sym h.0) none_places;
  histories = h.1 ∙ sym (ap history_of (source_none b));
}

-- the code whose thread loops for ever is the same as its source
pub round_same : Same no_file no_calls goes_round
round_same = record {
  threads = refl;
  names = refl;
  back = λ cells c s. alike 1 cells s _ (round_all cells s);
  forth = λ cells c s f. alike 1 cells (to_machine no_file no_calls goes_round cells s) s
      (round_all cells (to_machine no_file no_calls goes_round cells s));
}

-- the code whose thread is stuck is the same as its source
pub stuck_same : Same no_file no_calls stuck
stuck_same = record {
  threads = refl;
  names = refl;
  back = λ cells c s. alike 7 cells s _ (stuck_all cells s);
  forth = λ cells c s f. alike 7 cells (to_machine no_file no_calls stuck cells s) s
      (stuck_all cells (to_machine no_file no_calls stuck cells s));
}

-- A cycle taken once more at the end.
use Rattle.std.proofs.Common.{◌≡◌, ℕ, zero, suc, ◌+◌, List, ◌++◌, sym, ap, ◌∙◌, append-nil, append_assoc}
use Rattle.std.proofs.Common.{add-one}
use Rattle.ls_progress_laws.specs.Progress.{rounds}

last_round : (n : ℕ) (cycle : List ℕ) → rounds (suc n) cycle ≡ rounds n cycle ++ cycle
last_round zero cycle = append-nil cycle
last_round (suc n) cycle =
    ap (λ l. cycle ++ l) (last_round n cycle) ∙ sym (append_assoc cycle (rounds n cycle) cycle)

pub round_more : (way : List ℕ) (n : ℕ) (cycle : List ℕ) →
    (way ++ rounds n cycle) ++ cycle ≡ way ++ rounds (n + 1) cycle
round_more way n cycle =
    append_assoc way (rounds n cycle) cycle
    ∙ ap (λ l. way ++ l) (sym (last_round n cycle) ∙ ap (λ k. rounds k cycle) (sym (add-one n)))

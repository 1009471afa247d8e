-- Why `highest` in src/ranks.rt keeps its contract and its loop.
use Rattle.std.proofs.Common.{◌≡◌, ◌≤◌, ◌<◌, ◌⊎◌, inl, inr, ℕ, List, [], ◌∷◌, Option, Some, length, arith, zero}
use Rattle.std.proofs.Common.{suc}
use Rattle.std.proofs.lemmas.Bool.{cases_lt}
use Rattle.ls_progress.specs.Labels.{label_at}
use Rattle.ls_progress.specs.Ranks.{rank_at}
use Rattle.ls_progress.proofs.ranks.highest.Goals as goal

no_label : (labels : List (Option ℕ)) (at call : ℕ) → length labels ≤ at → label_at labels at ≡ Some call → at < 0
no_label [] zero call h e = absurd (cc)
no_label [] (suc at) call h e = absurd (cc)
no_label (x ∷ xs) zero call h e = absurd (omega (arith, h))
no_label (x ∷ xs) (suc at) call h e = absurd (let n = no_label xs at call (omega (arith, h)) e in omega (arith, n))

pub returns : goal.returns
returns c = λ at label. by_place at label (cases_lt at (length c.args.labels.now))
  where
    by_place : (at : ℕ) → label_at c.args.labels.now at ≡ Some c.args.call →
        (at < length c.args.labels.now) ⊎ (length c.args.labels.now ≤ at) →
        rank_at c.args.ranks.now at ≤ c.loop-at.most
    by_place at label (inl less) = c.loop-at.invariant at (omega (arith, less, c.loop-at-test.false)) label
    by_place at label (inr past) =
        absurd (let n = no_label c.args.labels.now at c.args.call past label in omega (arith, n))

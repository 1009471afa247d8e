-- The first flag that is down.
use Rattle.std.proofs.Common.{◌≡◌, ◌∙◌, ◌≤◌, ℕ, Bool, true, false, List, [], ◌∷◌, Some, None}
use Rattle.std.proofs.Common.{length}
use Rattle.std.proofs.Common.{get_or, ap, refl, arith, cond}
use Rattle.std.specs.Prelude.{nat_lt, not, position, slice_get}
use Rattle.std.specs.List.{position_or_len}
use Rattle.std.proofs.lemmas.Bool.{ltb-false}
use Rattle.std.proofs.lemmas.List.Quantifiers.{position-Some}
use Rattle.std.proofs.lemmas.Option.{slice_get-get_or}
use Rattle.ls_explore_reports.specs.Linearizable.{count_unexplained}

past : (flags : List Bool) → length flags ≤ position_or_len not flags → count_unexplained flags ≡ 0
past [] over = refl
past (true ∷ flags) over = past flags (omega arith)
past (false ∷ flags) over = absurd (omega arith)

over_if_none : (a b : ℕ) → cond (nat_lt a b) (Some a) None ≡ None → b ≤ a
over_if_none a b none = elim (nat_lt a b) as (λ t. nat_lt a b ≡ t → cond t (Some a) None ≡ None → b ≤ a) [
  | true ↦ λ e h. absurd (some_none h)
  | false ↦ λ e h. ltb-false a b e
] refl none
  where
    some_none : Some a ≡ None → ⊥
    some_none e = cc

pub none_down : (flags : List Bool) → position not flags ≡ None → count_unexplained flags ≡ 0
none_down flags none = past flags (over_if_none (position_or_len not flags) (length flags) none)

is_down : (b : Bool) → not b ≡ true → b ≡ false
is_down true e = absurd (false_true e)
  where
    false_true : false ≡ true → ⊥
    false_true h = cc
is_down false e = refl

pub one_down : (flags : List Bool) (i : ℕ) → position not flags ≡ Some i → slice_get flags i ≡ Some false
one_down flags i is =
    let there = position-Some not flags i true is in
    slice_get-get_or flags i true there.0 ∙ ap (λ (b : Bool). Some b) (is_down (get_or flags i true) there.1)

-- Why `number_paths` in src/table.rt keeps its loop `at` and what `number_at` requires.

use Rattle.std.proofs.Common.{◌≡◌, ◌∙◌, ◌∷◌, [], ℕ, List, Some, length, arith, ap, refl, sym, subst}
use Rattle.std.proofs.Common.{length-append, slice_get}
use Rattle.ls_code.specs.Machine.{Machine}
use Rattle.ls_history_numbers.specs.Numbers.{IsOf}
use Rattle.ls_explore.specs.Searches.{AreSaved, paths_of}
use Rattle.ls_explore.specs.Walks.{root_of, walked}
use Rattle.ls_explore.proofs.Listing.{numbered_more}
use Rattle.ls_explore.proofs.Loops.{root_same}
use Rattle.ls_explore.proofs.table.number_paths.Goals as goal

no_number : (i n : ℕ) (l : List ℕ) → l ≡ [] → slice_get l i ≡ Some n → ⊥
no_number i n l none h = nothing (ap (λ (z : List ℕ). slice_get z i) (sym none) ∙ h)
  where
    nothing : slice_get [] i ≡ Some n → ⊥
    nothing e = cc

pub loop-at-init : goal.loop-at-init
loop-at-init c = (
  ap length c.in_ok-numbers.ensures.items,
  (λ i n path has here. absurd (no_number i n c.in_ok-numbers.numbers.items c.in_ok-numbers.ensures.items has)),
  c.requires.numbered,
  refl,
  refl,
)

pub number_at-requires-clause-saves : goal.number_at-requires-clause-saves
number_at-requires-clause-saves c =
    let same = root_same c.args.walker.now c.loop-at.walker c.args.ground.now.setup.now c.loop-at.invariant.3
    c.loop-at.invariant.4 in
    subst (λ r. AreSaved c.args.ground.now.most r (paths_of c.args.found.now.paths.items) c.args.found.now.saved.items)
    (sym same) c.requires.saves

pub loop-at-preserved : goal.loop-at-preserved
loop-at-preserved c =
    let most : ℕ = c.args.ground.now.most in
    let root : Machine = root_of c.args.walker.now c.args.ground.now.setup.now in
    let same = root_same c.args.walker.now c.loop-at.walker c.args.ground.now.setup.now c.loop-at.invariant.3
    c.loop-at.invariant.4 in
    let paths : List (List ℕ) = paths_of c.args.found.now.paths.items in
    let new = c.number_at.new.all.items in
    let number : ℕ = c.in_ok-number.number in
    let numbers : List ℕ = c.loop-at.numbers.items in (
      omega (
        arith,
        ap length c.in_ok-push.ensures.items,
        length-append numbers (number ∷ []),
        c.loop-at.invariant.0,
      ),
      numbered_more most root paths c.loop-at.all.items new numbers c.push.new.self.items number
          c.in_ok-push.ensures.items c.in_ok-number.ensures.keeps c.loop-at.invariant.1
          (λ path here. subst (λ r. IsOf new number (walked most r path).history) same
          (c.in_ok-number.ensures.is path (ap (slice_get paths) (sym c.loop-at.invariant.0) ∙ here))),
      c.in_ok-number.ensures.numbered,
      c.number_at.ensures.code ∙ c.loop-at.invariant.3,
      c.number_at.ensures.cells ∙ c.loop-at.invariant.4,
    )

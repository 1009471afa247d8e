-- Why `chosen_rows` in src/table.rt keeps its contract, its loop and what it calls with.

use Rattle.std.proofs.Common.{◌≡◌, ◌<◌, ◌∙◌, ◌∷◌, [], ◌++◌, ℕ, List, Some, length, ap, arith, refl, subst, sym}
use Rattle.std.specs.Prelude.{IfSome}
use Rattle.ls_code.specs.Machine.{Machine}
use Rattle.ls_history_numbers.proofs.Lists.{below}
use Rattle.ls_explore.specs.Listed.{IsRowOf}
use Rattle.ls_explore.specs.Rows.{Told}
use Rattle.ls_explore.specs.Searches.{AreSaved, paths_of}
use Rattle.ls_explore.specs.Walks.{root_of}
use Rattle.ls_explore.proofs.Choosing.{no_rows, rows_more, some_holds}
use Rattle.ls_explore.proofs.Loops.{root_same}
use Rattle.ls_explore.proofs.table.chosen_rows.Goals as goal

pub loop-number-init : goal.loop-number-init
loop-number-init c = (
  no_rows c.args.ground.now.most (root_of c.args.walker.now c.args.ground.now.setup.now)
      (paths_of c.args.found.now.paths.items) c.args.found.now.seen.items c.args.choices.now c.new-rows.result.items
      c.new-rows.ensures.items,
  refl,
  refl,
)

pub add_row-requires-clause-at : goal.add_row-requires-clause-at
add_row-requires-clause-at c =
    some_holds (λ (at : ℕ). at < length c.args.found.now.paths.items) c.choice_at.result
    (λ at is. c.requires.at c.loop-number.number at (c.choice_at.ensures ∙ ap Some is))

pub add_row-requires-clause-saves : goal.add_row-requires-clause-saves
add_row-requires-clause-saves c =
    let same = root_same c.args.walker.now c.loop-number.walker c.args.ground.now.setup.now c.loop-number.invariant.1
    c.loop-number.invariant.2 in
    subst (λ r. AreSaved c.args.ground.now.most r (paths_of c.args.found.now.paths.items) c.args.found.now.saved.items)
    (sym same) c.requires.saves

pub loop-number-preserved : goal.loop-number-preserved
loop-number-preserved c =
    let most : ℕ = c.args.ground.now.most in
    let root : Machine = root_of c.args.walker.now c.args.ground.now.setup.now in
    let paths : List (List ℕ) = paths_of c.args.found.now.paths.items in
    let same = root_same c.args.walker.now c.loop-number.walker c.args.ground.now.setup.now c.loop-number.invariant.1
    c.loop-number.invariant.2 in (
      rows_more most root paths c.args.found.now.seen.items c.args.choices.now c.requires.apart
          c.loop-number.rows.items c.loop-number.number c.loop-number.invariant.0 c.add_row.new.rows.items
          c.choice_at.result c.choice_at.ensures c.in_ok-add_row.ensures.none
          (subst (λ r. IfSome c.choice_at.result (λ at. (x : Told)
          × IsRowOf most r paths c.args.found.now.seen.items at x
          × (c.add_row.new.rows.items ≡ c.loop-number.rows.items ++ x ∷ []))) same c.in_ok-add_row.ensures.some),
      c.add_row.ensures.code ∙ c.loop-number.invariant.1,
      c.add_row.ensures.cells ∙ c.loop-number.invariant.2,
    )

pub returns-clause-own : goal.returns-clause-own
returns-clause-own c = λ r there. let o = c.loop-number.invariant.0.own r there in (o.0, o.1, o.3, o.4)

pub returns-clause-made : goal.returns-clause-made
returns-clause-made c = λ n at chosen.
    let within : n < length c.args.choices.now = below c.args.choices.now n (Some at) chosen in
    c.loop-number.invariant.0.made n at (omega (arith, within)) chosen

pub returns-clause-apart : goal.returns-clause-apart
returns-clause-apart c = c.loop-number.invariant.0.apart

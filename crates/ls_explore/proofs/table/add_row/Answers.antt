-- Why `add_row` in src/table.rt keeps its clause `some`.

use Rattle.std.proofs.Common.{◌≡◌, ◌∷◌, [], ◌++◌, ℕ, sym, subst}
use Rattle.std.specs.Prelude.{IfSome}
use Rattle.ls_code.specs.Machine.{Machine}
use Rattle.ls_explore.specs.Listed.{IsRowOf}
use Rattle.ls_explore.specs.Rows.{Told}
use Rattle.ls_explore.specs.Searches.{paths_of}
use Rattle.ls_explore.specs.Walks.{root_of}
use Rattle.ls_explore.proofs.table.add_row.Goals as goal

pub returns-in_ok-push-in-Some-clause-some : goal.returns-in_ok-push-in-Some-clause-some
returns-in_ok-push-in-Some-clause-some c =
    let root : Machine = root_of c.args.walker.now c.args.ground.now.setup.now in
    subst (λ o. IfSome o (λ (at : ℕ). (r : Told)
    × IsRowOf c.args.ground.now.most root (paths_of c.args.found.now.paths.items) c.args.found.now.seen.items at r
    × (c.push.new.self.items ≡ c.args.rows.now.items ++ r ∷ []))) (sym c.in-Some.is)
    (c.in_ok-row-in-Some.row, c.in_ok-row-in-Some.ensures.row, c.in_ok-push-in-Some.ensures.items)

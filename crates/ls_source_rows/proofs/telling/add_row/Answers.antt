-- Why `add_row` in src/telling.rt keeps its clause `some`.

use Rattle.std.proofs.Common.{◌≡◌, ◌∷◌, [], ◌++◌, ℕ, List, map, sym, subst}
use Rattle.std.specs.Prelude.{IfSome}
use Rattle.ls_events.specs.declared.event.Event.{Event}
use Rattle.ls_source_rows.specs.Listed.{IsRowOf}
use Rattle.ls_source_rows.specs.declared.rows.Row.{Row}
use Rattle.ls_source_rows.proofs.telling.add_row.Goals as goal

pub returns-in_ok-push-in-Some-clause-some : goal.returns-in_ok-push-in-Some-clause-some
returns-in_ok-push-in-Some-clause-some c =
    let histories : List (List Event) = map (λ v. v.items) c.args.found.now.histories.now in
    subst (λ o. IfSome o (λ (at : ℕ). (r : Row)
    × IsRowOf histories c.args.found.now.nodes.now c.args.found.now.seen.now at r
    × (c.push.new.self.items ≡ c.args.rows.now.items ++ r ∷ []))) (sym c.in-Some.is)
    (c.in_ok-row-in-Some.row, c.in_ok-row-in-Some.ensures, c.in_ok-push-in-Some.ensures.items)

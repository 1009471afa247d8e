-- Why `row_of` in src/telling.rt keeps its contract and what `history_at` requires.

use Rattle.std.proofs.Common.{◌<◌, ◌∙◌, List, Some, length, map, sym, ap, subst}
use Rattle.std.specs.Prelude.{slice_get}
use Rattle.ls_events.specs.declared.event.Event.{Event}
use Rattle.ls_history_numbers.proofs.Lists.{there}
use Rattle.ls_source_rows.specs.Listed.{ending_of}
use Rattle.ls_source_rows.proofs.telling.row_of.Goals as goal

pub history_at-requires : goal.history_at-requires
history_at-requires c =
    let n = there c.args.found.now.nodes.now c.args.at c.requires.at in
    subst (λ k. k < length c.args.found.now.histories.now) (sym (c.noted_at-noted.ensures n.0 n.1))
    (c.requires.there n.0 n.1)

pub returns : goal.returns
returns c =
    let n = there c.args.found.now.nodes.now c.args.at c.requires.at in
    let histories : List (List Event) = map (λ v. v.items) c.args.found.now.histories.now in
    record {
      node = n.0;
      here = n.1;
      path = c.in_ok-path.ensures;
      history =
          ap (slice_get histories) (sym (c.noted_at-noted.ensures n.0 n.1))
          ∙ c.history_at.ensures
          ∙ ap Some (sym c.in_ok-history.ensures);
      ending = c.ending_of-ending.ensures ∙ ap ending_of c.seen_at.ensures;
    }

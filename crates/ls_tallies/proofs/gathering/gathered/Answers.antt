-- Why `gathered` in src/gathering.rt keeps its loop `row`.

use Rattle.std.proofs.lemmas.List.{get_or_default}
use Rattle.ls_tallies.specs.Places.{rows_of}
use Rattle.ls_tallies.proofs.MergeLemmas.{gathered_more, total_more}
use Rattle.ls_tallies.proofs.gathering.gathered.Goals as goal

pub loop-row-preserved : goal.loop-row-preserved
loop-row-preserved c =
    let rows = c.args.rows.now in
    let i = c.loop-row.row-index in
    let lt = c.loop-row-test.true in
    record {
      indexed = c.in_ok-add.ensures.indexed;
      rows = gathered_more rows i _ lt (get_or_default rows i _ _ lt) (rows_of c.loop-row.all) (rows_of c.add.new.self)
          _ c.in_ok-add.ensures.rows c.loop-row.invariant.rows;
      total = total_more rows i _ lt (get_or_default rows i _ _ lt) (rows_of c.loop-row.all) (rows_of c.add.new.self) _
          c.in_ok-add.ensures.rows c.loop-row.invariant.total;
    }

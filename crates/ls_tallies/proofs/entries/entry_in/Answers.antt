-- Why `entry_in` in src/entries.rt keeps its clauses `reads` and `is`.

use Rattle.std.proofs.Common.{◌≡◌, ◌∙◌, subst, sym, true}
use Rattle.ls_report.proofs.CutLemmas.{first_of_two, none_is}
use Rattle.ls_tallies.specs.Tallies.{row}
use Rattle.ls_tallies.specs.Reading.{IsHistory, IsRow}
use Rattle.ls_tallies.proofs.BlockLemmas.{parts_join}
use Rattle.ls_tallies.proofs.EntryLemmas.{row_parts, same_entry}
use Rattle.ls_tallies.proofs.entries.entry_in.Goals as goal

pub returns-in_default-split_block-clause-reads : goal.returns-in_default-split_block-clause-reads
returns-in_default-split_block-clause-reads c = λ r after is head rest.
    absurd (none_is (c.in_default-split_block.ensures.cut ∙ row_parts c.args.rest.now r.history after
    c.in_default-split_block.ensures.fits is.history rest))

pub returns-then-not-branch-clause-reads : goal.returns-then-not-branch-clause-reads
returns-then-not-branch-clause-reads c = λ r after is head rest.
    let history = c.in-Some-split_block.history.now in
    let parts = c.in-Some-split_block.ensures.cut ∙ row_parts c.args.rest.now r.history after
    c.in-Some-split_block.ensures.fits is.history rest in
    let same = first_of_two history c.in-Some-split_block.after.now r.history after parts in
    let yes : c.in_ok-is_history.field-0 ≡ true = c.in_ok-is_history.ensures.reads
    (subst IsHistory (sym same) is.history) in
    absurd cc

pub returns-clause-is : goal.returns-clause-is
returns-clause-is c =
    let found = rw c.in-Some.is at c.in_ok-seed.ensures.is in
    let yes : c.in_ok-is_history.field-0 ≡ true = cc in
    let row_is : IsRow (row c.in-Some-split_block.history.now c.in-Some.count c.in-Some.seed) = record
    { seed = found.0; some = found.1; count = found.2; history = c.in_ok-is_history.ensures.is yes } in (
      row_is,
      found.3,
      parts_join c.args.rest.now c.in-Some-split_block.history.now c.in-Some-split_block.after.now
          c.in-Some-split_block.ensures.cut,
    )

pub returns-clause-reads : goal.returns-clause-reads
returns-clause-reads c = λ r after is head rest.
    let parts = c.in-Some-split_block.ensures.cut ∙ row_parts c.args.rest.now r.history after
    c.in-Some-split_block.ensures.fits is.history rest in
    same_entry r after c.in-Some-split_block.history.now c.in-Some-split_block.after.now c.in-Some.seed c.in-Some.count
    (sym c.in-Some.is ∙ c.in_ok-seed.ensures.reads r.seed r.count is.seed is.some is.count head) parts

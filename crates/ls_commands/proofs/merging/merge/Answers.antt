-- Why `merge` in src/merging.rt keeps its contract.

use Rattle.std.proofs.Common.{◌∙◌, subst, sym}
use Rattle.std.specs.Prelude.{MatchBool}
use Rattle.ls_faults.proofs.Answering.{wider}
use Rattle.ls_commands.specs.Merging.{MergesTalliesTo, MergesTo}
use Rattle.ls_commands.specs.MergedRanges.{MergesRangesTo}
use Rattle.ls_commands.proofs.merging.merge.Goals as goal

pub returns-then-is_of_ranges : goal.returns-then-is_of_ranges
returns-then-is_of_ranges c =
    let wanted = c.args.wanted in
    let text = c.args.text.now in
    wider (MergesRangesTo wanted text) (MergesTo wanted text) c.merge_ranges.result
    (λ a h. subst (λ b. MatchBool b (MergesRangesTo wanted text a) (MergesTalliesTo wanted text a))
    (sym (sym c.is_of_ranges.ensures ∙ c.if-is_of_ranges.true)) h) c.merge_ranges.ensures

pub returns : goal.returns
returns c =
    let wanted = c.args.wanted in
    let text = c.args.text.now in
    wider (MergesTalliesTo wanted text) (MergesTo wanted text) c.merge_tallies.result
    (λ a h. subst (λ b. MatchBool b (MergesRangesTo wanted text a) (MergesTalliesTo wanted text a))
    (sym (sym c.is_of_ranges.ensures ∙ c.if-is_of_ranges.false)) h) c.merge_tallies.ensures

-- Why `after_version` in src/pieces.rt keeps its clause `version`.

use Rattle.std.proofs.Common.{◌∙◌, ◌+◌, Some, None, ap, sym, drop}
use Rattle.std.specs.Prelude.{if◌then◌else◌}
use Rattle.ls_schedule.specs.Pieces.{pieces}
use Rattle.ls_schedule.proofs.Fronts.{version_read}
use Rattle.ls_schedule.proofs.pieces.after_version.Goals as goal

pub returns-then-is_version-clause-version : goal.returns-then-is_version-clause-version
returns-then-is_version-clause-version c =
    sym (version_read c.args.text.now c.gap_len-gaps.result c.word_len-len.result _ _ _ _ c.gap_len-gaps.ensures.len
    c.split_at.ensures.back c.word_len-len.ensures.len
    c.split_at-2.ensures.front c.split_at-2.ensures.back c.is_version.ensures
    ∙ ap (λ b. if b then Some (pieces (c.gap_len-gaps.result + c.word_len-len.result)
    (drop (c.gap_len-gaps.result + c.word_len-len.result) c.args.text.now)) else None) c.if-is_version.true)

pub returns-else-is_version-clause-version : goal.returns-else-is_version-clause-version
returns-else-is_version-clause-version c =
    sym (version_read c.args.text.now c.gap_len-gaps.result c.word_len-len.result _ _ _ _ c.gap_len-gaps.ensures.len
    c.split_at.ensures.back c.word_len-len.ensures.len
    c.split_at-2.ensures.front c.split_at-2.ensures.back c.is_version.ensures
    ∙ ap (λ b. if b then Some (pieces (c.gap_len-gaps.result + c.word_len-len.result)
    (drop (c.gap_len-gaps.result + c.word_len-len.result) c.args.text.now)) else None) c.if-is_version.false)

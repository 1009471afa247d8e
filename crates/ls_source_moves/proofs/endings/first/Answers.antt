-- Why `first` in src/endings.rt keeps its contract.

use Rattle.std.proofs.Common.{sym, ◌∙◌}
use Rattle.ls_checked.specs.Plain.{plain_statement}
use Rattle.ls_source_pending.specs.Seen.{frames_of}
use Rattle.ls_source_moves.proofs.Blocks.{first_of_more}
use Rattle.ls_source_moves.proofs.endings.first.Goals as goal

pub returns-in-len1-up : goal.returns-in-len1-up
returns-in-len1-up c = c.inside.ensures ∙ sym
    (first_of_more (plain_statement c.args.s.now) c.args.rest.now (frames_of c.args.pending.now.frames.items)
    c.args.pending.now.locals.items c.args.pending.now.depth c.in-len1-up.len_at_least)

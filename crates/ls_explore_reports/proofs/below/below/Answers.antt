-- Why `below` in src/below.rt keeps its contract and what `tell_known` requires.

use Rattle.std.proofs.Common.{string_bytes}
use Rattle.ls_explore_reports.proofs.BelowRows.{is_known, none_below, some_below}
use Rattle.ls_explore_reports.proofs.below.below.Goals as goal

pub tell_known-requires : goal.tell_known-requires
tell_known-requires c =
    is_known c.args.known.now c.requires.0 c.requires.1 c.requires.2 c.in-Some.known c.in-Some.is c.requires.3

pub returns-in_default : goal.returns-in_default
returns-in_default c = λ orders file program for named.
    none_below c.args.known.now orders file program c.args.history.now (string_bytes c.new.result) c.in_default.is
    c.new.ensures.bytes for

pub returns : goal.returns
returns c = λ orders file program for named.
    some_below c.args.known.now orders file program c.args.history.now c.in-Some.known
    (string_bytes c.in_ok-text.text) c.in-Some.is
    c.in_ok-text.ensures for named

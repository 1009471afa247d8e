-- Why `parameter_group` in src/class_trees.rt keeps its clauses `read` and `places` and its loop `context`.

use Rattle.std.proofs.lemmas.Result.{err_from_is_err_and}
use Rattle.ls_parser_spelling.specs.Places.{spots}
use Rattle.ls_parser_expressions.proofs.Repeats.{group_ends, group_fails, group_goes_on}
use Rattle.ls_parser_expressions.proofs.Shrinks.{one_more_shrinks, tokens_shrink, comma_shrinks}
use Rattle.ls_parser.proofs.ClassesRead.{parameter_shrinks}
use Rattle.ls_parser.proofs.Places.{no_parameter, group_is}
use Rattle.ls_parser.proofs.class_trees.parameter_group.Goals as goal

pub returns-in_err-all-clause-read : goal.returns-in_err-all-clause-read
returns-in_err-all-clause-read c =
    let p = err_from_is_err_and c.from_residual-in_err-all.result c.from_residual-in_err-all.ensures.1 in
    rw (p.1, p.2)
    (group_fails c.in_err-all.field-0.0 c.loop-context.invariant.group
    (cc (c.loop-context-test.true, c.starts_with.ensures)) c.in_err-all.ensures.read)

pub loop-context-smaller : goal.loop-context-smaller
loop-context-smaller c =
    tokens_shrink c.loop-context.all.rest.now c.in_ok-all.all.rest.now
    (one_more_shrinks _ (comma_shrinks _ parameter_shrinks) _ _ _ _ c.in_ok-all.ensures.read)

pub loop-context-preserved : goal.loop-context-preserved
loop-context-preserved c = record {
  group = group_goes_on c.loop-context.invariant.group (cc (c.loop-context-test.true, c.starts_with.ensures))
      c.in_ok-all.ensures.read
      (one_more_shrinks _ (comma_shrinks _ parameter_shrinks) _ _ _ _ c.in_ok-all.ensures.read);
  places = c.in_ok-all.ensures.places (spots c.args.tokens.now) c.loop-context.invariant.places;
}

pub returns-clause-read : goal.returns-clause-read
returns-clause-read c = group_ends c.loop-context.invariant.group c.in_ok-close.ensures.read

-- ---- places

pub returns-in-Some-clause-places : goal.returns-in-Some-clause-places
returns-in-Some-clause-places c = no_parameter c.new.result.items c.new.ensures.items c.in-Some.ensures.placed

pub returns-clause-places : goal.returns-clause-places
returns-clause-places c = group_is c.loop-context.invariant.places c.in_ok-close.ensures.placed

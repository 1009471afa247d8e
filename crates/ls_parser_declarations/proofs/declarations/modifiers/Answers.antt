-- Why `modifiers` in src/declarations.rt keeps its clause `read` and its loop `context`.

use Rattle.std.proofs.lemmas.Result.{err_from_is_err_and}
use Rattle.ls_parser_spelling.specs.Places.{spots}
use Rattle.ls_parser_expressions.proofs.Repeats.{repeat_ends, repeat_fails, list_goes_on}
use Rattle.ls_parser_expressions.proofs.Shrinks.{one_more_shrinks, tokens_shrink}
use Rattle.ls_parser_declarations.proofs.DeclarationsRead.{modifier_shrinks}
use Rattle.ls_parser_declarations.proofs.declarations.modifiers.Goals as goal

pub returns-in_err-all-clause-read : goal.returns-in_err-all-clause-read
returns-in_err-all-clause-read c =
    let p = err_from_is_err_and c.from_residual.result c.from_residual.ensures.1 in
    rw (p.1, p.2)
    (repeat_fails c.in_err-all.field-0.0 c.loop-context.invariant.list
    (cc (c.loop-context-test.true, c.starts_modifier.ensures)) c.in_err-all.ensures.read)

pub loop-context-smaller : goal.loop-context-smaller
loop-context-smaller c =
    tokens_shrink c.loop-context.all.rest.now c.in_ok-all.all.rest.now
    (one_more_shrinks _ modifier_shrinks _ _ _ _ c.in_ok-all.ensures.read)

pub loop-context-preserved : goal.loop-context-preserved
loop-context-preserved c = record {
  list = list_goes_on _ _ _ _ _ c.loop-context.invariant.list (cc (c.loop-context-test.true, c.starts_modifier.ensures))
      c.in_ok-all.ensures.read (one_more_shrinks _ modifier_shrinks _ _ _ _ c.in_ok-all.ensures.read);
  places = c.in_ok-all.ensures.places (spots c.args.tokens.now) c.loop-context.invariant.places;
}

pub returns-clause-read : goal.returns-clause-read
returns-clause-read c =
    repeat_ends c.loop-context.invariant.list (cc (c.loop-context-test.false, c.starts_modifier.ensures))

-- Why the functions of the cycle `statements` in src/statements.rt keep their contracts.

use Rattle.std.proofs.Common.{◌≡◌, ap, ◌∙◌, ◌∷◌}
use Rattle.std.proofs.lemmas.Result.{err_from_is_err_and}
use Rattle.ls_lexer.specs.declared.word.Word.TheVariants as words
use Rattle.ls_lexer.specs.Lexemes.{Reserved, lexeme_of}
use Rattle.ls_parser_spelling.specs.Places.{spot, spots}
use Rattle.ls_parser_expressions.proofs.Repeats.{repeat_ends, repeat_fails, list_goes_on}
use Rattle.ls_parser_expressions.proofs.Shrinks.{one_more_shrinks, tokens_shrink}
use Rattle.ls_parser_statements.proofs.StatementsRead.{piece_shrinks}
use Rattle.ls_parser_statements.proofs.Places.{if_else_is, try_is, synchronized_is, without_label, behind_label}
use Rattle.ls_parser_statements.proofs.Places.{at_label}
use Rattle.ls_parser_statements.proofs.statements.+statements.Goals as goal

pub block_items-returns-in_err-all-clause-read : goal.block_items-returns-in_err-all-clause-read
block_items-returns-in_err-all-clause-read t c =
    let p = err_from_is_err_and c.from_residual.result c.from_residual.ensures.1 in
    rw (p.1, p.2)
    (repeat_fails c.in_err-all.field-0.0 c.loop-context.invariant.list
    (cc (c.loop-context-test.true, c.starts_with.ensures)) c.in_err-all.ensures.read)

pub block_items-loop-context-smaller : goal.block_items-loop-context-smaller
block_items-loop-context-smaller t c =
    tokens_shrink c.loop-context.all.rest.now c.in_ok-all.all.rest.now
    (one_more_shrinks _ (piece_shrinks c.args.limit) _ _ _ _ c.in_ok-all.ensures.read)

pub block_items-loop-context-preserved : goal.block_items-loop-context-preserved
block_items-loop-context-preserved t c = record {
  list = list_goes_on _ _ _ _ _ c.loop-context.invariant.list (cc (c.loop-context-test.true, c.starts_with.ensures))
      c.in_ok-all.ensures.read (one_more_shrinks _ (piece_shrinks c.args.limit) _ _ _ _ c.in_ok-all.ensures.read);
  places = c.in_ok-all.ensures.places (spots c.args.tokens.now) c.loop-context.invariant.places;
  height = c.in_ok-all.ensures.height.0;
  low = c.in_ok-all.ensures.height.1;
}

pub block_items-returns-clause-read : goal.block_items-returns-clause-read
block_items-returns-clause-read t c =
    repeat_ends c.loop-context.invariant.list (cc (c.loop-context-test.false, c.starts_with.ensures))

-- ---- places

pub if_statement-returns-in_ok-second-in-Some-clause-places :
    goal.if_statement-returns-in_ok-second-in-Some-clause-places
if_statement-returns-in_ok-second-in-Some-clause-places t c =
    if_else_is c.in_ok-condition.ensures.places c.in_ok-first.ensures.places c.in-Some.ensures.placed
    c.in_ok-second-in-Some.ensures.places

pub begun-returns-in-Word-For-clause-places : goal.begun-returns-in-Word-For-clause-places
begun-returns-in-Word-For-clause-places t c =
    let first : spots c.args.all.now ≡ spot (lexeme_of c.args.token.now.kind) c.args.token.now.span ∷
    spots c.args.rest.now = c.requires.begins in
    let same : c.in-Word-For.field-0 ≡ words.For = rw c.in-Word-For.is at c.in-Word-For.field-0-is in
    without_label c.for_statement.result _
    (first ∙ ap (λ k. spot k c.args.token.now.span ∷ spots c.args.rest.now) (ap lexeme_of c.in-Word-For.is ∙
    ap Reserved same)) c.for_statement.ensures.places

pub labelled_loop-returns-in-Some-clause-places : goal.labelled_loop-returns-in-Some-clause-places
labelled_loop-returns-in-Some-clause-places t c =
    behind_label c.while_statement.result _ c.in_ok-label.label c.in_ok-label.ensures.0 c.in_ok-label.ensures.1
    c.in-Some.ensures.placed c.while_statement.ensures.places

pub labelled_loop-returns-clause-places : goal.labelled_loop-returns-clause-places
labelled_loop-returns-clause-places t c =
    behind_label c.for_statement.result _ c.in_ok-label-2.label c.in_ok-label-2.ensures.0 c.in_ok-label-2.ensures.1
    c.in_ok-word.ensures.placed c.for_statement.ensures.places

pub other_statement-returns-in-Some-clause-places : goal.other_statement-returns-in-Some-clause-places
other_statement-returns-in-Some-clause-places t c =
    at_label c.labelled_loop.result _ c.in-Some.ensures.places c.labelled_loop.ensures.places

pub try_statement-returns-clause-places : goal.try_statement-returns-clause-places
try_statement-returns-clause-places t c =
    try_is c.try_tree.ensures.places c.in_ok-body.ensures.places c.in_ok-word.ensures.placed
    c.in_ok-finally.ensures.places

pub synchronized_statement-returns-clause-places : goal.synchronized_statement-returns-clause-places
synchronized_statement-returns-clause-places t c =
    synchronized_is c.synchronized_tree.ensures.places c.in_ok-target.ensures.places c.in_ok-body.ensures.places

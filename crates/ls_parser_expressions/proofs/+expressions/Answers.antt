-- Why the functions of the cycle `expressions` in src/lib.rt keep their contracts.

use Rattle.std.proofs.Common.{◌≡◌, true, false, refl, arith}
use Rattle.std.proofs.lemmas.Result.{err_from_is_err_and}
use Rattle.ls_lexer.specs.Lexemes.{lexemes}
use Rattle.ls_tree.specs.PlacedTrees.{span_of}
use Rattle.ls_tree.specs.Placed.{placed}
use Rattle.ls_tree.specs.Views.{bare}
use Rattle.ls_parser_spelling.specs.Places.{spots}
use Rattle.ls_parser_tokens.specs.Reading.{group_at}
use Rattle.ls_parser_expressions.specs.ReadingExpressions.{is_markable, has_operator, unary_at, expression_at}
use Rattle.ls_parser_expressions.proofs.Chains.{chain_climbs, chain_ends, fails_climbs}
use Rattle.ls_parser_expressions.proofs.Repeats.{repeat_ends, repeat_fails, group_ends, group_fails, group_goes_on}
use Rattle.ls_parser_expressions.proofs.Repeats.{fails_first}
use Rattle.ls_parser_expressions.proofs.Shrinks.{one_more_shrinks, tokens_shrink, comma_shrinks}
use Rattle.ls_parser_expressions.proofs.ExpressionsRead.{expression_shrinks}
use Rattle.ls_parser_expressions.proofs.Places.{index_is, new_array_is, call_on_is, call_is, new_is, new_markable_is}
use Rattle.ls_parser_expressions.proofs.+expressions.Goals as goal

pub expressions::binary-returns-in_err-left-2-clause-read : goal.expressions::binary-returns-in_err-left-2-clause-read
expressions::binary-returns-in_err-left-2-clause-read t c =
    let p = err_from_is_err_and c.from_residual-in_err-left-2.result c.from_residual-in_err-left-2.ensures.1 in
    rw (p.1, p.2)
    (fails_climbs c.in_err-left-2.field-0.0 c.loop-rank.rank c.args.wanted c.args.limit
    (unary_at c.args.limit false) (lexemes c.args.tokens.now) c.loop-rank-test.true
    (repeat_fails c.in_err-left-2.field-0.0 (c.loop-rank.invariant.chain c.loop-rank-test.true)
    (cc (c.if-has_operator.true, c.has_operator.ensures)) c.in_err-left-2.ensures.read))

pub expressions::binary-loop-rank-preserved : goal.expressions::binary-loop-rank-preserved
expressions::binary-loop-rank-preserved t c =
    let none : has_operator c.loop-rank.rank (lexemes c.loop-rank.left.rest.now) ≡ false =
    cc (c.if-has_operator.false, c.has_operator.ensures) in
    let chain = c.loop-rank.invariant.chain c.loop-rank-test.true in
    record {
      from = omega arith;
      most = omega (arith, c.loop-rank-test.true);
      chain = λ up. chain_climbs c.loop-rank.rank c.args.limit (unary_at c.args.limit false) (lexemes c.args.tokens.now)
          (bare c.loop-rank.left.tree) (lexemes c.loop-rank.left.rest.now) chain none;
      done = λ last. chain_ends c.loop-rank.rank c.args.wanted c.args.limit (unary_at c.args.limit false)
          (lexemes c.args.tokens.now) (bare c.loop-rank.left.tree) (lexemes c.loop-rank.left.rest.now)
          c.loop-rank-test.true last chain none;
      places = c.loop-rank.invariant.places;
      height = c.loop-rank.invariant.height;
      low = c.loop-rank.invariant.low;
    }

pub expressions::post-returns-in_err-left-2-clause-read : goal.expressions::post-returns-in_err-left-2-clause-read
expressions::post-returns-in_err-left-2-clause-read t c =
    let p = err_from_is_err_and c.from_residual-in_err-left-2.result c.from_residual-in_err-left-2.ensures.1 in
    rw (p.1, p.2)
    (repeat_fails c.in_err-left-2.field-0.0 c.loop-context.invariant.chain
    (cc (c.loop-context-test.true, c.has_suffix.ensures)) c.in_err-left-2.ensures.read)

pub expressions::post-returns-clause-read : goal.expressions::post-returns-clause-read
expressions::post-returns-clause-read t c =
    repeat_ends c.loop-context.invariant.chain (cc (c.loop-context-test.false, c.has_suffix.ensures))

pub suffixes::arguments-returns-in_err-all-clause-read : goal.suffixes::arguments-returns-in_err-all-clause-read
suffixes::arguments-returns-in_err-all-clause-read t c =
    let p = err_from_is_err_and c.from_residual-in_err-all.result c.from_residual-in_err-all.ensures.1 in
    rw (p.1, p.2)
    (fails_first c.in_err-all.field-0.0 (group_at (expression_at c.args.limit) (lexemes c.args.tokens.now))
    (λ ts. _)
    (group_fails c.in_err-all.field-0.0 c.loop-context.invariant.group
    (cc (c.loop-context-test.true, c.starts_with.ensures)) c.in_err-all.ensures.read))

pub suffixes::arguments-loop-context-smaller : goal.suffixes::arguments-loop-context-smaller
suffixes::arguments-loop-context-smaller t c =
    tokens_shrink c.loop-context.all.rest.now c.in_ok-all.all.rest.now
    (one_more_shrinks _ (comma_shrinks _ (expression_shrinks c.args.limit)) _ _ _ _ c.in_ok-all.ensures.read)

pub suffixes::arguments-loop-context-preserved : goal.suffixes::arguments-loop-context-preserved
suffixes::arguments-loop-context-preserved t c = record {
  group = group_goes_on c.loop-context.invariant.group (cc (c.loop-context-test.true, c.starts_with.ensures))
      c.in_ok-all.ensures.read
      (one_more_shrinks _ (comma_shrinks _ (expression_shrinks c.args.limit)) _ _ _ _ c.in_ok-all.ensures.read);
  places = c.in_ok-all.ensures.places (spots c.args.tokens.now) c.loop-context.invariant.places;
  height = c.in_ok-all.ensures.height.0;
  low = c.in_ok-all.ensures.height.1;
}

pub suffixes::arguments-returns-clause-read : goal.suffixes::arguments-returns-clause-read
suffixes::arguments-returns-clause-read t c =
    rw (group_ends c.loop-context.invariant.group c.in_ok-all-2.ensures.read, c.in_ok-all-2.ensures.same.0) refl

-- ---- places

pub suffixes::index-returns-clause-places : goal.suffixes::index-returns-clause-places
suffixes::index-returns-clause-places t c =
    index_is c.in_ok-index-3.ensures.same.0 c.in_ok-index-2.ensures.0 c.in_ok-index-2.ensures.2
    c.in_ok-open.ensures.placed c.in_ok-index.ensures.places c.in_ok-index-3.ensures.placed

pub expressions::made-returns-clause-places : goal.expressions::made-returns-clause-places
expressions::made-returns-clause-places t c =
    new_array_is c.upto.ensures c.in_ok-word.ensures.placed c.in_ok-length.ensures.places

pub suffixes::member-returns-in_ok-arguments-in-Some-clause-places :
    goal.suffixes::member-returns-in_ok-arguments-in-Some-clause-places
suffixes::member-returns-in_ok-arguments-in-Some-clause-places t c =
    let from : c.span.result ≡ span_of (placed c.args.left.tree.value) = cc (c.span.ensures, c.deref.ensures) in
    call_on_is c.called.ensures.placed from c.upto-span.ensures c.in_ok-name.ensures.placed c.in-Some.ensures.placed
    c.in_ok-arguments-in-Some.ensures.places

pub expressions::named-returns-in_ok-arguments-in-Some-clause-places :
    goal.expressions::named-returns-in_ok-arguments-in-Some-clause-places
expressions::named-returns-in_ok-arguments-in-Some-clause-places t c =
    call_is c.in_ok-name.name c.in_ok-name.ensures.0 c.in_ok-name.ensures.1 c.called.ensures.placed c.upto-span.ensures
    c.in-Some.ensures.placed c.in_ok-arguments-in-Some.ensures.places

pub expressions::object-returns-in_ok-arguments-clause-places :
    goal.expressions::object-returns-in_ok-arguments-clause-places
expressions::object-returns-in_ok-arguments-clause-places t c =
    let markable : is_markable c.args.class.text.now ≡ true = cc (c.is_markable.ensures, c.if-is_markable.true) in
    new_markable_is markable c.new_markable.ensures.placed c.upto-span.ensures c.in_ok-class.ensures.placed
    c.in_ok-open.ensures.placed c.in_ok-arguments.ensures.places

pub expressions::object-returns-in_ok-name-clause-places : goal.expressions::object-returns-in_ok-name-clause-places
expressions::object-returns-in_ok-name-clause-places t c =
    new_is c.in_ok-name.name c.in_ok-name.ensures.0 c.in_ok-name.ensures.1 c.new_object.ensures.placed
    c.upto-span-else-is_markable.ensures c.in_ok-open-2.ensures.placed c.in_ok-arguments-2.ensures.places

-- Why `lex_any` in src/lexing.rt keeps its contract, its loop and what it calls with.

use Rattle.std.proofs.Common.{◌<◌, length}
use Rattle.std.proofs.lemmas.Result.{err_from_is_err_and}
use Rattle.ls_lexer.proofs.Texts.{text_begins, text_ends, text_split, text_order, text_fails, text_goes_on, not_empty}
use Rattle.ls_lexer.proofs.Texts.{empty}
use Rattle.ls_lexer.proofs.lexing.lex_any.Goals as goal

pub loop-rest-init : goal.loop-rest-init
loop-rest-init c = rw c.new-out.ensures.items (text_begins c.args.text.now c.utf8.text)

pub is_empty-requires-text-self : goal.is_empty-requires-text-self
is_empty-requires-text-self c _ = c.loop-rest.invariant.utf8

pub returns-in_err-kind-clause-refused : goal.returns-in_err-kind-clause-refused
returns-in_err-kind-clause-refused c =
    let p = err_from_is_err_and c.from_residual.result c.from_residual.ensures.1 in
    let pos : 0 < length c.loop-rest.rest.now = not_empty _ c.loop-rest-test.ensures in
    rw (p.1, p.2) (text_fails c.in_err-kind.field-0.0 c.loop-rest.invariant pos c.in_err-kind.ensures.fault.1
    c.in_err-kind.ensures.fault.0)

pub split_at-requires : goal.split_at-requires
split_at-requires c = c.in_ok-kind.ensures.boundary.1

pub loop-rest-preserved : goal.loop-rest-preserved
loop-rest-preserved c =
    text_goes_on c.in_ok-kind.kind c.in_ok-kind.n _ _ c.loop-rest.invariant c.in_ok-kind.ensures.boundary.0
    c.in_ok-kind.ensures.boundary.1 c.in_ok-kind.ensures.read c.in_ok-kind.ensures.slice c.in_ok-push_kind.ensures
    c.split_at.ensures.back

pub returns-clause-read : goal.returns-clause-read
returns-clause-read c = text_ends c.loop-rest.invariant (empty _ c.loop-rest-test.ensures)

pub returns-clause-split : goal.returns-clause-split
returns-clause-split c = text_split c.loop-rest.invariant (empty _ c.loop-rest-test.ensures)

pub returns-clause-spans : goal.returns-clause-spans
returns-clause-spans c = text_order c.loop-rest.invariant (empty _ c.loop-rest-test.ensures)

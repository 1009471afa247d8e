-- Why the functions of the cycle `expressions` in src/expressions.rt keep their contracts.

use Rattle.std.proofs.Common.{rules, arith, ◌≡◌, ◌+◌, ap, ◌∙◌}
use Rattle.ls_tree.specs.Trees as trees
use Rattle.ls_tree.specs.Views.{bare, bare_target, call_of, name_text, expressions_of}
use Rattle.ls_parser_spelling.proofs.Nodes.{nodes, all_nodes, call_nodes, nodes-call_of}
use Rattle.ls_parser_spelling.proofs.Rows.{call_bare, new_bare, new_markable_bare}
use Rattle.ls_parser_spelling.proofs.expressions.+expressions.Goals as goal

pub put_expression-returns-in-Call : goal.put_expression-returns-in-Call
put_expression-returns-in-Call t c =
    let e : bare c.args.e.now ≡ call_of (bare_target c.in-Call.target) (name_text c.in-Call.name)
    (expressions_of c.in-Call.arguments.items) =
    ap bare c.in-Call.is ∙ call_bare c.in-Call.target c.in-Call.name c.in-Call.arguments c.in-Call.span in
    rw e (search rules)

pub put_expression-put_call-requires : goal.put_expression-put_call-requires
put_expression-put_call-requires t c =
    let e : bare c.args.e.now ≡ call_of (bare_target c.in-Call.target) (name_text c.in-Call.name)
    (expressions_of c.in-Call.arguments.items) =
    ap bare c.in-Call.is ∙ call_bare c.in-Call.target c.in-Call.name c.in-Call.arguments c.in-Call.span in
    let n : nodes (bare c.args.e.now) ≡
    call_nodes (bare_target c.in-Call.target) (expressions_of c.in-Call.arguments.items) + 1 =
    ap nodes e ∙ nodes-call_of (bare_target c.in-Call.target) (name_text c.in-Call.name)
    (expressions_of c.in-Call.arguments.items) in
    let m : call_nodes (bare_target c.in-Call.target) (expressions_of c.deref-in-Call.result.now) ≡
    call_nodes (bare_target c.in-Call.target) (expressions_of c.in-Call.arguments.items) =
    ap (λ es. call_nodes (bare_target c.in-Call.target) (expressions_of es)) c.deref-in-Call.ensures.value in
    (omega (arith, n, m, c.decreases), tt)

pub put_expression-returns-in-New : goal.put_expression-returns-in-New
put_expression-returns-in-New t c =
    let e : bare c.args.e.now ≡ trees.New (name_text c.in-New.class) (expressions_of c.in-New.arguments.items) =
    ap bare c.in-New.is ∙ new_bare c.in-New.class c.in-New.arguments c.in-New.span in
    rw e (search rules)

pub put_expression-put_made-requires : goal.put_expression-put_made-requires
put_expression-put_made-requires t c =
    let e : bare c.args.e.now ≡ trees.New (name_text c.in-New.class) (expressions_of c.in-New.arguments.items) =
    ap bare c.in-New.is ∙ new_bare c.in-New.class c.in-New.arguments c.in-New.span in
    let n : nodes (bare c.args.e.now) ≡ all_nodes (expressions_of c.in-New.arguments.items) + 1 = ap nodes e in
    let m : all_nodes (expressions_of c.deref-in-New.result.now) ≡ all_nodes (expressions_of c.in-New.arguments.items) =
    ap (λ es. all_nodes (expressions_of es)) c.deref-in-New.ensures.value in
    (omega (arith, n, m, c.decreases), tt)

pub put_expression-returns-in-NewMarkable : goal.put_expression-returns-in-NewMarkable
put_expression-returns-in-NewMarkable t c =
    let e : bare c.args.e.now ≡
    trees.NewMarkable (name_text c.in-NewMarkable.class) (expressions_of c.in-NewMarkable.arguments.items) =
    ap bare c.in-NewMarkable.is ∙ new_markable_bare c.in-NewMarkable.class c.in-NewMarkable.arguments
    c.in-NewMarkable.span in
    rw e (search rules)

pub put_expression-put_made_markable-requires : goal.put_expression-put_made_markable-requires
put_expression-put_made_markable-requires t c =
    let e : bare c.args.e.now ≡
    trees.NewMarkable (name_text c.in-NewMarkable.class) (expressions_of c.in-NewMarkable.arguments.items) =
    ap bare c.in-NewMarkable.is ∙ new_markable_bare c.in-NewMarkable.class c.in-NewMarkable.arguments
    c.in-NewMarkable.span in
    let n : nodes (bare c.args.e.now) ≡ all_nodes (expressions_of c.in-NewMarkable.arguments.items) + 1 = ap nodes e in
    let m : all_nodes (expressions_of c.deref-in-NewMarkable.result.now) ≡
    all_nodes (expressions_of c.in-NewMarkable.arguments.items) =
    ap (λ es. all_nodes (expressions_of es)) c.deref-in-NewMarkable.ensures.value in
    (omega (arith, n, m, c.decreases), tt)

-- Why the functions of the cycle `expressions` in src/expressions.rt keep their contracts.

use Rattle.std.proofs.Common.{rules, arith, ◌≡◌, ◌+◌, ap, ◌∙◌}
use Rattle.ls_types_elaboration.specs.Trees as trees
use Rattle.ls_types_elaboration.specs.Placed.{placed, placed_name, placed_all, placed_target, call_of}
use Rattle.ls_types_expressions.proofs.Nodes.{nodes, all_nodes, call_nodes, nodes-call_of}
use Rattle.ls_types_expressions.proofs.Rows.{call_read, making_read, markable_read}
use Rattle.ls_types_expressions.proofs.expressions.+expressions.Goals as goal

pub typed-returns-in-New : goal.typed-returns-in-New
typed-returns-in-New t c =
    let e : placed c.args.e.now ≡ trees.New (placed_name c.in-New.class) (placed_all c.in-New.arguments.items)
    c.in-New.span =
    making_read c.args.e.now c.in-New.class c.in-New.arguments c.in-New.span c.in-New.is in
    rw e (search rules)

pub typed-making-requires : goal.typed-making-requires
typed-making-requires t c =
    let e : placed c.args.e.now ≡ trees.New (placed_name c.in-New.class) (placed_all c.in-New.arguments.items)
    c.in-New.span =
    making_read c.args.e.now c.in-New.class c.in-New.arguments c.in-New.span c.in-New.is in
    let n : nodes (placed c.args.e.now) ≡ all_nodes (placed_all c.in-New.arguments.items) + 1 = ap nodes e in
    let m : all_nodes (placed_all c.deref-in-New.result.now) ≡ all_nodes (placed_all c.in-New.arguments.items) = ap
    (λ es. all_nodes (placed_all es)) c.deref-in-New.ensures.value in
    (omega (arith, n, m, c.decreases), tt)

pub typed-returns-in-NewMarkable : goal.typed-returns-in-NewMarkable
typed-returns-in-NewMarkable t c =
    let e : placed c.args.e.now ≡ trees.NewMarkable (placed_name c.in-NewMarkable.class)
    (placed_all c.in-NewMarkable.arguments.items) c.in-NewMarkable.span =
    markable_read c.args.e.now c.in-NewMarkable.class c.in-NewMarkable.arguments c.in-NewMarkable.span
    c.in-NewMarkable.is in
    rw e (search rules)

pub typed-markable-requires : goal.typed-markable-requires
typed-markable-requires t c =
    let e : placed c.args.e.now ≡ trees.NewMarkable (placed_name c.in-NewMarkable.class)
    (placed_all c.in-NewMarkable.arguments.items) c.in-NewMarkable.span =
    markable_read c.args.e.now c.in-NewMarkable.class c.in-NewMarkable.arguments c.in-NewMarkable.span
    c.in-NewMarkable.is in
    let n : nodes (placed c.args.e.now) ≡ all_nodes (placed_all c.in-NewMarkable.arguments.items) + 1 = ap nodes e in
    let m : all_nodes (placed_all c.deref-in-NewMarkable.result.now) ≡ all_nodes
    (placed_all c.in-NewMarkable.arguments.items) = ap (λ es. all_nodes (placed_all es))
    c.deref-in-NewMarkable.ensures.value in
    (omega (arith, n, m, c.decreases), tt)

pub typed-returns-in-Call : goal.typed-returns-in-Call
typed-returns-in-Call t c =
    let e : placed c.args.e.now ≡ call_of (placed_target c.in-Call.target) (placed_name c.in-Call.name)
    (placed_all c.in-Call.arguments.items) c.in-Call.span =
    call_read c.args.e.now c.in-Call.target c.in-Call.name c.in-Call.arguments c.in-Call.span c.in-Call.is in
    rw e (search rules)

pub typed-call-requires : goal.typed-call-requires
typed-call-requires t c =
    let e : placed c.args.e.now ≡ call_of (placed_target c.in-Call.target) (placed_name c.in-Call.name)
    (placed_all c.in-Call.arguments.items) c.in-Call.span =
    call_read c.args.e.now c.in-Call.target c.in-Call.name c.in-Call.arguments c.in-Call.span c.in-Call.is in
    let n : nodes (placed c.args.e.now) ≡ call_nodes (placed_target c.in-Call.target)
    (placed_all c.in-Call.arguments.items) + 1 =
    ap nodes e ∙ nodes-call_of (placed_target c.in-Call.target) (placed_name c.in-Call.name)
    (placed_all c.in-Call.arguments.items) c.in-Call.span in
    let m : call_nodes (placed_target c.in-Call.target) (placed_all c.deref-in-Call.result.now) ≡ call_nodes
    (placed_target c.in-Call.target) (placed_all c.in-Call.arguments.items) =
    ap (λ es. call_nodes (placed_target c.in-Call.target) (placed_all es)) c.deref-in-Call.ensures.value in
    (omega (arith, n, m, c.decreases), tt)

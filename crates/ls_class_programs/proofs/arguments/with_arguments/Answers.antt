-- Why `with_arguments` in src/arguments.rt keeps its clause `many` and its loop `parameter`.

use Rattle.std.proofs.Common.{◌≡◌, ◌∙◌, ◌+◌, ◌*◌, ap, sym, arith, length, map, take, string_bytes}
use Rattle.std.proofs.lemmas.List.{length-map}
use Rattle.ls_items.specs.Cutting.{plain_text}
use Rattle.ls_tree.specs.Views.{bare_parameter}
use Rattle.ls_class_programs.specs.Menus.{with_argument, with_arguments}
use Rattle.ls_class_programs.proofs.Counted.{counted, first_parameters, next_arguments}
use Rattle.ls_class_programs.proofs.arguments.with_arguments.Goals as goal

pub returns-then-len-more-gt-MOST_LISTS-clause-many : goal.returns-then-len-more-gt-MOST_LISTS-clause-many
returns-then-len-more-gt-MOST_LISTS-clause-many c =
    let many = counted (map plain_text c.args.integers.now) (map string_bytes c.args.begun.items)
    c.args.parameters.now c.loop-parameter.parameter-index
    c.parameter-item.result
    c.loop-parameter.all.items c.arguments_of-more.result.now (omega arith) c.parameter-item.is
    c.loop-parameter.invariant.taken c.arguments_of-more.ensures.is in
    let held : c.len.result ≡ length c.loop-parameter.all.items = omega arith in
    let size = ap (λ k. k * length c.arguments_of-more.result.now) held in
    let same = ap length (first_parameters (map plain_text c.args.integers.now)
    (map string_bytes c.args.begun.items) (c.loop-parameter.parameter-index + 1)
    c.args.parameters.now) in
    λ _. (c.loop-parameter.parameter-index + 1, omega (arith, many, same, size))

pub loop-parameter-preserved : goal.loop-parameter-preserved
loop-parameter-preserved c =
    let many = counted (map plain_text c.args.integers.now) (map string_bytes c.args.begun.items)
    c.args.parameters.now c.loop-parameter.parameter-index
    c.parameter-item.result
    c.loop-parameter.all.items c.arguments_of-more.result.now (omega arith) c.parameter-item.is
    c.loop-parameter.invariant.taken c.arguments_of-more.ensures.is in
    let next = c.in_ok-longer.ensures
    ∙ ap (λ l. with_argument (map string_bytes l) (map plain_text c.arguments_of-more.result.now))
    c.as_slice.ensures.value
    ∙ ap (λ l. with_argument l (map plain_text c.arguments_of-more.result.now)) c.loop-parameter.invariant.taken
    ∙ ap (with_argument (with_arguments (map plain_text c.args.integers.now) (map string_bytes c.args.begun.items)
    (map bare_parameter
    (take c.loop-parameter.parameter-index c.args.parameters.now)))) c.arguments_of-more.ensures.is
    ∙ sym (next_arguments (map plain_text c.args.integers.now) (map string_bytes c.args.begun.items)
    c.args.parameters.now c.loop-parameter.parameter-index
    c.parameter-item.result (omega arith) c.parameter-item.is) in
    let held : c.len.result ≡ length c.loop-parameter.all.items = omega arith in
    let size = ap (λ k. k * length c.arguments_of-more.result.now) held in
    let long = sym (length-map c.in_ok-longer.longer.items string_bytes) ∙ ap length next ∙ many in
    record { taken = next; few = omega (arith, long, size) }

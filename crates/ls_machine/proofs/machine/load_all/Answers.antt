-- Why `load_all` in src/machine.rt keeps its contract.

use Rattle.std.proofs.Common.{◌≡◌, ◌≤◌, length, refl, rules, ap, ◌∙◌, arith}
use Rattle.std.specs.List.{All}
use Rattle.ls_code.specs.Cells.{Cells}
use Rattle.ls_machine.proofs.Back.{of_started}
use Rattle.ls_machine.proofs.Starting.{memory_started, threads_started}
use Rattle.ls_machine.specs.Back.{IsOf}
use Rattle.ls_machine.proofs.machine.load_all.Goals as goal
use Rattle.ls_machine.proofs.machine.load_all.Goals.{In_ok-cells}

-- it is made of its code
of_code : (c : In_ok-cells) →
    IsOf c.in_ok-code.code c.in_ok-threads.threads.items c.in_ok-cells.cells c.events_needed-limit.result
of_code c =
    let p = c.in_ok-code.code in
    let n = c.most_needed.ensures in
    let m : c.most_needed.result ≤ c.max-operands_room.result = search rules in
    let starts : All (λ s. s.need ≤ c.most_needed.result) p.starts = rw c.starts.ensures.starts at n in
    let needs : All (λ s. s.need ≤ c.max-operands_room.result) p.starts = λ k d h. let s = starts k d h in
    omega (arith, s, m) in
    let names : c.in_ok-cells.cells.names ≡ p.names = ap (λ (x : Cells). x.names) c.in_ok-cells.ensures ∙
    c.names.ensures in
    let sizes : c.in_ok-cells.cells.sizes ≡ p.sizes = ap (λ (x : Cells). x.sizes) c.in_ok-cells.ensures ∙
    (c.in_ok-copied_sizes.ensures ∙ c.sizes.ensures) in
    let limit : c.in_ok-cells.cells.limit ≡ c.args.cells = ap (λ (x : Cells). x.limit) c.in_ok-cells.ensures in
    let room : p.names ≤ c.in_ok-cells.cells.limit = rw (limit, c.in_ok-code.ensures) c.requires.names in
    rw (c.in_ok-threads.ensures, c.events_needed-limit.ensures, c.starts-2.ensures.starts)
    (of_started c.locals_needed-locals_room.result c.max-operands_room.result p c.in_ok-cells.cells needs names
    sizes room)

pub invariant_of-result : goal.invariant_of-result
invariant_of-result c =
    let o = c.operands_needed.ensures in
    let m : c.operands_needed.result ≤ c.max-operands_room.result = search rules in
    let few : length c.in_ok-code.code.starts ≤ 65 = rw c.starts-2.ensures.starts at c.starts-2.ensures.few in (
      rw (
        c.in_ok-threads.ensures,
        c.in_ok-history.ensures.len,
        c.events_needed-limit.ensures,
        c.starts-2.ensures.starts,
      )
          (memory_started c.locals_needed-locals_room.result c.max-operands_room.result c.in_ok-code.code
          c.in_ok-code.code.starts few c.locals_needed-locals_room.ensures
          (λ k d h. let p = o k d h in omega (arith, p, m))),
      search rules,
      of_code c,
    )

pub returns : goal.returns
returns c = rw (
  c.in_ok-threads.ensures,
  c.in_ok-history.ensures.items,
  threads_started,
  c.starts-2.ensures.starts,
  c.in_ok-cells.ensures,
  c.names.ensures,
  c.in_ok-copied_sizes.ensures,
  c.sizes.ensures,
  c.in_ok-code.ensures,
) refl

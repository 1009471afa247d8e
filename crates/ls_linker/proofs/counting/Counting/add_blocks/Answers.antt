-- Why `Counting::add_blocks` in src/counting.rt keeps its clause `length`.

use Rattle.std.proofs.Common.{◌≡◌, ℕ, ◌+◌, ◌*◌, ◌≤◌, List, ap, subst, ◌∙◌, arith}
use Rattle.std.specs.Prelude.{min}
use Rattle.ls_linker.specs.declared.ways.Way.{Way}
use Rattle.ls_linker.specs.Costs.{total, returned}
use Rattle.ls_linker.proofs.Blocks.{all_counted, returns_counted}
use Rattle.ls_linker.proofs.counting.Counting.add_blocks.Goals as goal

pub returns-clause-length : goal.returns-clause-length
returns-clause-length c =
    let ways : List Way = c.args.ways.now in
    let before : ℕ = c.args.self.now.copies in
    let first : ℕ = c.args.self.now.length in
    let copies : ℕ = c.args.inside.now.copies in
    let long : ℕ = c.args.inside.now.length in
    let n : ℕ = c.blocks_of-count.result in
    let r : ℕ = c.returns_of.result in
    let few : before + n * (1 + copies) ≤ 4096 = omega (arith, c.in-Some.ensures) in
    let all : n ≡ 2 + total ways = all_counted before (total ways) n copies c.blocks_of-count.ensures few in
    let back : r ≡ returned ways = returns_counted before copies r ways c.returns_of.ensures
    (subst (λ k. before + k * (1 + copies) ≤ 4096) all few) in
    c.with_length-self.ensures
    ∙ ap (λ k. min (first + k * (long + 2) + 2 * r + 4) 65537) all
    ∙ ap (λ k. min (first + (2 + total ways) * (long + 2) + 2 * k + 4) 65537) back

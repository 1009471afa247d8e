-- Why `placed` in src/line.rt keeps what `push_number` and `push_text` require.

use Rattle.std.proofs.Common.{ap, arith, length, ℕ}
use Rattle.std.proofs.lemmas.Fmt.{length-decimal-le}
use Rattle.std.proofs.lemmas.List.{length-append}
use Rattle.ls_faults.proofs.line.placed.Goals as goal

pub push_number-requires : goal.push_number-requires
push_number-requires c =
    let digits = length-decimal-le 20 c.args.at (omega arith) (omega arith) (omega arith) in
    let one = ap length c.push_text.ensures in
    let two = ap length c.push_text-2.ensures in
    let three = ap length c.push_text-3.ensures in
    let start = ap length c.new-line.ensures in
    omega (arith, length-append {A = ℕ})

pub push_text-requires-4 : goal.push_text-requires-4
push_text-requires-4 c =
    let digits = length-decimal-le 20 c.args.at (omega arith) (omega arith) (omega arith) in
    let one = ap length c.push_text.ensures in
    let two = ap length c.push_text-2.ensures in
    let three = ap length c.push_text-3.ensures in
    let four = ap length c.push_number.ensures in
    let start = ap length c.new-line.ensures in
    omega (arith, length-append {A = ℕ})

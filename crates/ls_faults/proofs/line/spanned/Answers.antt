-- Why `spanned` in src/line.rt keeps what `push_number` and `push_text` require.

use Rattle.std.proofs.Common.{◌<◌, ◌≤◌, ap, arith, length, ℕ}
use Rattle.std.specs.Fmt.{decimal}
use Rattle.std.proofs.lemmas.Fmt.{length-decimal-le}
use Rattle.std.proofs.lemmas.List.{length-append}
use Rattle.ls_faults.proofs.line.spanned.Goals as goal

digits : (n : ℕ) → n < 18446744073709551616 → length (decimal n) ≤ 20
digits n small = length-decimal-le 20 n (omega arith) (omega arith) (omega arith)

pub push_number-requires : goal.push_number-requires
push_number-requires c =
    let from = digits c.args.span.start (omega arith) in
    let start = ap length c.new-line.ensures in
    let one = ap length c.push_text.ensures in
    let two = ap length c.push_text-2.ensures in
    let three = ap length c.push_text-3.ensures in
    omega (arith, length-append {A = ℕ})

pub push_text-requires-4 : goal.push_text-requires-4
push_text-requires-4 c =
    let from = digits c.args.span.start (omega arith) in
    let start = ap length c.new-line.ensures in
    let one = ap length c.push_text.ensures in
    let two = ap length c.push_text-2.ensures in
    let three = ap length c.push_text-3.ensures in
    let four = ap length c.push_number.ensures in
    omega (arith, length-append {A = ℕ})

pub push_number-requires-2 : goal.push_number-requires-2
push_number-requires-2 c =
    let from = digits c.args.span.start (omega arith) in
    let to = digits c.args.span.end (omega arith) in
    let start = ap length c.new-line.ensures in
    let one = ap length c.push_text.ensures in
    let two = ap length c.push_text-2.ensures in
    let three = ap length c.push_text-3.ensures in
    let four = ap length c.push_number.ensures in
    let five = ap length c.push_text-4.ensures in
    omega (arith, length-append {A = ℕ})

pub push_text-requires-5 : goal.push_text-requires-5
push_text-requires-5 c =
    let from = digits c.args.span.start (omega arith) in
    let to = digits c.args.span.end (omega arith) in
    let start = ap length c.new-line.ensures in
    let one = ap length c.push_text.ensures in
    let two = ap length c.push_text-2.ensures in
    let three = ap length c.push_text-3.ensures in
    let four = ap length c.push_number.ensures in
    let five = ap length c.push_text-4.ensures in
    let six = ap length c.push_number-2.ensures in
    omega (arith, length-append {A = ℕ})

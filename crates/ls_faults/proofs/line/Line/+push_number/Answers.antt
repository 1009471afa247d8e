-- Why the functions of the cycle `Line::push_number` in src/line.rt keep their contracts.

use Rattle.std.proofs.Common.{◌≡◌, ◌∙◌, ◌+◌, ◌<◌, ◌%◌, ◌/◌, ◌++◌, ◌∷◌, [], ap, sym, arith, append_assoc, length}
use Rattle.std.specs.Fmt.{decimal}
use Rattle.std.proofs.lemmas.Fmt.{decimal_digit, decimal_nonempty, decimal_step}
use Rattle.std.proofs.lemmas.List.{length-append}
use Rattle.ls_faults.proofs.line.Line.+push_number.Goals as goal
use Rattle.ls_faults.proofs.line.Line.+push_number.Goals.{then-number-ge10, else-number-ge10}

pub push_number-requires : goal.push_number-requires
push_number-requires t c =
    let n = c.args.number in
    let len = ap length (decimal_step n (omega arith) (omega arith)) in
    let more = length-append (decimal (n / 10)) ((48 + n % 10) ∷ []) in
    (omega arith, omega arith)

pub push-requires : goal.push-requires
push-requires t c =
    let n = c.args.number in
    let some = decimal_nonempty n (omega arith) in
    elim c.if-number-ge10.branch [
      | then-number-ge10 w ↦
          let len = ap length (decimal_step n (omega arith) (omega arith)) in
          let more = length-append (decimal (n / 10)) ((48 + n % 10) ∷ []) in
          let now = ap length (w.self-is ∙ w.push_number.ensures) in
          let sum = length-append c.args.self.now (decimal (n / 10)) in
          omega arith
      | else-number-ge10 w ↦ let now = ap length w.self-is in omega arith
    ]

pub returns : goal.returns
returns t c =
    let n = c.args.number in
    let digit = (48 + n % 10) ∷ [] in
    elim c.if-number-ge10.branch [
      | then-number-ge10 w ↦
          c.push.ensures ∙ ap (λ xs. xs ++ digit) (w.self-is ∙ w.push_number.ensures) ∙
          append_assoc c.args.self.now (decimal (n / 10)) digit
          ∙ ap (λ xs. c.args.self.now ++ xs) (sym (decimal_step n (omega arith) (omega arith)))
      | else-number-ge10 w ↦
          let small : n < 10 = omega arith in
          let same : n % 10 ≡ n = omega arith in
          c.push.ensures ∙ ap (λ xs. xs ++ digit) w.self-is ∙ ap (λ m. c.args.self.now ++ (48 + m) ∷ []) same ∙
          ap (λ xs. c.args.self.now ++ xs) (sym (decimal_digit n small))
    ]

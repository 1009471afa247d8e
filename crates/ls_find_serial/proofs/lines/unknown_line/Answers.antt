-- Why `unknown_line` in src/lines.rt keeps its contract.

use Rattle.std.proofs.Common.{◌≡◌, ◌≢◌, ◌∙◌, ℕ, zero, suc, refl}
use Rattle.std.specs.Prelude.{string_bytes}
use Rattle.std.proofs.lemmas.Result.{IfOk-weaker}
use Rattle.ls_alone.specs.declared.telling.Fault.{Fault}
use Rattle.ls_find_serial.specs.Lines.{unknown_line, unknown_text}
use Rattle.ls_find_serial.proofs.lines.unknown_line.Goals as goal

some_unknown : (fault : Fault) (n : ℕ) → n ≢ 0 → unknown_text fault n ≡ unknown_line fault n
some_unknown fault zero some = absurd (some refl)
some_unknown fault (suc n) some = refl

pub returns : goal.returns
returns c =
    IfOk-weaker c.unknown_words.result (λ text. string_bytes text ≡ unknown_text c.args.fault c.args.unknown)
    (λ text. string_bytes text ≡ unknown_line c.args.fault c.args.unknown)
    (λ text is. is ∙ some_unknown c.args.fault c.args.unknown c.if-unknown-eq0.false) c.unknown_words.ensures

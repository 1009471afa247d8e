-- Why `specified` in src/specifying.rt keeps its clause `none` where a call answers another type.

use Rattle.std.proofs.Common.{◌≡◌, ◌∙◌, List, ap, false, map, sym, true}
use Rattle.ls_checked.specs.PlainProgram.{plain_thread}
use Rattle.ls_checked.specs.declared.program.Program.{Program}
use Rattle.ls_checked.specs.declared.program.ThreadProgram.{ThreadProgram}
use Rattle.ls_specified.specs.Specified.{results_in, results_of}
use Rattle.ls_specified.proofs.specifying.specified.Goals as goal

apart : true ≡ false → ⊥
apart h = cc

pub returns-then-not-are_same-clause-none : goal.returns-then-not-are_same-clause-none
returns-then-not-are_same-clause-none c =
    let s = c.in-Ok.image in
    let of_threads = λ (ts : List ThreadProgram). results_of (map plain_thread ts) in
    let first : c.as_slice-3.result.now ≡ results_in s =
    c.as_slice-3.ensures.value ∙ c.in-Ok-results_of.ensures
    ∙ ap of_threads (c.as_slice.ensures.value ∙ ap (λ (p : Program). p.threads.items) c.program.ensures) in
    let second : c.as_slice-4.result.now ≡ of_threads c.args.program.now.threads.items =
    c.as_slice-4.ensures.value ∙ c.in-Ok-results_of-2.ensures ∙ ap of_threads c.as_slice-2.ensures.value in (
      s,
      c.in-Ok.ensures.compiled,
      λ same. apart (sym (c.are_same.ensures.1 (first ∙ same ∙ sym second))
          ∙ c.if-not-are_same.true),
    )

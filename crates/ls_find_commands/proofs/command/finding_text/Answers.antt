-- Why `finding_text` in src/command.rt keeps its contract.

use Rattle.std.proofs.Common.{◌≡◌, ◌∙◌, ◌+◌, ◌++◌, ℕ, List, Option, Some, Ok, ap, arith, length, sym}
use Rattle.std.specs.Prelude.{string_bytes}
use Rattle.ls_family_search.specs.declared.judging.Halted.{Halted}
use Rattle.ls_family_search.specs.declared.judging.Passed.{Passed}
use Rattle.ls_faults.proofs.Answering.{wider}
use Rattle.ls_find.specs.declared.explorer.Why.{Why}
use Rattle.ls_find_reports.specs.Printing.{figures_of, none_text}
use Rattle.ls_find_reports.specs.declared.figures.Figures.{Figures}
use Rattle.ls_report.specs.Events.{Text}
use Rattle.ls_find_commands.specs.Found.{answer_beside, why_answer}
use Rattle.ls_find_commands.proofs.command.finding_text.Goals as goal

-- what is said of the program with which a search ends is its answer
answer_is : (before to count : ℕ) (ps : List Passed) (halted : Option (Halted Why)) (beside : Text) (h : Halted Why)
    (f : Figures) (n : ℕ) (text : Text) → halted ≡ Some h → f ≡ figures_of before to count ps →
    n ≡ before + length ps + 1 →
    text ≡ string_bytes h.program →
    why_answer f n text h.halt ≡ answer_beside before to count ps halted beside
answer_is before to count ps halted beside h f n text is figures number program =
    ap (λ (g : Figures). why_answer g n text h.halt) figures ∙
    ap (λ (m : ℕ). why_answer (figures_of before to count ps) m text h.halt) number ∙
    ap (λ (t : Text). why_answer (figures_of before to count ps) (before + length ps + 1) t h.halt) program ∙
    ap (λ (o : Option (Halted Why)). answer_beside before to count ps o beside) (sym is)

pub returns-in-Some : goal.returns-in-Some
returns-in-Some c =
    let ps = c.args.finding.passed.items in
    let n = c.args.before + c.len.result + 1 in
    let figures = c.figures_of-figures.ensures ∙
    ap (figures_of c.args.before c.args.to c.args.count) c.as_slice.ensures.value in
    let number : n ≡ c.args.before + length ps + 1 =
    omega (arith, c.len.ensures, c.as_slice.ensures.len, ap length c.as_slice.ensures.value) in
    let beside = c.args.beside.now in
    let same = answer_is c.args.before c.args.to c.args.count ps c.args.finding.halted beside c.in-Some.field-0
    c.figures_of-figures.result n c.as_str.result.now c.in-Some.is figures number c.as_str.ensures.value in
    wider (λ a. a ≡ why_answer c.figures_of-figures.result n c.as_str.result.now c.in-Some.field-0.halt)
    (λ a. a ≡ answer_beside c.args.before c.args.to c.args.count ps c.args.finding.halted beside) c.why_text.result
    (λ a h. h ∙ same) c.why_text.ensures

pub returns : goal.returns
returns c =
    let ps = c.args.finding.passed.items in
    let beside = c.args.beside.now in
    ap Ok (c.in_ok-push_str-in-None.ensures.bytes ∙ ap (λ (t : Text). t ++ beside) (c.in_ok-text-in-None.ensures ∙
    ap none_text (c.figures_of-figures.ensures ∙
    ap (figures_of c.args.before c.args.to c.args.count) c.as_slice.ensures.value))) ∙
    ap (λ (o : Option (Halted Why)). answer_beside c.args.before c.args.to c.args.count ps o beside) (sym c.in-None.is)

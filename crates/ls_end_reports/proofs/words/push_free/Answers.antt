-- Why `push_free` in src/words.rt keeps its contract.
use Rattle.std.proofs.Common.{◌++◌, List, ℕ, sym, ap, ◌∙◌, append_assoc, string_bytes}
use Rattle.std.specs.Prelude.{codes}
use Rattle.ls_end_reports.specs.Words.{bound_line, free_text, lasso_line}
use Rattle.ls_end_reports.specs.declared.writing.FreeText.{FreeText}
use Rattle.ls_end_reports.proofs.Oks.{on_ok}
use Rattle.ls_end_reports.proofs.words.push_free.Goals as goal

pub returns-in_ok-push_bound-in-ObstructionFree : goal.returns-in_ok-push_bound-in-ObstructionFree
returns-in_ok-push_bound-in-ObstructionFree c =
    let bound : List ℕ = bound_line (codes "obstruction-free, where its thread is alone") c.in-ObstructionFree.most in
    on_ok c.push_lasso-in-ObstructionFree.result
    (λ e. e
    ∙ ap (λ (l : List ℕ). l ++ lasso_line (codes "not lock-free") c.as_str-in-ObstructionFree.result.now)
    c.in_ok-push_bound-in-ObstructionFree.ensures
    ∙ append_assoc (string_bytes c.args.out.now) bound
    (lasso_line (codes "not lock-free") c.as_str-in-ObstructionFree.result.now)
    ∙ ap (λ (t : List ℕ). string_bytes c.args.out.now ++ (bound ++ lasso_line (codes "not lock-free") t))
    c.as_str-in-ObstructionFree.ensures.value
    ∙ ap (λ (f : FreeText). string_bytes c.args.out.now ++ free_text f) (sym c.in-ObstructionFree.is))
    c.push_lasso-in-ObstructionFree.ensures

-- The line on an event of a history.
use Rattle.std.proofs.Common.{◌≡◌, ℕ, List, Some, slice_get, take, subst, sym, String, Global}
use Rattle.std.proofs.lemmas.Result.{IfOk-weaker}
use Rattle.std.specs.Prelude.{IfOk, Result, string_bytes}
use Rattle.ls_checked.specs.CheckedProgram.{Program}
use Rattle.ls_checked.specs.CheckedTree.{File}
use Rattle.ls_events.specs.declared.event.Event.{Event}
use Rattle.ls_linearizable.specs.Linearizable.{IsLinearizable}
use Rattle.ls_linearizable.specs.Once.{AreOnce}
use Rattle.ls_report.specs.Events.{Text}
use Rattle.ls_serial_orders.specs.Orders.{IsHopeless}
use Rattle.ls_hopeless.specs.Hopeless.{IsHopelessLine, Told}
use Rattle.ls_hopeless.specs.Words.{line_of}
use Rattle.ls_hopeless.proofs.Ends.{hopeless_ends}

module _ (sfile : File) (sprogram : Program) where
  pub told_line : (p : Program) (h : List Event) (at : ℕ) (e : Event) (text : Text) → AreOnce h →
      IsHopeless sfile sprogram h at → slice_get h at ≡ Some e → text ≡ line_of p (take at h) e →
      IsHopelessLine sfile sprogram p h text
  told_line p h at e text once is there said =
      subst (IsHopelessLine sfile sprogram p h) (sym said)
      (Told at e is there (hopeless_ends sfile sprogram h at e once is there))

  -- what holds of a program and its history holds of equal ones
  pub at_run : {E : Type 0} (r : Result (String Global) E) {p p' : Program} {h h' : List Event} → p ≡ p' → h ≡ h' →
      AreOnce h' →
      IfOk r (λ t. AreOnce h → ¬ IsLinearizable sfile sprogram h →
      IsHopelessLine sfile sprogram p h (string_bytes t)) →
      IfOk r (λ t. ¬ IsLinearizable sfile sprogram h' → IsHopelessLine sfile sprogram p' h' (string_bytes t))
  at_run r {p} {p'} {h} {h'} same_program same_history once said =
      IfOk-weaker r _ _ (λ t told. told once)
      (subst (λ (q : Program). IfOk r (λ t. AreOnce h' → ¬ IsLinearizable sfile sprogram h' →
      IsHopelessLine sfile sprogram q h' (string_bytes t))) same_program
      (subst (λ (k : List Event). IfOk r (λ t. AreOnce k → ¬ IsLinearizable sfile sprogram k →
      IsHopelessLine sfile sprogram p k (string_bytes t))) same_history said))

-- Whether the first part of an input is restated, and what a run does whose reader fails.
use Rattle.std.proofs.Common.{◌≡◌, ◌∙◌, ◌⊎◌, inl, inr, ap, refl, subst, true, false, Bool, List}
use Rattle.std.proofs.Common.{Some}
use Rattle.std.specs.Prelude.{◌&&◌}
use Rattle.std.specs.Io.KnownBytes.{Keeps}
use Rattle.ls_outlets.specs.Written.{IsWritten}
use Rattle.ls_report.specs.Events.{Text}
use Rattle.ls_items.specs.Parts.{is_text}
use Rattle.ls_command_line.specs.declared.words.CommandLine.{CommandLine}
use Rattle.ls_faults.specs.Faults.{fault_line}
use Rattle.ls_faults.specs.declared.fault.ToolFault.{ToolFault}
use Rattle.ls_faults.specs.declared.fault.ToolFault.TheVariants as fault
use Rattle.ls_tool.specs.Output.{Asks, Left}
use Rattle.ls_tool.specs.Running.{Runs, Unable, Unread, restates}
use Rattle.ls_tool.specs.declared.running.Exit.{Exit}

pub both_true : (l : CommandLine) (input : Text) → l.java ≡ true → is_text input ≡ true → restates l input ≡ true
both_true l input java text = ap (λ b. b && is_text input) java ∙ text

pub no_java : (l : CommandLine) (input : Text) → l.java ≡ false → restates l input ≡ false
no_java l input java = ap (λ b. b && is_text input) java

neither : (b : Bool) → (b && false) ≡ false
neither true = refl
neither false = refl

pub no_text : (l : CommandLine) (input : Text) → is_text input ≡ false → restates l input ≡ false
no_text l input text = ap (λ b. l.java && b) text ∙ neither l.java

-- the reader failed, or memory ran out for what it has left
pub not_read : (words : List Text) (input : Text) (l : CommandLine) (f : ToolFault) (exit : Exit) (out err : Left) →
    Asks words (Some l) →
    (f ≡ fault.Memory) ⊎ (f ≡ fault.ReadFailed) →
    exit.status ≡ 1 →
    Keeps out.old out.new →
    IsWritten (fault_line f) exit.is_told err.old err.new err.has_failed →
    Runs words input exit out err
not_read words input l f exit out err asks (inl is) s k t =
    Unable (s, k, subst (λ g. IsWritten (fault_line g) exit.is_told err.old err.new err.has_failed) is t)
not_read words input l f exit out err asks (inr is) s k t =
    Unread l asks (s, k, subst (λ g. IsWritten (fault_line g) exit.is_told err.old err.new err.has_failed) is t)

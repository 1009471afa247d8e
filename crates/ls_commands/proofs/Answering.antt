-- Answers on images that may be given.
use Rattle.std.proofs.Common.{◌↔◌, ◌≡◌, Result, Ok, Err, subst}
use Rattle.std.specs.Prelude.{IsErrOf, String}
use Rattle.std.specs.Global.{Global}
use Rattle.ls_image.specs.Images.{Compiles}
use Rattle.ls_compiler.specs.Answers.{CompilesTo, IsWithinLimits}
use Rattle.ls_compiler.specs.declared.fault.CompileFault.{CompileFault}
use Rattle.ls_image.specs.declared.image.Image.{Image}
use Rattle.ls_report.specs.Events.{Text}
use Rattle.ls_faults.specs.Faults.{lifted_compile}
use Rattle.ls_faults.specs.Given.{GivesText}
use Rattle.ls_faults.specs.declared.fault.ToolFault.{ToolFault}
use Rattle.ls_commands.specs.Compiled.{AnswersOn, NotCompiled, OnImage}
use Rattle.ls_faults.proofs.Answering.{Failed, fails, wider}

-- where the texts aren't compiled, and where they are
pub not_compiled : (classes program : Text) (May : Image → Result Text ToolFault → Type 0) (f : CompileFault) →
    CompilesTo classes program (Err f) →
    GivesText (AnswersOn classes program May) (Failed (lifted_compile f))
not_compiled classes program May f h = fails (AnswersOn classes program May) (lifted_compile f) (NotCompiled f h)

pub on_image : (classes program : Text) (May : Image → Result Text ToolFault → Type 0) (image : Image)
    (r : Result (String Global) ToolFault) →
    Compiles classes program image → IsWithinLimits image → GivesText (May image) r →
    GivesText (AnswersOn classes program May) r
on_image classes program May image r compiles limits given = wider (May image) (AnswersOn classes program May) r
    (λ a h. OnImage image a compiles limits h) given

abbrev is_answer : {A E : Type 0} → Result A E → Type 0
is_answer (Ok x) = Unit {0}
is_answer (Err e) = ⊥

-- what a refusal would say isn't so where there is an answer
pub not_refused : {A E : Type 0} (x : A) (e : E) (Bad : Type 0) → (IsErrOf {T = A} (Ok x) e ↔ Bad) → ¬ Bad
not_refused x e Bad h bad = subst is_answer (h.1 bad) tt

-- nor is it where there is another refusal
pub refused_otherwise : {A E : Type 0} (f e : E) (Bad : Type 0) →
    ¬ (f ≡ e) →
    (IsErrOf {T = A} (Err f) e ↔ Bad) →
    ¬ Bad
refused_otherwise {A} f e Bad unlike h bad = let same : IsErrOf {T = A} (Err f) e = h.1 bad in unlike (cc)

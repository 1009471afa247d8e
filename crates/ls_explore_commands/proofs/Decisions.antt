-- What `explore --verdict` may answer.
use Rattle.std.proofs.Common.{◌≡◌, inl, inr, ℕ, Bool, true, false, List, Ok, Err, sym, subst, not, refl}
use Rattle.ls_checked.specs.CheckedTree.{File}
use Rattle.ls_checked.specs.CheckedProgram.{Program}
use Rattle.ls_checked.specs.declared.program.Program.{Program as CodeProgram}
use Rattle.ls_image.specs.declared.image.Image.{Image}
use Rattle.ls_explore.specs.Faults.{AreBadStates}
use Rattle.ls_report.specs.Events.{Text}
use Rattle.ls_labels.specs.Names.{Names}
use Rattle.ls_schedule.specs.Reading.{thread_names}
use Rattle.ls_translation.specs.declared.fault.TranslationFault.{TranslationFault}
use Rattle.ls_translation.specs.declared.fault.TranslationFault.TheVariants as translation
use Rattle.ls_faults.specs.Faults.{lifted_translation}
use Rattle.ls_faults.specs.Given.{GivesText}
use Rattle.ls_explore_commands.specs.Verdicts.{Decided, IsRefusalOf, IsTold, TooLong}

-- a schedule that is too long
pub too_long : (classes : Text) (sfile : File) (sprogram : Program) (i : Image) (limit : ℕ) (steps : List ℕ) (f :
    TranslationFault) →
    IsRefusalOf steps f →
    ¬ AreBadStates limit →
    IsTold sfile sprogram i steps →
    GivesText (Decided classes sfile sprogram i limit) (Err (lifted_translation f))
too_long classes sfile sprogram i limit steps translation.Memory only good told = tt
too_long classes sfile sprogram i limit steps translation.BadCells (inl wrong) good told = absurd cc
too_long classes sfile sprogram i limit steps translation.BadCells (inr wrong) good told = let e = wrong.0 in absurd cc
too_long classes sfile sprogram i limit steps (translation.DoesNotFit step) (inl wrong) good told = absurd cc
too_long classes sfile sprogram i limit steps (translation.DoesNotFit step) (inr wrong) good told =
    let e = wrong.0 in absurd cc
too_long classes sfile sprogram i limit steps translation.ResultTooLong (inl wrong) good told = absurd cc
too_long classes sfile sprogram i limit steps translation.ResultTooLong (inr long) good told =
    TooLong steps good told long.1

pub not_both : {b : Bool} → b ≡ true → b ≡ false → ⊥
not_both e f = cc

pub off : (b : Bool) → not b ≡ true → b ≡ false
off true e = absurd cc
off false e = refl

pub on : (b : Bool) → not b ≡ false → b ≡ true
on true e = refl
on false e = absurd cc

-- an equal text says the same
pub tells : (classes : Text) (sfile : File) (sprogram : Program) (i : Image) (limit : ℕ) (t u : Text) → t ≡ u →
    Decided classes sfile sprogram i limit (Ok u) → Decided classes sfile sprogram i limit (Ok t)
tells classes sfile sprogram i limit t u e d = subst (λ x. Decided classes sfile sprogram i limit (Ok x)) (sym e) d

-- of equal names an equal text is made
pub same_text : (make : Names → List Text → Text) (t : Text) (ns ns' : Names) (p p' : CodeProgram) → ns ≡ ns' → p ≡ p' →
    t ≡ make ns (thread_names p) → t ≡ make ns' (thread_names p')
same_text make t ns ns' p p' names program is =
    subst (λ x. t ≡ make x (thread_names p')) names (subst (λ x. t ≡ make ns (thread_names x)) program is)

-- what holds of an extent holds of an equal one
pub at_extent : (P : ℕ → ℕ → Bool → Type 0) {limit limit' states states' : ℕ} {complete complete' : Bool} →
    limit' ≡ limit → states' ≡ states → complete' ≡ complete → P limit states complete → P limit' states' complete'
at_extent P {limit} {limit'} {states} {states'} {complete} {complete'} e f g holds =
    subst (λ l. P l states' complete') (sym e)
    (subst (λ n. P limit n complete') (sym f) (subst (λ b. P limit states b) (sym g) holds))

-- What `translate` may answer.
use Rattle.ls_events.specs.Limits.{most_steps}
use Rattle.std.proofs.Common.{◌≡◌, ◌↔◌, ◌⊎◌, ◌<◌, ℕ, List, length, Result, Ok, Err, refl, inl, inr, sym, subst}
use Rattle.std.specs.Prelude.{IsErrOf}
use Rattle.ls_machine.specs.Room.{AreBadCells}
use Rattle.ls_preservation.specs.Same.{Fits}
use Rattle.ls_preservation.specs.Translations.{to_machine, to_source}
use Rattle.ls_image.specs.Images.{code_of_image}
use Rattle.ls_image.specs.declared.image.Image.{Image}
use Rattle.ls_schedule.specs.Printing.{schedule_text}
use Rattle.ls_schedule.specs.declared.fault.ScheduleFault.{ScheduleFault}
use Rattle.ls_translation.specs.Room.{IsFirstUnfit}
use Rattle.ls_translation.specs.declared.fault.TranslationFault.{TranslationFault}
use Rattle.ls_translation.specs.declared.fault.TranslationFault.TheVariants as translation
use Rattle.ls_report.specs.Events.{Text}
use Rattle.ls_command_line.specs.declared.words.Side.{Side}
use Rattle.ls_command_line.specs.declared.words.Side.TheVariants as sides
use Rattle.ls_faults.specs.Faults.{lifted_translation}
use Rattle.ls_faults.specs.Given.{GivesText, GivesOne}
use Rattle.ls_faults.specs.declared.fault.ToolFault.{ToolFault}
use Rattle.ls_faults.proofs.Answering.{passed_on}
use Rattle.ls_commands.proofs.Answering.{not_refused}
use Rattle.ls_commands.specs.Compiled.{file_of_image, names_of_image, plain_program_of}
use Rattle.ls_commands.specs.Translated.{NoCells, NoRoom, TooLong, ToMachine, ToSource, Translated, Translates, Turned}

module _ (i : Image) (cells : ℕ) (steps : List ℕ) where
  abbrev Bad : Type 0
  Bad = AreBadCells (code_of_image i).names cells

  abbrev Refused : TranslationFault → Result (List ℕ) TranslationFault
  Refused f = Err f

  abbrev Given : Side → Result (List ℕ) ToolFault → Type 0
  Given to r = GivesOne (λ s. s) (Turned i cells steps to) r

  pub source_fails : (f : TranslationFault) →
      (IsErrOf (Refused f) translation.BadCells ↔ Bad) →
      ((f ≡ translation.BadCells) ⊎ (f ≡ translation.Memory)) →
      Given sides.Source (Err (lifted_translation f))
  source_fails translation.Memory bad only = tt
  source_fails translation.BadCells bad only = NoCells sides.Source (bad.0 refl)
  source_fails (translation.DoesNotFit step) bad (inl e) = absurd (cc)
  source_fails (translation.DoesNotFit step) bad (inr e) = absurd (cc)
  source_fails translation.ResultTooLong bad (inl e) = absurd (cc)
  source_fails translation.ResultTooLong bad (inr e) = absurd (cc)

  abbrev whole : List ℕ
  whole = to_machine (file_of_image i) (plain_program_of i) (code_of_image i) cells steps

  abbrev Fit : Type 0
  Fit = Fits (file_of_image i) (plain_program_of i) cells steps

  pub machine_fails : (f : TranslationFault) → (IsErrOf (Refused f) translation.BadCells ↔ Bad) →
      ((step : ℕ) → IsErrOf (Refused f) (translation.DoesNotFit step) →
      IsFirstUnfit (file_of_image i) (plain_program_of i) cells steps step) →
      (IsErrOf (Refused f) translation.ResultTooLong → most_steps < length whole) →
      (IsErrOf (Refused f) translation.ResultTooLong → Fit) → Given sides.Machine (Err (lifted_translation f))
  machine_fails translation.Memory bad unfit long fits = tt
  machine_fails translation.BadCells bad unfit long fits = NoCells sides.Machine (bad.0 refl)
  machine_fails (translation.DoesNotFit step) bad unfit long fits = NoRoom (λ b. let e = bad.1 b in absurd (cc)) step
      (unfit step refl)
  machine_fails translation.ResultTooLong bad unfit long fits = TooLong (λ b. let e = bad.1 b in absurd (cc))
      (fits refl) (long refl)

  pub source_turns : (s : List ℕ) →
      (IsErrOf {E = TranslationFault} (Ok s) translation.BadCells ↔ Bad) →
      s ≡ to_source (code_of_image i) cells steps →
      Given sides.Source (Ok s)
  source_turns s bad is = subst (λ x. Turned i cells steps sides.Source (Ok x)) (sym is)
      (ToSource (not_refused s translation.BadCells Bad bad))

  pub machine_turns : (s : List ℕ) →
      (IsErrOf {E = TranslationFault} (Ok s) translation.BadCells ↔ Bad) →
      Fit →
      s ≡ whole →
      Given sides.Machine (Ok s)
  machine_turns s bad fits is = subst (λ x. Turned i cells steps sides.Machine (Ok x)) (sym is)
      (ToMachine (not_refused s translation.BadCells Bad bad) fits)

  module _ (to : Side) (read : Result (List ℕ) ScheduleFault) (reads : read ≡ Ok steps) where
    pub turn_fails : (f : ToolFault) → Given to (Err f) → GivesText (Translated i to cells read) (Err f)
    turn_fails f given = passed_on (Turned i cells steps to) (Translated i to cells read) f
        (λ h. rw reads (Translates steps (Err f) h)) given

    pub turn_told : (s : List ℕ) (t : Text) →
        Given to (Ok s) →
        t ≡ schedule_text (names_of_image i) s →
        Translated i to cells read (Ok t)
    turn_told s t given said = rw reads (subst (λ x. Translated i to cells (Ok steps) (Ok x)) (sym said)
        (Translates steps (Ok s) given))

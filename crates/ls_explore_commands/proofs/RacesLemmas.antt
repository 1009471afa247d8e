-- What `explore --races` may answer.
use Rattle.std.proofs.Common.{◌≡◌, ◌≤◌, ◌++◌, ◌∷◌, [], inl, refl, arith, ℕ, zero, suc, Bool, Global, List, Ok, Vec}
use Rattle.std.proofs.Common.{map, subst, sym}
use Rattle.ls_checked.specs.declared.program.Program.{Program}
use Rattle.ls_explore.specs.Faults.{AreBadStates}
use Rattle.ls_image.specs.declared.image.Image.{Image}
use Rattle.ls_report.specs.Events.{Text}
use Rattle.ls_labels.specs.Names.{Names}
use Rattle.ls_lexer.specs.declared.token.Token.{Token}
use Rattle.ls_race_laws.specs.Accesses.{Volatile}
use Rattle.ls_race_laws.specs.declared.access.Kind.{Kind}
use Rattle.ls_races.specs.Races.{AreRaces}
use Rattle.ls_races.specs.declared.finding.Race.{Race}
use Rattle.ls_schedule.specs.Reading.{thread_names}
use Rattle.ls_translation.specs.Texts.{file_of, program_of}
use Rattle.ls_explore_commands.specs.RaceReports.{races_text}
use Rattle.ls_race_reports.specs.ClassFlags.{AreFlags}
use Rattle.ls_explore_commands.specs.Races.{AreRead, Raced}
use Rattle.ls_explore_commands.specs.Readable.{AreReadBack}

-- the schedules of races are read as they are printed
pub all_read : (volatile : Volatile) (told : List Kind) (i : Image) (races : List Race) → AreReadBack i →
    AreRaces volatile told (file_of i) (program_of i) races →
    AreRead i races
all_read volatile told i [] reads are = tt
all_read volatile told i (r ∷ races) reads are = (
  reads r.schedule are.0.acts are.0.short,
  all_read volatile (told ++ r.on ∷ []) i races reads are.1,
)

-- the flags of equal lists are the same
pub same_flags : (classes : Text) (flags others : List (Vec Bool Global)) → flags ≡ others →
    AreFlags classes (map (λ v. v.items) others) →
    AreFlags classes (map (λ v. v.items) flags)
same_flags classes flags others same are =
    subst (λ (l : List (Vec Bool Global)). AreFlags classes (map (λ v. v.items) l)) (sym same) are

-- an equal text says the same
pub tells : (classes : Text) (i : Image) (limit : ℕ) (t u : Text) → t ≡ u → Raced classes i limit (Ok u) →
    Raced classes i limit (Ok t)
tells classes i limit t u e d = subst (λ x. Raced classes i limit (Ok x)) (sym e) d

-- of equal names and programs an equal text is made
pub same_races : (t : Text) (ns ns' : Names) (p p' : Program) (text : Text) (tokens : List Token)
    (flags : List (List Bool)) (races : List Race) (states : ℕ) (complete tries : Bool) →
    ns ≡ ns' → p ≡ p' → t ≡ races_text ns text tokens (thread_names p) flags races states complete tries →
    t ≡ races_text ns' text tokens (thread_names p') flags races states complete tries
same_races t ns ns' p p' text tokens flags races states complete tries names program is =
    subst (λ x. t ≡ races_text x text tokens (thread_names p') flags races states complete tries) names
    (subst (λ x. t ≡ races_text ns text tokens (thread_names x) flags races states complete tries) program is)

-- where the number of states isn't bad, some may be kept
pub some_kept : (limit : ℕ) → ¬ AreBadStates limit → 1 ≤ limit
some_kept zero good = absurd (good (inl refl))
some_kept (suc n) good = omega arith

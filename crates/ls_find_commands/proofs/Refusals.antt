-- Why a class text has no programs, as a command tells it.
use Rattle.std.proofs.Common.{◌≡◌, ◌⊎◌, Result, Err, Option, inl, inr, ap, subst, sym}
use Rattle.ls_class_programs.specs.ClassPrograms.{AreProgramsOf}
use Rattle.ls_class_programs.specs.declared.choosing.Choosing.{Choosing}
use Rattle.ls_class_programs.specs.declared.entry_fault.EntryFault.{EntryFault}
use Rattle.ls_class_programs.specs.declared.entry_fault.EntryFault.TheVariants as entry
use Rattle.ls_family_search.specs.Judged.{Programs, making_of}
use Rattle.ls_faults.proofs.Answering.{Failed, fails}
use Rattle.ls_faults.specs.Faults.{lifted_entry}
use Rattle.ls_faults.specs.Given.{GivesText}
use Rattle.ls_faults.specs.declared.fault.ToolFault.{ToolFault}
use Rattle.ls_faults.specs.declared.fault.ToolFault.TheVariants as faults
use Rattle.ls_report.specs.Events.{Text}
use Rattle.ls_find_commands.specs.Found.{HasNoOwn, HasNoPrograms, IsUnfit, NotCalls}

-- what a command says of it, or memory ran out
pub refused : (May : Result Text ToolFault → Type 0) (o : Choosing) (reference : Option Text) (classes : Text)
    (menu : Option Text) (f : ToolFault) →
    (HasNoPrograms o reference classes menu f → May (Err f)) →
    (f ≡ faults.Memory) ⊎ HasNoPrograms o reference classes menu f →
    GivesText May (Failed f)
refused May o reference classes menu f give (inl is) = subst (λ g. GivesText May (Failed g)) (sym is) tt
refused May o reference classes menu f give (inr none) = fails May f (give none)

-- an entry that isn't calls of the class
pub unfit : (o : Choosing) (classes : Text) (menu : Option Text) (p : Programs) (f : EntryFault) →
    AreProgramsOf o classes menu p →
    (f ≡ entry.Memory) ⊎ IsUnfit classes (making_of p) o.bounds.threads menu f →
    (lifted_entry f ≡ faults.Memory) ⊎ HasNoOwn o classes menu (lifted_entry f)
unfit o classes menu p f programs (inl is) = inl (ap lifted_entry is)
unfit o classes menu p f programs (inr bad) = inr (NotCalls p f programs bad)

-- what is said of one reason is said of another
pub also : {M N K : Type 0} → (N → K) → M ⊎ N → M ⊎ K
also f (inl m) = inl m
also f (inr n) = inr (f n)

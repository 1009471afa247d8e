-- What is shown of a whole exploration.
use Rattle.std.proofs.Common.{◌≡◌, ℕ, zero, suc, Bool, false, List, [], ◌∷◌, Some, None, arith, inl, refl, sym}
use Rattle.std.proofs.Common.{ap, subst, ◌∙◌}
use Rattle.std.specs.Prelude.{Contains, slice_get, not, position}
use Rattle.std.specs.List.{AllZip}
use Rattle.ls_checked.specs.CheckedTree.{File}
use Rattle.ls_checked.specs.CheckedProgram.{Program}
use Rattle.ls_events.specs.declared.event.Event.{Event}
use Rattle.ls_explore.specs.Rows.{Told}
use Rattle.ls_explore.specs.Tellings.{TellTruth, TellWhole, schedule_of}
use Rattle.ls_explore_reports.specs.Linearizable.{UnexplainedIsNot}
use Rattle.ls_explore_reports.specs.Rows.{TellExplained}
use Rattle.ls_linearizable.specs.Linearizable.{IsLinearizable}
use Rattle.ls_specification.specs.Specification.{Given}
use Rattle.ls_find.specs.Said.{IsVerdict, LongSchedule}
use Rattle.ls_find.specs.Verdicts.{IsBadSchedule, IsNotLinearizable, IsShown, ShowsRow}
use Rattle.ls_find.specs.declared.sought.Sought.{Sought}
use Rattle.ls_find.specs.declared.verdict.ProgramVerdict.{ProgramVerdict}
use Rattle.ls_find.specs.declared.verdict.ProgramVerdict.TheVariants.{Bad, Good, Unknown}
use Rattle.ls_find.specs.declared.verdict.Reason.{Reason}
use Rattle.ls_find.specs.declared.verdict.Reason.TheVariants.{NotLinearizable}
use Rattle.ls_find.proofs.Flags.{one_down}

-- an element that is got is there
pub got_there : (rows : List Told) (i : ℕ) (r : Told) → slice_get rows i ≡ Some r → Contains rows r
got_there [] zero r at = absurd (nothing at)
  where
    nothing : None ≡ Some r → ⊥
    nothing e = cc
got_there [] (suc i) r at = absurd (nothing at)
  where
    nothing : None ≡ Some r → ⊥
    nothing e = cc
got_there (q ∷ rows) zero r at = (0, omega arith, some_is at)
  where
    some_is : Some q ≡ Some r → q ≡ r
    some_is e = cc
got_there (q ∷ rows) (suc i) r at =
    let later = got_there rows i r at in
    (suc later.0, omega (arith, later.1), later.2)

-- where a flag stands, a row stands too
flag_there : (R : Told → Bool → Type 0) (rows : List Told) (flags : List Bool) (at : ℕ) (b : Bool) →
    AllZip R rows flags →
    slice_get flags at ≡ Some b → (r : Told) × (slice_get rows at ≡ Some r)
flag_there R [] [] zero b zip is = absurd (nothing is)
  where
    nothing : None ≡ Some b → ⊥
    nothing e = cc
flag_there R [] [] (suc at) b zip is = absurd (nothing is)
  where
    nothing : None ≡ Some b → ⊥
    nothing e = cc
flag_there R [] (g ∷ flags) at b zip is = absurd zip
flag_there R (r ∷ rows) [] at b zip is = absurd zip
flag_there R (r ∷ rows) (g ∷ flags) zero b zip is = (r, refl)
flag_there R (r ∷ rows) (g ∷ flags) (suc at) b zip is = flag_there R rows flags at b zip.1 is

some_row_is : {x y : Told} → Some x ≡ Some y → x ≡ y
some_row_is e = cc

-- where the history of a row isn't linearizable, so is the verdict that shows it
pub shown_bad : (given : Given) (file : File) (program : Program) (k : ℕ) (rows : List Told) (at : ℕ) (r : Told) →
    slice_get rows at ≡ Some r → IsBadSchedule NotLinearizable given file program (schedule_of k r) → (states : ℕ)
    (sought : Sought) (v : ProgramVerdict) → ShowsRow NotLinearizable k rows at v →
    IsVerdict states sought given file program v
shown_bad given file program k rows at r there bad states sought Good shows = absurd shows
shown_bad given file program k rows at r there bad states sought Unknown shows =
    inl (LongSchedule NotLinearizable (schedule_of k r) bad (shows r there))
shown_bad given file program k rows at r there bad states sought (Bad reason schedule) shows =
    let row : r ≡ shows.0 = some_row_is (sym there ∙ shows.1) in
    subst (λ (said : Reason). IsShown sought said given file program schedule) (sym shows.3)
    (record {
      asked = tt;
      schedule_is = subst (IsBadSchedule NotLinearizable given file program) (ap (schedule_of k) row ∙ sym shows.2) bad;
    })

module _ (file : File) (program : Program) (k : ℕ) (rows : List Told) (flags : List Bool) (at : ℕ)
    (never : UnexplainedIsNot)
    (truth : TellTruth file program k rows) (whole : TellWhole file program rows) (explained : TellExplained rows flags)
    (is : position not flags ≡ Some at) where
  -- the row isn't explained, so the history of its schedule isn't linearizable
  row_is_bad : (r : Told) → slice_get rows at ≡ Some r → IsNotLinearizable None file program (schedule_of k r)
  row_is_bad r there = λ linear.
      never file program rows flags at r whole explained there (one_down flags at is)
      (subst (λ (h : List Event). IsLinearizable file program h) (sym (truth.told r (got_there rows at r there)))
      linear)

  pub shown_verdict : (states : ℕ) (sought : Sought) (v : ProgramVerdict) → ShowsRow NotLinearizable k rows at v →
      IsVerdict states sought None file program v
  shown_verdict states sought v shows =
      let there = flag_there _ rows flags at false explained (one_down flags at is) in
      shown_bad None file program k rows at there.0 there.1
      (record { bad = row_is_bad there.0 there.1; acts = truth.acts there.0 (got_there rows at there.0 there.1) })
      states sought v shows

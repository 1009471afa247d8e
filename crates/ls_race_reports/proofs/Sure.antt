-- The first race of which it is known that it is one.
use Rattle.std.proofs.Common.{◌≡◌, ◌≢◌, ℕ, ◌++◌, ◌∷◌, [], Bool, true, false, List, Option, None, Some, refl, subst}
use Rattle.std.specs.Prelude.{if◌then◌else◌}
use Rattle.ls_checked.specs.CheckedTree.{File}
use Rattle.ls_checked.specs.CheckedProgram.{Program}
use Rattle.ls_race_laws.specs.Meeting.{NeverMeets}
use Rattle.ls_race_laws.specs.declared.access.Kind.{Kind}
use Rattle.ls_race_reports.specs.Sure.{first_sure}
use Rattle.ls_races.specs.Extents.{IsRaceExtent}
use Rattle.ls_races.specs.Races.{AllAreOn, AreRaces, IsRaceOf, kinds_of}
use Rattle.ls_races.specs.Volatile.{is_unsure, volatile_by}
use Rattle.ls_race_reports.specs.Verdicts.{CutShort, IsSureRace, IsUnknown, Unsure}
use Rattle.ls_races.specs.declared.finding.Race.{Race}

-- a test doesn't answer both
pub not_both : {b : Bool} → b ≡ true → b ≡ false → ⊥
not_both e f = cc

module _ (flags : List (List Bool)) (file : File) (program : Program) where
  -- it is a race, and on a variable that isn't volatile in any class
  pub first_is_sure : (told : List Kind) (races : List Race) (r : Race) → first_sure flags races ≡ Some r →
      AreRaces (volatile_by flags) told file program races →
      IsSureRace flags file program r
  first_is_sure told [] r e are = absurd cc
  first_is_sure told (x ∷ races) r e are =
      by_test (is_unsure flags x.on) refl e (λ later. first_is_sure (told ++ x.on ∷ []) races r later are.1)
    where
      same : (a b : Race) → Some a ≡ Some b → a ≡ b
      same a b e = cc

      by_test : (b : Bool) → is_unsure flags x.on ≡ b →
          (if b then first_sure flags races else Some x) ≡ Some r →
          (first_sure flags races ≡ Some r → IsSureRace flags file program r) →
          IsSureRace flags file program r
      by_test true unsure e later = later e
      by_test false sure e later =
          subst (IsSureRace flags file program) (same x r e) (record { told = told; is_race = are.0; sure = sure })

  -- where it is told of none, it isn't known, for a reason
  pub none_sure : (states kept : ℕ) (complete : Bool) (races : List Race) → first_sure flags races ≡ None →
      AreRaces (volatile_by flags) [] file program races →
      IsRaceExtent (volatile_by flags) (kinds_of races) file program states kept complete →
      ((complete ≡ true) × (races ≡ []) → ⊥) →
      IsUnknown states flags file program
  none_sure states kept true [] e are extent some = absurd (some (refl, refl))
  none_sure states kept false [] e are extent some = CutShort kept extent
  none_sure states kept complete (r ∷ races) e are extent some = by_test (is_unsure flags r.on) refl e
    where
      by_test : (b : Bool) → is_unsure flags r.on ≡ b → (if b then first_sure flags races else Some r) ≡ None →
          IsUnknown states flags file program
      by_test true unsure e = Unsure r are.0 unsure
      by_test false sure e = absurd cc

  untold : (k on : Kind) → None ≡ Some k → k ≢ on
  untold k on e = absurd cc

  -- accesses that meet on no variable never meet
  pub never_on : (races : List Race) → races ≡ [] → AllAreOn (volatile_by flags) (kinds_of races) file program →
      NeverMeets (volatile_by flags) file program
  never_on races e all schedule on m =
      subst (λ (l : List Race). AllAreOn (volatile_by flags) (kinds_of l) file program) e all schedule on m
      (λ i k at. untold k on at)

-- One race more.
use Rattle.std.proofs.Common.{List, [], ◌∷◌, ◌++◌, sym, subst, append-nil, append_assoc}
use Rattle.ls_checked.specs.CheckedTree.{File}
use Rattle.ls_checked.specs.CheckedProgram.{Program}
use Rattle.ls_race_laws.specs.declared.access.Kind.{Kind}
use Rattle.ls_race_laws.specs.Accesses.{Volatile}
use Rattle.ls_races.specs.declared.finding.Race.{Race}
use Rattle.ls_races.specs.Races.{AreRaces, IsRaceOf, kinds_of}

module _ (volatile : Volatile) (file : File) (program : Program) where
  pub races_more : (told : List Kind) (races : List Race) (r : Race) → AreRaces volatile told file program races →
      IsRaceOf volatile (told ++ kinds_of races) file program r →
      AreRaces volatile told file program (races ++ r ∷ [])
  races_more told [] r all is = (subst (λ k. IsRaceOf volatile k file program r) (append-nil told) is, tt)
  races_more told (x ∷ races) r all is = (
    all.0,
    races_more (told ++ x.on ∷ []) races r all.1
        (subst (λ k. IsRaceOf volatile k file program r) (sym (append_assoc told (x.on ∷ []) (kinds_of races))) is),
  )

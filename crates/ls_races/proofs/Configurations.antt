-- A meeting in a state is one of its configuration, and the other way round.
use Rattle.std.proofs.Common.{◌≡◌, length, sym, ap, ◌∙◌}
use Rattle.ls_checked.specs.CheckedTree.{File}
use Rattle.ls_checked.specs.CheckedProgram.{Program}
use Rattle.ls_meaning.specs.Runs.{State}
use Rattle.ls_search_laws.specs.Configuration.{configuration_of}
use Rattle.ls_search_laws.proofs.Renamed.{step_stride}
use Rattle.ls_race_laws.specs.declared.access.Kind.{Kind}
use Rattle.ls_race_laws.specs.Accesses.{Volatile}
use Rattle.ls_race_laws.specs.Meeting.{Meets, MeetsIn, access_by}

module _ (volatile : Volatile) (file : File) (program : Program) (s : State)
    (long : length s.answers ≡ length program.threads) (on : Kind) where
  pub of_configuration : MeetsIn volatile file program s on → Meets volatile file (configuration_of file program s) on
  of_configuration m = record {
    one = m.one;
    other = m.other;
    apart = m.apart;
    first = m.first;
    second = m.second;
    first_is = sym (ap (access_by volatile s.store) (step_stride file program s long m.one).0) ∙ m.first_is;
    second_is = sym (ap (access_by volatile s.store) (step_stride file program s long m.other).0) ∙ m.second_is;
    conflict = m.conflict;
    kind = m.kind;
  }

  pub in_state : Meets volatile file (configuration_of file program s) on → MeetsIn volatile file program s on
  in_state m = record {
    one = m.one;
    other = m.other;
    apart = m.apart;
    first = m.first;
    second = m.second;
    first_is = ap (access_by volatile s.store) (step_stride file program s long m.one).0 ∙ m.first_is;
    second_is = ap (access_by volatile s.store) (step_stride file program s long m.other).0 ∙ m.second_is;
    conflict = m.conflict;
    kind = m.kind;
  }

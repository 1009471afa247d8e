-- Accesses that meet where a run leads to, and the race that they are.
use Rattle.std.proofs.Common.{◌≡◌, ◌≤◌, ◌<◌, ◌+◌, ℕ, Bool, true, false, List, [], ◌∷◌, ◌++◌, Option, Some, length}
use Rattle.std.proofs.Common.{refl, sym, ap, ◌∙◌, subst}
use Rattle.std.specs.Prelude.{◌||◌}
use Rattle.ls_events.specs.Limits.{most_steps}
use Rattle.ls_checked.specs.CheckedTree.{File}
use Rattle.ls_checked.specs.CheckedProgram.{Program}
use Rattle.ls_graph.specs.Costs.{costs}
use Rattle.ls_graph.specs.declared.costs.Counted.TheVariants.{Changes}
use Rattle.ls_meaning.specs.Runs.{State, source_run, step}
use Rattle.ls_search_laws.specs.Configuration.{Configuration, configuration_of, stride}
use Rattle.ls_search_laws.specs.Stepping.{ActAll}
use Rattle.ls_search_laws.proofs.Renamed.{step_stride}
use Rattle.ls_search_laws.proofs.Telling.{long_of_all}
use Rattle.ls_transitions.specs.Tables.{Table}
use Rattle.ls_search.specs.declared.places.NumberedState.{NumberedState}
use Rattle.ls_search.specs.Places.{configuration_of as numbered}
use Rattle.ls_race_laws.specs.declared.access.Access.{Access}
use Rattle.ls_race_laws.specs.declared.access.Kind.{Kind}
use Rattle.ls_race_laws.specs.Accesses.{Volatile}
use Rattle.ls_race_laws.specs.Meeting.{MeetsAfter, access_by}
use Rattle.ls_race_laws.proofs.Racing.{meetings_are_races}
use Rattle.ls_races.specs.declared.finding.Race.{Race}
use Rattle.ls_races.specs.declared.meetings.Met.{Met}
use Rattle.ls_races.specs.Extents.{MeetsLate}
use Rattle.ls_races.specs.Met.{AreNext, IsMet, IsNext, swapped}
use Rattle.ls_races.specs.Races.{IsRaceBy, IsUntold}
use Rattle.ls_races.specs.Sought.{IsMetAfter}
use Rattle.ls_races.proofs.Nexts.{access_is}

or_swap : (a b : Bool) → (a || b) ≡ true → (b || a) ≡ true
or_swap true true e = refl
or_swap true false e = refl
or_swap false true e = refl
or_swap false false e = e

module _ (volatile : Volatile) (told : List Kind) (file : File) (program : Program) (steps : List ℕ) where
  abbrev s : State
  s = source_run file program steps

  -- two of the next accesses are in conflict after the steps
  pub met_after : (t : Table) (p : NumberedState) (threads : ℕ) (accesses : List (Option Access)) → t.file ≡ file →
      numbered t p ≡ configuration_of file program s →
      AreNext volatile (numbered t p).store (λ u. (stride t.file (numbered t p) u).did) threads accesses →
      (m : Met) →
      IsMet accesses told m →
      IsMetAfter volatile told file program steps m
  met_after t p threads accesses file_is state are m is = record {
    meets = record {
      one = m.one;
      other = m.other;
      apart = is.apart;
      first = is.first;
      second = is.second;
      first_is = next_is m.one is.first is.first_is;
      second_is = next_is m.other is.second is.second_is;
      conflict = is.conflict;
      kind = is.kind;
    };
    one = refl;
    other = refl;
    untold = is.untold;
  }
    where
      next_is : (u : ℕ) (a : Access) → IsNext accesses u a →
          access_by volatile s.store (step file program s u).did ≡ Some a
      next_is u a next =
          ap (access_by volatile s.store) (step_stride file program s (long_of_all file program steps) u).0
          ∙ sym (ap (λ f. access_by volatile (numbered t p).store (stride f (numbered t p) u).did) file_is
          ∙ ap (λ (k : Configuration). access_by volatile k.store (stride file k u).did) state)
          ∙ access_is volatile (numbered t p).store (λ v. (stride t.file (numbered t p) v).did) threads accesses are u a
          next

  -- also the other way round
  pub swapped_after : (m : Met) → IsMetAfter volatile told file program steps m →
      IsMetAfter volatile told file program steps (swapped m)
  swapped_after m is = record {
    meets = record {
      one = is.meets.other;
      other = is.meets.one;
      apart = λ e. is.meets.apart (sym e);
      first = is.meets.second;
      second = is.meets.first;
      first_is = is.meets.second_is;
      second_is = is.meets.first_is;
      conflict = record {
        kind = sym is.meets.conflict.kind;
        object = sym is.meets.conflict.object;
        index = sym is.meets.conflict.index;
        writes = or_swap is.meets.first.writes is.meets.second.writes is.meets.conflict.writes;
      };
      kind = sym is.meets.conflict.kind ∙ is.meets.kind;
    };
    one = is.other;
    other = is.one;
    untold = is.untold;
  }

  -- the steps with both accesses after them are a race
  pub race_is : (AtLeast : ℕ → Type 0) (m : Met) (r : Race) → IsMetAfter volatile told file program steps m →
      r.on ≡ m.on →
      r.schedule ≡ steps ++ m.one ∷ m.other ∷ [] →
      ActAll file program r.schedule →
      length r.schedule ≤ most_steps →
      (r.fewest ≡ true → AtLeast (costs Changes 0 steps)) →
      IsRaceBy AtLeast volatile told file program r
  race_is AtLeast m r is on schedule acts short fewest =
      let meets = subst (λ (k : Kind). (meets : MeetsAfter volatile file program steps k) × (meets.one ≡ m.one)
      × (meets.other ≡ m.other)) (sym on) (is.meets, is.one, is.other) in
      record {
        before = steps;
        meets = meets.0;
        steps =
            schedule
            ∙ ap (λ n. steps ++ n ∷ m.other ∷ []) (sym meets.1)
            ∙ ap (λ n. steps ++ meets.0.one ∷ n ∷ []) (sym meets.2);
        acts = acts;
        short = short;
        untold = subst (λ k. IsUntold told k) (sym on) is.untold;
        race = meetings_are_races volatile file program steps r.on meets.0;
        fewest = fewest;
      }

  -- where a schedule has no room for both accesses, they meet too late
  pub late_is : (m : Met) → IsMetAfter volatile told file program steps m → ActAll file program steps →
      most_steps < length steps + 2 →
      MeetsLate volatile told file program
  late_is m is acts long = record {
    before = steps;
    acts = acts;
    on = m.on;
    meets = is.meets;
    untold = is.untold;
    long = long;
  }

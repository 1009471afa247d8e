-- What is told of a graph is told of schedules.
use Rattle.std.proofs.Common.{◌≡◌, ◌⊎◌, inl, inr, ◌∙◌, ℕ, Bool, true, List, Option, None, Some, Ok, Err, sym, subst}
use Rattle.std.specs.Prelude.{IfNone, IfOk, IfSome, Result}
use Rattle.ls_checked.specs.CheckedTree.{File}
use Rattle.ls_checked.specs.CheckedProgram.{Program}
use Rattle.ls_graph.specs.Costs.{costs}
use Rattle.ls_graph.specs.declared.costs.Counted.TheVariants.{Changes}
use Rattle.ls_race_laws.specs.declared.access.Kind.{Kind}
use Rattle.ls_race_laws.specs.Accesses.{Volatile}
use Rattle.ls_races.specs.declared.finding.Race.{Race}
use Rattle.ls_races.specs.declared.finding.Sight.{Sight}
use Rattle.ls_races.specs.declared.finding.Sight.TheVariants as sights
use Rattle.ls_races.specs.Races.{IsRaceBy}
use Rattle.ls_races.specs.Sought.{IsSightBy}

module _ (volatile : Volatile) (told : List Kind) (file : File) (program : Program) (A B : ℕ → Type 0)
    (least : (n : ℕ) → A n → B n) where
  pub race_map : (r : Race) → IsRaceBy A volatile told file program r → IsRaceBy B volatile told file program r
  race_map r is = record {
    before = is.before;
    meets = is.meets;
    steps = is.steps;
    acts = is.acts;
    short = is.short;
    race = is.race;
    untold = is.untold;
    fewest = λ known. least (costs Changes 0 is.before) (is.fewest known);
  }

  pub sight_map : (F G : Type 0) → (F → G) → (C D : Type 0) → (C → D) → (sight : Sight) →
      IsSightBy F C A volatile told file program sight →
      IsSightBy G D B volatile told file program sight
  sight_map F G free C D cut sights.Free is = free is
  sight_map F G free C D cut (sights.Met r) is = race_map r is
  sight_map F G free C D cut sights.Cut is = cut is

-- one of two reasons is another
pub cut_map : (A B C : Type 0) → (A → C) → A ⊎ B → C ⊎ B
cut_map A B C so (inl a) = inl (so a)
cut_map A B C so (inr b) = inr b

module _ (volatile : Volatile) (told : List Kind) (file : File) (program : Program) (A : ℕ → Type 0) where
  -- where it is known what the steps before the accesses cost
  race_known : (count : ℕ) (r : Race) → IsRaceBy (λ n. n ≡ count) volatile told file program r →
      (r.fewest ≡ true → A count) →
      IsRaceBy A volatile told file program r
  race_known count r is least = record {
    before = is.before;
    meets = is.meets;
    steps = is.steps;
    acts = is.acts;
    short = is.short;
    race = is.race;
    untold = is.untold;
    fewest = λ known. subst A (sym (is.fewest known)) (least known);
  }

  -- so it is of what may be a race
  pub known_at : {E : Type 0} (result : Result (Option Race) E) (count : ℕ) (P : Type 0) (fewest : Bool) →
      IfOk result (λ o. IfSome o (λ (r : Race). r.fewest ≡ fewest)) →
      IfOk result (λ o. IfSome o (λ r. P → IsRaceBy (λ n. n ≡ count) volatile told file program r)) → P →
      (fewest ≡ true → A count) →
      IfOk result (λ o. IfSome o (IsRaceBy A volatile told file program))
  known_at (Ok (Some r)) count P fewest same race p least = race_known count r (race p) (λ k. least (sym same ∙ k))
  known_at (Ok None) count P fewest same race p least = tt
  known_at (Err e) count P fewest same race p least = tt

-- why there may be no race is known
pub late_at : {X E : Type 0} (L P : Type 0) (result : Result (Option X) E) → IfOk result (λ o. IfNone o (P → L)) → P →
    IfOk result (λ o. IfNone o L)
late_at L P (Ok (Some r)) late p = tt
late_at L P (Ok None) late p = late p
late_at L P (Err e) late p = tt

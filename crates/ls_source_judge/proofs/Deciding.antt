-- What it means that no pair is left of the first.
use Rattle.std.proofs.Common.{◌≡◌, ℕ, Bool, true, false, not, ◌||◌, List, [], ◌∷◌, refl, sym, ◌∙◌}
use Rattle.std.specs.List.{fold}
use Rattle.std.specs.declared.vec.Vec.{Vec}
use Rattle.std.specs.declared.alloc.Global.{Global}
use Rattle.ls_events.specs.declared.event.Event.{Event}
use Rattle.ls_checked.specs.CheckedTree.{File}
use Rattle.ls_checked.specs.CheckedProgram.{Program}
use Rattle.ls_linearizable.specs.Judging.{later, now}
use Rattle.ls_linearizable.specs.Linearizable.{IsLinearizable}
use Rattle.ls_linearizable.specs.Once.{AreOnce}
use Rattle.ls_automaton.specs.declared.outcome.Outcome.{Outcome}
use Rattle.ls_automaton.specs.Automaton.{IsExplainedFrom}
use Rattle.ls_automaton.specs.Held.{first_held, goes_along, leaves_none}
use Rattle.ls_automaton.specs.Laws.{RunsAreOnce}
use Rattle.ls_automaton.specs.Merged.{AreMerged}
use Rattle.ls_automaton.specs.Programs.{IsExplainedWithin}
use Rattle.ls_automaton.specs.Tables.{AreOutcomes, Goes}
use Rattle.ls_automaton.proofs.Ending.{noted_leaves}
use Rattle.ls_automaton.proofs.Entries.{not_both}
use Rattle.ls_automaton.proofs.Alike.{alike_explain, alike_runs}
use Rattle.ls_automaton.proofs.Exact.{held_exactly}
use Rattle.ls_automaton.proofs.Joined.{IsJoined, IsJoinedBack, joined_back, joined_like}
use Rattle.ls_automaton.proofs.Judged.{goes_if_held}
use Rattle.ls_automaton.proofs.Numbers.{explained_within, is_explained, is_linearizable, numbers_once}

module _ (file : File) (program : Program) (bound : ℕ) (goes_on : Bool) (rows : List (Vec Outcome Global))
    (are : AreOutcomes file program bound goes_on rows) (merged : List (Vec Outcome Global))
    (joined : AreMerged rows merged) (h : List Event) (each : AreOnce h) where
  abbrev pub leaves : Bool
  leaves = now (fold later (leaves_none merged (first_held ∷ [])) h)

  merged_once : RunsAreOnce (Goes merged) 0
  merged_once g last run =
      let r = alike_runs (Goes merged) 0 (Goes rows) 0
      (IsJoinedBack rows merged joined) (joined_back rows merged joined) g
      last run in
      numbers_once file program bound goes_on rows are g r.0 r.1

  one_left : (b : Bool) → not (b || false) ≡ false → b ≡ true
  one_left true is = refl
  one_left false is = absurd cc

  none_left : (b : Bool) → not (b || false) ≡ true → b ≡ false
  none_left true is = absurd cc
  none_left false is = refl

  explained : leaves ≡ false → IsExplainedFrom (Goes rows) 0 h
  explained good =
      let along = one_left (goes_along merged h first_held) (sym (noted_leaves merged (first_held ∷ []) h) ∙ good) in
      alike_explain (Goes merged) 0 (Goes rows) 0 (IsJoinedBack rows merged joined) (joined_back rows merged joined) h
      ((held_exactly (Goes merged) 0 merged_once h each).0
      ((goes_if_held merged merged_once h each).0 along))

  unexplained : leaves ≡ true → IsExplainedFrom (Goes rows) 0 h → ⊥
  unexplained bad is =
      let none = none_left (goes_along merged h first_held) (sym (noted_leaves merged (first_held ∷ []) h) ∙ bad) in
      let held = (held_exactly (Goes merged) 0 merged_once h each).1
      (alike_explain (Goes rows) 0 (Goes merged) 0 (IsJoined rows merged joined) (joined_like rows merged joined) h
      is) in
      not_both ((goes_if_held merged merged_once h each).1 held) none

  -- where one is left, the history is linearizable
  pub good_is : leaves ≡ false → IsLinearizable file program h
  good_is good = is_linearizable file program bound goes_on rows are h (explained good)

  -- where none is left, it isn't, if all outcomes are known
  pub bad_is_not : goes_on ≡ false → leaves ≡ true → IsLinearizable file program h → ⊥
  bad_is_not known bad is = unexplained bad (is_explained file program bound goes_on rows are known h is)

  -- and else no serial run within the bound explains it
  pub bad_not_within : leaves ≡ true → IsExplainedWithin file program bound h → ⊥
  bad_not_within bad is = unexplained bad (explained_within file program bound goes_on rows are h is)

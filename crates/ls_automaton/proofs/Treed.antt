-- The states of a table as a tree: no two of them have one history.
use Rattle.std.proofs.Common.{◌≡◌, inl, inr, ℕ, ◌+◌, ◌<◌, List, [], ◌∷◌, ◌++◌, Some, length, replicate}
use Rattle.std.proofs.Common.{slice_get, sym, ap, ◌∙◌, subst, arith}
use Rattle.ls_checked.specs.CheckedTree.{File}
use Rattle.ls_checked.specs.CheckedProgram.{Program}
use Rattle.ls_meaning.specs.Runs.{source_history}
use Rattle.ls_search_laws.specs.Stepping.{ActAll}
use Rattle.ls_serial.specs.Serial.{IsSerial}
use Rattle.ls_serial_search.specs.Open.{HasEnded, HasManyOrders}
use Rattle.ls_serial_search.specs.Tree.{IsTree}
use Rattle.ls_serial_search.proofs.Apart.{tree_first, tree_more, tree_same}
use Rattle.ls_automaton.specs.declared.spots.Spot.{Spot}
use Rattle.ls_automaton.specs.Spots.{AreSpots, IsFirst, MayBePushed, schedules_of}
use Rattle.ls_automaton.proofs.Filled.{map_length, of_schedules}
use Rattle.ls_automaton.proofs.Reaching.{map_more}

-- at most one state more
pub pushed_on : (spots new : List Spot) (s : Spot) (steps : List ℕ) → s.steps.items ≡ steps →
    new ≡ spots ++ s ∷ [] → MayBePushed spots new steps
pushed_on spots new s steps is more =
    inr (ap schedules_of more ∙ map_more (λ (z : Spot). z.steps.items) spots (s ∷ [])
    ∙ ap (λ l. schedules_of spots ++ l ∷ []) is)

module _ (file : File) (program : Program) where
  pub first_tree : (spots : List Spot) (s : Spot) → spots ≡ s ∷ [] → IsFirst file program s →
      IsTree file program (schedules_of spots) 0 0
  first_tree spots s is own =
      tree_first file program (schedules_of spots) (ap schedules_of is ∙ ap (λ l. l ∷ []) own.steps)

  -- a thread with a call that ends
  pub ended_tree : (old new : List Spot) (n t count : ℕ) (steps longer : List ℕ) →
      IsTree file program (schedules_of old) n t → slice_get (schedules_of old) n ≡ Some steps →
      HasEnded file program steps t count → longer ≡ steps ++ replicate count t → MayBePushed old new longer →
      IsTree file program (schedules_of new) n (t + 1)
  ended_tree old new n t count steps longer tree at ended is (inl same) =
      subst (λ l. IsTree file program l n (t + 1)) (sym same) (tree_same file program (schedules_of old) n t tree)
  ended_tree old new n t count steps longer tree at ended is (inr more) =
      tree_more file program (schedules_of old) (schedules_of new) n t count steps longer tree at ended is more

  -- so many states are as many serial histories
  pub many_orders : (spots : List Spot) (n t bound : ℕ) → AreSpots file program spots →
      IsTree file program (schedules_of spots) n t → bound < length spots → HasManyOrders file program bound
  many_orders spots n t bound are tree many = (
    schedules_of spots,
    record {
      serial = λ x there. let s = of_schedules spots x there in
          subst (λ y. IsSerial (source_history file program y)) s.2 (are s.0 s.1).serial;
      acts = λ x there. let s = of_schedules spots x there in subst (ActAll file program) s.2 (are s.0 s.1).acts;
      apart = tree.apart;
      many = omega (arith, many, map_length spots);
    },
  )

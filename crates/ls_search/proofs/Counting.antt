-- How many objects the states that were found have together.
use Rattle.std.proofs.Common.{◌≡◌, ℕ, zero, suc, ◌+◌, ◌<◌, ◌≤◌, List, [], ◌∷◌, length, map, Some, take, ap}
use Rattle.std.proofs.Common.{arith}
use Rattle.std.specs.Prelude.{slice_get}
use Rattle.ls_events.specs.declared.event.Event.{Event}
use Rattle.ls_checked.specs.CheckedTree.{File}
use Rattle.ls_checked.specs.CheckedProgram.{Program}
use Rattle.ls_graph.specs.Weights.{total}
use Rattle.ls_graph.proofs.Weighing.{total_less}
use Rattle.ls_transitions.specs.Tables.{Grows, Table}
use Rattle.ls_search.specs.declared.places.Node.{Node}
use Rattle.ls_search.specs.Listed.{AreAllThere, objects_of}
use Rattle.ls_search.specs.Objects.{weight_of}
use Rattle.ls_search.specs.Places.{configuration_of}
use Rattle.ls_search.specs.Searched.{IsSound}
use Rattle.ls_search.proofs.Strides.{there_still}

-- the numbers of all states stand for something in a later table
pub all_there : {S : Type 0} (first : S) (next : S → Event → S) (file : File) (program : Program) (threads : ℕ)
    (t t' : Table) (states : List S) (nodes : List Node) →
    IsSound first next file program threads t states nodes →
    Grows t t' →
    AreAllThere t' nodes
all_there first next file program threads t t' states nodes sound grows at n here =
    there_still t t' n.place.store n.place.works.items grows (sound.are at n here).numbers

-- the first of a list, and one more
pub total_take : {N : Type 0} (weighs : N → ℕ) (nodes : List N) (at : ℕ) (n : N) → slice_get nodes at ≡ Some n →
    total weighs (take (at + 1) nodes) ≡ total weighs (take at nodes) + weighs n
total_take weighs [] at n here = absurd cc
total_take weighs (m ∷ nodes) zero n here = let same : m ≡ n = cc in omega (arith, ap weighs same)
total_take weighs (m ∷ nodes) (suc at) n here =
    let rest = total_take weighs nodes at n here in
    let next : suc at + 1 ≡ suc (at + 1) = omega arith in
    let same : total weighs (take (suc at + 1) (m ∷ nodes)) ≡ weighs m + total weighs (take (at + 1) nodes) =
    ap (λ k. total weighs (take k (m ∷ nodes))) next in
    omega (arith, rest, same)

-- what nodes have together, their states have
pub objects_of_states : (t : Table) (most : ℕ) (nodes : List Node) → most < objects_of t nodes →
    most < total weight_of (map (λ (n : Node). configuration_of t n.place) nodes)
objects_of_states t most nodes more =
    let same = total_less (λ (n : Node). weight_of (configuration_of t n.place)) weight_of
    (λ (n : Node). configuration_of t n.place) nodes (λ i n here. omega arith) in
    omega (arith, more, same)
